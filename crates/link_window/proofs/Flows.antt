-- What holds of two ends at every moment: what is on its way is the front of what the taker lacks.
use Rattle.std.proofs.Common.{◌≡◌, ℕ, ◌+◌, ◌-◌, ◌≤◌, max, List, [], ◌∷◌, ◌++◌, length, drop, Bool, true, false, Option, Some, None, Result, Ok, refl, sym, ◌∙◌, ap, subst, arith, append_assoc, length-append, length-drop}
use Rattle.std.proofs.lemmas.List.{append-nil, drop-append-le, drop-drop}
use Rattle.std.proofs.lemmas.Bool.{false≢true}
use Rattle.std.proofs.lemmas.Bool.Decides.{nat_tests}
use Rattle.std.proofs.Math.Seq.{drop-append_seam}
use Rattle.link_window.specs.declared.window.Taken.{Taken}
use Rattle.link_window.specs.declared.window.Taken.TheVariants.{Fresh, Repeat}
use Rattle.link_window.specs.declared.window.WindowError.{WindowError}
use Rattle.link_window.specs.WindowState.{WindowState}
use Rattle.link_window.specs.Numbering.{sent_count, answer_to, after_send}
use Rattle.link_window.specs.Link.{Frame, Numbered, Bare, End, Link, Happening, Sends, Acknowledges, Takes, Leaves, Joins, IsTold, Resends, At, Mine, Other, start, carried, with_coming, numbered, on_send, on_bare, took, on_take, on_leave, on_join, on_told, on_resend, at_mine, turned, happens, run, IsInOrder, KeepsOrder}
use Rattle.link_window.proofs.Frames.{bodies, InRow, AcksUpTo, bodies-append, InRow-append, AcksUpTo-append, AcksUpTo-more, bodies-numbered, InRow-numbered, AcksUpTo-numbered}

-- one direction, from x to y, where j says that both have the same connection
pub record Flow (x y : End) (j : Bool) : Type 0 where
  pub rest : List (List ℕ)
  pub put_is : x.put ≡ y.got ++ (bodies y.coming ++ rest)
  pub row : InRow y.window.taken y.coming
  pub taken_is : y.window.taken ≡ length y.got
  pub waiting_is : x.window.waiting ≡ drop x.window.acked x.put
  pub acked_le : x.window.acked ≤ y.window.taken
  pub acks : AcksUpTo y.window.taken x.coming
  pub whole : x.ready ≡ true → j ≡ true → rest ≡ []
  pub told_is : (n : ℕ) → x.told ≡ Some n → (n ≡ y.window.taken) × (y.coming ≡ []) × (x.ready ≡ false)
  pub unput : x.ready ≡ false → j ≡ true → y.coming ≡ []
  pub gone : y.away ≡ true → y.coming ≡ []
  pub here : j ≡ true → y.away ≡ false
  pub unready : x.away ≡ true → x.ready ≡ false
  pub unrefused : y.refused ≡ false

-- both directions
pub record Both (m o : End) (j : Bool) : Type 0 where
  pub there : Flow m o j
  pub back : Flow o m j

abbrev pub Kept : Link → Type 0
Kept l = Both l.mine l.other l.joined

-- as many were sent as were taken, are on their way and lack
sent_is : (x y : End) (j : Bool) (k : Flow x y j) → sent_count x.window ≡ y.window.taken + (length (bodies y.coming) + length k.rest)
sent_is x y j k =
    let put_len : length x.put ≡ length y.got + (length (bodies y.coming) + length k.rest) = ap length k.put_is ∙ length-append y.got (bodies y.coming ++ k.rest) ∙ ap (λ n. length y.got + n) (length-append (bodies y.coming) k.rest) in
    let wait_len : length x.window.waiting ≡ length x.put - x.window.acked = ap length k.waiting_is ∙ length-drop x.window.acked x.put in
    let le = k.acked_le in
    let is = k.taken_is in
    omega arith

acked_le_put : (x y : End) (j : Bool) (k : Flow x y j) → x.window.acked ≤ length x.put
acked_le_put x y j k =
    let put_len : length x.put ≡ length y.got + (length (bodies y.coming) + length k.rest) = ap length k.put_is ∙ length-append y.got (bodies y.coming ++ k.rest) ∙ ap (λ n. length y.got + n) (length-append (bodies y.coming) k.rest) in
    let le = k.acked_le in
    let is = k.taken_is in
    omega arith

-- an end that a body was sent at
abbrev sender : End → List ℕ → End
sender m body = record m { window = after_send m.window body; put = m.put ++ body ∷ [] }

-- nothing on the way is nothing more
nothing_more : (e : End) → e ≡ with_coming e []
nothing_more e = ap (λ (fs : List Frame). record e { coming = fs }) (sym (append-nil e.coming))

-- a body that is sent on no connection waits in the window alone
send_lost : (m o : End) (j : Bool) (body : List ℕ) → (m.ready ≡ true → j ≡ true → ⊥) → Flow m o j → Flow (sender m body) o j
send_lost m o j body off k = record {
  rest = k.rest ++ body ∷ [];
  put_is = ap (λ (bs : List (List ℕ)). bs ++ body ∷ []) k.put_is ∙ simp append_assoc;
  row = k.row;
  taken_is = k.taken_is;
  waiting_is = ap (λ (bs : List (List ℕ)). bs ++ body ∷ []) k.waiting_is ∙ sym (drop-append-le m.window.acked m.put (body ∷ []) (acked_le_put m o j k));
  acked_le = k.acked_le;
  acks = k.acks;
  whole = λ r t. absurd (off r t);
  told_is = k.told_is;
  unput = k.unput;
  gone = k.gone;
  here = k.here;
  unready = k.unready;
  unrefused = k.unrefused;
}

-- on a connection that both have it is on its way
send_put : (m o : End) (body : List ℕ) → m.ready ≡ true → Flow m o true → Flow (sender m body) (with_coming o (numbered (sent_count m.window) m.window.taken (body ∷ []))) true
send_put m o body r k =
    let none : k.rest ≡ [] = k.whole r refl in
    let sent : sent_count m.window ≡ o.window.taken + (length (bodies o.coming) + length k.rest) = sent_is m o true k in
    let none_len : length k.rest ≡ 0 = ap length none in
    let whole_put : m.put ≡ o.got ++ (bodies o.coming ++ []) = k.put_is ∙ ap (λ (bs : List (List ℕ)). o.got ++ (bodies o.coming ++ bs)) none in
    record {
      rest = [];
      put_is = ap (λ (bs : List (List ℕ)). bs ++ body ∷ []) whole_put ∙ simp (append_assoc, append-nil, bodies-append);
      row = InRow-append o.window.taken o.coming _ (sent_count m.window) (omega arith) k.row (InRow-numbered (sent_count m.window) m.window.taken (body ∷ []));
      taken_is = k.taken_is;
      waiting_is = ap (λ (bs : List (List ℕ)). bs ++ body ∷ []) k.waiting_is ∙ sym (drop-append-le m.window.acked m.put (body ∷ []) (acked_le_put m o true k));
      acked_le = k.acked_le;
      acks = k.acks;
      whole = λ _ _. refl;
      told_is = λ n t. absurd (false≢true (sym (k.told_is n t).2 ∙ r));
      unput = λ u _. absurd (false≢true (sym u ∙ r));
      gone = λ g. absurd (false≢true (sym (k.here refl) ∙ g));
      here = k.here;
      unready = k.unready;
      unrefused = k.unrefused;
    }

-- what is put acknowledges what was taken
back_put : (m o : End) (j : Bool) (fs : List Frame) → AcksUpTo m.window.taken fs → Flow o m j → Flow (with_coming o fs) m j
back_put m o j fs acks k = record {
  rest = k.rest;
  put_is = k.put_is;
  row = k.row;
  taken_is = k.taken_is;
  waiting_is = k.waiting_is;
  acked_le = k.acked_le;
  acks = AcksUpTo-append m.window.taken o.coming fs k.acks acks;
  whole = k.whole;
  told_is = k.told_is;
  unput = k.unput;
  gone = k.gone;
  here = k.here;
  unready = k.unready;
  unrefused = k.unrefused;
}

back_sender : (m o : End) (j : Bool) (body : List ℕ) → Flow o m j → Flow o (sender m body) j
back_sender m o j body k = record {
  rest = k.rest;
  put_is = k.put_is;
  row = k.row;
  taken_is = k.taken_is;
  waiting_is = k.waiting_is;
  acked_le = k.acked_le;
  acks = k.acks;
  whole = k.whole;
  told_is = k.told_is;
  unput = k.unput;
  gone = k.gone;
  here = k.here;
  unready = k.unready;
  unrefused = k.unrefused;
}

AcksUpTo-carried : (n : ℕ) (r j : Bool) (fs : List Frame) → AcksUpTo n fs → AcksUpTo n (carried r j fs)
AcksUpTo-carried n true true fs acks = acks
AcksUpTo-carried n true false fs acks = tt
AcksUpTo-carried n false j fs acks = tt

send_there : (m o : End) (j : Bool) (body : List ℕ) (r : Bool) → m.ready ≡ r → Flow m o j → Flow (sender m body) (with_coming o (carried r j (numbered (sent_count m.window) m.window.taken (body ∷ [])))) j
send_there m o true body true r k = send_put m o body r k
send_there m o false body true r k = subst (λ (e : End). Flow (sender m body) e false) (nothing_more o) (send_lost m o false body (λ _ t. false≢true t) k)
send_there m o j body false r k = subst (λ (e : End). Flow (sender m body) e j) (nothing_more o) (send_lost m o j body (λ t _. false≢true (sym r ∙ t)) k)

send_kept : (l : Link) (body : List ℕ) → Kept l → Kept (on_send l body)
send_kept l body k = record {
  there = send_there l.mine l.other l.joined body l.mine.ready refl k.there;
  back = back_put (sender l.mine body) l.other l.joined _ (AcksUpTo-carried l.mine.window.taken l.mine.ready l.joined _ (AcksUpTo-numbered (sent_count l.mine.window) l.mine.window.taken (body ∷ []))) (back_sender l.mine l.other l.joined body k.back);
}

-- a bare message follows the others and takes no place among them
bare_put : (m o : End) (ack : ℕ) → m.ready ≡ true → Flow m o true → Flow m (with_coming o (Bare ack ∷ [])) true
bare_put m o ack r k = record {
  rest = k.rest;
  put_is = k.put_is ∙ simp (bodies-append, append-nil);
  row = InRow-append o.window.taken o.coming (Bare ack ∷ []) _ refl k.row tt;
  taken_is = k.taken_is;
  waiting_is = k.waiting_is;
  acked_le = k.acked_le;
  acks = k.acks;
  whole = k.whole;
  told_is = λ n t. absurd (false≢true (sym (k.told_is n t).2 ∙ r));
  unput = λ u _. absurd (false≢true (sym u ∙ r));
  gone = λ g. absurd (false≢true (sym (k.here refl) ∙ g));
  here = k.here;
  unready = k.unready;
  unrefused = k.unrefused;
}

bare_there : (m o : End) (j : Bool) (ack : ℕ) (r : Bool) → m.ready ≡ r → Flow m o j → Flow m (with_coming o (carried r j (Bare ack ∷ []))) j
bare_there m o true ack true r k = bare_put m o ack r k
bare_there m o false ack true r k = subst (λ (e : End). Flow m e false) (nothing_more o) k
bare_there m o j ack false r k = subst (λ (e : End). Flow m e j) (nothing_more o) k

bare_kept : (l : Link) → Kept l → Kept (on_bare l)
bare_kept l k = record {
  there = bare_there l.mine l.other l.joined l.mine.window.taken l.mine.ready refl k.there;
  back = back_put l.mine l.other l.joined _ (AcksUpTo-carried l.mine.window.taken l.mine.ready l.joined (Bare l.mine.window.taken ∷ []) (omega arith, tt)) k.back;
}

-- the next number with an acknowledgement of no more than was sent is fresh, and none is a repeat
fresh_answer : (w : WindowState) (seq ack : ℕ) → ack ≤ sent_count w → seq ≡ w.taken + 1 → answer_to w seq ack ≡ Ok Fresh
fresh_answer w seq ack le is = grind (arith, nat_tests)

repeat_answer : (w : WindowState) (ack : ℕ) → ack ≤ sent_count w → answer_to w 0 ack ≡ Ok Repeat
repeat_answer w ack le = grind (arith, nat_tests)

-- an end whose acknowledged bodies are given up
abbrev acknowledged : End → ℕ → List Frame → End
acknowledged m ack frames = record m {
  window = record m.window { acked = max m.window.acked ack; waiting = drop (ack - m.window.acked) m.window.waiting };
  coming = frames;
}

drop_max : (a n : ℕ) (bs : List (List ℕ)) → drop (n - a) (drop a bs) ≡ drop (max a n) bs
drop_max a n bs = drop-drop (n - a) a bs ∙ ap (λ (k : ℕ). drop k bs) (omega arith)

-- what the taker had on its way, seen from the direction in which it sends
there_taken : (m o : End) (j : Bool) (w : WindowState) (g : List (List ℕ)) (ack : ℕ) (fs : List Frame) → w.acked ≡ max m.window.acked ack → w.waiting ≡ drop (ack - m.window.acked) m.window.waiting → ack ≤ o.window.taken → AcksUpTo o.window.taken fs → Flow m o j → Flow (record m { window = w; got = g; coming = fs }) o j
there_taken m o j w g ack fs acked waiting le acks k =
    let acked_le = k.acked_le in
    record {
      rest = k.rest;
      put_is = k.put_is;
      row = k.row;
      taken_is = k.taken_is;
      waiting_is = waiting ∙ ap (λ (bs : List (List ℕ)). drop (ack - m.window.acked) bs) k.waiting_is ∙ drop_max m.window.acked ack m.put ∙ ap (λ (n : ℕ). drop n m.put) (sym acked);
      acked_le = omega arith;
      acks = acks;
      whole = k.whole;
      told_is = k.told_is;
      unput = k.unput;
      gone = k.gone;
      here = k.here;
      unready = k.unready;
      unrefused = k.unrefused;
    }

not_nothing : (f : Frame) (fs : List Frame) → f ∷ fs ≡ [] → ⊥
not_nothing f fs e = cc

-- the next numbered message is taken
fresh_back : (o m : End) (j : Bool) (w : WindowState) (seq ack : ℕ) (body : List ℕ) (fs : List Frame) → m.coming ≡ Numbered seq ack body ∷ fs → w.taken ≡ m.window.taken + 1 → Flow o m j → Flow o (record m { window = w; got = m.got ++ body ∷ []; coming = fs }) j
fresh_back o m j w seq ack body fs is taken k =
    let row : InRow m.window.taken (Numbered seq ack body ∷ fs) = subst (λ (gs : List Frame). InRow m.window.taken gs) is k.row in
    let acked_le = k.acked_le in
    let taken_is = k.taken_is in
    let got_len : length (m.got ++ body ∷ []) ≡ length m.got + 1 = length-append m.got (body ∷ []) in
    record {
      rest = k.rest;
      put_is = k.put_is ∙ ap (λ (gs : List Frame). m.got ++ (bodies gs ++ k.rest)) is ∙ sym (append_assoc m.got (body ∷ []) (bodies fs ++ k.rest));
      row = subst (λ (n : ℕ). InRow n fs) (sym taken) row.1;
      taken_is = omega arith;
      waiting_is = k.waiting_is;
      acked_le = omega arith;
      acks = AcksUpTo-more m.window.taken w.taken o.coming (omega arith) k.acks;
      whole = k.whole;
      told_is = λ n t. absurd (not_nothing _ fs (sym is ∙ (k.told_is n t).1));
      unput = λ u t. absurd (not_nothing _ fs (sym is ∙ k.unput u t));
      gone = λ g. absurd (not_nothing _ fs (sym is ∙ k.gone g));
      here = k.here;
      unready = k.unready;
      unrefused = k.unrefused;
    }

-- a bare message is taken
bare_back : (o m : End) (j : Bool) (w : WindowState) (ack : ℕ) (fs : List Frame) → m.coming ≡ Bare ack ∷ fs → w.taken ≡ m.window.taken → Flow o m j → Flow o (record m { window = w; coming = fs }) j
bare_back o m j w ack fs is taken k =
    let row : InRow m.window.taken (Bare ack ∷ fs) = subst (λ (gs : List Frame). InRow m.window.taken gs) is k.row in
    let acked_le = k.acked_le in
    let taken_is = k.taken_is in
    record {
      rest = k.rest;
      put_is = k.put_is ∙ ap (λ (gs : List Frame). m.got ++ (bodies gs ++ k.rest)) is;
      row = subst (λ (n : ℕ). InRow n fs) (sym taken) row;
      taken_is = taken ∙ taken_is;
      waiting_is = k.waiting_is;
      acked_le = omega arith;
      acks = subst (λ (n : ℕ). AcksUpTo n o.coming) (sym taken) k.acks;
      whole = k.whole;
      told_is = λ n t. absurd (not_nothing _ fs (sym is ∙ (k.told_is n t).1));
      unput = λ u t. absurd (not_nothing _ fs (sym is ∙ k.unput u t));
      gone = λ g. absurd (not_nothing _ fs (sym is ∙ k.gone g));
      here = k.here;
      unready = k.unready;
      unrefused = k.unrefused;
    }

take_kept : (m o : End) (j : Bool) (fs : List Frame) → m.coming ≡ fs → Both m o j → Both (on_take m fs) o j
take_kept m o j [] is k = k
take_kept m o j (Bare ack ∷ fs) is k =
    let acks : AcksUpTo o.window.taken (Bare ack ∷ fs) = subst (λ (gs : List Frame). AcksUpTo o.window.taken gs) is k.there.acks in
    let first : ack ≤ o.window.taken = acks.0 in
    let sent = sent_is m o j k.there in
    let answer : answer_to m.window 0 ack ≡ Ok Repeat = repeat_answer m.window ack (omega arith) in
    subst (λ (r : Result Taken WindowError). Both (took (record m { coming = fs }) 0 ack [] r) o j) (sym answer) (record {
      there = there_taken m o j _ m.got ack fs refl refl first acks.1 k.there;
      back = bare_back o m j _ ack fs is (omega arith) k.back;
    })
take_kept m o j (Numbered seq ack body ∷ fs) is k =
    let acks : AcksUpTo o.window.taken (Numbered seq ack body ∷ fs) = subst (λ (gs : List Frame). AcksUpTo o.window.taken gs) is k.there.acks in
    let row : InRow m.window.taken (Numbered seq ack body ∷ fs) = subst (λ (gs : List Frame). InRow m.window.taken gs) is k.back.row in
    let first : ack ≤ o.window.taken = acks.0 in
    let next : seq ≡ m.window.taken + 1 = row.0 in
    let sent = sent_is m o j k.there in
    let answer : answer_to m.window seq ack ≡ Ok Fresh = fresh_answer m.window seq ack (omega arith) next in
    subst (λ (r : Result Taken WindowError). Both (took (record m { coming = fs }) seq ack (body ∷ []) r) o j) (sym answer) (record {
      there = there_taken m o j _ (m.got ++ body ∷ []) ack fs refl refl first acks.1 k.there;
      back = fresh_back o m j _ seq ack body fs is (omega arith) k.back;
    })

leave_kept : (l : Link) → Kept l → Kept (on_leave l)
leave_kept l k = record {
  there = record {
    rest = k.there.rest;
    put_is = k.there.put_is;
    row = k.there.row;
    taken_is = k.there.taken_is;
    waiting_is = k.there.waiting_is;
    acked_le = k.there.acked_le;
    acks = tt;
    whole = λ _ t. absurd (false≢true t);
    told_is = λ n t. absurd (cc (t));
    unput = λ _ t. absurd (false≢true t);
    gone = k.there.gone;
    here = λ t. absurd (false≢true t);
    unready = λ _. refl;
    unrefused = k.there.unrefused;
  };
  back = record {
    rest = bodies l.mine.coming ++ k.back.rest;
    put_is = k.back.put_is;
    row = tt;
    taken_is = k.back.taken_is;
    waiting_is = k.back.waiting_is;
    acked_le = k.back.acked_le;
    acks = k.back.acks;
    whole = λ _ t. absurd (false≢true t);
    told_is = λ n t. ((k.back.told_is n t).0, refl, (k.back.told_is n t).2);
    unput = λ _ t. absurd (false≢true t);
    gone = λ _. refl;
    here = λ t. absurd (false≢true t);
    unready = k.back.unready;
    unrefused = k.back.unrefused;
  };
}

-- one direction of a new connection, where neither end puts yet and nothing is on its way
joined_flow : (x y : End) (j : Bool) → x.away ≡ true → y.away ≡ true → Flow x y j → Flow (record x { away = false }) (record y { away = false }) true
joined_flow x y j x_away y_away k = record {
  rest = k.rest;
  put_is = k.put_is;
  row = k.row;
  taken_is = k.taken_is;
  waiting_is = k.waiting_is;
  acked_le = k.acked_le;
  acks = k.acks;
  whole = λ r _. absurd (false≢true (sym (k.unready x_away) ∙ r));
  told_is = k.told_is;
  unput = λ _ _. k.gone y_away;
  gone = λ g. absurd (false≢true g);
  here = λ _. refl;
  unready = λ g. absurd (false≢true g);
  unrefused = k.unrefused;
}

join_kept : (l : Link) (a b : Bool) → l.mine.away ≡ a → l.other.away ≡ b → Kept l → Kept (on_join l a b)
join_kept l true true a b k = record {
  there = joined_flow l.mine l.other l.joined a b k.there;
  back = joined_flow l.other l.mine l.joined b a k.back;
}
join_kept l true false a b k = k
join_kept l false b a o k = k

-- the other end tells how many it took
told_both : (l : Link) → l.mine.ready ≡ false → l.other.coming ≡ [] → Kept l → Kept (record l { mine = record l.mine { told = Some l.other.window.taken } })
told_both l unready nothing k = record {
  there = record {
    rest = k.there.rest;
    put_is = k.there.put_is;
    row = k.there.row;
    taken_is = k.there.taken_is;
    waiting_is = k.there.waiting_is;
    acked_le = k.there.acked_le;
    acks = k.there.acks;
    whole = k.there.whole;
    told_is = λ n t. (sym (some_same t), nothing, unready);
    unput = k.there.unput;
    gone = k.there.gone;
    here = k.there.here;
    unready = k.there.unready;
    unrefused = k.there.unrefused;
  };
  back = record {
    rest = k.back.rest;
    put_is = k.back.put_is;
    row = k.back.row;
    taken_is = k.back.taken_is;
    waiting_is = k.back.waiting_is;
    acked_le = k.back.acked_le;
    acks = k.back.acks;
    whole = k.back.whole;
    told_is = k.back.told_is;
    unput = k.back.unput;
    gone = k.back.gone;
    here = k.back.here;
    unready = k.back.unready;
    unrefused = k.back.unrefused;
  };
}
  where
    some_same : {n m : ℕ} → Some n ≡ Some m → n ≡ m
    some_same e = cc

told_kept : (l : Link) (r j a : Bool) → l.mine.ready ≡ r → l.joined ≡ j → l.other.away ≡ a → Kept l → Kept (on_told l r j a)
told_kept l false true a r j o k = told_both l r (k.there.unput r j) k
told_kept l false false true r j o k = told_both l r (k.there.gone o) k
told_kept l false false false r j o k = k
told_kept l true j a r is o k = k

-- an end that was told sends again what the other end lacks
again_flow : (m o : End) (n : ℕ) → m.told ≡ Some n → m.away ≡ false → Flow m o true → Flow (record m { told = None; ready = true }) (with_coming o (numbered (max n m.window.acked) m.window.taken (drop (n - m.window.acked) m.window.waiting))) true
again_flow m o n told at_home k =
    let same : n ≡ o.window.taken = (k.told_is n told).0 in
    let nothing : o.coming ≡ [] = (k.told_is n told).1 in
    let acked_le = k.acked_le in
    let taken_is = k.taken_is in
    let got : n ≡ length o.got = same ∙ taken_is in
    let put : m.put ≡ o.got ++ k.rest = k.put_is ∙ ap (λ (fs : List Frame). o.got ++ (bodies fs ++ k.rest)) nothing in
    let bodies_are : drop (n - m.window.acked) m.window.waiting ≡ k.rest =
    ap (λ (bs : List (List ℕ)). drop (n - m.window.acked) bs) k.waiting_is ∙ drop_max m.window.acked n m.put ∙ ap (λ (i : ℕ). drop i m.put) (omega arith) ∙ ap (λ (bs : List (List ℕ)). drop (length o.got) bs) put ∙ drop-append_seam o.got k.rest in
    let number : max n m.window.acked ≡ n = omega arith in
    let frames : List Frame = numbered (max n m.window.acked) m.window.taken (drop (n - m.window.acked) m.window.waiting) in
    let frames_are : frames ≡ numbered n m.window.taken k.rest = ap (λ (i : ℕ). numbered i m.window.taken (drop (n - m.window.acked) m.window.waiting)) number ∙ ap (λ (bs : List (List ℕ)). numbered n m.window.taken bs) bodies_are in
    let coming_is : o.coming ++ frames ≡ numbered n m.window.taken k.rest = ap (λ (fs : List Frame). fs ++ frames) nothing ∙ frames_are in
    record {
      rest = [];
      put_is = put ∙ ap (λ (bs : List (List ℕ)). o.got ++ bs) (sym (bodies-numbered n m.window.taken k.rest) ∙ sym (append-nil _) ∙ ap (λ (fs : List Frame). bodies fs ++ []) (sym coming_is));
      row = subst (λ (fs : List Frame). InRow o.window.taken fs) (sym coming_is) (subst (λ (i : ℕ). InRow i (numbered n m.window.taken k.rest)) same (InRow-numbered n m.window.taken k.rest));
      taken_is = k.taken_is;
      waiting_is = k.waiting_is;
      acked_le = k.acked_le;
      acks = k.acks;
      whole = λ _ _. refl;
      told_is = λ i t. absurd (cc (t));
      unput = λ u _. absurd (false≢true (sym u));
      gone = λ g. absurd (false≢true (sym (k.here refl) ∙ g));
      here = k.here;
      unready = λ a. absurd (false≢true (sym at_home ∙ a));
      unrefused = k.unrefused;
    }

-- on a connection that the other end has left they are lost
again_lost : (m o : End) → m.away ≡ false → Flow m o false → Flow (record m { told = None; ready = true }) o false
again_lost m o at_home k = record {
  rest = k.rest;
  put_is = k.put_is;
  row = k.row;
  taken_is = k.taken_is;
  waiting_is = k.waiting_is;
  acked_le = k.acked_le;
  acks = k.acks;
  whole = λ _ t. absurd (false≢true t);
  told_is = λ i t. absurd (cc (t));
  unput = λ _ t. absurd (false≢true t);
  gone = k.gone;
  here = k.here;
  unready = λ a. absurd (false≢true (sym at_home ∙ a));
  unrefused = k.unrefused;
}

again_there : (m o : End) (j : Bool) (n : ℕ) → m.told ≡ Some n → m.away ≡ false → Flow m o j → Flow (record m { told = None; ready = true }) (with_coming o (carried true j (numbered (max n m.window.acked) m.window.taken (drop (n - m.window.acked) m.window.waiting)))) j
again_there m o true n told at_home k = again_flow m o n told at_home k
again_there m o false n told at_home k = subst (λ (e : End). Flow (record m { told = None; ready = true }) e false) (nothing_more o) (again_lost m o at_home k)

again_back : (m o : End) (j : Bool) → Flow o m j → Flow o (record m { told = None; ready = true }) j
again_back m o j k = record {
  rest = k.rest;
  put_is = k.put_is;
  row = k.row;
  taken_is = k.taken_is;
  waiting_is = k.waiting_is;
  acked_le = k.acked_le;
  acks = k.acks;
  whole = k.whole;
  told_is = k.told_is;
  unput = k.unput;
  gone = k.gone;
  here = k.here;
  unready = k.unready;
  unrefused = k.unrefused;
}

resend_kept : (l : Link) (t : Option ℕ) (a : Bool) → l.mine.told ≡ t → l.mine.away ≡ a → Kept l → Kept (on_resend l t a)
resend_kept l None a told away k = k
resend_kept l (Some n) true told away k = k
resend_kept l (Some n) false told away k = record {
  there = again_there l.mine l.other l.joined n told away k.there;
  back = back_put (record l.mine { told = None; ready = true }) l.other l.joined _ (AcksUpTo-carried l.mine.window.taken true l.joined _ (AcksUpTo-numbered _ l.mine.window.taken _)) (again_back l.mine l.other l.joined k.back);
}

mine_kept : (l : Link) (what : Happening) → Kept l → Kept (at_mine l what)
mine_kept l (Sends body) k = send_kept l body k
mine_kept l Acknowledges k = bare_kept l k
mine_kept l Takes k = take_kept l.mine l.other l.joined l.mine.coming refl k
mine_kept l Leaves k = leave_kept l k
mine_kept l Joins k = join_kept l l.mine.away l.other.away refl refl k
mine_kept l IsTold k = told_kept l l.mine.ready l.joined l.other.away refl refl refl k
mine_kept l Resends k = resend_kept l l.mine.told l.mine.away refl refl k

turned_kept : (l : Link) → Kept l → Kept (turned l)
turned_kept l k = record { there = k.back; back = k.there }

happens_kept : (l : Link) (a : At) → Kept l → Kept (happens l a)
happens_kept l (Mine what) k = mine_kept l what k
happens_kept l (Other what) k = turned_kept (at_mine (turned l) what) (mine_kept (turned l) what (turned_kept l k))

run_kept : (all : List At) (l : Link) → Kept l → Kept (run all l)
run_kept [] l k = k
run_kept (a ∷ more) l k = run_kept more (happens l a) (happens_kept l a k)

start_flow : Flow start.mine start.other false
start_flow = record {
  rest = [];
  put_is = refl;
  row = tt;
  taken_is = refl;
  waiting_is = refl;
  acked_le = omega arith;
  acks = tt;
  whole = λ _ _. refl;
  told_is = λ n t. absurd (cc (t));
  unput = λ _ _. refl;
  gone = λ _. refl;
  here = λ t. absurd (false≢true t);
  unready = λ _. refl;
  unrefused = refl;
}

in_order_from : (x y : End) (j : Bool) → Flow x y j → IsInOrder x y
in_order_from x y j k = record { rest = bodies y.coming ++ k.rest; front = sym k.put_is; unrefused = k.unrefused }

-- over any happenings both directions keep their order
pub keeps_order : (all : List At) → KeepsOrder (run all start)
keeps_order all =
    let k : Kept (run all start) = run_kept all start (record { there = start_flow; back = start_flow }) in
    record { there = in_order_from _ _ _ k.there; back = in_order_from _ _ _ k.back }
