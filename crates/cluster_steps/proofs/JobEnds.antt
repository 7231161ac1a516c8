-- What a step of a job makes of each end of its application server, and what it puts on it.
use Rattle.std.proofs.Common.{◌≢◌, ◌≡◌, ◌⊎◌, ◌+◌, ℕ, Bool, true, false, List, [], ◌∷◌, ◌++◌, length, map, Option, Some, None, option_map, refl, sym, ◌∙◌, ap, subst, inl, inr, eqb, arith, if◌then◌else◌, filter, IfSome}
use Rattle.std.specs.Prelude.{is_some, nat_lt, unwrap_or}
use Rattle.std.specs.List.{AllByRecursion}
use Rattle.std.proofs.lemmas.Bool.{ne_eqb, eqb-true, eq-eqb, false≢true, ltb-true, ltb-false}
use Rattle.std.proofs.lemmas.List.{append-nil, append_assoc, length-append, map-append, get_or-set_same, get_or_past}
use Rattle.std.proofs.lemmas.List.Elements.{filter-append}
use Rattle.subscript_keys.specs.declared.run.Run.{Run}
use Rattle.link_states.specs.declared.app_link.AppLink.{AppLink}
use Rattle.ecp_messages.specs.declared.up.Up.{Up}
use Rattle.ecp_messages.specs.declared.up.UpFrame.{UpFrame}
use Rattle.end_words.specs.Windows.{Window, sent, with_sent, with_ack_put, numbered_from}
use Rattle.app_rules.specs.declared.line.Line.{Line}
use Rattle.app_rules.specs.declared.line.Line.TheVariants.{Apart, Trying, Greeting, Asking, Joined}
use Rattle.app_rules.specs.declared.up_frames.UpOut.{UpOut}
use Rattle.app_rules.specs.AppState.{AppState, AppEnd, Session, no_end, no_session}
use Rattle.app_rules.specs.Works.{Sofar, writes, tries_if, tells_if, sets, becomes, puts, frame_to, end_at, session_at, with_end, with_session, with_window, with_line, is_normal, is_joined, is_apart}
use Rattle.app_rules.specs.Issuing.{is_free}
use Rattle.app_rules.specs.Locking.{with_ticket}
use Rattle.cluster_runs.specs.Connections.{ups_to, up_of, is_out_to}
use Rattle.cluster_steps.proofs.AppPlaces.{at_end}
use Rattle.cluster_steps.proofs.JobPieces.{Note, JobPiece, GoesOn, MayMake, HasSession, NoteMay, IsAmong, IsPutByJob, noted_by, made_by, all_made, AllMay}
use Rattle.cluster_steps.proofs.JobPieces.Note.{Queues, QueuesLate, QueuesOwed, Fetches, Asks, Syncs, Holds, Lowers, Uses, Leaves}
use Rattle.cluster_steps.proofs.JobPieces.JobPiece.{Writes, Tries, Notes, Tickets, Puts}
use Rattle.cluster_steps.proofs.UsedRuns.{all_among}

-- the session goes on, with these messages put
pub record SessionGrows (put : List Up) (s t : Session) : Type 0 where
  pub number : t.number ≡ s.number
  pub epoch : t.epoch ≡ s.epoch
  pub n : t.n ≡ s.n
  pub w : t.w ≡ s.w
  pub normal_due : t.normal_due ≡ s.normal_due
  pub acked : t.window.acked ≡ s.window.acked
  pub waiting : t.window.waiting ≡ s.window.waiting ++ put
  pub taken : t.window.taken ≡ s.window.taken
  -- the runs are those that were there
  pub cache : AllByRecursion (λ r. IsAmong r s.cache) t.cache

-- the same, of an end that may have none
abbrev pub SessionsGrow : List Up → Option Session → Option Session → Type 0
SessionsGrow put None None = put ≡ []
SessionsGrow put None (Some t) = ⊥
SessionsGrow put (Some s) None = ⊥
SessionsGrow put (Some s) (Some t) = SessionGrows put s t

-- a connection may be tried for a pair without a session
pub record BeginsTo (link : AppLink) (l m : Line) : Type 0 where
  pub free : is_free link ≡ true
  pub apart : l ≡ Apart
  pub trying : m ≡ Trying

abbrev pub LineGrows : AppLink → Line → Line → Type 0
LineGrows link l m = (m ≡ l) ⊎ BeginsTo link l m

-- an end after a step of a job
pub record EndGrows (put : List Up) (e f : AppEnd) : Type 0 where
  pub link : f.link ≡ e.link
  pub line : LineGrows e.link e.line f.line
  pub dial : f.dial ≡ e.dial
  pub told : f.told ≡ e.told
  pub lost : f.lost ≡ e.lost
  pub session : SessionsGrow put e.session f.session

-- the frame of a numbered message
abbrev pub up_frame : ℕ → ℕ × Up → UpFrame
up_frame taken m = record { seq = m.0; ack = taken; message = m.1 }

-- what goes out of messages that are put, where the connection's Welcome was taken
abbrev pub put_frames : Bool → Window Up → List Up → List UpFrame
put_frames true w put = map (up_frame w.taken) (numbered_from (sent w) put)
put_frames false w put = []

-- What a step made of an end, and of what goes to its data server.
pub record Grew (d : ℕ) (b c : Sofar) : Type 0 where
  pub put : List Up
  pub may : AllByRecursion IsPutByJob put
  pub end : EndGrows put (end_at b.state d) (end_at c.state d)
  pub frames : ups_to d c.outs.frames ≡ ups_to d b.outs.frames ++ put_frames (is_joined (end_at b.state d).line) (session_at b.state d).window put
  pub cuts : c.outs.cuts ≡ b.outs.cuts

-- several steps

pub numbered_joined : {M : Type 0} (n : ℕ) (xs ys : List M) → numbered_from n (xs ++ ys) ≡ numbered_from n xs ++ numbered_from (n + length xs) ys
numbered_joined n [] ys = ap (λ k. numbered_from k ys) (omega arith)
numbered_joined n (x ∷ xs) ys = ap (λ zs. (n + 1, x) ∷ zs) (numbered_joined (n + 1) xs ys ∙ ap (λ k. numbered_from (n + 1) xs ++ numbered_from k ys) (omega arith))

all_joined : {X : Type 0} (P : X → Type 0) (xs ys : List X) → AllByRecursion P xs → AllByRecursion P ys → AllByRecursion P (xs ++ ys)
all_joined P [] ys a b = b
all_joined P (x ∷ xs) ys a b = (a.0, all_joined P xs ys a.1 b)

among_then : (xs ys : List Run) → AllByRecursion (λ r. IsAmong r xs) ys → (r : Run) → IsAmong r ys → IsAmong r xs
among_then xs [] h r among = absurd among
among_then xs (y ∷ ys) h r (inl same) = subst (λ (x : Run). IsAmong x xs) (sym same) h.0
among_then xs (y ∷ ys) h r (inr rest) = among_then xs ys h.1 r rest

all_then : (xs ys zs : List Run) → AllByRecursion (λ r. IsAmong r xs) ys → AllByRecursion (λ r. IsAmong r ys) zs → AllByRecursion (λ r. IsAmong r xs) zs
all_then xs ys [] a b = tt
all_then xs ys (z ∷ zs) a b = (among_then xs ys a z b.0, all_then xs ys zs a b.1)

session_then : (p q : List Up) (s t u : Session) → SessionGrows p s t → SessionGrows q t u → SessionGrows (p ++ q) s u
session_then p q s t u x y = record {
  number = y.number ∙ x.number;
  epoch = y.epoch ∙ x.epoch;
  n = y.n ∙ x.n;
  w = y.w ∙ x.w;
  normal_due = y.normal_due ∙ x.normal_due;
  acked = y.acked ∙ x.acked;
  waiting = y.waiting ∙ ap (λ (ms : List Up). ms ++ q) x.waiting ∙ append_assoc s.window.waiting p q;
  taken = y.taken ∙ x.taken;
  cache = all_then s.cache t.cache u.cache x.cache y.cache;
}

sessions_then : (p q : List Up) (s t u : Option Session) → SessionsGrow p s t → SessionsGrow q t u → SessionsGrow (p ++ q) s u
sessions_then p q None None None x y = ap (λ ms. ms ++ q) x ∙ y
sessions_then p q None None (Some u) x y = absurd y
sessions_then p q None (Some t) u x y = absurd x
sessions_then p q (Some s) None u x y = absurd x
sessions_then p q (Some s) (Some t) None x y = absurd y
sessions_then p q (Some s) (Some t) (Some u) x y = session_then p q s t u x y

line_then : (link : AppLink) (l m n : Line) → LineGrows link l m → LineGrows link m n → LineGrows link l n
line_then link l m n (inl x) (inl y) = inl (y ∙ x)
line_then link l m n (inl x) (inr y) = inr (record { free = y.free; apart = sym x ∙ y.apart; trying = y.trying })
line_then link l m n (inr x) (inl y) = inr (record { free = x.free; apart = x.apart; trying = y ∙ x.trying })
line_then link l m n (inr x) (inr y) = absurd (apart_or_trying m x.trying y.apart)
  where
    apart_or_trying : (k : Line) → k ≡ Trying → k ≡ Apart → ⊥
    apart_or_trying k a b = absurd (cc (a, b))

end_then : (p q : List Up) (e f g : AppEnd) → EndGrows p e f → EndGrows q f g → EndGrows (p ++ q) e g
end_then p q e f g x y = record {
  link = y.link ∙ x.link;
  line = line_then e.link e.line f.line g.line x.line (subst (λ (l : AppLink). LineGrows l f.line g.line) x.link y.line);
  dial = y.dial ∙ x.dial;
  told = y.told ∙ x.told;
  lost = y.lost ∙ x.lost;
  session = sessions_then p q e.session f.session g.session x.session y.session;
}

-- whether the Welcome was taken stays
pub joined_stays : (link : AppLink) (l m : Line) → LineGrows link l m → is_joined m ≡ is_joined l
joined_stays link l m (inl same) = ap is_joined same
joined_stays link l m (inr begins) = ap is_joined begins.trying ∙ sym (ap is_joined begins.apart)

-- what is put on a window that goes on
frames_then : (t : Bool) (p q : List Up) (s u : Option Session) → SessionsGrow p s u
    → put_frames t (unwrap_or s no_session).window p ++ put_frames t (unwrap_or u no_session).window q ≡ put_frames t (unwrap_or s no_session).window (p ++ q)
frames_then false p q s u x = refl
frames_then true p q None None x = subst (λ (ms : List Up). put_frames true no_session.window ms ++ put_frames true no_session.window q ≡ put_frames true no_session.window (ms ++ q)) (sym x) refl
frames_then true p q None (Some u) x = absurd x
frames_then true p q (Some s) None x = absurd x
frames_then true p q (Some s) (Some u) x =
    subst (λ k. put_frames true s.window p ++ map (up_frame k) (numbered_from (sent u.window) q) ≡ put_frames true s.window (p ++ q)) (sym x.taken)
    (subst (λ k. put_frames true s.window p ++ map (up_frame s.window.taken) (numbered_from k q) ≡ put_frames true s.window (p ++ q)) (sym counts)
    (sym (ap (λ ms. map (up_frame s.window.taken) ms) (numbered_joined (sent s.window) p q) ∙ map-append (up_frame s.window.taken) (numbered_from (sent s.window) p) (numbered_from (sent s.window + length p) q))))
  where
    counts : sent u.window ≡ sent s.window + length p
    counts = omega (arith, x.acked, ap (λ (ms : List Up). length ms) x.waiting ∙ length-append s.window.waiting p)

pub grew_then : (d : ℕ) (b c e : Sofar) → Grew d b c → Grew d c e → Grew d b e
grew_then d b c e x y = record {
  put = x.put ++ y.put;
  may = all_joined IsPutByJob x.put y.put x.may y.may;
  end = end_then x.put y.put (end_at b.state d) (end_at c.state d) (end_at e.state d) x.end y.end;
  frames = y.frames ∙ ap (λ (t : Bool). ups_to d c.outs.frames ++ put_frames t (session_at c.state d).window y.put) (joined_stays (end_at b.state d).link (end_at b.state d).line (end_at c.state d).line x.end.line)
      ∙ ap (λ (fs : List UpFrame). fs ++ put_frames (is_joined (end_at b.state d).line) (session_at c.state d).window y.put) x.frames
      ∙ append_assoc (ups_to d b.outs.frames) (put_frames (is_joined (end_at b.state d).line) (session_at b.state d).window x.put) _
      ∙ ap (λ (fs : List UpFrame). ups_to d b.outs.frames ++ fs) (frames_then (is_joined (end_at b.state d).line) x.put y.put (end_at b.state d).session (end_at c.state d).session x.end.session);
  cuts = y.cuts ∙ x.cuts;
}

-- one piece

session_same : (s : Session) → SessionGrows [] s s
session_same s = record {
  number = refl;
  epoch = refl;
  n = refl;
  w = refl;
  normal_due = refl;
  acked = refl;
  waiting = sym (append-nil s.window.waiting);
  taken = refl;
  cache = all_among s.cache;
}

sessions_same : (o : Option Session) → SessionsGrow [] o o
sessions_same None = refl
sessions_same (Some s) = session_same s

end_same : (e : AppEnd) → EndGrows [] e e
end_same e = record { link = refl; line = inl refl; dial = refl; told = refl; lost = refl; session = sessions_same e.session }

nothing_put : (t : Bool) (w : Window Up) → put_frames t w [] ≡ []
nothing_put true w = refl
nothing_put false w = refl

-- nothing is put, and the end goes on
grew_quiet : (d : ℕ) (b c : Sofar) → EndGrows [] (end_at b.state d) (end_at c.state d) → c.outs.frames ≡ b.outs.frames → c.outs.cuts ≡ b.outs.cuts → Grew d b c
grew_quiet d b c end frames cuts = record {
  put = [];
  may = tt;
  end = end;
  frames = ap (ups_to d) frames ∙ sym (append-nil (ups_to d b.outs.frames)) ∙ ap (λ (fs : List UpFrame). ups_to d b.outs.frames ++ fs) (sym (nothing_put (is_joined (end_at b.state d).line) (session_at b.state d).window));
  cuts = cuts;
}

pub grew_same : (d : ℕ) (b : Sofar) → Grew d b b
grew_same d b = grew_quiet d b b (end_same (end_at b.state d)) refl refl

note_grows : (n : Note) (s : Session) → NoteMay n s → SessionGrows [] s (noted_by n s)
note_grows (Queues w m job) s may = record { number = refl; epoch = refl; n = refl; w = refl; normal_due = refl; acked = refl; waiting = sym (append-nil s.window.waiting); taken = refl; cache = all_among s.cache }
note_grows (QueuesLate w m job op) s may = record { number = refl; epoch = refl; n = refl; w = refl; normal_due = refl; acked = refl; waiting = sym (append-nil s.window.waiting); taken = refl; cache = all_among s.cache }
note_grows (QueuesOwed w m job) s may = record { number = refl; epoch = refl; n = refl; w = refl; normal_due = refl; acked = refl; waiting = sym (append-nil s.window.waiting); taken = refl; cache = all_among s.cache }
note_grows (Fetches job key) s may = record { number = refl; epoch = refl; n = refl; w = refl; normal_due = refl; acked = refl; waiting = sym (append-nil s.window.waiting); taken = refl; cache = all_among s.cache }
note_grows (Asks ticket job mode key) s may = record { number = refl; epoch = refl; n = refl; w = refl; normal_due = refl; acked = refl; waiting = sym (append-nil s.window.waiting); taken = refl; cache = all_among s.cache }
note_grows (Syncs ticket job) s may = record { number = refl; epoch = refl; n = refl; w = refl; normal_due = refl; acked = refl; waiting = sym (append-nil s.window.waiting); taken = refl; cache = all_among s.cache }
note_grows (Holds job mode key at) s may = record { number = refl; epoch = refl; n = refl; w = refl; normal_due = refl; acked = refl; waiting = sym (append-nil s.window.waiting); taken = refl; cache = all_among s.cache }
note_grows (Lowers job mode key) s may = record { number = refl; epoch = refl; n = refl; w = refl; normal_due = refl; acked = refl; waiting = sym (append-nil s.window.waiting); taken = refl; cache = all_among s.cache }
note_grows (Uses runs) s may = record { number = refl; epoch = refl; n = refl; w = refl; normal_due = refl; acked = refl; waiting = sym (append-nil s.window.waiting); taken = refl; cache = may }
note_grows (Leaves job) s may = record { number = refl; epoch = refl; n = refl; w = refl; normal_due = refl; acked = refl; waiting = sym (append-nil s.window.waiting); taken = refl; cache = all_among s.cache }

notes_grow : (n : Note) (o : Option Session) → IfSome o (NoteMay n) → SessionsGrow [] o (option_map (noted_by n) o)
notes_grow n None may = refl
notes_grow n (Some s) may = note_grows n s may

tries_grows : (t : Bool) (d k : ℕ) (b : Sofar) → is_apart (end_at b.state d).line ≡ t → is_free (end_at b.state d).link ≡ true → Grew k b (tries_if t d b)
tries_grows false d k b apart free = grew_same k b
tries_grows true d k b apart free =
    grew_quiet k b (tries_if true d b) (at_end (λ e. EndGrows [] (end_at b.state k) e) d k (with_line Trying (end_at b.state d)) b.state here (end_same (end_at b.state k))) refl refl
  where
    is_at : (l : Line) → is_apart l ≡ true → l ≡ Apart
    is_at Apart h = refl
    is_at Trying h = absurd (false≢true h)
    is_at Greeting h = absurd (false≢true h)
    is_at Asking h = absurd (false≢true h)
    is_at Joined h = absurd (false≢true h)

    begins : EndGrows [] (end_at b.state d) (with_line Trying (end_at b.state d))
    begins = record { link = refl; line = inr (record { free = free; apart = is_at (end_at b.state d).line apart; trying = refl }); dial = refl; told = refl; lost = refl; session = sessions_same (end_at b.state d).session }

    here : k ≡ d → EndGrows [] (end_at b.state k) (with_line Trying (end_at b.state d))
    here same = subst (λ n. EndGrows [] (end_at b.state n) (with_line Trying (end_at b.state d))) (sym same) begins

-- an end that has a session is one of those that are there
end_here : (d : ℕ) (e : AppEnd) (a : AppState) → is_some (end_at a d).session ≡ true → end_at (with_end d e a) d ≡ e
end_here d e a there = go (nat_lt d (length a.ends)) refl
  where
    go : (t : Bool) → nat_lt d (length a.ends) ≡ t → end_at (with_end d e a) d ≡ e
    go true low = get_or-set_same a.ends d e no_end (ltb-true d (length a.ends) low)
    go false past = absurd (false≢true (ap (λ (x : AppEnd). is_some x.session) (sym (get_or_past a.ends d no_end (ltb-false d (length a.ends) past))) ∙ there))

-- a frame more, to this data server or to another
pub ups_more : (d : ℕ) (fs : List UpOut) (f : UpOut) → ups_to d (fs ++ f ∷ []) ≡ ups_to d fs ++ ups_to d (f ∷ [])
ups_more d fs f = ap (map up_of) (filter-append (is_out_to d) fs (f ∷ [])) ∙ map-append up_of (filter (is_out_to d) fs) (filter (is_out_to d) (f ∷ []))

pub up_here : (d : ℕ) (fs : List UpOut) (f : UpOut) → f.server ≡ d → ups_to d (fs ++ f ∷ []) ≡ ups_to d fs ++ f.up ∷ []
up_here d fs f same = ups_more d fs f ∙ ap (λ (t : Bool). ups_to d fs ++ map up_of (if t then f ∷ [] else [])) (eq-eqb f.server d same)

pub up_elsewhere : (d : ℕ) (fs : List UpOut) (f : UpOut) → f.server ≢ d → ups_to d (fs ++ f ∷ []) ≡ ups_to d fs
up_elsewhere d fs f other =
    ups_more d fs f ∙ ap (λ (t : Bool). ups_to d fs ++ map up_of (if t then f ∷ [] else [])) (ne_eqb f.server d other) ∙ append-nil (ups_to d fs)

-- a message is put on another end
puts_elsewhere : (t : Bool) (d k seq : ℕ) (m : Up) (b : Sofar) → k ≢ d → Grew k b (tells_if t d seq m (sets d (with_window (λ w. with_sent w m)) b))
puts_elsewhere t d k seq m b other = by t
  where
    c : Sofar
    c = sets d (with_window (λ w. with_sent w m)) b

    kept : EndGrows [] (end_at b.state k) (end_at c.state k)
    kept = at_end (λ e. EndGrows [] (end_at b.state k) e) d k (with_session (with_window (λ w. with_sent w m)) (end_at b.state d)) b.state (λ same. absurd (other same)) (end_same (end_at b.state k))

    by : (t : Bool) → Grew k b (tells_if t d seq m c)
    by false = grew_quiet k b c kept refl refl
    by true = record {
      put = [];
      may = tt;
      end = at_end (λ e. EndGrows [] (end_at b.state k) e) d k (with_session (with_window with_ack_put) (end_at c.state d)) c.state (λ same. absurd (other same)) kept;
      frames = up_elsewhere k b.outs.frames (frame_to d seq (session_at c.state d).window.taken m) (λ same. other (sym same)) ∙ sym (append-nil (ups_to k b.outs.frames))
          ∙ ap (λ (fs : List UpFrame). ups_to k b.outs.frames ++ fs) (sym (nothing_put (is_joined (end_at b.state k).line) (session_at b.state k).window));
      cuts = refl;
    }

session_sent : (m : Up) (s : Session) → SessionGrows (m ∷ []) s (with_window (λ w. with_sent w m) s)
session_sent m s = record { number = refl; epoch = refl; n = refl; w = refl; normal_due = refl; acked = refl; waiting = refl; taken = refl; cache = all_among s.cache }

session_told : (m : Up) (s : Session) → SessionGrows (m ∷ []) s (with_window with_ack_put (with_window (λ w. with_sent w m) s))
session_told m s = record { number = refl; epoch = refl; n = refl; w = refl; normal_due = refl; acked = refl; waiting = refl; taken = refl; cache = all_among s.cache }

end_of : (put : List Up) (f : Session → Session) (e : AppEnd) → SessionsGrow put e.session (option_map f e.session) → EndGrows put e (with_session f e)
end_of put f e session = record { link = refl; line = inl refl; dial = refl; told = refl; lost = refl; session = session }

-- a message is put on the end of a session
puts_here : (t : Bool) (d : ℕ) (m : Up) (b : Sofar) (s : Session) → IsPutByJob m → is_joined (end_at b.state d).line ≡ t → (end_at b.state d).session ≡ Some s
    → Grew d b (tells_if t d (sent (session_at b.state d).window + 1) m (sets d (with_window (λ w. with_sent w m)) b))
puts_here t d m b s may joined there = by t joined
  where
    c : Sofar
    c = sets d (with_window (λ w. with_sent w m)) b

    sent_end : end_at c.state d ≡ with_session (with_window (λ w. with_sent w m)) (end_at b.state d)
    sent_end = end_here d (with_session (with_window (λ w. with_sent w m)) (end_at b.state d)) b.state (ap is_some there)

    sent_session : (end_at c.state d).session ≡ Some (with_window (λ w. with_sent w m) s)
    sent_session = ap (λ (e : AppEnd). e.session) sent_end ∙ ap (λ (o : Option Session). option_map (with_window (λ w. with_sent w m)) o) there

    sent_grows : EndGrows (m ∷ []) (end_at b.state d) (end_at c.state d)
    sent_grows =
        subst (λ (e : AppEnd). EndGrows (m ∷ []) (end_at b.state d) e) (sym sent_end)
        (end_of (m ∷ []) (with_window (λ w. with_sent w m)) (end_at b.state d)
        (subst (λ (o : Option Session). SessionsGrow (m ∷ []) o (option_map (with_window (λ w. with_sent w m)) o)) (sym there) (session_sent m s)))

    told_end : end_at (sets d (with_window with_ack_put) c).state d ≡ with_session (with_window with_ack_put) (end_at c.state d)
    told_end = end_here d (with_session (with_window with_ack_put) (end_at c.state d)) c.state (ap is_some sent_session)

    told_grows : EndGrows (m ∷ []) (end_at b.state d) (end_at (sets d (with_window with_ack_put) c).state d)
    told_grows =
        subst (λ (e : AppEnd). EndGrows (m ∷ []) (end_at b.state d) e) (sym (told_end ∙ ap (with_session (with_window with_ack_put)) sent_end))
        (record {
          link = refl;
          line = inl refl;
          dial = refl;
          told = refl;
          lost = refl;
          session = subst (λ (o : Option Session). SessionsGrow (m ∷ []) o (option_map (with_window with_ack_put) (option_map (with_window (λ w. with_sent w m)) o))) (sym there) (session_told m s);
        })

    same_taken : (session_at c.state d).window.taken ≡ (session_at b.state d).window.taken
    same_taken = ap (λ (o : Option Session). (unwrap_or o no_session).window.taken) sent_session ∙ sym (ap (λ (o : Option Session). (unwrap_or o no_session).window.taken) there)

    by : (t : Bool) → is_joined (end_at b.state d).line ≡ t → Grew d b (tells_if t d (sent (session_at b.state d).window + 1) m c)
    by false joined = record {
      put = m ∷ [];
      may = (may, tt);
      end = sent_grows;
      frames = sym (append-nil (ups_to d b.outs.frames)) ∙ ap (λ (x : Bool). ups_to d b.outs.frames ++ put_frames x (session_at b.state d).window (m ∷ [])) (sym joined);
      cuts = refl;
    }
    by true joined = record {
      put = m ∷ [];
      may = (may, tt);
      end = told_grows;
      frames = up_here d b.outs.frames (frame_to d (sent (session_at b.state d).window + 1) (session_at c.state d).window.taken m) refl
          ∙ ap (λ n. ups_to d b.outs.frames ++ record { seq = sent (session_at b.state d).window + 1; ack = n; message = m } ∷ []) same_taken
          ∙ ap (λ (x : Bool). ups_to d b.outs.frames ++ put_frames x (session_at b.state d).window (m ∷ [])) (sym joined);
      cuts = refl;
    }

-- A pair that is Normal has a session.
abbrev pub NormalHas : AppEnd → Type 0
NormalHas e = is_normal e.link ≡ true → is_some e.session ≡ true

has_one : (e : AppEnd) → NormalHas e → HasSession e → is_some e.session ≡ true
has_one e has (inl normal) = has normal
has_one e has (inr there) = there

put_grows : (d k : ℕ) (m : Up) (b : Sofar) → NormalHas (end_at b.state d) → IsPutByJob m → HasSession (end_at b.state d) → Grew k b (puts d m b)
put_grows d k m b normal may has = go (eqb k d) refl
  where
    session : (o : Option Session) → (end_at b.state d).session ≡ o → is_some o ≡ true → Grew d b (puts d m b)
    session None same there = absurd (false≢true there)
    session (Some s) same there = puts_here (is_joined (end_at b.state d).line) d m b s may refl same

    go : (t : Bool) → eqb k d ≡ t → Grew k b (puts d m b)
    go true same = subst (λ n. Grew n b (puts d m b)) (sym (eqb-true k d same)) (session (end_at b.state d).session refl (has_one (end_at b.state d) normal has))
    go false other = puts_elsewhere (is_joined (end_at b.state d).line) d k (sent (session_at b.state d).window + 1) m b (λ same. false≢true (sym other ∙ eq-eqb k d same))

-- each end is changed by a piece as by a step
piece_grows : (p : JobPiece) (b : Sofar) → MayMake p b → ((d : ℕ) → NormalHas (end_at b.state d)) → (k : ℕ) → Grew k b (made_by p b)
piece_grows (Writes a) b may normal k = grew_quiet k b (writes a b) (end_same (end_at b.state k)) refl refl
piece_grows (Tries d) b may normal k = tries_grows (is_apart (end_at b.state d).line) d k b refl may
piece_grows (Notes d n) b may normal k =
    grew_quiet k b (sets d (noted_by n) b)
    (at_end (λ e. EndGrows [] (end_at b.state k) e) d k (with_session (noted_by n) (end_at b.state d)) b.state
    (λ same. subst (λ i. EndGrows [] (end_at b.state i) (with_session (noted_by n) (end_at b.state d))) (sym same) (end_of [] (noted_by n) (end_at b.state d) (notes_grow n (end_at b.state d).session may.0)))
    (end_same (end_at b.state k)))
    refl refl
piece_grows (Tickets d) b may normal k =
    grew_quiet k b (becomes d with_ticket b)
    (at_end (λ e. EndGrows [] (end_at b.state k) e) d k (with_ticket (end_at b.state d)) b.state
    (λ same. subst (λ i. EndGrows [] (end_at b.state i) (with_ticket (end_at b.state d))) (sym same) (record { link = refl; line = inl refl; dial = refl; told = refl; lost = refl; session = sessions_same (end_at b.state d).session }))
    (end_same (end_at b.state k)))
    refl refl
piece_grows (Puts d m) b may normal k = put_grows d k m b (normal d) may.0 may.1

-- a pair that is Normal has its session still
normal_kept : (put : List Up) (e f : AppEnd) → EndGrows put e f → NormalHas e → NormalHas f
normal_kept put e f g has normal = go e.session f.session g.session (has (ap is_normal (sym g.link) ∙ normal))
  where
    go : (o q : Option Session) → SessionsGrow put o q → is_some o ≡ true → is_some q ≡ true
    go None q x there = absurd (false≢true there)
    go (Some s) None x there = absurd x
    go (Some s) (Some t) x there = refl

all_grow : (ps : List JobPiece) (b : Sofar) → AllMay ps b → ((d : ℕ) → NormalHas (end_at b.state d)) → (k : ℕ) → Grew k b (all_made ps b)
all_grow [] b may normal k = grew_same k b
all_grow (p ∷ ps) b may normal k = go (λ d. piece_grows p b may.0 normal d) (all_grow ps (made_by p b) may.1)
  where
    go : ((d : ℕ) → Grew d b (made_by p b)) → (((d : ℕ) → NormalHas (end_at (made_by p b).state d)) → (k : ℕ) → Grew k (made_by p b) (all_made (p ∷ ps) b)) → Grew k b (all_made (p ∷ ps) b)
    go first rest =
        grew_then k b (made_by p b) (all_made (p ∷ ps) b) (first k)
        (rest (λ d. normal_kept (first d).put (end_at b.state d) (end_at (made_by p b).state d) (first d).end (normal d)) k)

-- Each end after a step that goes on by pieces.
pub grows_by : (b c : Sofar) → GoesOn b c → ((d : ℕ) → NormalHas (end_at b.state d)) → (k : ℕ) → Grew k b c
grows_by b c g normal k = subst (λ (x : Sofar). Grew k b x) (sym g.after) (all_grow g.pieces b g.may normal k)
