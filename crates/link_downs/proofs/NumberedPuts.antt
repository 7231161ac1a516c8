-- Frames of a session, in the order in which they are put: the numbered ones carry the next numbers.
use Rattle.std.proofs.Common.{◌≡◌, ◌≢◌, ◌≤◌, ◌<◌, ◌+◌, ℕ, Bool, true, false, if◌then◌else◌, List, [], ◌∷◌, ◌++◌, length, drop, refl, sym, ◌∙◌, ap, subst, arith}
use Rattle.std.specs.Prelude.{◌==◌, ◌&&◌, ◌||◌, nat_lt}
use Rattle.std.specs.List.{AllByRecursion, list_all, list_any}
use Rattle.std.proofs.lemmas.Bool.{false≢true, lt-ltb, ne_eqb}
use Rattle.std.proofs.lemmas.List.{length-append, length-drop}
use Rattle.ecp_messages.specs.declared.down.Down.{Down}
use Rattle.ecp_messages.specs.declared.down.Down.TheVariants.{Welcome, Reset, Block, Drop, Ack, Grant, Answer, Normal, Bare}
use Rattle.ecp_messages.specs.declared.down.DownFrame.{DownFrame}
use Rattle.end_words.specs.Windows.{Window, numbered_from, sent}
use Rattle.cluster_invariant.specs.Link.{fits_down, is_normal_frame, is_numbered_down, is_of_session}
use Rattle.cluster_invariant.specs.Words.{is_normal_down, numbered_downs}
use Rattle.cluster_steps.proofs.JobEnds.{numbered_joined}
use Rattle.cluster_invariant.proofs.AllLists.{all_joined, all_follow}

-- what was put: frames of the session, the numbered ones with these messages behind the first n, each with no more than so many counted
pub record PutNext (n taken : ℕ) (fs : List DownFrame) (ms : List Down) : Type 0 where
  pub kinds : list_all is_of_session fs ≡ true
  pub numbers : numbered_downs fs ≡ numbered_from n ms
  pub acks : AllByRecursion (λ f. f.ack ≤ taken) fs

pub put_none : (n taken : ℕ) → PutNext n taken [] []
put_none n taken = record { kinds = refl; numbers = refl; acks = tt }

pub list_all_joined : {X : Type 0} (p : X → Bool) (xs ys : List X) → list_all p xs ≡ true → list_all p ys ≡ true → list_all p (xs ++ ys) ≡ true
list_all_joined p [] ys a b = b
list_all_joined p (x ∷ xs) ys a b = go (p x) a (λ rest. list_all_joined p xs ys rest b)
  where
    go : (c : Bool) → (c && list_all p xs) ≡ true → (list_all p xs ≡ true → list_all p (xs ++ ys) ≡ true) → (c && list_all p (xs ++ ys)) ≡ true
    go true rest more = more rest
    go false rest more = absurd (false≢true rest)

pub list_any_joined : {X : Type 0} (p : X → Bool) (xs ys : List X) → list_any p xs ≡ false → list_any p ys ≡ false → list_any p (xs ++ ys) ≡ false
list_any_joined p [] ys a b = b
list_any_joined p (x ∷ xs) ys a b = go (p x) a (λ rest. list_any_joined p xs ys rest b)
  where
    go : (c : Bool) → (c || list_any p xs) ≡ false → (list_any p xs ≡ false → list_any p (xs ++ ys) ≡ false) → (c || list_any p (xs ++ ys)) ≡ false
    go true rest more = rest
    go false rest more = more rest

pub numbered_downs_joined : (xs ys : List DownFrame) → numbered_downs (xs ++ ys) ≡ numbered_downs xs ++ numbered_downs ys
numbered_downs_joined [] ys = refl
numbered_downs_joined (f ∷ fs) ys = go (f.seq == 0) (numbered_downs_joined fs ys)
  where
    go : (b : Bool) → numbered_downs (fs ++ ys) ≡ numbered_downs fs ++ numbered_downs ys
        → (if b then numbered_downs (fs ++ ys) else (f.seq, f.message) ∷ numbered_downs (fs ++ ys)) ≡ (if b then numbered_downs fs else (f.seq, f.message) ∷ numbered_downs fs) ++ numbered_downs ys
    go true more = more
    go false more = ap (λ (xs : List (ℕ × Down)). (f.seq, f.message) ∷ xs) more

-- what has a number may have any
fits_next : (m : Down) (n : ℕ) → is_numbered_down m ≡ true → fits_down m (n + 1) ≡ true
fits_next (Welcome session epoch kept front taken) n is = is
fits_next (Reset session at) n is = is
fits_next (Block front block) n is = lt-ltb 0 (n + 1) (omega arith)
fits_next (Drop front lo hi) n is = lt-ltb 0 (n + 1) (omega arith)
fits_next (Ack front) n is = lt-ltb 0 (n + 1) (omega arith)
fits_next (Grant front ticket at) n is = lt-ltb 0 (n + 1) (omega arith)
fits_next (Answer front about job number at sum) n is = lt-ltb 0 (n + 1) (omega arith)
fits_next (Normal front) n is = lt-ltb 0 (n + 1) (omega arith)
fits_next Bare n is = absurd (false≢true is)

-- a numbered message more
pub put_message : (n taken ack : ℕ) (fs : List DownFrame) (ms : List Down) (m : Down) → is_numbered_down m ≡ true → ack ≤ taken → PutNext n taken fs ms
    → PutNext n taken (fs ++ record { seq = n + length ms + 1; ack = ack; message = m } ∷ []) (ms ++ m ∷ [])
put_message n taken ack fs ms m is low p = record {
  kinds = list_all_joined is_of_session fs (f ∷ []) p.kinds (ap (λ (b : Bool). b && true) (fits_next m (n + length ms) is));
  numbers =
      numbered_downs_joined fs (f ∷ [])
      ∙ ap (λ (b : Bool). numbered_downs fs ++ (if b then [] else (f.seq, f.message) ∷ [])) (ne_eqb f.seq 0 some)
      ∙ ap (λ (xs : List (ℕ × Down)). xs ++ (f.seq, f.message) ∷ []) p.numbers
      ∙ sym (numbered_joined n ms (m ∷ []));
  acks = all_joined (λ (g : DownFrame). g.ack ≤ taken) fs (f ∷ []) p.acks (low, tt);
}
  where
    f : DownFrame
    f = record { seq = n + length ms + 1; ack = ack; message = m }

    some : f.seq ≢ 0
    some same = absurd (omega (arith, same))

-- an acknowledgement by itself
pub put_bare : (n taken ack : ℕ) (fs : List DownFrame) (ms : List Down) → ack ≤ taken → PutNext n taken fs ms → PutNext n taken (fs ++ record { seq = 0; ack = ack; message = Bare } ∷ []) ms
put_bare n taken ack fs ms low p = record {
  kinds = list_all_joined is_of_session fs (f ∷ []) p.kinds refl;
  numbers = numbered_downs_joined fs (f ∷ []) ∙ ap (λ (xs : List (ℕ × Down)). xs ++ []) p.numbers ∙ nothing (numbered_from n ms);
  acks = all_joined (λ (g : DownFrame). g.ack ≤ taken) fs (f ∷ []) p.acks (low, tt);
}
  where
    f : DownFrame
    f = record { seq = 0; ack = ack; message = Bare }

    nothing : (xs : List (ℕ × Down)) → xs ++ [] ≡ xs
    nothing [] = refl
    nothing (x ∷ xs) = ap (λ (l : List (ℕ × Down)). x ∷ l) (nothing xs)

-- more was taken since
pub put_later : (n a b : ℕ) (fs : List DownFrame) (ms : List Down) → a ≤ b → PutNext n a fs ms → PutNext n b fs ms
put_later n a b fs ms low p = record { kinds = p.kinds; numbers = p.numbers; acks = all_follow (λ (f : DownFrame). f.ack ≤ a) (λ (f : DownFrame). f.ack ≤ b) (λ f is. omega (arith, is, low)) fs p.acks }

-- so many were sent by a window that keeps what follows the acknowledged ones
pub sent_so_far : (w : Window Down) (put given : List Down) (reached : ℕ) → w.acked ≤ reached → reached ≤ length put → w.waiting ≡ drop w.acked (put ++ given)
    → sent w ≡ length put + length given
sent_so_far w put given reached low within waiting =
    ap (λ (ms : List Down). w.acked + length ms) waiting ∙ omega (arith, low, within, length-drop w.acked (put ++ given), length-append put given)
