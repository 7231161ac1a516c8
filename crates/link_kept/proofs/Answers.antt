-- What a window's answer to a number says of it.
use Rattle.std.proofs.Common.{◌≡◌, ◌≤◌, ◌<◌, ℕ, ◌+◌, Bool, true, false, if◌then◌else◌, List, refl, arith}
use Rattle.std.specs.Prelude.{Ok, Err, Result, nat_lt}
use Rattle.std.proofs.lemmas.Bool.{ltb-true, ltb-false}
use Rattle.link_window.specs.declared.window.Taken.{Taken}
use Rattle.link_window.specs.declared.window.Taken.TheVariants.{Fresh, Repeat}
use Rattle.link_window.specs.declared.window.WindowError.{WindowError}
use Rattle.link_window.specs.declared.window.WindowError.TheVariants.{AckPastSent, Gap}
use Rattle.link_window.specs.Numbering.{sent_count}
use Rattle.end_words.specs.Windows.{Window, answers, in_bytes}

no_error : (e : WindowError) (t : Taken) → ◌≡◌ {A = Result Taken WindowError} (Err e) (Ok t) → ⊥
no_error e t is = absurd cc

-- A fresh message is above those that were taken.
pub fresh_above : {M : Type 0} (body : M → List ℕ) (w : Window M) (seq ack : ℕ) → answers body w seq ack ≡ Ok Fresh → w.taken < seq
fresh_above body w seq ack is =
    go (AckPastSent (sent_count (in_bytes body w)) ack) (Gap (w.taken + 1) seq) (nat_lt (sent_count (in_bytes body w)) ack) (nat_lt (w.taken + 1) seq) (nat_lt w.taken seq) refl is
  where
    again : ◌≡◌ {A = Result Taken WindowError} (Ok Repeat) (Ok Fresh) → w.taken < seq
    again is = absurd cc

    go : (past gap : WindowError) (a b d : Bool) → nat_lt w.taken seq ≡ d → (if a then Err past else (if b then Err gap else (if d then Ok Fresh else Ok Repeat))) ≡ Ok Fresh
        → w.taken < seq
    go past gap true b d at is = absurd (no_error past Fresh is)
    go past gap false true d at is = absurd (no_error gap Fresh is)
    go past gap false false true at is = ltb-true w.taken seq at
    go past gap false false false at is = again is

-- One that is repeated isn't.
pub repeat_below : {M : Type 0} (body : M → List ℕ) (w : Window M) (seq ack : ℕ) → answers body w seq ack ≡ Ok Repeat → seq ≤ w.taken
repeat_below body w seq ack is =
    go (AckPastSent (sent_count (in_bytes body w)) ack) (Gap (w.taken + 1) seq) (nat_lt (sent_count (in_bytes body w)) ack) (nat_lt (w.taken + 1) seq) (nat_lt w.taken seq) refl is
  where
    first : ◌≡◌ {A = Result Taken WindowError} (Ok Fresh) (Ok Repeat) → seq ≤ w.taken
    first is = absurd cc

    go : (past gap : WindowError) (a b d : Bool) → nat_lt w.taken seq ≡ d → (if a then Err past else (if b then Err gap else (if d then Ok Fresh else Ok Repeat))) ≡ Ok Repeat
        → seq ≤ w.taken
    go past gap true b d at is = absurd (no_error past Repeat is)
    go past gap false true d at is = absurd (no_error gap Repeat is)
    go past gap false false true at is = first is
    go past gap false false false at is = omega (arith, ltb-false w.taken seq at)
