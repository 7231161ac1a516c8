-- The frames of a session behind its Welcome, as more are put.
use Rattle.std.proofs.Common.{◌≡◌, ◌≢◌, ◌≤◌, ◌⊎◌, inl, inr, ◌+◌, ℕ, Bool, true, false, List, [], ◌∷◌, ◌++◌, length, drop, Option, refl, sym, ◌∙◌, ap, subst, arith}
use Rattle.std.specs.Prelude.{◌&&◌}
use Rattle.std.specs.List.{AllByRecursion, list_all, list_any}
use Rattle.std.proofs.lemmas.Bool.{false≢true}
use Rattle.std.proofs.lemmas.List.{append-nil, append_assoc, drop-append-le, length-drop}
use Rattle.plain_orders.specs.declared.entry.Entry.{Entry}
use Rattle.ecp_messages.specs.declared.down.Down.{Down}
use Rattle.ecp_messages.specs.declared.down.Down.TheVariants as down
use Rattle.ecp_messages.specs.declared.down.DownFrame.{DownFrame}
use Rattle.end_words.specs.Windows.{numbered_from}
use Rattle.cluster_runs.specs.Sent.{Connection, Lane, Place}
use Rattle.cluster_runs.specs.Connections.{welcomed, with_downs}
use Rattle.cluster_invariant.specs.Link.{DownWay, ResetIs, fits_down, is_normal_frame, is_of_session}
use Rattle.cluster_invariant.specs.Words.{IsFront, downs_left, is_reset_frame, numbered_behind, numbered_downs}
use Rattle.cluster_invariant.proofs.AllLists.{all_follow, all_joined}
use Rattle.cluster_steps.proofs.JobEnds.{numbered_joined}
use Rattle.link_kept.proofs.AppLater.{LaneLater, lane_goes_on, next_later}
use Rattle.link_downs.proofs.NumberedPuts.{PutNext, list_all_joined, list_any_joined, numbered_downs_joined}

-- messages more, behind those that stand there
pub behind_more : (n : ℕ) (put given : List Down) → n ≤ length put → numbered_behind n (put ++ given) ≡ numbered_behind n put ++ numbered_from (length put) given
behind_more n put given low =
    ap (numbered_from n) (drop-append-le n put given low) ∙ numbered_joined n (drop n put) given
    ∙ ap (λ (k : ℕ). numbered_behind n put ++ numbered_from k given) (let same : n + length (drop n put) ≡ length put = omega (arith, low, length-drop n put) in same)

-- nothing ends them, and all that was put is on its way: then so it is with what is put now
pub way_more : (es fs : List Entry) (a b s : ℕ) (lane later : Lane) (may : Bool) (left put : List DownFrame) (given : List Down) → lane.down_taken ≤ length lane.down
    → LaneLater lane later → later.down ≡ lane.down ++ given → PutNext (length lane.down) later.up_taken put given → numbered_downs left ≡ numbered_behind lane.down_taken lane.down
    → (way : DownWay es a s lane may left) → way.ends ≡ [] → DownWay fs b s later may (left ++ put)
way_more es fs a b s lane later may left put given within goes down p whole way none = record {
  its = way.its ++ put;
  ends = [];
  all = ap (λ (xs : List DownFrame). xs ++ put) (way.all ∙ ap (λ (xs : List DownFrame). way.its ++ xs) none ∙ append-nil way.its) ∙ sym (append-nil (way.its ++ put));
  kinds = list_all_joined is_of_session way.its put way.kinds p.kinds;
  next = ([], front ∙ sym (append-nil (numbered_downs (way.its ++ put))));
  acks = all_joined (λ (f : DownFrame). f.ack ≤ later.up_taken) way.its put
      (all_follow (λ (f : DownFrame). f.ack ≤ lane.up_taken) (λ (f : DownFrame). f.ack ≤ later.up_taken) (λ f is. omega (arith, is, goes.up_taken)) way.its way.acks) p.acks;
  reset = tt;
  no_normal = λ some. absurd (some refl);
}
  where
    its_whole : numbered_downs way.its ≡ numbered_behind lane.down_taken lane.down
    its_whole = ap numbered_downs (sym (way.all ∙ ap (λ (xs : List DownFrame). way.its ++ xs) none ∙ append-nil way.its)) ∙ whole

    front : numbered_behind later.down_taken later.down ≡ numbered_downs (way.its ++ put)
    front =
        ap (λ (n : ℕ). numbered_behind n later.down) goes.down_taken ∙ ap (numbered_behind lane.down_taken) down ∙ behind_more lane.down_taken lane.down given within
        ∙ ap (λ (xs : List (ℕ × Down)). xs ++ numbered_from (length lane.down) given) (sym its_whole)
        ∙ ap (λ (xs : List (ℕ × Down)). numbered_downs way.its ++ xs) (sym p.numbers)
        ∙ sym (numbered_downs_joined way.its put)

pub whole_more : (lane later : Lane) (left put : List DownFrame) (given : List Down) → lane.down_taken ≤ length lane.down → LaneLater lane later → later.down ≡ lane.down ++ given
    → PutNext (length lane.down) later.up_taken put given → numbered_downs left ≡ numbered_behind lane.down_taken lane.down
    → numbered_downs (left ++ put) ≡ numbered_behind later.down_taken later.down
whole_more lane later left put given within goes down p whole =
    numbered_downs_joined left put ∙ ap (λ (xs : List (ℕ × Down)). xs ++ numbered_downs put) whole
    ∙ ap (λ (xs : List (ℕ × Down)). numbered_behind lane.down_taken lane.down ++ xs) p.numbers
    ∙ sym (behind_more lane.down_taken lane.down given within) ∙ ap (numbered_behind lane.down_taken) (sym down) ∙ ap (λ (n : ℕ). numbered_behind n later.down) (sym goes.down_taken)

-- the Reset of the session is put behind them
pub way_reset : (es fs : List Entry) (a b s place : ℕ) (lane later : Lane) (may : Bool) (left : List DownFrame) → lane.down_taken ≤ length lane.down → LaneLater lane later → may ≡ true
    → ResetIs fs b s (down.Reset s place) → list_any is_normal_frame left ≡ false → (way : DownWay es a s lane may left) → way.ends ≡ []
    → DownWay fs b s later may (left ++ record { seq = 0; ack = 0; message = down.Reset s place } ∷ [])
way_reset es fs a b s place lane later may left within goes is reset calm way none = record {
  its = way.its;
  ends = record { seq = 0; ack = 0; message = down.Reset s place } ∷ [];
  all = ap (λ (xs : List DownFrame). xs ++ record { seq = 0; ack = 0; message = down.Reset s place } ∷ []) its_all;
  kinds = way.kinds;
  next = next_later lane later (numbered_downs way.its) within (lane_goes_on lane later goes) way.next;
  acks = all_follow (λ (f : DownFrame). f.ack ≤ lane.up_taken) (λ (f : DownFrame). f.ack ≤ later.up_taken) (λ f low. omega (arith, low, goes.up_taken)) way.its way.acks;
  reset = (is, reset);
  no_normal = λ some. ap (list_any is_normal_frame) (sym its_all) ∙ calm;
}
  where
    its_all : left ≡ way.its
    its_all = way.all ∙ ap (λ (xs : List DownFrame). way.its ++ xs) none ∙ append-nil way.its

-- frames of a session say nothing of whose messages follow
of_session_its : (m : Down) (seq k : ℕ) (its : Option Place) → fits_down m seq ≡ true → welcomed k its m ≡ its
of_session_its (down.Welcome session epoch kept front taken) seq k its is = absurd (false≢true is)
of_session_its (down.Reset session at) seq k its is = refl
of_session_its (down.Block front block) seq k its is = refl
of_session_its (down.Drop front lo hi) seq k its is = refl
of_session_its (down.Ack front) seq k its is = refl
of_session_its (down.Grant front ticket at) seq k its is = refl
of_session_its (down.Answer front about job number at sum) seq k its is = refl
of_session_its (down.Normal front) seq k its is = refl
of_session_its down.Bare seq k its is = refl

pub its_of_session : (k : ℕ) (fs : List DownFrame) (c : Connection) → list_all is_of_session fs ≡ true → (with_downs k fs c).its ≡ c.its
its_of_session k [] c all = refl
its_of_session k (f ∷ fs) c all =
    go (is_of_session f) refl all (its_of_session k fs (record c { downs = c.downs ++ f ∷ []; its = welcomed k c.its f.message }))
  where
    go : (b : Bool) → is_of_session f ≡ b → (b && list_all is_of_session fs) ≡ true → (list_all is_of_session fs ≡ true → (with_downs k (f ∷ fs) c).its ≡ welcomed k c.its f.message)
        → (with_downs k (f ∷ fs) c).its ≡ c.its
    go true is rest more = more rest ∙ of_session_its f.message f.seq k c.its is
    go false is rest more = absurd (false≢true rest)

-- what isn't taken yet, with what is put now
pub left_more : (c d : Connection) (fs : List DownFrame) → c.downs_taken ≤ length c.downs → d.downs ≡ c.downs ++ fs → d.downs_taken ≡ c.downs_taken → downs_left d ≡ downs_left c ++ fs
left_more c d fs within downs taken =
    ap (λ (n : ℕ). drop n d.downs) taken ∙ ap (drop c.downs_taken) downs ∙ drop-append-le c.downs_taken c.downs fs within
