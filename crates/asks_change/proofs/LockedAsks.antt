-- What holds of each request of an application server's ends, over a turn of a job: a lock adds one of its own at most, and a command that is
-- over leaves none of its job.
use Rattle.std.proofs.Common.{◌≡◌, ◌≢◌, ◌<◌, ◌≤◌, ◌+◌, ℕ, zero, suc, Bool, true, false, not, List, [], ◌∷◌, filter, length, Option, Some, None, option_map, refl, sym, ◌∙◌, ap, subst, arith}
use Rattle.std.specs.Prelude.{IfSome, nat_lt, set}
use Rattle.std.specs.List.{AllByRecursion, find, range_with_len}
use Rattle.std.proofs.lemmas.Bool.{eq-eqb, false≢true, ltb-true, ltb-false}
use Rattle.std.proofs.lemmas.List.{get_or-set_same, get_or_past, length-set}
use Rattle.plain_orders.specs.declared.mode.Mode.{Mode}
use Rattle.ecp_messages.specs.declared.up.Up.{Up}
use Rattle.end_words.specs.Windows.{with_sent, with_ack_put}
use Rattle.app_job.specs.Sites.{Site}
use Rattle.app_job.specs.declared.command.Command.{Command}
use Rattle.app_job.specs.declared.command.Command.TheVariants.{Set, Kill, Get, Shape, Next, Incr, Lock, Unlock, Start, Commit, Rollback, Sync}
use Rattle.app_job.specs.declared.refusal.Refusal.{Refusal}
use Rattle.app_job.specs.declared.refusal.Refusal.TheVariants as refusals
use Rattle.app_rules.specs.AppState.{AppEnd, Session, no_end}
use Rattle.app_rules.specs.declared.session_parts.Asked.{Asked}
use Rattle.app_rules.specs.JobState.{Work, Turn}
use Rattle.app_rules.specs.Works.{Sofar, becomes, sets, puts, tells_if, end_at, session_at, with_session, with_window, is_joined}
use Rattle.app_rules.specs.Refusing.{is_ask_put_of, quits, quits_if, refused}
use Rattle.app_rules.specs.Issuing.{at_normal, is_up, pair_session, uses, uses_if}
use Rattle.app_rules.specs.Locking.{with_ticket, with_ask, with_held, asks, by_grant, waits_grant, is_due, locks_by, locks_now, ask_of_job}
use Rattle.app_rules.specs.JobStep.{Turns, is_ask_elsewhere, left_at, left_by}
use Rattle.cluster_invariant.proofs.AllLists.{all_filtered, all_follow, all_joined, all_passed}
use Rattle.cluster_steps.proofs.AppPlaces.{at_end}
use Rattle.asks_change.proofs.QuietLocks.{Quiet, SessionsQuiet, quiet_sets, quiet_state, quiet_then, quiet_uses, quiet_writes, still}
use Rattle.asks_change.proofs.QuietCommands.{turn_quiet}

-- all requests of an end
abbrev pub AllAsks : (Asked → Type 0) → AppEnd → Type 0
AllAsks Q e = IfSome e.session (λ s. AllByRecursion Q s.asks)

-- the request that a lock puts
abbrev pub new_ask : ℕ → ℕ → Mode → List ℕ → Asked
new_ask ticket job mode key = record { ticket = ticket; job = job; mode = mode; key = key; put = true; at = None }

-- What held of all requests of each end holds of them still, and no attempt failed.
pub record AsksKeep (Q : ℕ → Asked → Type 0) (b c : Sofar) : Type 0 where
  pub at : (k : ℕ) → AllAsks (Q k) (end_at b.state k) → AllAsks (Q k) (end_at c.state k)
  pub failed : (k : ℕ) → (end_at c.state k).failed ≡ (end_at b.state k).failed

module _ (Q : ℕ → Asked → Type 0) where
  keep_same : (b : Sofar) → AsksKeep Q b b
  keep_same b = record { at = λ k all. all; failed = λ k. refl }

  pub keep_then : {b c e : Sofar} → AsksKeep Q b c → AsksKeep Q c e → AsksKeep Q b e
  keep_then x y = record { at = λ k all. y.at k (x.at k all); failed = λ k. y.failed k ∙ x.failed k }

  sessions_keep : (k : ℕ) (o q : Option Session) → SessionsQuiet o q → IfSome o (λ s. AllByRecursion (Q k) s.asks) → IfSome q (λ s. AllByRecursion (Q k) s.asks)
  sessions_keep k None None x all = tt
  sessions_keep k None (Some t) x all = absurd x
  sessions_keep k (Some s) None x all = absurd x
  sessions_keep k (Some s) (Some t) x all = subst (AllByRecursion (Q k)) (sym x.asks) all

  pub keep_quiet : (b c : Sofar) → Quiet b c → AsksKeep Q b c
  keep_quiet b c x = record {
    at = λ k. sessions_keep k (end_at b.state k).session (end_at c.state k).session (x.at k).session;
    failed = λ k. (x.at k).failed;
  }

  keep_becomes : (d : ℕ) (f : AppEnd → AppEnd) (b : Sofar) → ((e : AppEnd) → (f e).failed ≡ e.failed) → ((e : AppEnd) → AllAsks (Q d) e → AllAsks (Q d) (f e))
      → AsksKeep Q b (becomes d f b)
  keep_becomes d f b same_failed each = record {
    at = λ k all.
        at_end (AllAsks (Q k)) d k (f (end_at b.state d)) b.state
        (λ same.
        subst (λ (n : ℕ). AllAsks (Q n) (f (end_at b.state d))) (sym same)
        (each (end_at b.state d) (subst (λ (n : ℕ). AllAsks (Q n) (end_at b.state n)) same all))) all;
    failed = λ k.
        at_end (λ (e : AppEnd). e.failed ≡ (end_at b.state k).failed) d k (f (end_at b.state d)) b.state
        (λ same. same_failed (end_at b.state d) ∙ ap (λ (n : ℕ). (end_at b.state n).failed) (sym same)) refl;
  }

  mapped : (d : ℕ) (f : Session → Session) → ((s : Session) → AllByRecursion (Q d) s.asks → AllByRecursion (Q d) (f s).asks) → (o : Option Session)
      → IfSome o (λ s. AllByRecursion (Q d) s.asks) → IfSome (option_map f o) (λ s. AllByRecursion (Q d) s.asks)
  mapped d f each None all = tt
  mapped d f each (Some s) all = each s all

  keep_sets : (d : ℕ) (f : Session → Session) (b : Sofar) → ((s : Session) → AllByRecursion (Q d) s.asks → AllByRecursion (Q d) (f s).asks)
      → AsksKeep Q b (sets d f b)
  keep_sets d f b each = keep_becomes d (with_session f) b (λ e. refl) (λ e. mapped d f each e.session)

  keep_tells : (t : Bool) (d seq : ℕ) (m : Up) (b : Sofar) → AsksKeep Q b (tells_if t d seq m b)
  keep_tells false d seq m b = keep_same b
  keep_tells true d seq m b = go (keep_sets d (with_window with_ack_put) b (λ s all. all))
    where
      go : AsksKeep Q b (sets d (with_window with_ack_put) b) → AsksKeep Q b (tells_if true d seq m b)
      go x = record { at = x.at; failed = x.failed }

  keep_puts : (d : ℕ) (m : Up) (b : Sofar) → AsksKeep Q b (puts d m b)
  keep_puts d m b =
      keep_then (keep_sets d (with_window (λ w. with_sent w m)) b (λ s all. all))
      (keep_tells (is_joined (end_at b.state d).line) d _ m (sets d (with_window (λ w. with_sent w m)) b))

  -- a request is given up
  keep_quits_if : (o : Option Asked) (d : ℕ) (mode : Mode) (key : List ℕ) (w : Work) → AsksKeep Q w.ends (quits_if o d mode key w).ends
  keep_quits_if None d mode key w = keep_same w.ends
  keep_quits_if (Some a) d mode key w = keep_then (keep_quiet _ _ (quiet_writes _ w.ends)) (keep_puts d _ _)

  keep_quits : (d : ℕ) (mode : Mode) (key : List ℕ) (w : Work) → AsksKeep Q w.ends (quits d mode key w).ends
  keep_quits d mode key w = keep_quits_if (find (is_ask_put_of w.job.index) (session_at w.ends.state d).asks) d mode key w

  module _ (at : Site) (mode : Mode) (w : Work) (new : (ticket : ℕ) → Q at.server (new_ask ticket w.job.index mode at.key)) where
    keep_asks : (v : Work) → v.job.index ≡ w.job.index → AsksKeep Q v.ends (asks at.server mode at.key v).ends
    keep_asks v same =
        keep_then (keep_becomes at.server with_ticket v.ends (λ e. refl) (λ e all. all))
        (keep_then
        (keep_sets at.server (with_ask _ v.job.index mode at.key) _
        (λ s all.
        all_joined (Q at.server) s.asks _ all
        (subst (λ (j : ℕ). Q at.server (new_ask ((end_at v.ends.state at.server).ticket + 1) j mode at.key)) (sym same) (new _), tt)))
        (keep_puts at.server _ _))

    keep_due : (b : Bool) (v : Work) → AsksKeep Q v.ends (waits_grant b at.server mode at.key v).work.ends
    keep_due true v = keep_then (keep_quits at.server mode at.key v) (keep_quiet _ _ (quiet_writes _ _))
    keep_due false v = keep_same v.ends

    keep_grant : (o wait : Option ℕ) (now : ℕ) (v : Work) → AsksKeep Q v.ends (by_grant o at.server mode at.key wait now v).work.ends
    keep_grant (Some n) wait now v =
        keep_quiet _ _
        (quiet_then (quiet_sets at.server (with_held v.job.index mode at.key n) v.ends (λ s. still s (with_held v.job.index mode at.key n s) refl refl)) (quiet_writes _ _))
    keep_grant None wait now v = keep_due (is_due wait v.at.first now) v

    keep_locks : (o : Option Asked) (wait : Option ℕ) (now : ℕ) (v : Work) → v.job.index ≡ w.job.index
        → AsksKeep Q v.ends (locks_by o at.server mode at.key wait now v).work.ends
    keep_locks None wait now v same = keep_then (keep_asks v same) (keep_grant None wait now (asks at.server mode at.key v))
    keep_locks (Some a) wait now v same = keep_grant a.at wait now v

    keep_normal : (is_there : Bool) (wait : Option ℕ) (now : ℕ) → (uses at.server w).job.index ≡ w.job.index
        → AsksKeep Q w.ends (at_normal is_there at.server (locks_now at.server mode at.key wait now) w).work.ends
    keep_normal true wait now same =
        keep_then (keep_quiet _ _ (quiet_uses at.server w)) (keep_locks (ask_of_job (uses at.server w) at.server) wait now (uses at.server w) same)
    keep_normal false wait now same = keep_quiet _ _ (quiet_state at.server w)

    keep_refused : (r : Refusal) (wait : Option ℕ) → AsksKeep Q w.ends (refused r (Lock at mode wait) w).ends
    keep_refused (refusals.Network d state reason) wait = keep_quiet _ _ (quiet_writes _ w.ends)
    keep_refused refusals.RollbackOnly wait = keep_then (keep_quits at.server mode at.key w) (keep_quiet _ _ (quiet_writes _ _))
    keep_refused (refusals.NotWhole n) wait = keep_same w.ends
    keep_refused (refusals.Range n) wait = keep_same w.ends
    keep_refused refusals.NoTransaction wait = keep_quiet _ _ (quiet_writes _ w.ends)
    keep_refused refusals.TooDeep wait = keep_quiet _ _ (quiet_writes _ w.ends)
    keep_refused refusals.LockTimeout wait = keep_quiet _ _ (quiet_writes _ w.ends)

used_index : (o : Option ℕ) (d : ℕ) (w : Work) → (uses_if o d w).job.index ≡ w.job.index
used_index None d w = refl
used_index (Some s) d w = refl

-- a turn

turn_is : (Q : ℕ → Asked → Type 0) (w : Work) (t u : Turn) → t ≡ u → AsksKeep Q w.ends u.work.ends → AsksKeep Q w.ends t.work.ends
turn_is Q w t u same x = subst (λ (y : Turn). AsksKeep Q w.ends y.work.ends) (sym same) x

lock_keeps : (Q : ℕ → Asked → Type 0) (r : Option Refusal) (at : Site) (mode : Mode) (wait : Option ℕ) (now : ℕ) (w : Work) (t : Turn)
    → ((ticket : ℕ) → Q at.server (new_ask ticket w.job.index mode at.key)) → Turns r (Lock at mode wait) now w t → AsksKeep Q w.ends t.work.ends
lock_keeps Q (Some r) at mode wait now w t new h = turn_is Q w t _ h (keep_refused Q at mode w new r wait)
lock_keeps Q None at mode wait now w t new h =
    turn_is Q w t _ h (keep_normal Q at mode w new (is_up w at.server) wait now (used_index (pair_session w.ends.state at.server) at.server w))

-- Each turn of a command: what held of all requests, and holds of the one that a lock puts, holds of all of them.
pub turn_keeps : (Q : ℕ → Asked → Type 0) (r : Option Refusal) (command : Command) (now : ℕ) (w : Work) (t : Turn)
    → ((at : Site) (mode : Mode) (wait : Option ℕ) → command ≡ Lock at mode wait → (ticket : ℕ) → Q at.server (new_ask ticket w.job.index mode at.key))
    → Turns r command now w t → AsksKeep Q w.ends t.work.ends
turn_keeps Q r (Set at value) now w t new h = keep_quiet Q _ _ (turn_quiet r (Set at value) now w t refl h)
turn_keeps Q r (Kill at) now w t new h = keep_quiet Q _ _ (turn_quiet r (Kill at) now w t refl h)
turn_keeps Q r (Get at) now w t new h = keep_quiet Q _ _ (turn_quiet r (Get at) now w t refl h)
turn_keeps Q r (Shape at) now w t new h = keep_quiet Q _ _ (turn_quiet r (Shape at) now w t refl h)
turn_keeps Q r (Next parent sub) now w t new h = keep_quiet Q _ _ (turn_quiet r (Next parent sub) now w t refl h)
turn_keeps Q r (Incr at amount) now w t new h = keep_quiet Q _ _ (turn_quiet r (Incr at amount) now w t refl h)
turn_keeps Q r (Lock at mode wait) now w t new h = lock_keeps Q r at mode wait now w t (new at mode wait refl) h
turn_keeps Q r (Unlock at mode at_once) now w t new h = keep_quiet Q _ _ (turn_quiet r (Unlock at mode at_once) now w t refl h)
turn_keeps Q r Start now w t new h = keep_quiet Q _ _ (turn_quiet r Start now w t refl h)
turn_keeps Q r (Commit sync) now w t new h = keep_quiet Q _ _ (turn_quiet r (Commit sync) now w t refl h)
turn_keeps Q r Rollback now w t new h = keep_quiet Q _ _ (turn_quiet r Rollback now w t refl h)
turn_keeps Q r (Sync server) now w t new h = keep_quiet Q _ _ (turn_quiet r (Sync server) now w t refl h)

-- a command that is over

-- a request of another job
abbrev pub Elsewhere : ℕ → Asked → Type 0
Elsewhere job a = a.job ≢ job

else_passed : (job : ℕ) (a : Asked) → is_ask_elsewhere job a ≡ true → Elsewhere job a
else_passed job a is same = false≢true (sym (ap not (eq-eqb a.job job same)) ∙ is)

pub keep_left : (Q : ℕ → Asked → Type 0) (job : ℕ) (ds : List ℕ) (b : Sofar) → AsksKeep Q b (left_at job ds b)
keep_left Q job [] b = keep_same Q b
keep_left Q job (d ∷ ds) b =
    keep_then Q (keep_sets Q d (left_by job) b (λ s all. all_filtered (Q d) (is_ask_elsewhere job) s.asks all)) (keep_left Q job ds (sets d (left_by job) b))

left_session : (job : ℕ) (o : Option Session) → IfSome (option_map (left_by job) o) (λ s. AllByRecursion (Elsewhere job) s.asks)
left_session job None = tt
left_session job (Some s) =
    all_follow (λ a. is_ask_elsewhere job a ≡ true) (Elsewhere job) (else_passed job) (filter (is_ask_elsewhere job) s.asks) (all_passed (is_ask_elsewhere job) s.asks)

left_one : (job d : ℕ) (b : Sofar) → AllAsks (Elsewhere job) (end_at (sets d (left_by job) b).state d)
left_one job d b = go (nat_lt d (length b.state.ends)) refl
  where
    f : AppEnd
    f = with_session (left_by job) (end_at b.state d)

    go : (t : Bool) → nat_lt d (length b.state.ends) ≡ t → AllAsks (Elsewhere job) (end_at (sets d (left_by job) b).state d)
    go true low =
        subst (AllAsks (Elsewhere job)) (sym (get_or-set_same b.state.ends d f no_end (ltb-true d (length b.state.ends) low)))
        (left_session job (end_at b.state d).session)
    go false past =
        subst (AllAsks (Elsewhere job))
        (sym (get_or_past (set b.state.ends d f) d no_end (subst (λ (n : ℕ). n ≤ d) (sym (length-set b.state.ends d f)) (ltb-false d (length b.state.ends) past)))) tt

left_range : (job from n : ℕ) (b : Sofar) (k : ℕ) → from ≤ k → k < from + n → AllAsks (Elsewhere job) (end_at (left_at job (range_with_len from n) b).state k)
left_range job from zero b k low high = absurd (omega (arith, low, high))
left_range job from (suc n) b k low high = go (nat_lt from k) refl (left_range job (from + 1) n (sets from (left_by job) b) k)
  where
    go : (t : Bool) → nat_lt from k ≡ t
        → (from + 1 ≤ k → k < from + 1 + n → AllAsks (Elsewhere job) (end_at (left_at job (range_with_len (from + 1) n) (sets from (left_by job) b)).state k))
        → AllAsks (Elsewhere job) (end_at (left_at job (range_with_len (from + 1) n) (sets from (left_by job) b)).state k)
    go true above more = more (omega (arith, ltb-true from k above)) (omega (arith, high))
    go false here more =
        (keep_left (λ i. Elsewhere job) job (range_with_len (from + 1) n) (sets from (left_by job) b)).at k
        (subst (λ (i : ℕ). AllAsks (Elsewhere job) (end_at (sets from (left_by job) b).state i)) same (left_one job from b))
      where
        same : from ≡ k
        same = omega (arith, low, ltb-false from k here)

left_length : (job : ℕ) (ds : List ℕ) (b : Sofar) → length (left_at job ds b).state.ends ≡ length b.state.ends
left_length job [] b = refl
left_length job (d ∷ ds) b = left_length job ds (sets d (left_by job) b) ∙ length-set b.state.ends d _

-- No request of the job is left at any end.
pub left_all : (job : ℕ) (b : Sofar) (k : ℕ) → AllAsks (Elsewhere job) (end_at (left_at job (range_with_len 0 (length b.state.ends)) b).state k)
left_all job b k = go (nat_lt k (length b.state.ends)) refl
  where
    c : Sofar
    c = left_at job (range_with_len 0 (length b.state.ends)) b

    go : (t : Bool) → nat_lt k (length b.state.ends) ≡ t → AllAsks (Elsewhere job) (end_at c.state k)
    go true low = left_range job 0 (length b.state.ends) b k (omega arith) (omega (arith, ltb-true k (length b.state.ends) low))
    go false past =
        subst (AllAsks (Elsewhere job))
        (sym (get_or_past c.state.ends k no_end
        (subst (λ (n : ℕ). n ≤ k) (sym (left_length job (range_with_len 0 (length b.state.ends)) b)) (ltb-false k (length b.state.ends) past)))) tt
