-- What a turn of a lock makes of the requests of the end that it is for.
use Rattle.std.proofs.Common.{◌≡◌, ◌≢◌, ◌<◌, ℕ, Bool, true, false, List, length, Option, Some, None, is_some, refl, sym, ◌∙◌, ap, subst}
use Rattle.std.specs.Prelude.{IfSome, unwrap_or}
use Rattle.std.specs.List.{find, list_any}
use Rattle.std.proofs.lemmas.Bool.{false≢true}
use Rattle.plain_orders.specs.declared.mode.Mode.{Mode}
use Rattle.ecp_messages.specs.declared.down.Down.{Down}
use Rattle.ecp_messages.specs.declared.up.Up.{Up}
use Rattle.ecp_messages.specs.declared.up.Up.TheVariants.{Cancel}
use Rattle.app_job.specs.declared.command.Command.TheVariants.{Lock}
use Rattle.app_job.specs.Sites.{Site}
use Rattle.app_job.specs.declared.refusal.Refusal.{Refusal}
use Rattle.app_job.specs.declared.refusal.Refusal.TheVariants as refusals
use Rattle.app_rules.specs.declared.session_parts.Asked.{Asked}
use Rattle.app_rules.specs.AppState.{AppEnd, Session, no_session}
use Rattle.app_rules.specs.JobState.{Work, Turn}
use Rattle.app_rules.specs.JobStep.{Turns, is_waiting}
use Rattle.app_rules.specs.Issuing.{at_normal, is_up, pair_session, uses, uses_if}
use Rattle.app_rules.specs.Locking.{ask_of_job, asks, by_grant, is_due, locks_by, locks_now, waits_grant, with_ask, with_held, with_ticket}
use Rattle.app_rules.specs.Refusing.{is_ask_of, is_ask_put_of, quits, quits_if, refuses}
use Rattle.app_rules.specs.Works.{Sofar, becomes, end_at, session_at, sets, with_session, writes}
use Rattle.cluster_invariant.specs.Asks.{is_asked_by, is_put_for}
use Rattle.app_rules.proofs.OneEnd.{one_end, one_puts}
use Rattle.asks_change.proofs.LockPuts.{EndAsksOne, asks_here, puts_here}
use Rattle.asks_change.proofs.QuietLocks.{quiet_sets, quiet_state, still, used_ends}
use Rattle.asks_moves.proofs.LockStages.{Done, Stage, done_cancel, done_granted, done_none, done_quiet, done_stage, find_none, none_done, stage_ask, stage_quiet}

used_index : (o : Option ℕ) (d : ℕ) (w : Work) → (uses_if o d w).job.index ≡ w.job.index
used_index None d w = refl
used_index (Some s) d w = refl

-- an Ask leaves the number of ends
ask_kept : (d : ℕ) (mode : Mode) (key : List ℕ) (w : Work) → length (asks d mode key w).ends.state.ends ≡ length w.ends.state.ends
ask_kept d mode key w =
    (one_puts d _ (sets d (with_ask _ w.job.index mode key) (becomes d with_ticket w.ends))).same.ends
    ∙ (one_end d (with_session (with_ask _ w.job.index mode key) (end_at (becomes d with_ticket w.ends).state d)) (becomes d with_ticket w.ends).state).same.ends
    ∙ (one_end d (with_ticket (end_at w.ends.state d)) w.ends.state).same.ends

-- what is found in the session of an end
at_session : (p : Asked → Bool) (e : AppEnd) (o : Option Asked) → find p (unwrap_or e.session no_session).asks ≡ o → IfSome e.session (λ q. find p q.asks ≡ o)
at_session p e o is = go e.session is
  where
    go : (q : Option Session) → find p (unwrap_or q no_session).asks ≡ o → IfSome q (λ s. find p s.asks ≡ o)
    go None found = tt
    go (Some s) found = found

-- none of the job's requests was put
abbrev pub NonePut : ℕ → AppEnd → Type 0
NonePut job e = IfSome e.session (λ q. (t : ℕ) → list_any (is_put_for t job) q.asks ≡ true → ⊥)

module _ (ups : List Up) (taken : List Down) (before : List Up) (job : ℕ) (at : Site) (mode : Mode) where
  abbrev d : ℕ
  d = at.server

  abbrev St : Sofar → Type 0
  St b = Stage ups taken before job (end_at b.state d)

  abbrev Dn : Sofar → Type 0
  Dn b = Done ups taken before job (end_at b.state d)

  -- the requests are as they have to be, and those of the job are over where the command is
  abbrev pub Result : Turn → Type 0
  Result t = St t.work.ends × (is_waiting t.answer ≡ false → Dn t.work.ends)

  done_result : (t : Turn) → Dn t.work.ends → Result t
  done_result t y = (done_stage ups taken before job (end_at t.work.ends.state d) y, λ over. y)

  quits_done : (w : Work) → w.job.index ≡ job → d < length w.ends.state.ends → St w.ends → Dn (quits d mode at.key w).ends
  quits_done w same low y = go (find (is_ask_put_of w.job.index) (session_at w.ends.state d).asks) refl
    where
      e : AppEnd
      e = end_at w.ends.state d

      found : (o : Option Asked) → find (is_ask_put_of w.job.index) (session_at w.ends.state d).asks ≡ o
          → IfSome e.session (λ q. find (is_ask_put_of job) q.asks ≡ o)
      found o is = at_session (is_ask_put_of job) e o (subst (λ (j : ℕ). find (is_ask_put_of j) (unwrap_or e.session no_session).asks ≡ o) same is)

      go : (o : Option Asked) → find (is_ask_put_of w.job.index) (session_at w.ends.state d).asks ≡ o → Dn (quits_if o d mode at.key w).ends
      go None is = done_none ups taken before job e (found None is) y
      go (Some a) is =
          done_cancel ups taken before job a e (end_at (quits_if (Some a) d mode at.key w).ends.state d) (puts_here d (Cancel a.ticket) (writes _ w.ends) low) (found (Some a) is) y

  due_result : (b : Bool) (w : Work) → w.job.index ≡ job → d < length w.ends.state.ends → St w.ends → Result (waits_grant b d mode at.key w)
  due_result true w same low y = done_result (waits_grant true d mode at.key w) (quits_done w same low y)
  due_result false w same low y = (y, λ over. absurd (false≢true (sym over)))

  held_result : (n : ℕ) (w : Work) (a : Asked) → a.at ≡ Some n → w.job.index ≡ job
      → IfSome (end_at w.ends.state d).session (λ q. find (is_ask_of job) q.asks ≡ Some a)
      → St w.ends → (wait : Option ℕ) (now : ℕ) → Result (by_grant (Some n) d mode at.key wait now w)
  held_result n w a granted same found y wait now =
      done_result (by_grant (Some n) d mode at.key wait now w)
      (done_quiet ups taken before job (end_at w.ends.state d) (end_at (by_grant (Some n) d mode at.key wait now w).work.ends.state d)
      ((quiet_sets d (with_held w.job.index mode at.key n) w.ends (λ s. still s (with_held w.job.index mode at.key n s) refl refl)).at d)
      (done_granted ups taken before job a (end_at w.ends.state d) (ap is_some granted) found y))

  locks_result : (wait : Option ℕ) (now : ℕ) (w : Work) → w.job.index ≡ job → d < length w.ends.state.ends → St w.ends
      → Result (locks_now d mode at.key wait now w)
  locks_result wait now w same low y = go (ask_of_job w d) refl
    where
      e : AppEnd
      e = end_at w.ends.state d

      found : (o : Option Asked) → ask_of_job w d ≡ o → IfSome e.session (λ q. find (is_ask_of job) q.asks ≡ o)
      found o is = at_session (is_ask_of job) e o (subst (λ (j : ℕ). find (is_ask_of j) (unwrap_or e.session no_session).asks ≡ o) same is)

      none : IfSome e.session (λ q. find (is_ask_of job) q.asks ≡ None) → IfSome e.session (λ q. list_any (is_asked_by job) q.asks ≡ false)
      none is = by e.session is
        where
          by : (o : Option Session) → IfSome o (λ q. find (is_ask_of job) q.asks ≡ None) → IfSome o (λ q. list_any (is_asked_by job) q.asks ≡ false)
          by None f = tt
          by (Some s) f = find_none (is_ask_of job) (is_asked_by job) (λ x here. here) s.asks f

      by_at : (o : Option ℕ) (a : Asked) → a.at ≡ o → ask_of_job w d ≡ Some a → Result (by_grant o d mode at.key wait now w)
      by_at None a granted is = due_result (is_due wait w.at.first now) w same low y
      by_at (Some n) a granted is = held_result n w a granted same (found (Some a) is) y wait now

      go : (o : Option Asked) → ask_of_job w d ≡ o → Result (locks_by o d mode at.key wait now w)
      go None is =
          due_result (is_due wait (asks d mode at.key w).at.first now) (asks d mode at.key w) same low_after
          (stage_ask ups taken before job mode at.key e (end_at (asks d mode at.key w).ends.state d)
          (subst (λ (j : ℕ). EndAsksOne j mode at.key e (end_at (asks d mode at.key w).ends.state d)) same (asks_here d mode at.key w low)) (none (found None is)) y)
        where
          low_after : d < length (asks d mode at.key w).ends.state.ends
          low_after = subst (λ (n : ℕ). d < n) (sym (ask_kept d mode at.key w)) low
      go (Some a) is = by_at a.at a refl is

  normal_result : (is_there : Bool) (wait : Option ℕ) (now : ℕ) (w : Work) → w.job.index ≡ job → d < length w.ends.state.ends → St w.ends
      → Result (at_normal is_there d (locks_now d mode at.key wait now) w)
  normal_result true wait now w same low y =
      locks_result wait now (uses d w) (used_index (pair_session w.ends.state d) d w ∙ same)
      (subst (λ (b : Sofar). d < length b.state.ends) (sym (used_ends (pair_session w.ends.state d) d w)) low)
      (subst (λ (b : Sofar). St b) (sym (used_ends (pair_session w.ends.state d) d w)) y)
  normal_result false wait now w same low y = (
    stage_quiet ups taken before job (end_at w.ends.state d) (end_at (at_normal false d (locks_now d mode at.key wait now) w).work.ends.state d) ((quiet_state d w).at d) y,
    λ over. absurd (false≢true (sym over)),
  )

  refused_result : (r : Refusal) (wait : Option ℕ) (w : Work) → w.job.index ≡ job → d < length w.ends.state.ends
      → (r ≢ refusals.RollbackOnly → NonePut job (end_at w.ends.state d)) → St w.ends
      → Result (refuses r (Lock at mode wait) w)
  refused_result (refusals.Network k state reason) wait w same low none y =
      done_result (refuses (refusals.Network k state reason) (Lock at mode wait) w) (none_done ups taken before job (end_at w.ends.state d) (none (λ is. absurd (cc (is)))) y)
  refused_result refusals.RollbackOnly wait w same low none y = done_result (refuses refusals.RollbackOnly (Lock at mode wait) w) (quits_done w same low y)
  refused_result (refusals.NotWhole n) wait w same low none y =
      done_result (refuses (refusals.NotWhole n) (Lock at mode wait) w) (none_done ups taken before job (end_at w.ends.state d) (none (λ is. absurd (cc (is)))) y)
  refused_result (refusals.Range n) wait w same low none y =
      done_result (refuses (refusals.Range n) (Lock at mode wait) w) (none_done ups taken before job (end_at w.ends.state d) (none (λ is. absurd (cc (is)))) y)
  refused_result refusals.NoTransaction wait w same low none y =
      done_result (refuses refusals.NoTransaction (Lock at mode wait) w) (none_done ups taken before job (end_at w.ends.state d) (none (λ is. absurd (cc (is)))) y)
  refused_result refusals.TooDeep wait w same low none y =
      done_result (refuses refusals.TooDeep (Lock at mode wait) w) (none_done ups taken before job (end_at w.ends.state d) (none (λ is. absurd (cc (is)))) y)
  refused_result refusals.LockTimeout wait w same low none y =
      done_result (refuses refusals.LockTimeout (Lock at mode wait) w) (none_done ups taken before job (end_at w.ends.state d) (none (λ is. absurd (cc (is)))) y)

  -- Each turn of a lock, at its own end.
  pub lock_result : (r : Option Refusal) (wait : Option ℕ) (now : ℕ) (w : Work) (t : Turn) → Turns r (Lock at mode wait) now w t → w.job.index ≡ job
      → d < length w.ends.state.ends
      → ((x : Refusal) → r ≡ Some x → x ≢ refusals.RollbackOnly → NonePut job (end_at w.ends.state d)) → St w.ends → Result t
  lock_result (Some r) wait now w t h same low none y = subst Result (sym h) (refused_result r wait w same low (none r refl) y)
  lock_result None wait now w t h same low none y = subst Result (sym h) (normal_result (is_up w d) wait now w same low y)
