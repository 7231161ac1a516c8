-- What a job has seen falls only where a restart had cut the list.
use Rattle.std.proofs.Common.{◌≡◌, ℕ, ◌≤◌, ◌<◌, min, List, [], ◌∷◌, ◌++◌, length, take, refl, subst, sym, ap, ◌∙◌, Bool, true, false, eqb, if◌then◌else◌, arith, append_assoc, inl, Option, Some, None}
use Rattle.std.specs.Prelude.{is_some}
use Rattle.std.specs.Option.{option_map}
use Rattle.std.proofs.lemmas.Bool.{eqb-true, eq-eqb}
use Rattle.std.proofs.lemmas.List.{append-nil}
use Rattle.plain_orders.specs.declared.act.Act.{Act}
use Rattle.plain_orders.specs.declared.act.Act.TheVariants.{Opened, Enter, Synced, Shut, Release, Met, Told, Back, Crash, Issue, Read, Grant, Granted, GiveUp, Quit, Free, Counted, NotWhole, Range, Committed, RolledBack, Reached, Level, Done, Refused, Broke, Mended, Tick, Lose, Died}
use Rattle.plain_orders.specs.declared.entry.Entry.TheVariants.{Closed}
use Rattle.plain_orders.specs.declared.layout.Layout.{Layout}
use Rattle.plain_orders.specs.declared.refused.Refused.{Refused as Refusal}
use Rattle.plain_orders.specs.declared.refused.Refused.TheVariants.{NoTransaction, TooDeep, RollbackOnly, LockTimeout, Network}
use Rattle.plain_orders.specs.declared.refused.ReasonName.TheVariants.{Reset, Expired}
use Rattle.plain_orders.specs.declared.causes.Loss.{Loss}
use Rattle.plain_orders.specs.declared.causes.Loss.TheVariants.{Reset as ByReset, Expired as ByExpired, NoWay as ByNoWay}
use Rattle.plain_orders.specs.declared.causes.PairEnd.{PairEnd}
use Rattle.plain_orders.specs.declared.causes.PairEnd.TheVariants.{App as AppEnd, Server as ServerEnd}
use Rattle.plain_orders.specs.Own.{Issued}
use Rattle.plain_runs.specs.Plain.{Plain, Server, Session, Known, Pair, start, put, app_of, runs_on, pair_session, with_known}
use Rattle.plain_runs.specs.OrderRows.{CrashMay, crashed}
use Rattle.plain_runs.specs.EndRows.{broke, lost, shut, met_by, told_of, begun_by, knows_noway, new_session}
use Rattle.plain_runs.specs.JobRows.{acts, issues, refused, sees_up, txn_of, has_session}
use Rattle.plain_runs.specs.Step.{MayCome, after}
use Rattle.plain_runs.specs.Run.{IsRun, RunFrom, after_all, state_after}
use Rattle.plain_runs.specs.Laws.{server_after}
use Rattle.plain_runs.proofs.RunLemmas.{at_put, after_all-more, run_parts}
use Rattle.plain_runs.proofs.OrderLaws.{orders_kept}
use Rattle.plain_runs.proofs.Issued.{issued_kept}
use Rattle.plain_runs.proofs.SeenLaw.{told_kept}
use Rattle.plain_runs.proofs.ToldItems.{nth}
use Rattle.trail_laws.specs.PrefixLaw.{WasCut}
use Rattle.trail_laws.proofs.Seen.{SeenKept, SeenSteps, glimpse, seen_same, calm_seen, other_seen, jobs_seen, push_seen, enter_seen, opened_seen, crash_seen, lose_seen}

module _ (l : Layout) (C D : ℕ → Type 0) (more : (n : ℕ) → C n → D n) where
  abbrev S : Server → Server → Type 0
  S s t = SeenSteps l C D more s t

  same : (s : Server) → S s s
  same s = seen_same l C D more s

  -- a job whose pair has a session acts
  act_seen : (s : Server) (job : ℕ) (x : Known) → has_session s (app_of l job) ≡ true → S s (with_known s job x)
  act_seen s job x has = calm_seen l C D more s (with_known s job x) refl (λ n m. m) (λ a p. p) (λ j p. other_seen l C D more s job x j has p)

  up_seen : (s : Server) (job at : ℕ) → has_session s (app_of l job) ≡ true → S s (sees_up s job at)
  up_seen s job at has = act_seen s job _ has

  session_there : (s : Server) (n : ℕ) (f : Session → Session) (m : ℕ) → is_some (put s.session_at n (option_map f (s.session_at n)) m) ≡ false → is_some (s.session_at m) ≡ false
  session_there s n f m = at_put (λ o r. is_some r ≡ false → is_some o ≡ false) s.session_at n (option_map f (s.session_at n)) (λ o x. x) (here (s.session_at n)) m
    where
      here : (o : Option Session) → is_some (option_map f o) ≡ false → is_some o ≡ false
      here None e = e
      here (Some m) e = e

  issue_seen : (s : Server) (app : ℕ) (i : Issued) → app_of l i.job ≡ app → has_session s app ≡ true → S s (issues s app i)
  issue_seen s app i its has =
      calm_seen l C D more s (issues s app i) refl (session_there s (pair_session s app) (λ m. record m { issued = m.issued ++ i ∷ [] })) (λ a p. p)
      (λ j p. other_seen l C D more s i.job (acts (s.known_at i.job)) j (subst (λ a. has_session s a ≡ true) (sym its) has) p)

  not_met : (s : Server) (n : ℕ) (o : Option Session) → (m : ℕ) → is_some o ≡ true → is_some (put s.session_at n o m) ≡ false → is_some (s.session_at m) ≡ false
  not_met s n o m some = at_put (λ x r. is_some r ≡ false → is_some x ≡ false) s.session_at n o (λ x y. y) (λ e. absurd (cc (some, e))) m

  no_pair : (s : Server) (app : ℕ) (x : Pair) → is_some x.session ≡ true → (a : ℕ) → (put s.pair_at app x a).session ≡ None → ((a ≡ app) → ⊥) × ((s.pair_at a).session ≡ None)
  no_pair s app x some a = go (eqb a app) refl
    where
      go : (b : Bool) → eqb a app ≡ b → (if b then x else s.pair_at a).session ≡ None → ((a ≡ app) → ⊥) × ((s.pair_at a).session ≡ None)
      go true e p = absurd (cc (some, p))
      go false e p = ((λ same. absurd (cc (e, eq-eqb a app same))), p)

  met_seen : (s : Server) (app session : ℕ) → S s (met_by l s app session)
  met_seen s app session =
      calm_seen l C D more s (met_by l s app session) refl (λ n. not_met s session (Some (new_session s app session)) n refl)
      (λ a p. (no_pair s app (record { session = Some session; broke = None }) refl a p).1)
      (λ j p. jobs_seen l C D more s app (λ k. record k { seen = session; acted = false }) j (no_pair s app (record { session = Some session; broke = None }) refl (app_of l j) p).0)

  told_seen : (s : Server) (app session epoch kept : ℕ) → (s.pair_at app).session ≡ Some session → S s (told_of l s app session epoch kept)
  told_seen s app session epoch kept its =
      calm_seen l C D more s (told_of l s app session epoch kept) refl (session_there s session (λ m. record m { told = begun_by s epoch })) (λ a p. p)
      (λ j p. jobs_seen l C D more s app (λ k. record k { seen = min k.seen kept }) j (λ e. absurd (cc (subst (λ a. (s.pair_at a).session ≡ None) e p, its))))

  pair_seen : (s : Server) (a : ℕ) (x : Pair) → x.session ≡ (s.pair_at a).session → S s (record s { pair_at = put s.pair_at a x })
  pair_seen s a x is =
      calm_seen l C D more s (record s { pair_at = put s.pair_at a x }) refl (λ n m. m)
      (λ b p. at_put (λ (y z : Pair). z.session ≡ None → y.session ≡ None) s.pair_at a x (λ y f. f) (λ f. sym is ∙ f) b p) (λ j p. refl)

  broke_seen : (s : Server) (app : ℕ) (end : PairEnd) (time : ℕ) → S s (broke s app end time)
  broke_seen s app AppEnd time = pair_seen s app (record (s.pair_at app) { broke = Some time }) refl
  broke_seen s app ServerEnd time = same s

  news_seen : (s t : Server) (f : ℕ → Known) → ((j : ℕ) → (f j).seen ≡ (s.known_at j).seen) → t ≡ record s { known_at = f } → S s t
  news_seen s t f is e = subst (S s) (sym e) (calm_seen l C D more s (record s { known_at = f }) refl (λ n m. m) (λ a p. p) (λ j p. is j))

  refused_seen : (p : Plain) (j : ℕ) (r : Refusal) (e : ℕ) → S (p.server_at e) ((refused p j r).server_at e)
  refused_seen p j NoTransaction e = same (p.server_at e)
  refused_seen p j TooDeep e = same (p.server_at e)
  refused_seen p j RollbackOnly e = same (p.server_at e)
  refused_seen p j LockTimeout e = same (p.server_at e)
  refused_seen p j (Network d state reason) e =
      at_put S p.server_at d _ same
      (news_seen (p.server_at d) _ (put (p.server_at d).known_at j (record ((p.server_at d).known_at j) { news = []; bar = None })) (λ i. at_put (λ (x y : Known). y.seen ≡ x.seen) (p.server_at d).known_at j _ (λ x. refl) refl i) refl) e

  lost_seen : (p : Plain) (app d : ℕ) (loss : Loss) (e : ℕ) → S (p.server_at e) ((lost l p app d loss).server_at e)
  lost_seen p app d (ByReset at) e = at_put S p.server_at d _ same (lose_seen l C D more (p.server_at d) app Reset) e
  lost_seen p app d (ByExpired time) e = at_put S p.server_at d _ same (lose_seen l C D more (p.server_at d) app Expired) e
  lost_seen p app d (ByNoWay from to) e = at_put S p.server_at d _ same (news_seen (p.server_at d) _ (λ j. if runs_on l app j then knows_noway ((p.server_at d).known_at j) else (p.server_at d).known_at j) (λ j. go j (runs_on l app j)) refl) e
    where
      go : (j : ℕ) (b : Bool) → (if b then knows_noway ((p.server_at d).known_at j) else (p.server_at d).known_at j).seen ≡ ((p.server_at d).known_at j).seen
      go j true = refl
      go j false = refl

  row_seen : (p : Plain) (a : Act) (e : ℕ) → MayCome l p a → ((kept n : ℕ) → a ≡ Crash e kept → kept < n → n ≤ length (p.server_at e).order → D n) → S (p.server_at e) ((after l p a).server_at e)
  row_seen p (Opened d entries) e may cut = at_put S p.server_at d _ same (opened_seen l C D more p.clock l.times.round (p.server_at d) entries may) e
  row_seen p (Enter d entry) e may cut = at_put S p.server_at d _ same (enter_seen l C D more p.clock (p.server_at d) entry may) e
  row_seen p (Synced d n) e may cut = at_put S p.server_at d _ same (same (p.server_at d)) e
  row_seen p (Shut d session cause) e may cut = at_put S p.server_at d _ same (push_seen l C D more (p.server_at d) (shut (p.server_at d) session) (Closed session) refl (λ n a e. absurd (cc (e)))) e
  row_seen p (Release d session) e may cut = at_put S p.server_at d _ same (same (p.server_at d)) e
  row_seen p (Met app d session) e may cut = at_put S p.server_at d _ same (met_seen (p.server_at d) app session) e
  row_seen p (Told app d session epoch kept) e may cut = at_put S p.server_at d _ same (told_seen (p.server_at d) app session epoch kept may.1.its) e
  row_seen p (Back d) e may cut = at_put S p.server_at d _ same (same (p.server_at d)) e
  row_seen p (Crash d kept) e may cut = crash_here (eqb e d) refl
    where
      crash_here : (b : Bool) → eqb e d ≡ b → S (p.server_at e) (if b then crashed p.clock l.times.round (p.server_at d) kept else p.server_at e)
      crash_here true q =
          let is : e ≡ d = eqb-true e d q in
          subst (λ i. S (p.server_at e) (crashed p.clock l.times.round (p.server_at i) kept)) is
          (crash_seen l C D more p.clock l.times.round (p.server_at e) kept (subst (λ i. CrashMay (p.server_at i) kept) (sym is) may) (λ n. cut kept n (ap (λ i. Crash i kept) (sym is))))
      crash_here false q = same (p.server_at e)
  row_seen p (Issue job line d w item) e may cut = at_put S p.server_at d _ same (issue_seen (p.server_at d) (app_of l job) (record { item = item; txn = txn_of (p.job_at job) item; job = job; line = line }) refl may.1.there) e
  row_seen p (Read job line d at via question) e may cut = at_put S p.server_at d _ same (act_seen (p.server_at d) job (record (acts ((p.server_at d).known_at job)) { seen = at }) may.1.there) e
  row_seen p (Grant d session job mode key at) e may cut = at_put S p.server_at d _ same (same (p.server_at d)) e
  row_seen p (Granted job line d at) e may cut = at_put S p.server_at d _ same (up_seen (p.server_at d) job at may.1.session) e
  row_seen p (GiveUp job line d mode key) e may cut = at_put S p.server_at d _ same (act_seen (p.server_at d) job (acts ((p.server_at d).known_at job)) may.1.session) e
  row_seen p (Quit job line d mode key) e may cut = at_put S p.server_at d _ same (act_seen (p.server_at d) job (acts ((p.server_at d).known_at job)) may.1.session) e
  row_seen p (Free d session job mode key) e may cut = at_put S p.server_at d _ same (same (p.server_at d)) e
  row_seen p (Counted job line d at sum) e may cut = at_put S p.server_at d _ same (up_seen (p.server_at d) job at may.1.stands.there) e
  row_seen p (NotWhole job line d at) e may cut = at_put S p.server_at d _ same (up_seen (p.server_at d) job at may.1.stands.there) e
  row_seen p (Range job line d at) e may cut = at_put S p.server_at d _ same (up_seen (p.server_at d) job at may.1.stands.there) e
  row_seen p (Committed job line d at) e may cut = at_put S p.server_at d _ same (up_seen (p.server_at d) job at may.1.there) e
  row_seen p (RolledBack job line d at) e may cut = at_put S p.server_at d _ same (up_seen (p.server_at d) job at may.1.there) e
  row_seen p (Reached job line d at) e may cut = at_put S p.server_at d _ same (up_seen (p.server_at d) job at may.1.there) e
  row_seen p (Level job line level) e may cut = same (p.server_at e)
  row_seen p (Done job line) e may cut = same (p.server_at e)
  row_seen p (Refused job line refusal) e may cut = refused_seen p job refusal e
  row_seen p (Broke app d end time) e may cut = at_put S p.server_at d _ same (broke_seen (p.server_at d) app end time) e
  row_seen p (Mended app d) e may cut = at_put S p.server_at d _ same (pair_seen (p.server_at d) app (record ((p.server_at d).pair_at app) { broke = None }) refl) e
  row_seen p (Tick time) e may cut = same (p.server_at e)
  row_seen p (Lose app d loss) e may cut = lost_seen p app d loss e
  row_seen p (Died app) e may cut = same (p.server_at e)

-- a fact of each front of a run
pub run_induction : (l : Layout) (P : List Act → Type 0) → P [] → ((acts : List Act) (a : Act) → IsRun l acts → MayCome l (state_after l acts) a → P acts → P (acts ++ a ∷ [])) → (acts : List Act) → IsRun l acts → P acts
run_induction l P first step acts run = along [] acts run first
  where
    along : (before later : List Act) → IsRun l (before ++ later) → P before → P (before ++ later)
    along before [] run p = subst P (sym (append-nil before)) p
    along before (a ∷ later) run p =
        let parts : RunFrom l start before × RunFrom l (after_all l start before) (a ∷ later) = run_parts l start before (a ∷ later) run in
        let whole : (before ++ a ∷ []) ++ later ≡ before ++ a ∷ later = append_assoc before (a ∷ []) later in
        subst P whole (along (before ++ a ∷ []) later (subst (IsRun l) (sym whole) run) (step before a parts.0 parts.1.0 p))

cut_more : (l : Layout) (acts : List Act) (a : Act) (d n : ℕ) → WasCut l acts d n → WasCut l (acts ++ a ∷ []) d n
cut_more l acts a d n c = record {
  before = c.before;
  kept = c.kept;
  later = c.later ++ a ∷ [];
  crash = ap (λ (as_ : List Act). as_ ++ a ∷ []) c.crash ∙ append_assoc c.before (Crash d c.kept ∷ c.later) (a ∷ []);
  cut = c.cut;
  had = c.had;
}

pub seen_kept : (l : Layout) (acts : List Act) → IsRun l acts → (d : ℕ) → SeenKept l (WasCut l acts d) (glimpse (server_after l acts d))
seen_kept l acts run = run_induction l (λ as_. (d : ℕ) → SeenKept l (WasCut l as_ d) (glimpse (server_after l as_ d))) first step acts run
  where
    first : (d : ℕ) → SeenKept l (WasCut l [] d) (glimpse (server_after l [] d))
    first d = record {
      fronts = λ b c n up low in_. inl (ap (λ i. take n (nth [] [] i)) (omega (arith, up, low)));
      mine = λ n a e at y. absurd (cc (y));
      within = λ j there p. inl (omega arith);
      behind = λ j n e there p y. absurd (cc (y));
    }

    step : (as_ : List Act) (a : Act) → IsRun l as_ → MayCome l (state_after l as_) a → ((d : ℕ) → SeenKept l (WasCut l as_ d) (glimpse (server_after l as_ d))) → (d : ℕ) → SeenKept l (WasCut l (as_ ++ a ∷ []) d) (glimpse (server_after l (as_ ++ a ∷ []) d))
    step as_ a run may k d =
        subst (λ (p : Plain). SeenKept l (WasCut l (as_ ++ a ∷ []) d) (glimpse (p.server_at d))) (sym (after_all-more l start as_ a))
        (row_seen l (WasCut l as_ d) (WasCut l (as_ ++ a ∷ []) d) (λ n. cut_more l as_ a d n) (state_after l as_) a d may
        (λ kept n is low in_. record { before = as_; kept = kept; later = []; crash = ap (λ (x : Act). as_ ++ x ∷ []) is; cut = low; had = in_ })
        (orders_kept l as_ d run) (issued_kept l as_ d run) (told_kept l as_ d run) (k d))
