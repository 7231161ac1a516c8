-- What becomes of a server's holds, of what was issued, and of the orders that sessions are told of.
use Rattle.std.proofs.Common.{◌≡◌, ℕ, ◌≤◌, ◌<◌, ◌+◌, List, [], ◌∷◌, ◌++◌, length, take, refl, subst, sym, ap, ◌∙◌, Bool, true, false, eqb, if◌then◌else◌, arith, append_assoc, ◌⊎◌, inl, inr, Option, Some, None, ◌&&◌, ◌||◌, not, ◌==◌}
use Rattle.std.specs.Prelude.{is_some, unwrap_or}
use Rattle.std.specs.Option.{option_map}
use Rattle.std.proofs.lemmas.Bool.{and_parts, not-true, cases_lt, eqb-true}
use Rattle.std.proofs.lemmas.List.{append-nil}
use Rattle.plain_orders.specs.declared.act.Act.{Act}
use Rattle.plain_orders.specs.declared.act.Act.TheVariants.{Opened, Enter, Synced, Shut, Release, Met, Told, Back, Crash, Issue, Read, Grant, Granted, GiveUp, Quit, Free, Counted, NotWhole, Range, Committed, RolledBack, Reached, Level, Done, Refused, Broke, Mended, Tick, Lose, Died}
use Rattle.plain_orders.specs.declared.entry.Entry.{Entry}
use Rattle.plain_orders.specs.declared.entry.Entry.TheVariants.{Epoch, Opened as OpenedEntry, Closed, Update, Commit, Rollback}
use Rattle.plain_orders.specs.declared.mode.Mode.{Mode}
use Rattle.plain_orders.specs.declared.layout.Layout.{Layout}
use Rattle.plain_orders.specs.declared.refused.Refused.{Refused as Refusal}
use Rattle.plain_orders.specs.declared.refused.Refused.TheVariants.{NoTransaction, TooDeep, RollbackOnly, LockTimeout, Network}
use Rattle.plain_orders.specs.declared.refused.ReasonName.{ReasonName}
use Rattle.plain_orders.specs.declared.refused.ReasonName.TheVariants.{Reset, Expired}
use Rattle.plain_orders.specs.declared.causes.Loss.{Loss}
use Rattle.plain_orders.specs.declared.causes.Loss.TheVariants.{Reset as ByReset, Expired as ByExpired, NoWay as ByNoWay}
use Rattle.plain_orders.specs.declared.causes.PairEnd.{PairEnd}
use Rattle.plain_orders.specs.declared.causes.PairEnd.TheVariants.{App as AppEnd, Server as ServerEnd}
use Rattle.plain_orders.specs.Entries.{last_epoch}
use Rattle.plain_orders.specs.Own.{Issued}
use Rattle.plain_runs.specs.Plain.{Plain, Server, Session, Entered, Hold, start, app_of, pair_session}
use Rattle.plain_runs.specs.Holds.{is_sent, is_of, is_lock, is_kept, is_asked, is_sent_at, answered_hold, given_up, released_hold, freed_hold, hold_after_back, hold_after_crash}
use Rattle.plain_runs.specs.OrderRows.{OpenedMay, EnterMay, CrashMay, entered, opened_with, crashed, came_back}
use Rattle.plain_runs.specs.EndRows.{MetMay, ToldMay, broke, lost, shut, met_by, told_of, begun_by, since_loss, new_session, without_session}
use Rattle.plain_runs.specs.JobRows.{refused, issues, txn_of}
use Rattle.plain_runs.specs.LockRows.{first_given, given_now, grants, granted, releases, gives_up, quits, frees}
use Rattle.plain_runs.specs.Step.{MayCome, after}
use Rattle.plain_runs.specs.Run.{IsRun, RunFrom, after_all, state_after}
use Rattle.plain_runs.specs.Laws.{server_after}
use Rattle.plain_runs.proofs.RunLemmas.{at_put, after_all-more, run_parts}
use Rattle.plain_runs.proofs.Orders.{Each, OrdersGo, OrdersKept, facet}
use Rattle.plain_runs.proofs.OrderLaws.{orders_kept}
use Rattle.plain_runs.proofs.HoldRows.{IssuedGrows, issued_of, sent_facts}
use Rattle.plain_runs.proofs.LockRows.{LocksKept, HoldOf, locks}
use Rattle.plain_runs.proofs.LockLaws.{locks_kept}
use Rattle.plain_runs.proofs.Bases.{ToldKept, sight, told_in, place_in, or_else}
use Rattle.plain_runs.proofs.SeenLaw.{told_kept}
use Rattle.plain_runs.proofs.ToldItems.{nth, last_nth}
use Rattle.trail_laws.proofs.Durable.{orders_go}
use Rattle.trail_laws.proofs.HoldGoes.{HoldGoes, Goes, Follow, stands, stands_low, stay_same, stay_longer, hold_same, hold_answered, hold_given, hold_released, hold_away, hold_crash, follow_same, follow_any, follow_map, follow_push, follow_first, follow_last, follow_on}

-- what this sees of a server
pub record Grip : Type 0 where
  pub past : List (List Entry)
  pub order : List Entry
  pub holds : List Hold
  pub ses : ℕ → Option Session
  pub ent : ℕ → Option Entered

abbrev pub grip : Server → Grip
grip s = record { past = s.past; order = s.order; holds = s.holds; ses = s.session_at; ent = s.entered_at }

-- the place of the order that a session is told of, or was entered in
abbrev pub base_of : Option Session → Option Entered → Option ℕ
base_of o e = or_else (told_in o) (place_in e)

-- such a place never falls
abbrev pub Based : Option ℕ → Option ℕ → Type 0
Based a b = (n : ℕ) → a ≡ Some n → (m : ℕ) × ((b ≡ Some m) × (n ≤ m))

pub record ServerGoes (s t : Grip) : Type 0 where
  pub holds : Follow (HoldGoes s.past s.order t.past t.order) s.holds t.holds
  pub issued : (n : ℕ) → IssuedGrows (s.ses n) (t.ses n)
  pub based : (n : ℕ) → Based (base_of (s.ses n) (s.ent n)) (base_of (t.ses n) (t.ent n))

abbrev All : Hold → Type 0
All h = Unit {0}

each_all : (hs : List Hold) → Each All hs
each_all [] = tt
each_all (h ∷ hs) = (tt, each_all hs)

issued_same : (o : Option Session) → IssuedGrows o o
issued_same o = ((λ e. e), ([], sym (append-nil (issued_of o))))

based_same : (o : Option ℕ) → Based o o
based_same o n e = (n, (e, omega arith))

based_to : (a b : Option ℕ) → a ≡ b → Based a b
based_to a b same n e = (n, (sym same ∙ e, omega arith))

pub still : (s : Server) (h : Hold) → Goes s.past s.order h h
still s h = hold_same s.past s.order s.past s.order h (λ _. stay_same h.at s.past s.order)

pub away : (s : Server) (h : Hold) (force x : Bool) → Goes s.past s.order h (record h { in_force = force; gone = h.gone || x })
away s h force x = hold_away s.past s.order s.past s.order h force x (λ _. stay_same h.at s.past s.order)

module _ (l : Layout) where
  abbrev G : Server → Server → Type 0
  G s t = OrdersKept (facet s) → LocksKept (locks s) → ToldKept l (sight s) → ServerGoes (grip s) (grip t)

  same : (s : Server) → G s s
  same s o k x = record { holds = follow_any (Goes s.past s.order) (still s) s.holds; issued = λ n. issued_same (s.session_at n); based = λ n. based_same (base_of (s.session_at n) (s.entered_at n)) }

  -- only holds change
  holds_goes : (s t : Server) → grip t ≡ record (grip s) { holds = t.holds } → Follow (Goes s.past s.order) s.holds t.holds → G s t
  holds_goes s t is f o k x = subst (ServerGoes (grip s)) (sym is) (record { holds = f; issued = λ n. issued_same (s.session_at n); based = λ n. based_same (base_of (s.session_at n) (s.entered_at n)) })

  -- only sessions change
  sessions_go : (s t : Server) → grip t ≡ record (grip s) { ses = t.session_at; ent = t.entered_at } → ((n : ℕ) → IssuedGrows (s.session_at n) (t.session_at n)) → ((n : ℕ) → Based (base_of (s.session_at n) (s.entered_at n)) (base_of (t.session_at n) (t.entered_at n)))
      → ServerGoes (grip s) (grip t)
  sessions_go s t is grows based = subst (ServerGoes (grip s)) (sym is) (record { holds = follow_any (Goes s.past s.order) (still s) s.holds; issued = grows; based = based })

  longer : (s : Server) (e : Entry) → OrdersKept (facet s) → LocksKept (locks s) → Follow (HoldGoes s.past s.order s.past (s.order ++ e ∷ [])) s.holds s.holds
  longer s e o k =
      follow_same (HoldOf (locks s)) (HoldGoes s.past s.order s.past (s.order ++ e ∷ []))
      (λ h x. hold_same s.past s.order s.past (s.order ++ e ∷ []) h (λ st. stay_longer h.at s.past s.order (e ∷ []) (stands_low s.order s.synced s.due s.session_at h o.within x st))) s.holds k.holds

  push_goes : (s t : Server) (e : Entry) → grip t ≡ record (grip s) { order = s.order ++ e ∷ [] } → G s t
  push_goes s t e is o k x = subst (ServerGoes (grip s)) (sym is) (record { holds = longer s e o k; issued = λ n. issued_same (s.session_at n); based = λ n. based_same (base_of (s.session_at n) (s.entered_at n)) })

  open_goes : (s : Server) (session app : ℕ) → G s (entered s (OpenedEntry session app))
  open_goes s session app o k x = record {
    holds = longer s (OpenedEntry session app) o k;
    issued = λ n. issued_same (s.session_at n);
    based = λ n. based n (eqb n session) (s.session_at n) refl;
  }
    where
      fresh : Option Entered
      fresh = Some (record { app = app; in_order = length s.past; lost_since = false })

      based : (n : ℕ) (b : Bool) (r : Option Session) → s.session_at n ≡ r → Based (base_of r (s.entered_at n)) (base_of r (if b then fresh else s.entered_at n))
      based n false r is = based_same (base_of r (s.entered_at n))
      based n true (Some m) is = based_same (Some m.told)
      based n true None is = λ i e. (length s.past, (refl, x.low n i (ap (λ r. or_else (told_in r) (place_in (s.entered_at n))) is ∙ e)))

  enter_goes : (clock : ℕ) (s : Server) (x : Entry) → EnterMay l clock s x → G s (entered s x)
  enter_goes clock s (Epoch number) may = absurd may
  enter_goes clock s (Closed session) may = absurd may
  enter_goes clock s (OpenedEntry session app) may = open_goes s session app
  enter_goes clock s (Update session w job txn op) may = push_goes s (entered s (Update session w job txn op)) (Update session w job txn op) refl
  enter_goes clock s (Commit session w job txn) may = push_goes s (entered s (Commit session w job txn)) (Commit session w job txn) refl
  enter_goes clock s (Rollback session w job txn) may = push_goes s (entered s (Rollback session w job txn)) (Rollback session w job txn) refl

  opened_goes : (clock round : ℕ) (s : Server) (entries : List Entry) → OpenedMay s entries → G s (opened_with clock round s entries)
  opened_goes clock round s entries may o k x = record {
    holds = subst (λ (hs : List Hold). Follow (HoldGoes s.past s.order s.past (opened_with clock round s entries).order) hs hs) (sym (k.fresh may.fresh)) tt;
    issued = λ n. issued_same (s.session_at n);
    based = λ n. based_same (base_of (s.session_at n) (s.entered_at n));
  }

  crash_goes : (clock round : ℕ) (s : Server) (kept : ℕ) → CrashMay s kept → G s (crashed clock round s kept)
  crash_goes clock round s kept may o k x = record {
    holds = follow_map (HoldOf (locks s)) (HoldGoes s.past s.order (s.past ++ s.order ∷ []) (take kept s.order ++ Epoch (last_epoch (take kept s.order) + 1) ∷ [])) (hold_after_crash (take kept s.order) kept)
        (λ h y. hold_crash s.past s.order s.synced s.due s.session_at kept (Epoch (last_epoch (take kept s.order) + 1)) h may.no_less may.within y) s.holds k.holds;
    issued = λ n. issued_same (s.session_at n);
    based = λ n. based_same (base_of (s.session_at n) (s.entered_at n));
  }

  met_goes : (s : Server) (app session : ℕ) → MetMay s app session → G s (met_by l s app session)
  met_goes s app session may o k x =
      sessions_go s (met_by l s app session) refl
      (λ n. at_put IssuedGrows s.session_at session _ issued_same ((λ e. refl), ([], fresh (s.session_at session) may.fresh)) n)
      (λ n. based n (eqb n session) refl)
    where
      fresh : (r : Option Session) → is_some r ≡ false → [] ≡ issued_of r ++ []
      fresh None e = refl
      fresh (Some m) e = absurd (cc (e))

      first : (r : Option Session) (e : Option Entered) → is_some r ≡ false → is_some e ≡ true → base_of r e ≡ Some (unwrap_or e (record { app = 0; in_order = 0; lost_since = false })).in_order
      first None (Some e) a b = refl
      first None None a b = absurd (cc (b))
      first (Some m) e a b = absurd (cc (a))

      based : (n : ℕ) (b : Bool) → eqb n session ≡ b → Based (base_of (s.session_at n) (s.entered_at n)) (base_of (if b then Some (new_session s app session) else s.session_at n) (s.entered_at n))
      based n true e = based_to _ _ (subst (λ m. base_of (s.session_at m) (s.entered_at m) ≡ Some (new_session s app session).told) (sym (eqb-true n session e)) (first (s.session_at session) (s.entered_at session) may.fresh may.entered))
      based n false e = based_same (base_of (s.session_at n) (s.entered_at n))

  told_goes : (s : Server) (app session epoch kept : ℕ) → ToldMay s app session epoch kept → G s (told_of l s app session epoch kept)
  told_goes s app session epoch kept may o k x =
      sessions_go s (told_of l s app session epoch kept) refl
      (λ n. at_put IssuedGrows s.session_at session _ issued_same (grows (s.session_at session)) n)
      (λ n. based n (eqb n session) refl)
    where
      change : Session → Session
      change m = record m { told = begun_by s epoch }

      grows : (r : Option Session) → IssuedGrows r (option_map change r)
      grows None = ((λ e. e), ([], refl))
      grows (Some m) = ((λ e. refl), ([], sym (append-nil m.issued)))

      rises : (r : Option Session) (e : Option Entered) → (unwrap_or r (record { app = 0; issued = []; told = 0 })).told < begun_by s epoch → Based (base_of r e) (base_of (option_map change r) e)
      rises None e low = based_same (base_of None e)
      rises (Some m) e low = λ n h. (begun_by s epoch, (refl, (let same : m.told ≡ n = cc (h) in omega (arith, low, same))))

      based : (n : ℕ) (b : Bool) → eqb n session ≡ b → Based (base_of (s.session_at n) (s.entered_at n)) (base_of (if b then option_map change (s.session_at session) else s.session_at n) (s.entered_at n))
      based n true e = subst (λ m. Based (base_of (s.session_at m) (s.entered_at m)) (base_of (option_map change (s.session_at session)) (s.entered_at m))) (sym (eqb-true n session e)) (rises (s.session_at session) (s.entered_at session) may.later)
      based n false e = based_same (base_of (s.session_at n) (s.entered_at n))

  issue_goes : (s : Server) (app : ℕ) (i : Issued) → G s (issues s app i)
  issue_goes s app i o k x =
      sessions_go s (issues s app i) refl
      (λ n. at_put IssuedGrows s.session_at (pair_session s app) _ issued_same (grows (s.session_at (pair_session s app))) n)
      (λ n. based_to _ _ (ap (λ r. or_else r (place_in (s.entered_at n))) (sym (at_put (λ a b. told_in b ≡ told_in a) s.session_at (pair_session s app) _ (λ a. refl) (told (s.session_at (pair_session s app))) n))))
    where
      grows : (r : Option Session) → IssuedGrows r (option_map (λ (m : Session). record m { issued = m.issued ++ i ∷ [] }) r)
      grows None = ((λ e. e), ([], refl))
      grows (Some m) = ((λ e. refl), (i ∷ [], refl))

      told : (r : Option Session) → told_in (option_map (λ (m : Session). record m { issued = m.issued ++ i ∷ [] }) r) ≡ told_in r
      told None = refl
      told (Some m) = refl

  granted_goes : (s : Server) (app job at : ℕ) → G s (granted s app job at)
  granted_goes s app job at =
      holds_goes s (granted s app job at) refl
      (follow_first (Goes s.past s.order) (is_sent_at (pair_session s app) job at) answered_hold (still s)
      (λ h e. hold_answered s.past s.order h (and_parts (is_sent h) (is_of (pair_session s app) job h && h.at == at) e).0) s.holds)

  give_goes : (s : Server) (app job : ℕ) (mode : Mode) (key : List ℕ) → G s (gives_up s app job mode key)
  give_goes s app job mode key =
      holds_goes s (gives_up s app job mode key) refl
      (follow_last (Goes s.past s.order) (is_kept (pair_session s app) job mode key) (given_up (given_now s (pair_session s app))) (still s) give s.holds)
    where
      give : (h : Hold) → is_kept (pair_session s app) job mode key h ≡ true → Goes s.past s.order h (given_up (given_now s (pair_session s app)) h)
      give h e =
          let a = and_parts (h.answered && not (is_some h.given)) (not h.gone && (is_of (pair_session s app) job h && is_lock mode key h)) e in
          let b = and_parts h.answered (not (is_some h.given)) a.0 in
          let c = and_parts (not h.gone) (is_of (pair_session s app) job h && is_lock mode key h) a.1 in
          hold_given s.past s.order (given_now s (pair_session s app)) h (not-true h.gone c.0) (not-true (is_some h.given) b.1)

  quit_goes : (s : Server) (app job : ℕ) (mode : Mode) (key : List ℕ) → G s (quits s app job mode key)
  quit_goes s app job mode key =
      holds_goes s (quits s app job mode key) refl
      (follow_first (Goes s.past s.order) (is_asked (pair_session s app) job mode key) (given_up (given_now s (pair_session s app))) (still s) give s.holds)
    where
      give : (h : Hold) → is_asked (pair_session s app) job mode key h ≡ true → Goes s.past s.order h (given_up (given_now s (pair_session s app)) h)
      give h e =
          let f = sent_facts h (and_parts (is_sent h) (is_of (pair_session s app) job h && is_lock mode key h) e).0 in
          hold_given s.past s.order (given_now s (pair_session s app)) h f.2 f.1

  broke_goes : (s : Server) (app : ℕ) (end : PairEnd) (time : ℕ) → G s (broke s app end time)
  broke_goes s app AppEnd time = same s
  broke_goes s app ServerEnd time = same s

  refused_goes : (p : Plain) (j : ℕ) (r : Refusal) (e : ℕ) → G (p.server_at e) ((refused p j r).server_at e)
  refused_goes p j NoTransaction e = same (p.server_at e)
  refused_goes p j TooDeep e = same (p.server_at e)
  refused_goes p j RollbackOnly e = same (p.server_at e)
  refused_goes p j LockTimeout e = same (p.server_at e)
  refused_goes p j (Network d state reason) e = at_put G p.server_at d _ same (same (p.server_at d)) e

  lose_goes : (s : Server) (app : ℕ) (reason : ReasonName) → G s (without_session l s app reason)
  lose_goes s app reason o k x =
      sessions_go s (without_session l s app reason) refl (λ n. issued_same (s.session_at n))
      (λ n. based_to _ _ (ap (or_else (told_in (s.session_at n))) (sym (place (s.entered_at n)))))
    where
      place : (e : Option Entered) → place_in (since_loss app e) ≡ place_in e
      place None = refl
      place (Some e) = refl

  lost_goes : (p : Plain) (app d : ℕ) (loss : Loss) (e : ℕ) → G (p.server_at e) ((lost l p app d loss).server_at e)
  lost_goes p app d (ByReset at) e = at_put G p.server_at d _ same (lose_goes (p.server_at d) app Reset) e
  lost_goes p app d (ByExpired time) e = at_put G p.server_at d _ same (lose_goes (p.server_at d) app Expired) e
  lost_goes p app d (ByNoWay from to) e = at_put G p.server_at d _ same (same (p.server_at d)) e

  row_goes : (p : Plain) (a : Act) (e : ℕ) → MayCome l p a → G (p.server_at e) ((after l p a).server_at e)
  row_goes p (Opened d entries) e may = at_put G p.server_at d _ same (opened_goes p.clock l.times.round (p.server_at d) entries may) e
  row_goes p (Enter d entry) e may = at_put G p.server_at d _ same (enter_goes p.clock (p.server_at d) entry may) e
  row_goes p (Synced d n) e may = at_put G p.server_at d _ same (same (p.server_at d)) e
  row_goes p (Shut d session cause) e may = at_put G p.server_at d _ same (push_goes (p.server_at d) (shut (p.server_at d) session) (Closed session) refl) e
  row_goes p (Release d session) e may = at_put G p.server_at d _ same (holds_goes (p.server_at d) (releases (p.server_at d) session) refl (follow_map All (Goes (p.server_at d).past (p.server_at d).order) (released_hold session) (λ h _. hold_released (p.server_at d).past (p.server_at d).order session h) (p.server_at d).holds (each_all (p.server_at d).holds))) e
  row_goes p (Met app d session) e may = at_put G p.server_at d _ same (met_goes (p.server_at d) app session may.1) e
  row_goes p (Told app d session epoch kept) e may = at_put G p.server_at d _ same (told_goes (p.server_at d) app session epoch kept may.1) e
  row_goes p (Back d) e may = at_put G p.server_at d _ same (holds_goes (p.server_at d) (came_back (p.server_at d)) refl (follow_map All (Goes (p.server_at d).past (p.server_at d).order) (hold_after_back (p.server_at d).order) (λ h _. away (p.server_at d) h h.in_force _) (p.server_at d).holds (each_all (p.server_at d).holds))) e
  row_goes p (Crash d kept) e may = at_put G p.server_at d _ same (crash_goes p.clock l.times.round (p.server_at d) kept may) e
  row_goes p (Issue job line d w item) e may = at_put G p.server_at d _ same (issue_goes (p.server_at d) (app_of l job) (record { item = item; txn = txn_of (p.job_at job) item; job = job; line = line })) e
  row_goes p (Read job line d at via question) e may = at_put G p.server_at d _ same (same (p.server_at d)) e
  row_goes p (Grant d session job mode key at) e may = at_put G p.server_at d _ same (holds_goes (p.server_at d) (grants (p.server_at d) session job mode key at) refl (follow_push (Goes (p.server_at d).past (p.server_at d).order) (still (p.server_at d)) (p.server_at d).holds _)) e
  row_goes p (Granted job line d at) e may = at_put G p.server_at d _ same (granted_goes (p.server_at d) (app_of l job) job at) e
  row_goes p (GiveUp job line d mode key) e may = at_put G p.server_at d _ same (give_goes (p.server_at d) (app_of l job) job mode key) e
  row_goes p (Quit job line d mode key) e may = at_put G p.server_at d _ same (quit_goes (p.server_at d) (app_of l job) job mode key) e
  row_goes p (Free d session job mode key) e may = at_put G p.server_at d _ same (holds_goes (p.server_at d) (frees (p.server_at d) session job mode key) refl (follow_map All (Goes (p.server_at d).past (p.server_at d).order) (freed_hold (first_given (p.server_at d) session job mode key) session job mode key) (λ h _. away (p.server_at d) h h.in_force _) (p.server_at d).holds (each_all (p.server_at d).holds))) e
  row_goes p (Counted job line d at sum) e may = at_put G p.server_at d _ same (same (p.server_at d)) e
  row_goes p (NotWhole job line d at) e may = at_put G p.server_at d _ same (same (p.server_at d)) e
  row_goes p (Range job line d at) e may = at_put G p.server_at d _ same (same (p.server_at d)) e
  row_goes p (Committed job line d at) e may = at_put G p.server_at d _ same (same (p.server_at d)) e
  row_goes p (RolledBack job line d at) e may = at_put G p.server_at d _ same (same (p.server_at d)) e
  row_goes p (Reached job line d at) e may = at_put G p.server_at d _ same (same (p.server_at d)) e
  row_goes p (Level job line level) e may = same (p.server_at e)
  row_goes p (Done job line) e may = same (p.server_at e)
  row_goes p (Refused job line refusal) e may = refused_goes p job refusal e
  row_goes p (Broke app d end time) e may = at_put G p.server_at d _ same (broke_goes (p.server_at d) app end time) e
  row_goes p (Mended app d) e may = at_put G p.server_at d _ same (same (p.server_at d)) e
  row_goes p (Tick time) e may = same (p.server_at e)
  row_goes p (Lose app d loss) e may = lost_goes p app d loss e
  row_goes p (Died app) e may = same (p.server_at e)

-- on from one server to a later one and to one more
go_on : (s t u : Server) → OrdersGo (facet s) (facet t) → OrdersGo (facet t) (facet u) → ServerGoes (grip s) (grip t) → ServerGoes (grip t) (grip u) → ServerGoes (grip s) (grip u)
go_on s t u before later a b = record {
  holds = follow_on (HoldGoes s.past s.order t.past t.order) (HoldGoes t.past t.order u.past u.order) (HoldGoes s.past s.order u.past u.order) hold s.holds t.holds u.holds a.holds b.holds;
  issued = λ n. issued (s.session_at n) (t.session_at n) (u.session_at n) (a.issued n) (b.issued n);
  based = λ n m e. let x = a.based n m e in let y = b.based n x.0 x.1.0 in (y.0, (y.1.0, omega (arith, x.1.1, y.1.1)));
}
  where
    issued : (x y z : Option Session) → IssuedGrows x y → IssuedGrows y z → IssuedGrows x z
    issued x y z f g = ((λ e. g.0 (f.0 e)), (f.1.0 ++ g.1.0, g.1.1 ∙ ap (λ (is : List Issued). is ++ g.1.0) f.1.1 ∙ append_assoc (issued_of x) f.1.0 g.1.0))

    hold : (h k m : Hold) → HoldGoes s.past s.order t.past t.order h k → HoldGoes t.past t.order u.past u.order k m → HoldGoes s.past s.order u.past u.order h m
    hold h k m f g = record {
      session = g.session ∙ f.session;
      job = g.job ∙ f.job;
      at = g.at ∙ f.at;
      frozen = λ e. let x = f.frozen e in let y = g.frozen x.0 in (y.0, y.1 ∙ x.1, y.2 ∙ x.2);
      answered = λ e. g.answered (f.answered e);
      given = λ x e. g.given x (f.given x e);
      stood = λ e. f.stood (g.stood e);
      stays = λ e j low high. go e j low high (cases_lt j (length t.past));
    }
      where
        go : stands m ≡ true → (j : ℕ) → length s.past ≤ j → j ≤ length u.past → (j < length t.past) ⊎ (length t.past ≤ j) → take h.at (nth u.past u.order j) ≡ take h.at s.order
        go e j low high (inl under) = ap (take h.at) (later.past j under) ∙ f.stays (g.stood e) j low (omega (arith, under))
        go e j low high (inr over) =
            subst (λ n. take n (nth u.past u.order j) ≡ take n t.order) f.at (g.stays e j over high)
            ∙ ap (take h.at) (sym (last_nth t.past t.order)) ∙ f.stays (g.stood e) (length t.past) before.more (omega arith)

-- along a run
pub goes : (l : Layout) (before later : List Act) (d : ℕ) → IsRun l (before ++ later) → ServerGoes (grip (server_after l before d)) (grip (server_after l (before ++ later) d))
goes l before [] d run =
    subst (λ (as_ : List Act). ServerGoes (grip (server_after l before d)) (grip (server_after l as_ d))) (sym (append-nil before))
    (same l (server_after l before d) (orders_kept l before d whole) (locks_kept l before d whole) (told_kept l before d whole))
  where
    whole : IsRun l before
    whole = subst (IsRun l) (append-nil before) run
goes l before (a ∷ later) d run =
    subst (λ (as_ : List Act). ServerGoes (grip (server_after l before d)) (grip (server_after l as_ d))) whole
    (go_on (server_after l before d) (server_after l (before ++ a ∷ []) d) (server_after l ((before ++ a ∷ []) ++ later) d)
    (orders_go l before (a ∷ []) d (run_parts l start (before ++ a ∷ []) later on).0) (orders_go l (before ++ a ∷ []) later d on) step (goes l (before ++ a ∷ []) later d on))
  where
    whole : (before ++ a ∷ []) ++ later ≡ before ++ a ∷ later
    whole = append_assoc before (a ∷ []) later

    on : IsRun l ((before ++ a ∷ []) ++ later)
    on = subst (IsRun l) (sym whole) run

    parts : RunFrom l start before × RunFrom l (after_all l start before) (a ∷ later)
    parts = run_parts l start before (a ∷ later) run

    step : ServerGoes (grip (server_after l before d)) (grip (server_after l (before ++ a ∷ []) d))
    step =
        subst (λ (p : Plain). ServerGoes (grip (server_after l before d)) (grip (p.server_at d))) (sym (after_all-more l start before a))
        (row_goes l (state_after l before) a d parts.1.0 (orders_kept l before d parts.0) (locks_kept l before d parts.0) (told_kept l before d parts.0))
