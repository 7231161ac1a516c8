-- A holder that is answered has seen the entries that stood when its lock was granted.
use Rattle.std.proofs.Common.{◌≡◌, ℕ, ◌≤◌, ◌<◌, ◌+◌, min, max, List, [], ◌∷◌, ◌++◌, length, take, map, refl, subst, sym, ap, ◌∙◌, Bool, true, false, eqb, if◌then◌else◌, arith, length-append, ◌⊎◌, inl, inr, Option, Some, None, ◌&&◌, ◌||◌, not, ◌==◌}
use Rattle.plain_orders.specs.declared.act.Act.TheVariants.{Opened, Enter, Synced, Shut, Release, Met, Told, Back, Crash, Issue, Read, Grant, Granted, GiveUp, Quit, Free, Counted, NotWhole, Range, Committed, RolledBack, Reached, Level, Done, Refused, Broke, Mended, Tick, Lose, Died}
use Rattle.std.specs.Prelude.{is_some, unwrap_or}
use Rattle.std.specs.Option.{option_map}
use Rattle.std.proofs.lemmas.Bool.{and_parts, not-true, cases_lt, eqb-true}
use Rattle.plain_orders.specs.declared.act.Act.{Act}
use Rattle.plain_orders.specs.declared.entry.Entry.{Entry}
use Rattle.plain_orders.specs.declared.entry.Entry.TheVariants.{Epoch, Opened as OpenedEntry, Closed, Update, Commit, Rollback}
use Rattle.plain_orders.specs.declared.mode.Mode.{Mode}
use Rattle.plain_orders.specs.declared.layout.Layout.{Layout}
use Rattle.plain_orders.specs.declared.refused.Refused.{Refused as Refusal}
use Rattle.plain_orders.specs.declared.refused.Refused.TheVariants.{NoTransaction, TooDeep, RollbackOnly, LockTimeout, Network}
use Rattle.plain_orders.specs.declared.refused.ReasonName.{ReasonName}
use Rattle.plain_orders.specs.declared.refused.ReasonName.TheVariants.{Reset, Expired}
use Rattle.plain_orders.specs.declared.causes.Loss.{Loss}
use Rattle.plain_orders.specs.declared.causes.Loss.TheVariants.{Reset as ByReset, Expired as ByExpired, NoWay as ByNoWay}
use Rattle.plain_orders.specs.declared.causes.PairEnd.{PairEnd}
use Rattle.plain_orders.specs.declared.causes.PairEnd.TheVariants.{App as AppEnd, Server as ServerEnd}
use Rattle.plain_orders.specs.Entries.{last_epoch}
use Rattle.plain_orders.specs.Own.{Issued}
use Rattle.plain_runs.specs.Plain.{Plain, Server, Session, Entered, Hold, start, app_of, pair_session}
use Rattle.plain_runs.specs.Holds.{is_sent, is_of, is_lock, is_kept, is_asked, is_sent_at, answered_hold, given_up, released_hold, freed_hold, hold_after_back, hold_after_crash}
use Rattle.plain_runs.specs.OrderRows.{OpenedMay, EnterMay, CrashMay, entered, opened_with, crashed, came_back}
use Rattle.plain_runs.specs.EndRows.{MetMay, ToldMay, broke, lost, shut, met_by, told_of, begun_by, since_loss, new_session, without_session}
use Rattle.plain_runs.specs.JobRows.{refused, issues, txn_of}
use Rattle.plain_runs.specs.LockRows.{first_given, given_now, grants, granted, releases, gives_up, quits, frees}
use Rattle.plain_runs.specs.Step.{MayCome, after}
use Rattle.plain_runs.specs.Run.{IsRun, state_after}
use Rattle.plain_runs.specs.Laws.{server_after}
use Rattle.plain_runs.proofs.RunLemmas.{at_put, after_all-more}
use Rattle.plain_runs.proofs.Orders.{Each, OrdersKept, facet}
use Rattle.plain_runs.proofs.OrderLaws.{orders_kept}
use Rattle.plain_runs.proofs.HoldRows.{sent_facts}
use Rattle.plain_runs.proofs.LockRows.{LocksKept, HoldOf, locks}
use Rattle.plain_runs.proofs.LockLaws.{locks_kept}
use Rattle.plain_runs.proofs.Bases.{ToldKept, sight, told_in, place_in, or_else}
use Rattle.plain_runs.proofs.SeenLaw.{told_kept}
use Rattle.plain_runs.proofs.ToldItems.{nth}
use Rattle.trail_laws.proofs.HoldGoes.{Goes, stands, stands_low, stay_same, stay_longer, hold_same, hold_answered, hold_given, hold_released, hold_crash}
use Rattle.std.proofs.lemmas.Bool.{eq-eqb}
use Rattle.std.proofs.lemmas.Option.{same_Some}
use Rattle.trail_laws.proofs.HoldGoes.{Stay}
use Rattle.plain_runs.specs.Plain.{put, session_in}
use Rattle.plain_orders.specs.Ordered.{IsOrdered}
use Rattle.plain_orders.specs.Sessions.{place_of_epoch}
use Rattle.plain_runs.specs.Plain.{Known, Pair, order_at, runs_on}
use Rattle.plain_runs.specs.Holds.{new_hold}
use Rattle.plain_runs.specs.EndRows.{knows_noway, knows_loss}
use Rattle.plain_runs.specs.JobRows.{acts}
use Rattle.plain_runs.specs.LockRows.{GrantMay, first_quit, is_quit}
use Rattle.plain_runs.specs.Plain.{with_known}
use Rattle.plain_runs.proofs.Lists.{both_ways}
use Rattle.plain_runs.proofs.LockRows.{each_at, each_first, each_last, each_push}
use Rattle.plain_runs.proofs.Bases.{owner_in}
use Rattle.plain_runs.proofs.Ordered.{each_is_ordered}
use Rattle.plain_runs.proofs.ToldItems.{before_stays}
use Rattle.plain_runs.proofs.HoldRows.{of_facts}
use Rattle.std.proofs.lemmas.List.{get_or_append_left}
use Rattle.trail_laws.specs.LockLaw.{HoldIsSeen}
use Rattle.trail_laws.proofs.Seen.{runs_its}
use Rattle.trail_laws.proofs.SeenRuns.{run_induction}
use Rattle.trail_laws.proofs.Prefixes.{begun_low, none_above, place_front, place_whole}
use Rattle.trail_laws.proofs.ServerGoes.{away, base_of, still}
use Rattle.trail_laws.proofs.HeldSeen.{View, HoldSeen, Onward, agree_on, hold_on, view}

module _ (l : Layout) where
  abbrev R : Server → Server → Type 0
  R s t = OrdersKept (facet s) → LocksKept (locks s) → ToldKept l (sight s) → ((i : ℕ) → IsOrdered (order_at s i)) → Each (HoldSeen l (view s)) s.holds → Each (HoldSeen l (view t)) t.holds

  same : (s : Server) → R s s
  same s o k x d e = e

  -- the view with its orders as they were
  calm : (s : Server) (w : View) → w.past ≡ s.past → w.order ≡ s.order → ToldKept l (sight s) → ((n b : ℕ) → w.base n ≡ Some b → ((c : ℕ) × (((view s).base n ≡ Some c) × (c ≤ b))) ⊎ (b ≡ length w.past)) → Onward (view s) w
  calm s w p o x base = record {
    more = omega (arith, ap length p);
    past = λ i low. ap (λ (ps : List (List Entry)). nth ps w.order i) p ∙ ap (λ (es : List Entry). nth s.past es i) o;
    base = base;
    low = x.low;
  }

  -- holds are mapped, and the rest stays
  mapped_held : (s t : Server) (f : Hold → Hold) → view t ≡ view s → t.holds ≡ map f s.holds → ((h : Hold) → Goes s.past s.order h (f h)) → ((h : Hold) → (f h).answered ≡ true → h.answered ≡ true) → R s t
  mapped_held s t f v hs g ans o k x d e =
      subst (λ (w : View). Each (HoldSeen l w) t.holds) (sym v)
      (subst (Each (HoldSeen l (view s))) (sym hs)
      (map_each f (λ h y. hold_on l (view s) (view s) h (f h) (calm s (view s) refl refl x (λ n b i. inl (b, (i, omega arith)))) (λ a n p. p) (λ j. omega arith) (g h) (ans h) y) s.holds e))
    where
      map_each : (f : Hold → Hold) → ((h : Hold) → HoldSeen l (view s) h → HoldSeen l (view s) (f h)) → (hs : List Hold) → Each (HoldSeen l (view s)) hs → Each (HoldSeen l (view s)) (map f hs)
      map_each f step [] e = tt
      map_each f step (h ∷ hs) e = (step h e.0, map_each f step hs e.1)

  -- the view changes under the same holds
  viewed : (s : Server) (w : View) (hs : List Hold) → w.past ≡ s.past → w.order ≡ s.order → ToldKept l (sight s) → ((n b : ℕ) → w.base n ≡ Some b → ((c : ℕ) × (((view s).base n ≡ Some c) × (c ≤ b))) ⊎ (b ≡ length w.past))
      → ((a n : ℕ) → w.pair a ≡ Some n → (view s).pair a ≡ Some n) → ((j : ℕ) → (view s).seen j ≤ w.seen j) → Each (HoldSeen l (view s)) hs → Each (HoldSeen l w) hs
  viewed s w [] p o x base pair seen e = tt
  viewed s w (h ∷ hs) p o x base pair seen e = (
    hold_on l (view s) w h h (calm s w p o x base) pair seen
        (hold_same s.past s.order w.past w.order h (λ _. subst (λ (q : List (List Entry)). Stay h.at s.past s.order q w.order) (sym p) (subst (λ (q : List Entry). Stay h.at s.past s.order s.past q) (sym o) (stay_same h.at s.past s.order)))) (λ a. a) e.0,
    viewed s w hs p o x base pair seen e.1,
  )

  base_kept : (s : Server) (n b : ℕ) (m : ℕ) → (view s).base n ≡ Some b → ((c : ℕ) × (((view s).base n ≡ Some c) × (c ≤ b))) ⊎ (b ≡ m)
  base_kept s n b m i = inl (b, (i, omega arith))

  known_held : (s : Server) (job : ℕ) (x : Known) → (s.known_at job).seen ≤ x.seen → R s (with_known s job x)
  known_held s job x low o k t d e =
      viewed s (view (with_known s job x)) s.holds refl refl t (λ n b i. base_kept s n b _ i) (λ a n p. p)
      (λ j. at_put (λ (y z : Known). y.seen ≤ z.seen) s.known_at job x (λ y. omega arith) low j) e

  -- the order is longer under the same holds
  longer : (s : Server) (w : View) (e : Entry) → w.past ≡ s.past → w.order ≡ s.order ++ e ∷ [] → OrdersKept (facet s) → ToldKept l (sight s) → ((n b : ℕ) → w.base n ≡ Some b → ((c : ℕ) × (((view s).base n ≡ Some c) × (c ≤ b))) ⊎ (b ≡ length w.past))
      → ((a n : ℕ) → w.pair a ≡ Some n → (view s).pair a ≡ Some n) → ((j : ℕ) → (view s).seen j ≤ w.seen j) → (hs : List Hold) → Each (HoldOf (locks s)) hs → Each (HoldSeen l (view s)) hs → Each (HoldSeen l w) hs
  longer s w e p q o x base pair seen [] k all = tt
  longer s w e p q o x base pair seen (h ∷ hs) k all =
      (hold_on l (view s) w h h on pair seen (hold_same s.past s.order w.past w.order h stays) (λ a. a) all.0, longer s w e p q o x base pair seen hs k.1 all.1)
    where
      on : Onward (view s) w
      on = record {
        more = omega (arith, ap length p);
        past = λ i low. ap (λ (ps : List (List Entry)). nth ps w.order i) p ∙ ap (λ (es : List Entry). nth s.past es i) q ∙ before_stays s.past s.order (s.order ++ e ∷ []) i low;
        base = base;
        low = x.low;
      }

      stays : stands h ≡ true → Stay h.at s.past s.order w.past w.order
      stays st =
          subst (λ (ps : List (List Entry)). Stay h.at s.past s.order ps w.order) (sym p)
          (subst (λ (es : List Entry). Stay h.at s.past s.order s.past es) (sym q) (stay_longer h.at s.past s.order (e ∷ []) (stands_low s.order s.synced s.due s.session_at h o.within k.0 st)))

  push_held : (s t : Server) (e : Entry) → view t ≡ record (view s) { order = s.order ++ e ∷ [] } → t.holds ≡ s.holds → R s t
  push_held s t e v hs o k x d all =
      subst (λ (w : View). Each (HoldSeen l w) t.holds) (sym v)
      (subst (Each (HoldSeen l (record (view s) { order = s.order ++ e ∷ [] }))) (sym hs) (longer s (record (view s) { order = s.order ++ e ∷ [] }) e refl refl o x (λ n b i. base_kept s n b _ i) (λ a n p. p) (λ j. omega arith) s.holds k.holds all))

  open_held : (s : Server) (session app : ℕ) → R s (entered s (OpenedEntry session app))
  open_held s session app o k x d all = longer s (view (entered s (OpenedEntry session app))) (OpenedEntry session app) refl refl o x (λ n b i. base n b (eqb n session) (s.session_at n) refl i) (λ a n p. p) (λ j. omega arith) s.holds k.holds all
    where
      fresh : Option Entered
      fresh = Some (record { app = app; in_order = length s.past; lost_since = false })

      base : (n b : ℕ) (c : Bool) (r : Option Session) → s.session_at n ≡ r → base_of (s.session_at n) (if c then fresh else s.entered_at n) ≡ Some b → ((m : ℕ) × ((base_of (s.session_at n) (s.entered_at n) ≡ Some m) × (m ≤ b))) ⊎ (b ≡ length s.past)
      base n b false r is i = inl (b, (i, omega arith))
      base n b true None is i = inr (let here : length s.past ≡ b = same_Some _ _ (subst (λ (y : Option Session). base_of y fresh ≡ Some b) is i) in sym here)
      base n b true (Some m) is i =
          inl (b, (subst (λ (y : Option Session). base_of y (s.entered_at n) ≡ Some b) (sym is) (subst (λ (y : Option Session). base_of y fresh ≡ Some b) is i), omega arith))

  enter_held : (clock : ℕ) (s : Server) (x : Entry) → EnterMay l clock s x → R s (entered s x)
  enter_held clock s (Epoch number) may = absurd may
  enter_held clock s (Closed session) may = absurd may
  enter_held clock s (OpenedEntry session app) may = open_held s session app
  enter_held clock s (Update session w job txn op) may = push_held s (entered s (Update session w job txn op)) (Update session w job txn op) refl refl
  enter_held clock s (Commit session w job txn) may = push_held s (entered s (Commit session w job txn)) (Commit session w job txn) refl refl
  enter_held clock s (Rollback session w job txn) may = push_held s (entered s (Rollback session w job txn)) (Rollback session w job txn) refl refl

  opened_held : (clock round : ℕ) (s : Server) (entries : List Entry) → OpenedMay s entries → R s (opened_with clock round s entries)
  opened_held clock round s entries may o k x d all = subst (Each (HoldSeen l (view (opened_with clock round s entries)))) (sym (k.fresh may.fresh)) tt

  crash_held : (clock round : ℕ) (s : Server) (kept : ℕ) → CrashMay s kept → R s (crashed clock round s kept)
  crash_held clock round s kept may o k x d all = go s.holds k.holds all
    where
      last : Entry
      last = Epoch (last_epoch (take kept s.order) + 1)

      w : View
      w = view (crashed clock round s kept)

      on : Onward (view s) w
      on = record {
        more = omega (arith, length-append s.past (s.order ∷ []));
        past = λ i low. get_or_append_left (s.past ++ s.order ∷ []) ((take kept s.order ++ last ∷ []) ∷ []) [] i (omega (arith, low, length-append s.past (s.order ∷ [])));
        base = λ n b i. base_kept s n b _ i;
        low = x.low;
      }

      go : (hs : List Hold) → Each (HoldOf (locks s)) hs → Each (HoldSeen l (view s)) hs → Each (HoldSeen l w) (map (hold_after_crash (take kept s.order) kept) hs)
      go [] y e = tt
      go (h ∷ hs) y e =
          (hold_on l (view s) w h (hold_after_crash (take kept s.order) kept h) on (λ a n p. p) (λ j. omega arith) (hold_crash s.past s.order s.synced s.due s.session_at kept last h may.no_less may.within y.0) (λ a. a) e.0, go hs y.1 e.1)

  session_same : (s : Server) (n : ℕ) (f : Session → Session) → ((m : Session) → (f m).told ≡ m.told) → (i b : ℕ) → base_of (put s.session_at n (option_map f (s.session_at n)) i) (s.entered_at i) ≡ Some b → base_of (s.session_at i) (s.entered_at i) ≡ Some b
  session_same s n f is i b e = ap (λ r. or_else r (place_in (s.entered_at i))) (sym (at_put (λ x y. told_in y ≡ told_in x) s.session_at n (option_map f (s.session_at n)) (λ x. refl) (here (s.session_at n)) i)) ∙ e
    where
      here : (r : Option Session) → told_in (option_map f r) ≡ told_in r
      here None = refl
      here (Some m) = ap Some (is m)

  issue_held : (s : Server) (app : ℕ) (i : Issued) → R s (issues s app i)
  issue_held s app i o k x d e =
      viewed s (view (issues s app i)) s.holds refl refl x (λ n b q. inl (b, (session_same s (pair_session s app) (λ m. record m { issued = m.issued ++ i ∷ [] }) (λ m. refl) n b q, omega arith))) (λ a n p. p)
      (λ j. at_put (λ (y z : Known). y.seen ≤ z.seen) s.known_at i.job (acts (s.known_at i.job)) (λ y. omega arith) (omega arith) j) e

  grant_held : (s : Server) (session job : ℕ) (mode : Mode) (key : List ℕ) (at : ℕ) → GrantMay s session job mode key at → R s (grants s session job mode key at)
  grant_held s session job mode key at may o k x d e = each_push (HoldSeen l (view s)) s.holds (new_hold session job mode key at (first_quit (is_quit session job mode key) s.quits)) e (record {
    seen = λ a. absurd (cc (a));
    agree = λ st b j is low high.
        let now : length s.past ≡ b = same_Some _ _ (sym (x.up may.up session may.is_live) ∙ is) in
        let here : j ≡ b = omega (arith, now, low, high) in
        ap (λ i. take at (nth s.past s.order i)) here;
  })

  -- holds change one by one under the same view
  kept_hold : (s : Server) (h k : Hold) → ToldKept l (sight s) → Goes s.past s.order h k → (k.answered ≡ true → h.answered ≡ true) → HoldSeen l (view s) h → HoldSeen l (view s) k
  kept_hold s h k x g ans y = hold_on l (view s) (view s) h k (calm s (view s) refl refl x (λ n b i. base_kept s n b _ i)) (λ a n p. p) (λ j. omega arith) g ans y

  rise_acts : (s : Server) (job : ℕ) (hs : List Hold) → ToldKept l (sight s) → Each (HoldSeen l (view s)) hs → Each (HoldSeen l (view (with_known s job (acts (s.known_at job))))) hs
  rise_acts s job hs x e =
      viewed s (view (with_known s job (acts (s.known_at job)))) hs refl refl x (λ n b i. base_kept s n b _ i) (λ a n p. p)
      (λ j. at_put (λ (y z : Known). y.seen ≤ z.seen) s.known_at job (acts (s.known_at job)) (λ y. omega arith) (omega arith) j) e

  give_held : (s : Server) (app job : ℕ) (mode : Mode) (key : List ℕ) → R s (gives_up s app job mode key)
  give_held s app job mode key o k x d e = rise_acts s job (gives_up s app job mode key).holds x (each_last (HoldSeen l (view s)) (is_kept (pair_session s app) job mode key) (given_up (given_now s (pair_session s app))) give s.holds e)
    where
      give : (h : Hold) → is_kept (pair_session s app) job mode key h ≡ true → HoldSeen l (view s) h → HoldSeen l (view s) (given_up (given_now s (pair_session s app)) h)
      give h q y =
          let a = and_parts (h.answered && not (is_some h.given)) (not h.gone && (is_of (pair_session s app) job h && is_lock mode key h)) q in
          let b = and_parts h.answered (not (is_some h.given)) a.0 in
          let c = and_parts (not h.gone) (is_of (pair_session s app) job h && is_lock mode key h) a.1 in
          kept_hold s h _ x (hold_given s.past s.order (given_now s (pair_session s app)) h (not-true h.gone c.0) (not-true (is_some h.given) b.1)) (λ z. z) y

  quit_held : (s : Server) (app job : ℕ) (mode : Mode) (key : List ℕ) → R s (quits s app job mode key)
  quit_held s app job mode key o k x d e = rise_acts s job (quits s app job mode key).holds x (each_first (HoldSeen l (view s)) (is_asked (pair_session s app) job mode key) (given_up (given_now s (pair_session s app))) give s.holds e)
    where
      give : (h : Hold) → is_asked (pair_session s app) job mode key h ≡ true → HoldSeen l (view s) h → HoldSeen l (view s) (given_up (given_now s (pair_session s app)) h)
      give h q y =
          let f = sent_facts h (and_parts (is_sent h) (is_of (pair_session s app) job h && is_lock mode key h) q).0 in
          kept_hold s h _ x (hold_given s.past s.order (given_now s (pair_session s app)) h f.2 f.1) (λ z. z) y

  -- a grant is answered: first its job sees its entries
  granted_held : (s : Server) (job at : ℕ) → R s (granted s (app_of l job) job at)
  granted_held s job at o k x d e = each_first (HoldSeen l w) (is_sent_at (pair_session s (app_of l job)) job at) answered_hold answer s.holds (known_held s job (record (acts (s.known_at job)) { seen = max (s.known_at job).seen at }) (omega arith) o k x d e)
    where
      w : View
      w = view (granted s (app_of l job) job at)

      reach : at ≤ w.seen job
      reach = subst (λ (b : Bool). at ≤ (if b then record (acts (s.known_at job)) { seen = max (s.known_at job).seen at } else s.known_at job).seen) (sym (eq-eqb job job refl)) (omega arith)

      answer : (h : Hold) → is_sent_at (pair_session s (app_of l job)) job at h ≡ true → HoldSeen l w h → HoldSeen l w (answered_hold h)
      answer h q y =
          let a = and_parts (is_sent h) (is_of (pair_session s (app_of l job)) job h && h.at == at) q in
          let b = and_parts (is_of (pair_session s (app_of l job)) job h) (h.at == at) a.1 in
          let its : h.job ≡ job = (of_facts (pair_session s (app_of l job)) job h b.0).1 in
          record {
            seen = λ _ _. subst (λ j. h.at ≤ w.seen j) (sym its) (omega (arith, eqb-true h.at at b.1, reach));
            agree = λ st. y.agree ((hold_answered s.past s.order h a.0).stood st);
          }

  met_held : (s : Server) (app session : ℕ) → MetMay s app session → R s (met_by l s app session)
  met_held s app session may o k x d e = go s.holds k.holds e
    where
      w : View
      w = view (met_by l s app session)

      first : (r : Option Session) (f : Option Entered) → is_some r ≡ false → is_some f ≡ true → base_of r f ≡ Some (unwrap_or f (record { app = 0; in_order = 0; lost_since = false })).in_order
      first None (Some f) a b = refl
      first None None a b = absurd (cc (b))
      first (Some m) f a b = absurd (cc (a))

      base : (n b : ℕ) (c : Bool) → eqb n session ≡ c → base_of (if c then Some (new_session s app session) else s.session_at n) (s.entered_at n) ≡ Some b → ((m : ℕ) × ((base_of (s.session_at n) (s.entered_at n) ≡ Some m) × (m ≤ b))) ⊎ (b ≡ length s.past)
      base n b false q i = inl (b, (i, omega arith))
      base n b true q i =
          inl (b, (subst (λ m. base_of (s.session_at m) (s.entered_at m) ≡ Some (new_session s app session).told) (sym (eqb-true n session q)) (first (s.session_at session) (s.entered_at session) may.fresh may.entered) ∙ i, omega arith))

      -- the session is new: no hold of it is answered
      seen : (h : Hold) → HoldOf (locks s) h → HoldSeen l (view s) h → h.answered ≡ true → (c : Bool) → eqb (app_of l h.job) app ≡ c → (if c then record { session = Some session; broke = None } else s.pair_at (app_of l h.job)).session ≡ Some h.session → h.at ≤ w.seen h.job
      seen h y z a true q p =
          let its : session ≡ h.session = same_Some session h.session p in
          let met : is_some (s.session_at h.session) ≡ true = y.met (ap (λ (b : Bool). b || is_some h.given) a) in
          absurd (both_ways (is_some (s.session_at session)) (subst (λ m. is_some (s.session_at m) ≡ true) (sym its) met) may.fresh)
      seen h y z a false q p = go (runs_on l app h.job) refl
        where
          go : (b : Bool) → runs_on l app h.job ≡ b → h.at ≤ (if b then record (s.known_at h.job) { seen = session; acted = false } else s.known_at h.job).seen
          go true r = absurd (both_ways (eqb (app_of l h.job) app) (eq-eqb (app_of l h.job) app (runs_its l app h.job r)) q)
          go false r = z.seen a p

      go : (hs : List Hold) → Each (HoldOf (locks s)) hs → Each (HoldSeen l (view s)) hs → Each (HoldSeen l w) hs
      go [] y z = tt
      go (h ∷ hs) y z = (
        record {
          seen = λ a p. seen h y.0 z.0 a (eqb (app_of l h.job) app) refl p;
          agree = agree_on l (view s) w h h (calm s w refl refl x (λ n b i. base n b (eqb n session) refl i)) (still s h) z.0;
        },
        go hs y.1 z.1,
      )

  told_held : (s : Server) (app session epoch kept : ℕ) → ToldMay s app session epoch kept → R s (told_of l s app session epoch kept)
  told_held s app session epoch kept may o k x d e = go s.holds e
    where
      w : View
      w = view (told_of l s app session epoch kept)

      change : Session → Session
      change m = record m { told = begun_by s epoch }

      rises : (r : Option Session) (f : Option Entered) (b : ℕ) → (unwrap_or r (record { app = 0; issued = []; told = 0 })).told < begun_by s epoch → base_of (option_map change r) f ≡ Some b → (c : ℕ) × ((base_of r f ≡ Some c) × (c ≤ b))
      rises None f b low i = (b, (i, omega arith))
      rises (Some m) f b low i = (m.told, (refl, (let now : begun_by s epoch ≡ b = same_Some _ _ i in omega (arith, low, now))))

      base : (n b : ℕ) (c : Bool) → eqb n session ≡ c → base_of (if c then option_map change (s.session_at session) else s.session_at n) (s.entered_at n) ≡ Some b → ((m : ℕ) × ((base_of (s.session_at n) (s.entered_at n) ≡ Some m) × (m ≤ b))) ⊎ (b ≡ length s.past)
      base n b false q i = inl (b, (i, omega arith))
      base n b true q i =
          inl (subst (λ m. (c : ℕ) × ((base_of (s.session_at m) (s.entered_at m) ≡ Some c) × (c ≤ b))) (sym (eqb-true n session q))
          (rises (s.session_at session) (s.entered_at session) b may.later (subst (λ m. base_of (option_map change (s.session_at session)) (s.entered_at m) ≡ Some b) (eqb-true n session q) i)))

      b : ℕ
      b = (session_in s session).told

      c : ℕ
      c = begun_by s epoch

      reach : c ≤ length s.past
      reach = begun_low epoch 0 0 (length s.past) (s.past ++ s.order ∷ []) (omega arith) (omega (arith, length-append s.past (s.order ∷ [])))

      is_told : (r : Option Session) (f : Option Entered) → owner_in r ≡ Some app → base_of r f ≡ Some (unwrap_or r (record { app = 0; issued = []; told = 0 })).told
      is_told None f q = absurd (cc (q))
      is_told (Some m) f q = refl

      far : (h : Hold) → HoldSeen l (view s) h → h.answered ≡ true → h.session ≡ session → (kept < h.at) ⊎ (h.at ≤ kept) → h.at ≤ kept
      far h z a its (inr low) = low
      far h z a its (inl under) =
          let same : take h.at (order_at s c) ≡ take h.at (order_at s b) =
          z.agree (ap (λ (y : Bool). y || (not h.gone && not (is_some h.given))) a) b c
          (subst (λ n. base_of (s.session_at n) (s.entered_at n) ≡ Some b) (sym its) (is_told (s.session_at session) (s.entered_at session) (x.its app session may.its))) (omega (arith, may.later)) reach
          in
          let front : place_of_epoch (last_epoch (order_at s b)) 0 (take h.at (order_at s c)) ≡ Some kept = place_front (last_epoch (order_at s b)) 0 h.at kept (order_at s c) may.place (omega (arith, under)) in
          let whole : place_of_epoch (last_epoch (order_at s b)) 0 (order_at s b) ≡ Some kept =
          place_whole (last_epoch (order_at s b)) 0 h.at kept (order_at s b) (subst (λ (es : List Entry). place_of_epoch (last_epoch (order_at s b)) 0 es ≡ Some kept) same front)
          in
          absurd (cc (whole, none_above (order_at s b) (d b) (last_epoch (order_at s b)) (omega arith)))

      seen : (h : Hold) → HoldSeen l (view s) h → h.answered ≡ true → (s.pair_at (app_of l h.job)).session ≡ Some h.session → (r : Bool) → runs_on l app h.job ≡ r → h.at ≤ (if r then record (s.known_at h.job) { seen = min (s.known_at h.job).seen kept } else s.known_at h.job).seen
      seen h z a p false q = z.seen a p
      seen h z a p true q =
          let its : h.session ≡ session = same_Some _ _ (sym p ∙ subst (λ m. (s.pair_at m).session ≡ Some session) (sym (runs_its l app h.job q)) may.its) in
          omega (arith, z.seen a p, far h z a its (cases_lt kept h.at))

      go : (hs : List Hold) → Each (HoldSeen l (view s)) hs → Each (HoldSeen l w) hs
      go [] z = tt
      go (h ∷ hs) z = (
        record {
          seen = λ a p. seen h z.0 a p (runs_on l app h.job) refl;
          agree = agree_on l (view s) w h h (calm s w refl refl x (λ n m i. base n m (eqb n session) refl i)) (still s h) z.0;
        },
        go hs z.1,
      )

  pair_held : (s : Server) (a : ℕ) (y : Pair) → ((n : ℕ) → y.session ≡ Some n → (s.pair_at a).session ≡ Some n) → R s (record s { pair_at = put s.pair_at a y })
  pair_held s a y old o k x d e =
      viewed s (view (record s { pair_at = put s.pair_at a y })) s.holds refl refl x (λ n b i. base_kept s n b _ i)
      (λ b n q. at_put (λ (u v : Pair). v.session ≡ Some n → u.session ≡ Some n) s.pair_at a y (λ u f. f) (old n) b q) (λ j. omega arith) e

  broke_held : (s : Server) (app : ℕ) (end : PairEnd) (time : ℕ) → R s (broke s app end time)
  broke_held s app AppEnd time = pair_held s app (record (s.pair_at app) { broke = Some time }) (λ n e. e)
  broke_held s app ServerEnd time = same s

  refused_held : (p : Plain) (j : ℕ) (r : Refusal) (e : ℕ) → R (p.server_at e) ((refused p j r).server_at e)
  refused_held p j NoTransaction e = same (p.server_at e)
  refused_held p j TooDeep e = same (p.server_at e)
  refused_held p j RollbackOnly e = same (p.server_at e)
  refused_held p j LockTimeout e = same (p.server_at e)
  refused_held p j (Network d state reason) e = at_put R p.server_at d _ same (known_held (p.server_at d) j (record ((p.server_at d).known_at j) { news = []; bar = None }) (omega arith)) e

  jobs_low : (s : Server) (app : ℕ) (f : Known → Known) → ((y : Known) → y.seen ≤ (f y).seen) → (j : ℕ) → (s.known_at j).seen ≤ (if runs_on l app j then f (s.known_at j) else s.known_at j).seen
  jobs_low s app f low j = go (runs_on l app j)
    where
      go : (b : Bool) → (s.known_at j).seen ≤ (if b then f (s.known_at j) else s.known_at j).seen
      go true = low (s.known_at j)
      go false = omega arith

  lose_held : (s : Server) (app : ℕ) (reason : ReasonName) → R s (without_session l s app reason)
  lose_held s app reason o k x d e =
      viewed s (view (without_session l s app reason)) s.holds refl refl x
      (λ n b i. inl (b, (ap (or_else (told_in (s.session_at n))) (sym (place (s.entered_at n))) ∙ i, omega arith)))
      (λ b n q. at_put (λ (u v : Pair). v.session ≡ Some n → u.session ≡ Some n) s.pair_at app (record { session = None; broke = None }) (λ u f. f) (λ f. absurd (cc (f))) b q)
      (jobs_low s app (knows_loss reason) (λ y. omega arith)) e
    where
      place : (f : Option Entered) → place_in (since_loss app f) ≡ place_in f
      place None = refl
      place (Some f) = refl

  lost_held : (p : Plain) (app d : ℕ) (loss : Loss) (e : ℕ) → R (p.server_at e) ((lost l p app d loss).server_at e)
  lost_held p app d (ByReset at) e = at_put R p.server_at d _ same (lose_held (p.server_at d) app Reset) e
  lost_held p app d (ByExpired time) e = at_put R p.server_at d _ same (lose_held (p.server_at d) app Expired) e
  lost_held p app d (ByNoWay from to) e = at_put R p.server_at d _ same (no_way_held (p.server_at d)) e
    where
      no_way_held : (s : Server) → R s (record s { known_at = λ j. if runs_on l app j then knows_noway (s.known_at j) else s.known_at j })
      no_way_held s o k x d e = viewed s (view (record s { known_at = λ j. if runs_on l app j then knows_noway (s.known_at j) else s.known_at j })) s.holds refl refl x (λ n b i. base_kept s n b _ i) (λ a n p. p) (jobs_low s app knows_noway (λ y. omega arith)) e

  row_held : (p : Plain) (a : Act) (e : ℕ) → MayCome l p a → R (p.server_at e) ((after l p a).server_at e)
  row_held p (Opened d entries) e may = at_put R p.server_at d _ same (opened_held p.clock l.times.round (p.server_at d) entries may) e
  row_held p (Enter d entry) e may = at_put R p.server_at d _ same (enter_held p.clock (p.server_at d) entry may) e
  row_held p (Synced d n) e may = at_put R p.server_at d _ same (same (p.server_at d)) e
  row_held p (Shut d session cause) e may = at_put R p.server_at d _ same (push_held (p.server_at d) (shut (p.server_at d) session) (Closed session) refl refl) e
  row_held p (Release d session) e may = at_put R p.server_at d _ same (mapped_held (p.server_at d) (releases (p.server_at d) session) (released_hold session) refl refl (λ h. hold_released (p.server_at d).past (p.server_at d).order session h) (λ h a. a)) e
  row_held p (Met app d session) e may = at_put R p.server_at d _ same (met_held (p.server_at d) app session may.1) e
  row_held p (Told app d session epoch kept) e may = at_put R p.server_at d _ same (told_held (p.server_at d) app session epoch kept may.1) e
  row_held p (Back d) e may = at_put R p.server_at d _ same (mapped_held (p.server_at d) (came_back (p.server_at d)) (hold_after_back (p.server_at d).order) refl refl (λ h. away (p.server_at d) h h.in_force _) (λ h a. a)) e
  row_held p (Crash d kept) e may = at_put R p.server_at d _ same (crash_held p.clock l.times.round (p.server_at d) kept may) e
  row_held p (Issue job line d w item) e may = at_put R p.server_at d _ same (issue_held (p.server_at d) (app_of l job) (record { item = item; txn = txn_of (p.job_at job) item; job = job; line = line })) e
  row_held p (Read job line d at via question) e may = at_put R p.server_at d _ same (known_held (p.server_at d) job (record (acts ((p.server_at d).known_at job)) { seen = at }) may.1.no_less) e
  row_held p (Grant d session job mode key at) e may = at_put R p.server_at d _ same (grant_held (p.server_at d) session job mode key at may) e
  row_held p (Granted job line d at) e may = at_put R p.server_at d _ same (granted_held (p.server_at d) job at) e
  row_held p (GiveUp job line d mode key) e may = at_put R p.server_at d _ same (give_held (p.server_at d) (app_of l job) job mode key) e
  row_held p (Quit job line d mode key) e may = at_put R p.server_at d _ same (quit_held (p.server_at d) (app_of l job) job mode key) e
  row_held p (Free d session job mode key) e may = at_put R p.server_at d _ same (mapped_held (p.server_at d) (frees (p.server_at d) session job mode key) (freed_hold (first_given (p.server_at d) session job mode key) session job mode key) refl refl (λ h. away (p.server_at d) h h.in_force _) (λ h a. a)) e
  row_held p (Counted job line d at sum) e may = at_put R p.server_at d _ same (known_held (p.server_at d) job (record (acts ((p.server_at d).known_at job)) { seen = max ((p.server_at d).known_at job).seen at }) (omega arith)) e
  row_held p (NotWhole job line d at) e may = at_put R p.server_at d _ same (known_held (p.server_at d) job (record (acts ((p.server_at d).known_at job)) { seen = max ((p.server_at d).known_at job).seen at }) (omega arith)) e
  row_held p (Range job line d at) e may = at_put R p.server_at d _ same (known_held (p.server_at d) job (record (acts ((p.server_at d).known_at job)) { seen = max ((p.server_at d).known_at job).seen at }) (omega arith)) e
  row_held p (Committed job line d at) e may = at_put R p.server_at d _ same (known_held (p.server_at d) job (record (acts ((p.server_at d).known_at job)) { seen = max ((p.server_at d).known_at job).seen at }) (omega arith)) e
  row_held p (RolledBack job line d at) e may = at_put R p.server_at d _ same (known_held (p.server_at d) job (record (acts ((p.server_at d).known_at job)) { seen = max ((p.server_at d).known_at job).seen at }) (omega arith)) e
  row_held p (Reached job line d at) e may = at_put R p.server_at d _ same (known_held (p.server_at d) job (record (acts ((p.server_at d).known_at job)) { seen = max ((p.server_at d).known_at job).seen at }) (omega arith)) e
  row_held p (Level job line level) e may = same (p.server_at e)
  row_held p (Done job line) e may = same (p.server_at e)
  row_held p (Refused job line refusal) e may = refused_held p job refusal e
  row_held p (Broke app d end time) e may = at_put R p.server_at d _ same (broke_held (p.server_at d) app end time) e
  row_held p (Mended app d) e may = at_put R p.server_at d _ same (pair_held (p.server_at d) app (record ((p.server_at d).pair_at app) { broke = None }) (λ n e. e)) e
  row_held p (Tick time) e may = same (p.server_at e)
  row_held p (Lose app d loss) e may = lost_held p app d loss e
  row_held p (Died app) e may = same (p.server_at e)

held_seen : (l : Layout) (acts : List Act) → IsRun l acts → (d : ℕ) → Each (HoldSeen l (view (server_after l acts d))) (server_after l acts d).holds
held_seen l as_ run = run_induction l (λ bs. (d : ℕ) → Each (HoldSeen l (view (server_after l bs d))) (server_after l bs d).holds) (λ d. tt) step as_ run
  where
    step : (bs : List Act) (a : Act) → IsRun l bs → MayCome l (state_after l bs) a → ((d : ℕ) → Each (HoldSeen l (view (server_after l bs d))) (server_after l bs d).holds)
        → (d : ℕ) → Each (HoldSeen l (view (server_after l (bs ++ a ∷ []) d))) (server_after l (bs ++ a ∷ []) d).holds
    step bs a on may k d =
        subst (λ (p : Plain). Each (HoldSeen l (view (p.server_at d))) (p.server_at d).holds) (sym (after_all-more l start bs a))
        (row_held l (state_after l bs) a d may (orders_kept l bs d on) (locks_kept l bs d on) (told_kept l bs d on) (λ i. each_is_ordered l bs d i on) (k d))

pub hold_is_seen : HoldIsSeen
hold_is_seen l acts d i h run is ans pair = (each_at (HoldSeen l (view (server_after l acts d))) (server_after l acts d).holds i h (held_seen l acts run d) is).seen ans pair
