-- The law on what jobs have seen, row by row.
use Rattle.std.proofs.Common.{◌≡◌, ℕ, zero, suc, ◌≤◌, List, [], ◌∷◌, ◌++◌, length, map, refl, subst, sym, ap, ◌∙◌, Bool, true, false, eqb, ◌==◌, if◌then◌else◌, arith, Option, Some, None, ◌&&◌, ◌||◌, not}
use Rattle.std.specs.Prelude.{is_some, unwrap_or}
use Rattle.std.specs.List.{list_any}
use Rattle.std.specs.Option.{option_map}
use Rattle.std.proofs.lemmas.Bool.{eqb-true, and_parts}
use Rattle.std.proofs.lemmas.Option.{slice_get_within}
use Rattle.plain_orders.specs.Own.{Issued}
use Rattle.plain_orders.specs.declared.entry.Entry.{Entry}
use Rattle.plain_orders.specs.declared.act.Act.{Act}
use Rattle.plain_orders.specs.declared.act.Act.TheVariants.{Opened, Enter, Synced, Shut, Release, Met, Told, Back, Crash, Issue, Read, Grant, Granted, GiveUp, Quit, Free, Counted, NotWhole, Range, Committed, RolledBack, Reached, Level, Done, Refused, Broke, Mended, Tick, Lose, Died}
use Rattle.plain_orders.specs.declared.item.Item.{Item}
use Rattle.plain_orders.specs.declared.mode.Mode.{Mode}
use Rattle.plain_orders.specs.declared.refused.Refused.{Refused as Refusal}
use Rattle.plain_orders.specs.declared.refused.Refused.TheVariants.{NoTransaction, TooDeep, RollbackOnly, LockTimeout, Network}
use Rattle.plain_orders.specs.declared.refused.ReasonName.{ReasonName}
use Rattle.plain_orders.specs.declared.refused.ReasonName.TheVariants.{Reset, Expired}
use Rattle.plain_orders.specs.declared.causes.Loss.{Loss}
use Rattle.plain_orders.specs.declared.causes.Loss.TheVariants.{Reset as ByReset, Expired as ByExpired, NoWay as ByNoWay}
use Rattle.plain_orders.specs.declared.causes.PairEnd.{PairEnd}
use Rattle.plain_orders.specs.declared.causes.PairEnd.TheVariants.{App as AppEnd, Server as ServerEnd}
use Rattle.plain_orders.specs.declared.layout.Layout.{Layout}
use Rattle.plain_orders.specs.Entries.{entry_at}
use Rattle.plain_runs.specs.Plain.{Plain, Server, Session, Entered, Pair, Hold, Given, Quitted, Known, put, start, app_of, runs_on, pair_session, session_in, told_order}
use Rattle.plain_runs.specs.Items.{entry_of}
use Rattle.plain_runs.specs.EndRows.{broke, mended, lost, shut, since_loss, without_session, knows_loss, knows_noway}
use Rattle.plain_runs.specs.JobRows.{AnswerMay, refused, told_loss, issues, txn_of, acts, sees, sees_up, item_at, is_answered_item, w_at}
use Rattle.plain_runs.specs.LockRows.{GrantMay, GrantedMay, is_quit, first_quit, change_first, change_last, given_now, first_given, grants, granted, gives_up, quits, releases, frees}
use Rattle.plain_runs.specs.Step.{MayCome, after}
use Rattle.plain_runs.specs.Run.{IsRun, RunFrom, after_all}
use Rattle.plain_runs.specs.Laws.{SeenIsTold, server_after}
use Rattle.plain_runs.proofs.RunLemmas.{at_put}
use Rattle.plain_runs.proofs.Orders.{Each, facet, OrdersKept}
use Rattle.plain_runs.proofs.OrderLaws.{row_steps, start_kept}
use Rattle.plain_runs.proofs.HoldRows.{of_facts}
use Rattle.plain_runs.proofs.LockRows.{each_map, each_push, each_first, each_last}
use Rattle.plain_runs.proofs.Issued.{IssuedKept, view, live_low, row_steps as issued_rows}
use Rattle.plain_runs.proofs.Bases.{SentKept, ToldKept, sight, base, len, told_in, owner_in, place_in, or_else, quiet, grow, get_last, enter_row, shut_row}
use Rattle.plain_runs.proofs.SeenTold.{less_gone, opened_row, crash_row, back_row, told_row, met_row}
use Rattle.plain_runs.specs.Holds.{is_sent, is_of, is_kept, is_asked, is_sent_at, new_hold, given_up, answered_hold, released_hold, freed_hold}

abbrev Steps : Layout → Server → Server → Type 0
Steps l s t = ToldKept l (sight s) → ToldKept l (sight t)

-- what holds of the pair's session
pub told_place_is : (s : Server) (app n b : ℕ) → (s.pair_at app).session ≡ Some n → told_in (s.session_at n) ≡ Some b → (session_in s (pair_session s app)).told ≡ b
told_place_is s app n b p t = ap (λ (o : Option ℕ). (session_in s (unwrap_or o 0)).told) p ∙ go (s.session_at n) t
  where
    go : (o : Option Session) → told_in o ≡ Some b → (unwrap_or o (record { app = 0; issued = []; told = 0 })).told ≡ b
    go None e = absurd (cc (e))
    go (Some m) e = cc (e)

seen_put : (f : ℕ → Known) (job : ℕ) (x : Known) (j lim : ℕ) → (j ≡ job → x.seen ≤ lim) → (f j).seen ≤ lim → (put f job x j).seen ≤ lim
seen_put f job x j lim here there = go (eqb j job) refl
  where
    go : (b : Bool) → eqb j job ≡ b → (if b then x else f j).seen ≤ lim
    go true e = here (eqb-true j job e)
    go false e = there

-- one job knows something else
known_row : (l : Layout) (s t : Server) (job : ℕ) (x : Known) (holds : List Hold) → sight t ≡ record (sight s) { holds = holds; seen = λ j. (put s.known_at job x j).seen }
    → (ToldKept l (sight s) → Each (SentKept s.past s.order (base (sight s))) holds)
    → (ToldKept l (sight s) → (n b : ℕ) → (s.pair_at (app_of l job)).session ≡ Some n → told_in (s.session_at n) ≡ Some b → (s.known_at job).seen ≤ len s.past s.order b → x.seen ≤ len s.past s.order b) → Steps l s t
known_row l s t job x holds same hs here k =
    subst (ToldKept l) (sym same)
    (quiet l (sight s) (record (sight s) { holds = holds; seen = λ j. (put s.known_at job x j).seen }) refl (λ n. refl) (λ n. refl) (λ n. refl) (λ a n e. e) (hs k)
    (λ j n b p t y. seen_put s.known_at job x j (len s.past s.order b)
    (λ e. here k n b (subst (λ i. (s.pair_at (app_of l i)).session ≡ Some n) e p) t (subst (λ i. (s.known_at i).seen ≤ len s.past s.order b) e y)) y) k)

up_row : (l : Layout) (s : Server) (job at : ℕ) → at ≤ length (told_order s (app_of l job)) → Steps l s (sees_up s job at)
up_row l s job at within = known_row l s (sees_up s job at) job _ s.holds refl (λ k. k.sent) (λ k n b p t y. omega (arith, y, subst (λ i. at ≤ len s.past s.order i) (told_place_is s (app_of l job) n b p t) within))

read_row : (l : Layout) (s : Server) (job at : ℕ) → at ≤ length (told_order s (app_of l job)) → Steps l s (sees s job at)
read_row l s job at within = known_row l s (sees s job at) job _ s.holds refl (λ k. k.sent) (λ k n b p t y. subst (λ i. at ≤ len s.past s.order i) (told_place_is s (app_of l job) n b p t) within)

entry_low : (es : List Entry) (at : ℕ) (e : Entry) → entry_at es at ≡ Some e → at ≤ length es
entry_low es zero e h = omega arith
entry_low es (suc i) e h = omega (arith, slice_get_within es i e h)

answer_low : (s : Server) (app job line at : ℕ) (kind : Item → Bool) → AnswerMay s app job line at kind → at ≤ length (told_order s app)
answer_low s app job line at kind may = go (item_at s app at) refl may.its may.in_told
  where
    go : (o : Option Issued) → item_at s app at ≡ o → is_answered_item job line kind o ≡ true → entry_at (told_order s app) at ≡ option_map (entry_of (pair_session s app) (w_at (entry_at (told_order s app) at))) o → at ≤ length (told_order s app)
    go None same its told = absurd (cc (its))
    go (Some i) same its told = entry_low (told_order s app) at _ told

has_one : (P : Hold → Type 0) (p : Hold → Bool) (hs : List Hold) → Each P hs → list_any p hs ≡ true → (h : Hold) × (P h × (p h ≡ true))
has_one P p [] e o = absurd (cc (o))
has_one P p (h ∷ hs) e o = go (p h) refl (has_one P p hs e.1) o
  where
    go : (b : Bool) → p h ≡ b → (list_any p hs ≡ true → (x : Hold) × (P x × (p x ≡ true))) → (b || list_any p hs) ≡ true → (x : Hold) × (P x × (p x ≡ true))
    go true is f o = (h, (e.0, is))
    go false is f o = f o

given_not : (a g : Bool) → (not a && (false && g)) ≡ true → ⊥
given_not true g e = absurd (cc (e))
given_not false g e = absurd (cc (e))

given_sent : (past : List (List Entry)) (order : List Entry) (f : ℕ → Option ℕ) (g : Given) (h : Hold) → SentKept past order f (given_up g h)
given_sent past order f g h = record {
  behind = λ e. absurd (given_not h.answered (not h.gone) e);
  within = λ e. absurd (given_not h.answered (not h.gone) e);
  reaches = λ e. absurd (given_not h.answered (not h.gone) e);
}

granted_row : (l : Layout) (s : Server) (job at : ℕ) → GrantedMay s (app_of l job) job at → Steps l s (granted s (app_of l job) job at)
granted_row l s job at may =
    known_row l s (granted s (app_of l job) job at) job _ (change_first (is_sent_at (pair_session s (app_of l job)) job at) answered_hold s.holds) refl
    (λ k. each_first (SentKept s.past s.order (base (sight s))) (is_sent_at (pair_session s (app_of l job)) job at) answered_hold
    (λ h is x. record { behind = λ e. absurd (cc (e)); within = λ e. absurd (cc (e)); reaches = λ e. absurd (cc (e)) }) s.holds k.sent)
    (λ k n b p t y. omega (arith, y, low k n b p t))
  where
    low : ToldKept l (sight s) → (n b : ℕ) → (s.pair_at (app_of l job)).session ≡ Some n → told_in (s.session_at n) ≡ Some b → at ≤ len s.past s.order b
    low k n b p t =
        let one : (h : Hold) × (SentKept s.past s.order (base (sight s)) h × (is_sent_at (pair_session s (app_of l job)) job at h ≡ true)) = has_one (SentKept s.past s.order (base (sight s))) (is_sent_at (pair_session s (app_of l job)) job at) s.holds k.sent may.sent in
        let x = and_parts (is_sent one.0) (is_of (pair_session s (app_of l job)) job one.0 && one.0.at == at) one.1.1 in
        let y = and_parts (is_of (pair_session s (app_of l job)) job one.0) (one.0.at == at) x.1 in
        let ses : one.0.session ≡ n = (of_facts (pair_session s (app_of l job)) job one.0 y.0).0 ∙ ap (λ (o : Option ℕ). unwrap_or o 0) p in
        let has : base (sight s) n ≡ Some b = ap (λ o. or_else o (place_in (s.entered_at n))) t in
        omega (arith, eqb-true one.0.at at y.1, one.1.0.reaches x.0 b b (subst (λ m. base (sight s) m ≡ Some b) (sym ses) has) (omega arith) (k.low n b has))

give_row : (l : Layout) (s : Server) (job : ℕ) (mode : Mode) (key : List ℕ) → Steps l s (gives_up s (app_of l job) job mode key)
give_row l s job mode key =
    known_row l s (gives_up s (app_of l job) job mode key) job _ (change_last (is_kept (pair_session s (app_of l job)) job mode key) (given_up (given_now s (pair_session s (app_of l job)))) s.holds) refl
    (λ k. each_last (SentKept s.past s.order (base (sight s))) (is_kept (pair_session s (app_of l job)) job mode key) (given_up (given_now s (pair_session s (app_of l job)))) (λ h is x. given_sent s.past s.order (base (sight s)) _ h) s.holds k.sent)
    (λ k n b p t y. y)

quit_row : (l : Layout) (s : Server) (job : ℕ) (mode : Mode) (key : List ℕ) → Steps l s (quits s (app_of l job) job mode key)
quit_row l s job mode key =
    known_row l s (quits s (app_of l job) job mode key) job _ (change_first (is_asked (pair_session s (app_of l job)) job mode key) (given_up (given_now s (pair_session s (app_of l job)))) s.holds) refl
    (λ k. each_first (SentKept s.past s.order (base (sight s))) (is_asked (pair_session s (app_of l job)) job mode key) (given_up (given_now s (pair_session s (app_of l job)))) (λ h is x. given_sent s.past s.order (base (sight s)) _ h) s.holds k.sent)
    (λ k n b p t y. y)

-- only holds change
holds_row : (l : Layout) (s t : Server) (holds : List Hold) → sight t ≡ record (sight s) { holds = holds } → (ToldKept l (sight s) → Each (SentKept s.past s.order (base (sight s))) holds) → Steps l s t
holds_row l s t holds same hs k = subst (ToldKept l) (sym same) (quiet l (sight s) (record (sight s) { holds = holds }) refl (λ n. refl) (λ n. refl) (λ n. refl) (λ a n e. e) (hs k) (λ j n b p t y. y) k)

release_row : (l : Layout) (s : Server) (session : ℕ) → Steps l s (releases s session)
release_row l s session = holds_row l s (releases s session) (map (released_hold session) s.holds) refl
    (λ k. each_map (SentKept s.past s.order (base (sight s))) (SentKept s.past s.order (base (sight s))) (released_hold session) (λ h x. record { behind = x.behind; within = x.within; reaches = x.reaches }) s.holds k.sent)

free_row : (l : Layout) (s : Server) (session job : ℕ) (mode : Mode) (key : List ℕ) → Steps l s (frees s session job mode key)
free_row l s session job mode key = holds_row l s (frees s session job mode key) (map (freed_hold (first_given s session job mode key) session job mode key) s.holds) refl
    (λ k. each_map (SentKept s.past s.order (base (sight s))) (SentKept s.past s.order (base (sight s))) (freed_hold (first_given s session job mode key) session job mode key)
    (λ h x. record { behind = λ y. x.behind (was h y); within = λ y. x.within (was h y); reaches = λ y. x.reaches (was h y) }) s.holds k.sent)
  where
    was : (h : Hold) → is_sent (freed_hold (first_given s session job mode key) session job mode key h) ≡ true → is_sent h ≡ true
    was h y = less_gone h.answered (is_some h.given) h.gone _ y

grant_row : (l : Layout) (s : Server) (session job : ℕ) (mode : Mode) (key : List ℕ) (at : ℕ) → GrantMay s session job mode key at → session ≤ length s.order → Steps l s (grants s session job mode key at)
grant_row l s session job mode key at may low =
    holds_row l s (grants s session job mode key at) (s.holds ++ new_hold session job mode key at (first_quit (is_quit session job mode key) s.quits) ∷ []) refl
    (λ k. each_push (SentKept s.past s.order (base (sight s))) s.holds _ k.sent (new k (first_quit (is_quit session job mode key) s.quits)))
  where
    new : ToldKept l (sight s) → (o : Option Quitted) → SentKept s.past s.order (base (sight s)) (new_hold session job mode key at o)
    new k None = record { behind = λ e. omega (arith, may.here, low); within = λ e. omega (arith, may.here); reaches = λ e b i y lo hi. reach b i y lo hi }
      where
        reach : (b i : ℕ) → base (sight s) session ≡ Some b → b ≤ i → i ≤ length s.past → at ≤ len s.past s.order i
        reach b i y lo hi =
            let now : length s.past ≡ b = cc (y, k.up may.up session may.is_live) in
            let same : length s.past ≡ i = omega (arith, now) in
            subst (λ m. at ≤ len s.past s.order m) same (omega (arith, may.here, get_last s.past s.order))
    new k (Some q) = record { behind = λ e. absurd (cc (e)); within = λ e. absurd (cc (e)); reaches = λ e. absurd (cc (e)) }

issue_row : (l : Layout) (s : Server) (app : ℕ) (i : Issued) → Steps l s (issues s app i)
issue_row l s app i k =
    quiet l (sight s) (sight (issues s app i)) refl
    (λ n. at_put (λ o r. told_in r ≡ told_in o) s.session_at (pair_session s app) _ (λ o. refl) (told (s.session_at (pair_session s app))) n)
    (λ n. at_put (λ o r. owner_in r ≡ owner_in o) s.session_at (pair_session s app) _ (λ o. refl) (owner (s.session_at (pair_session s app))) n)
    (λ n. refl) (λ a n e. e) k.sent
    (λ j n b p t y. seen_put s.known_at i.job (acts (s.known_at i.job)) j (len s.past s.order b) (λ e. subst (λ m. (s.known_at m).seen ≤ len s.past s.order b) e y) y) k
  where
    told : (o : Option Session) → told_in (option_map (λ (m : Session). record m { issued = m.issued ++ i ∷ [] }) o) ≡ told_in o
    told None = refl
    told (Some m) = refl

    owner : (o : Option Session) → owner_in (option_map (λ (m : Session). record m { issued = m.issued ++ i ∷ [] }) o) ≡ owner_in o
    owner None = refl
    owner (Some m) = refl

-- one pair changes, its session as it was or none
pair_row : (l : Layout) (s t : Server) (a : ℕ) (x : Pair) → sight t ≡ record (sight s) { pair = λ b. (put s.pair_at a x b).session } → ((n : ℕ) → x.session ≡ Some n → (s.pair_at a).session ≡ Some n) → Steps l s t
pair_row l s t a x same old k =
    subst (ToldKept l) (sym same)
    (quiet l (sight s) (record (sight s) { pair = λ b. (put s.pair_at a x b).session }) refl (λ n. refl) (λ n. refl) (λ n. refl)
    (λ b n e. at_put (λ (y z : Pair). z.session ≡ Some n → y.session ≡ Some n) s.pair_at a x (λ y f. f) (old n) b e) k.sent (λ j n b p t y. y) k)

broke_row : (l : Layout) (s : Server) (app : ℕ) (end : PairEnd) (time : ℕ) → Steps l s (broke s app end time)
broke_row l s app AppEnd time = pair_row l s (broke s app AppEnd time) app _ refl (λ n e. e)
broke_row l s app ServerEnd time = λ k. k

jobs_seen : (l : Layout) (s : Server) (app : ℕ) (f : Known → Known) → ((x : Known) → (f x).seen ≡ x.seen) → (j lim : ℕ) → (s.known_at j).seen ≤ lim → (if runs_on l app j then f (s.known_at j) else s.known_at j).seen ≤ lim
jobs_seen l s app f same j lim low = go (runs_on l app j)
  where
    go : (b : Bool) → (if b then f (s.known_at j) else s.known_at j).seen ≤ lim
    go true = omega (arith, same (s.known_at j))
    go false = low

since_place : (app : ℕ) (o : Option Entered) → place_in (since_loss app o) ≡ place_in o
since_place app None = refl
since_place app (Some e) = refl

gone_row : (l : Layout) (s : Server) (app : ℕ) (reason : ReasonName) → Steps l s (without_session l s app reason)
gone_row l s app reason k =
    quiet l (sight s) (sight (without_session l s app reason)) refl (λ n. refl) (λ n. refl) (λ n. since_place app (s.entered_at n))
    (λ b n e. at_put (λ (y z : Pair). z.session ≡ Some n → y.session ≡ Some n) s.pair_at app (record { session = None; broke = None }) (λ y f. f) (λ f. absurd (cc (f))) b e) k.sent
    (λ j n b p t y. jobs_seen l s app (knows_loss reason) (λ x. refl) j (len s.past s.order b) y) k

steps_same : (l : Layout) (s : Server) → Steps l s s
steps_same l s k = k

at_server : (l : Layout) (p : Plain) (d : ℕ) (t : Server) → Steps l (p.server_at d) t → (e : ℕ) → Steps l (p.server_at e) (put p.server_at d t e)
at_server l p d t step e = at_put (Steps l) p.server_at d t (steps_same l) step e

lost_row : (l : Layout) (p : Plain) (app d : ℕ) (loss : Loss) (e : ℕ) → Steps l (p.server_at e) ((lost l p app d loss).server_at e)
lost_row l p app d (ByReset at) e = at_server l p d _ (gone_row l (p.server_at d) app Reset) e
lost_row l p app d (ByExpired time) e = at_server l p d _ (gone_row l (p.server_at d) app Expired) e
lost_row l p app d (ByNoWay from to) e = at_server l p d _ (λ k. news k) e
  where
    s : Server
    s = p.server_at d

    news : ToldKept l (sight s) → ToldKept l (record (sight s) { seen = λ j. (if runs_on l app j then knows_noway (s.known_at j) else s.known_at j).seen })
    news k = quiet l (sight s) (record (sight s) { seen = λ j. (if runs_on l app j then knows_noway (s.known_at j) else s.known_at j).seen }) refl (λ n. refl) (λ n. refl) (λ n. refl) (λ a n e. e) k.sent
        (λ j n b p t y. jobs_seen l s app knows_noway (λ x. refl) j (len s.past s.order b) y) k

refused_row : (l : Layout) (p : Plain) (j : ℕ) (r : Refusal) (e : ℕ) → Steps l (p.server_at e) ((refused p j r).server_at e)
refused_row l p j NoTransaction e = λ k. k
refused_row l p j TooDeep e = λ k. k
refused_row l p j RollbackOnly e = λ k. k
refused_row l p j LockTimeout e = λ k. k
refused_row l p j (Network d state reason) e = at_server l p d _ (known_row l (p.server_at d) (told_loss (p.server_at d) j) j (record ((p.server_at d).known_at j) { news = []; bar = None }) (p.server_at d).holds refl (λ k. k.sent) (λ k n b q t y. y)) e

pub told_rows : (l : Layout) (p : Plain) (a : Act) → MayCome l p a → ((d : ℕ) → OrdersKept (facet (p.server_at d))) → ((d : ℕ) → IssuedKept (view (p.server_at d))) → (e : ℕ) → Steps l (p.server_at e) ((after l p a).server_at e)
told_rows l p (Opened d entries) may os is e = at_server l p d _ (opened_row l p.clock l.times.round (p.server_at d) entries ((os d).fresh may.fresh).0 (os d).within) e
told_rows l p (Enter d x) may os is e = at_server l p d _ (enter_row l p.clock (p.server_at d) x may (os d).within) e
told_rows l p (Synced d n) may os is e = at_server l p d _ (λ k. grow l (sight (p.server_at d)) (record (sight (p.server_at d)) { synced = n }) refl (λ i. omega arith) (omega arith) may.no_less k.up k.sent k) e
told_rows l p (Shut d session cause) may os is e = at_server l p d _ (shut_row l (p.server_at d) (shut (p.server_at d) session) session refl) e
told_rows l p (Release d session) may os is e = at_server l p d _ (release_row l (p.server_at d) session) e
told_rows l p (Met app d session) may os is e = at_server l p d _ (met_row l (p.server_at d) app session may.1) e
told_rows l p (Told app d session epoch kept) may os is e = at_server l p d _ (told_row l (p.server_at d) app session epoch kept may.1) e
told_rows l p (Back d) may os is e = at_server l p d _ (back_row l (p.server_at d) may) e
told_rows l p (Crash d kept) may os is e = at_server l p d _ (crash_row l p.clock l.times.round (p.server_at d) kept may) e
told_rows l p (Issue job line d w item) may os is e = at_server l p d _ (issue_row l (p.server_at d) (app_of l job) (record { item = item; txn = txn_of (p.job_at job) item; job = job; line = line })) e
told_rows l p (Read job line d at via question) may os is e = at_server l p d _ (read_row l (p.server_at d) job at may.1.within) e
told_rows l p (Grant d session job mode key at) may os is e = at_server l p d _ (grant_row l (p.server_at d) session job mode key at may (live_low (p.server_at d).order session (is d).placed may.is_live)) e
told_rows l p (Granted job line d at) may os is e = at_server l p d _ (granted_row l (p.server_at d) job at may.1) e
told_rows l p (GiveUp job line d mode key) may os is e = at_server l p d _ (give_row l (p.server_at d) job mode key) e
told_rows l p (Quit job line d mode key) may os is e = at_server l p d _ (quit_row l (p.server_at d) job mode key) e
told_rows l p (Free d session job mode key) may os is e = at_server l p d _ (free_row l (p.server_at d) session job mode key) e
told_rows l p (Counted job line d at sum) may os is e = at_server l p d _ (up_row l (p.server_at d) job at (answer_low (p.server_at d) (app_of l job) job line at _ may.1.stands)) e
told_rows l p (NotWhole job line d at) may os is e = at_server l p d _ (up_row l (p.server_at d) job at (answer_low (p.server_at d) (app_of l job) job line at _ may.1.stands)) e
told_rows l p (Range job line d at) may os is e = at_server l p d _ (up_row l (p.server_at d) job at (answer_low (p.server_at d) (app_of l job) job line at _ may.1.stands)) e
told_rows l p (Committed job line d at) may os is e = at_server l p d _ (up_row l (p.server_at d) job at (answer_low (p.server_at d) (app_of l job) job line at _ may.1)) e
told_rows l p (RolledBack job line d at) may os is e = at_server l p d _ (up_row l (p.server_at d) job at (answer_low (p.server_at d) (app_of l job) job line at _ may.1)) e
told_rows l p (Reached job line d at) may os is e = at_server l p d _ (up_row l (p.server_at d) job at may.1.within) e
told_rows l p (Level job line level) may os is e = λ k. k
told_rows l p (Done job line) may os is e = λ k. k
told_rows l p (Refused job line refusal) may os is e = refused_row l p job refusal e
told_rows l p (Broke app d end time) may os is e = at_server l p d _ (broke_row l (p.server_at d) app end time) e
told_rows l p (Mended app d) may os is e = at_server l p d _ (pair_row l (p.server_at d) (mended (p.server_at d) app) app (record ((p.server_at d).pair_at app) { broke = None }) refl (λ n e. e)) e
told_rows l p (Tick time) may os is e = λ k. k
told_rows l p (Lose app d loss) may os is e = lost_row l p app d loss e
told_rows l p (Died app) may os is e = λ k. k

run_told : (l : Layout) (p : Plain) (acts : List Act) → RunFrom l p acts → ((d : ℕ) → OrdersKept (facet (p.server_at d))) → ((d : ℕ) → IssuedKept (view (p.server_at d))) → ((d : ℕ) → ToldKept l (sight (p.server_at d)))
    → (e : ℕ) → ToldKept l (sight ((after_all l p acts).server_at e))
run_told l p [] run os is k e = k e
run_told l p (a ∷ acts) run os is k e =
    run_told l (after l p a) acts run.1 (λ d. (row_steps l p a run.0 d (os d)).0) (λ d. issued_rows l p a run.0 d (is d)) (λ d. told_rows l p a run.0 os is d (k d)) e

pub start_told : (l : Layout) (e : ℕ) → ToldKept l (sight (start.server_at e))
start_told l e = record {
  low = λ n b h. absurd (cc (h));
  place = λ n b h. absurd (cc (h));
  met = λ n m. absurd (cc (m));
  up = λ _ n on. absurd (cc (on));
  sent = tt;
  its = λ a n h. absurd (cc (h));
  seen = λ j n b _ h. absurd (cc (h));
}

pub told_kept : (l : Layout) (acts : List Act) (d : ℕ) → IsRun l acts → ToldKept l (sight (server_after l acts d))
told_kept l acts d run = run_told l start acts run start_kept (λ e. record { fresh = λ _ n. refl; placed = tt; met = λ n m. absurd (cc (m)); as_issued = tt }) (start_told l) d

pub seen_is_told : SeenIsTold
seen_is_told l acts d j run there has = go (s.pair_at (app_of l j)).session refl has
  where
    s : Server
    s = server_after l acts d

    kept : ToldKept l (sight s)
    kept = told_kept l acts d run

    told_of : (o : Option Session) → owner_in o ≡ Some (app_of l j) → (b : ℕ) × (told_in o ≡ Some b)
    told_of None e = absurd (cc (e))
    told_of (Some m) e = (m.told, refl)

    go : (o : Option ℕ) → (s.pair_at (app_of l j)).session ≡ o → is_some o ≡ true → (s.known_at j).seen ≤ length (told_order s (app_of l j))
    go None e h = absurd (cc (h))
    go (Some n) e h =
        let b = told_of (s.session_at n) (kept.its (app_of l j) n e) in
        subst (λ i. (s.known_at j).seen ≤ len s.past s.order i) (sym (told_place_is s (app_of l j) n b.0 e b.1)) (kept.seen j n b.0 there e b.1)
