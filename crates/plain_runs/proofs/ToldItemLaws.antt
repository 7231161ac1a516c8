-- What stands in the order stands in the order that its session is told of.
use Rattle.std.proofs.Common.{◌≡◌, ℕ, zero, suc, ◌≤◌, List, [], ◌∷◌, ◌++◌, length, take, refl, subst, ap, ◌∙◌, Bool, true, false, arith, ◌==◌, ◌||◌, Option, Some, None, slice_get}
use Rattle.std.specs.Prelude.{is_some, unwrap_or}
use Rattle.std.specs.List.{list_any}
use Rattle.std.specs.Option.{option_map}
use Rattle.std.proofs.lemmas.Bool.{and_parts, eq-eqb}
use Rattle.plain_orders.specs.declared.act.Act.{Act}
use Rattle.plain_orders.specs.declared.act.Act.TheVariants.{Opened, Enter, Synced, Shut, Release, Met, Told, Back, Crash, Issue, Read, Grant, Granted, GiveUp, Quit, Free, Counted, NotWhole, Range, Committed, RolledBack, Reached, Level, Done, Refused, Broke, Mended, Tick, Lose, Died}
use Rattle.plain_orders.specs.declared.refused.Refused.{Refused as Refusal}
use Rattle.plain_orders.specs.declared.refused.Refused.TheVariants.{NoTransaction, TooDeep, RollbackOnly, LockTimeout, Network}
use Rattle.plain_orders.specs.declared.causes.Loss.{Loss}
use Rattle.plain_orders.specs.declared.causes.Loss.TheVariants.{Reset as ByReset, Expired as ByExpired, NoWay as ByNoWay}
use Rattle.plain_orders.specs.declared.causes.PairEnd.{PairEnd}
use Rattle.plain_orders.specs.declared.causes.PairEnd.TheVariants.{App as AppEnd, Server as ServerEnd}
use Rattle.plain_orders.specs.declared.entry.Entry.{Entry}
use Rattle.plain_orders.specs.declared.entry.Entry.TheVariants.{Epoch, Opened as OpenedEntry, Closed, Update, Commit, Rollback}
use Rattle.plain_orders.specs.declared.item.Item.{Item}
use Rattle.plain_orders.specs.declared.item.Item.TheVariants.{Op, Commit as CommitItem, Rollback as RollbackItem}
use Rattle.plain_orders.specs.declared.layout.Layout.{Layout}
use Rattle.plain_orders.specs.Entries.{entry_at}
use Rattle.plain_orders.specs.Own.{Issued}
use Rattle.plain_runs.specs.Plain.{Plain, Server, Session, start, app_of, pair_session, told_order}
use Rattle.plain_runs.specs.Items.{entry_of, entry_of_item}
use Rattle.plain_runs.specs.EndRows.{broke, lost}
use Rattle.plain_runs.specs.JobRows.{has_session, is_answered_item, issues, item_at, pair_issued, refused, txn_of, w_at}
use Rattle.plain_runs.specs.Step.{MayCome, after}
use Rattle.plain_runs.specs.Run.{IsRun, RunFrom, after_all}
use Rattle.plain_runs.specs.Laws.{server_after}
use Rattle.plain_runs.specs.Together.{AllInOrderAreTold, AnsweredIsTold}
use Rattle.plain_runs.proofs.RunLemmas.{at_put}
use Rattle.plain_runs.proofs.Orders.{facet, OrdersKept}
use Rattle.plain_runs.proofs.OrderLaws.{row_steps, start_kept}
use Rattle.plain_runs.proofs.Lists.{both_ways, stand_more}
use Rattle.plain_runs.proofs.Issued.{IssuedKept, view, row_steps as issued_rows}
use Rattle.plain_runs.proofs.Bases.{ToldKept, sight, or_else, owner_in, place_in, told_in}
use Rattle.plain_runs.proofs.SeenLaw.{told_place_is, told_kept}
use Rattle.plain_runs.proofs.NoSession.{none_without_session}
use Rattle.plain_runs.proofs.ToldItems.{StandsKept, StandSteps, standing, nth, later_told, enter_stands, shut_stands, opened_stands, crash_stands, met_stands, told_stands}
use Rattle.plain_orders.specs.ItemEntries.{is_item_at, is_item_of}

stands_same : (s : Server) → StandSteps s s
stands_same s k = k

issue_stands : (s : Server) (app : ℕ) (i : Issued) → StandSteps s (issues s app i)
issue_stands s app i = later_told (standing s) (standing (issues s app i)) refl (λ n b t. (b, (was n b t, omega arith)))
  where
    here : (o : Option Session) (b : ℕ) → told_in (option_map (λ (m : Session). record m { issued = m.issued ++ i ∷ [] }) o) ≡ Some b → told_in o ≡ Some b
    here None b e = e
    here (Some m) b e = e

    was : (n b : ℕ) → told_in ((issues s app i).session_at n) ≡ Some b → told_in (s.session_at n) ≡ Some b
    was n b = at_put (λ o r. told_in r ≡ Some b → told_in o ≡ Some b) s.session_at (pair_session s app) _ (λ o e. e) (here (s.session_at (pair_session s app)) b) n

broke_stands : (s : Server) (app : ℕ) (end : PairEnd) (time : ℕ) → StandSteps s (broke s app end time)
broke_stands s app AppEnd time = stands_same s
broke_stands s app ServerEnd time = stands_same s

lost_stands : (l : Layout) (p : Plain) (app d : ℕ) (loss : Loss) (e : ℕ) → StandSteps (p.server_at e) ((lost l p app d loss).server_at e)
lost_stands l p app d (ByReset at) e = at_put StandSteps p.server_at d _ stands_same (stands_same (p.server_at d)) e
lost_stands l p app d (ByExpired time) e = at_put StandSteps p.server_at d _ stands_same (stands_same (p.server_at d)) e
lost_stands l p app d (ByNoWay from to) e = at_put StandSteps p.server_at d _ stands_same (stands_same (p.server_at d)) e

refused_stands : (p : Plain) (j : ℕ) (r : Refusal) (e : ℕ) → StandSteps (p.server_at e) ((refused p j r).server_at e)
refused_stands p j NoTransaction e = stands_same (p.server_at e)
refused_stands p j TooDeep e = stands_same (p.server_at e)
refused_stands p j RollbackOnly e = stands_same (p.server_at e)
refused_stands p j LockTimeout e = stands_same (p.server_at e)
refused_stands p j (Network d state reason) e = at_put StandSteps p.server_at d _ stands_same (stands_same (p.server_at d)) e

row_stands : (l : Layout) (p : Plain) (a : Act) → MayCome l p a → ((d : ℕ) → OrdersKept (facet (p.server_at d))) → ((d : ℕ) → IssuedKept (view (p.server_at d))) → (e : ℕ) → StandSteps (p.server_at e) ((after l p a).server_at e)
row_stands l p (Opened d entries) may os is e = at_put StandSteps p.server_at d _ stands_same (opened_stands p.clock l.times.round (p.server_at d) entries may (os d)) e
row_stands l p (Enter d x) may os is e = at_put StandSteps p.server_at d _ stands_same (enter_stands l p.clock (p.server_at d) x may) e
row_stands l p (Synced d n) may os is e = at_put StandSteps p.server_at d _ stands_same (stands_same (p.server_at d)) e
row_stands l p (Shut d session cause) may os is e = at_put StandSteps p.server_at d _ stands_same (shut_stands (p.server_at d) session) e
row_stands l p (Release d session) may os is e = at_put StandSteps p.server_at d _ stands_same (stands_same (p.server_at d)) e
row_stands l p (Met app d session) may os is e = at_put StandSteps p.server_at d _ stands_same (met_stands l (p.server_at d) app session may.1 (is d)) e
row_stands l p (Told app d session epoch kept) may os is e = at_put StandSteps p.server_at d _ stands_same (told_stands l (p.server_at d) app session epoch kept may.1) e
row_stands l p (Back d) may os is e = at_put StandSteps p.server_at d _ stands_same (stands_same (p.server_at d)) e
row_stands l p (Crash d kept) may os is e = at_put StandSteps p.server_at d _ stands_same (crash_stands p.clock l.times.round (p.server_at d) kept) e
row_stands l p (Issue job line d w item) may os is e = at_put StandSteps p.server_at d _ stands_same (issue_stands (p.server_at d) (app_of l job) (record { item = item; txn = txn_of (p.job_at job) item; job = job; line = line })) e
row_stands l p (Read job line d at via question) may os is e = at_put StandSteps p.server_at d _ stands_same (stands_same (p.server_at d)) e
row_stands l p (Grant d session job mode key at) may os is e = at_put StandSteps p.server_at d _ stands_same (stands_same (p.server_at d)) e
row_stands l p (Granted job line d at) may os is e = at_put StandSteps p.server_at d _ stands_same (stands_same (p.server_at d)) e
row_stands l p (GiveUp job line d mode key) may os is e = at_put StandSteps p.server_at d _ stands_same (stands_same (p.server_at d)) e
row_stands l p (Quit job line d mode key) may os is e = at_put StandSteps p.server_at d _ stands_same (stands_same (p.server_at d)) e
row_stands l p (Free d session job mode key) may os is e = at_put StandSteps p.server_at d _ stands_same (stands_same (p.server_at d)) e
row_stands l p (Counted job line d at sum) may os is e = at_put StandSteps p.server_at d _ stands_same (stands_same (p.server_at d)) e
row_stands l p (NotWhole job line d at) may os is e = at_put StandSteps p.server_at d _ stands_same (stands_same (p.server_at d)) e
row_stands l p (Range job line d at) may os is e = at_put StandSteps p.server_at d _ stands_same (stands_same (p.server_at d)) e
row_stands l p (Committed job line d at) may os is e = at_put StandSteps p.server_at d _ stands_same (stands_same (p.server_at d)) e
row_stands l p (RolledBack job line d at) may os is e = at_put StandSteps p.server_at d _ stands_same (stands_same (p.server_at d)) e
row_stands l p (Reached job line d at) may os is e = at_put StandSteps p.server_at d _ stands_same (stands_same (p.server_at d)) e
row_stands l p (Level job line level) may os is e = stands_same (p.server_at e)
row_stands l p (Done job line) may os is e = stands_same (p.server_at e)
row_stands l p (Refused job line refusal) may os is e = refused_stands p job refusal e
row_stands l p (Broke app d end time) may os is e = at_put StandSteps p.server_at d _ stands_same (broke_stands (p.server_at d) app end time) e
row_stands l p (Mended app d) may os is e = at_put StandSteps p.server_at d _ stands_same (stands_same (p.server_at d)) e
row_stands l p (Tick time) may os is e = stands_same (p.server_at e)
row_stands l p (Lose app d loss) may os is e = lost_stands l p app d loss e
row_stands l p (Died app) may os is e = stands_same (p.server_at e)

run_stands : (l : Layout) (p : Plain) (acts : List Act) → RunFrom l p acts → ((d : ℕ) → OrdersKept (facet (p.server_at d))) → ((d : ℕ) → IssuedKept (view (p.server_at d))) → ((d : ℕ) → StandsKept (standing (p.server_at d)))
    → (e : ℕ) → StandsKept (standing ((after_all l p acts).server_at e))
run_stands l p [] run os is k e = k e
run_stands l p (a ∷ acts) run os is k e =
    run_stands l (after l p a) acts run.1 (λ d. (row_steps l p a run.0 d (os d)).0) (λ d. issued_rows l p a run.0 d (is d)) (λ d. row_stands l p a run.0 os is d (k d)) e

stands_kept : (l : Layout) (acts : List Act) (d : ℕ) → IsRun l acts → StandsKept (standing (server_after l acts d))
stands_kept l acts d run =
    run_stands l start acts run start_kept (λ e. record { fresh = λ _ n. refl; placed = tt; met = λ n m. absurd (cc (m)); as_issued = tt })
    (λ e. record { stands = λ n b j i x told. absurd (cc (told)) }) d

-- each item of a pair's session stands where it stands in the order
stands_told : (l : Layout) (acts : List Act) (d app : ℕ) → IsRun l acts → has_session (server_after l acts d) app ≡ true
    → (i : ℕ) (e : Entry) → slice_get (server_after l acts d).order i ≡ Some e → is_item_of (pair_session (server_after l acts d) app) e ≡ true → slice_get (told_order (server_after l acts d) app) i ≡ Some e
stands_told l acts d app run has i e at is = go (s.pair_at app).session refl has
  where
    s : Server
    s = server_after l acts d

    kept : ToldKept l (sight s)
    kept = told_kept l acts d run

    told : (o : Option Session) → owner_in o ≡ Some app → (b : ℕ) × (told_in o ≡ Some b)
    told None h = absurd (cc (h))
    told (Some m) h = (m.told, refl)

    go : (o : Option ℕ) → (s.pair_at app).session ≡ o → is_some o ≡ true → slice_get (told_order s app) i ≡ Some e
    go None p h = absurd (cc (h))
    go (Some n) p h =
        let b : (b : ℕ) × (told_in (s.session_at n) ≡ Some b) = told (s.session_at n) (kept.its app n p) in
        let its : pair_session s app ≡ n = ap (λ (o : Option ℕ). unwrap_or o 0) p in
        let low : b.0 ≤ length s.past = kept.low n b.0 (ap (λ o. or_else o (place_in (s.entered_at n))) b.1) in
        ap (λ k. slice_get (nth s.past s.order k) i) (told_place_is s app n b.0 p b.1)
        ∙ (stands_kept l acts d run).stands n b.0 b.0 i e b.1 (omega arith) low at (subst (λ m. is_item_of m e ≡ true) its is)

of_session : (session w job txn : ℕ) (x : Item) → is_item_of session (entry_of_item session w job txn x) ≡ true
of_session session w job txn (Op op) = eq-eqb session session refl
of_session session w job txn (CommitItem n) = eq-eqb session session refl
of_session session w job txn (RollbackItem n) = eq-eqb session session refl

-- the entry at a position, from a list to another
at_moved : (es fs : List Entry) (at : ℕ) (e : Entry) → ((i : ℕ) → slice_get es i ≡ Some e → slice_get fs i ≡ Some e) → entry_at es at ≡ Some e → entry_at fs at ≡ Some e
at_moved es fs zero e f h = absurd (cc (h))
at_moved es fs (suc i) e f h = f i h

pub answered_is_told : AnsweredIsTold
answered_is_told l acts d app job line at kind run its there = has (s.pair_at app).session refl
  where
    s : Server
    s = server_after l acts d

    w : ℕ
    w = w_at (entry_at (told_order s app) at)

    go : has_session s app ≡ true → (o : Option Issued) → is_answered_item job line kind o ≡ true → entry_at s.order at ≡ option_map (entry_of (pair_session s app) w) o → entry_at (told_order s app) at ≡ option_map (entry_of (pair_session s app) w) o
    go met None its there = absurd (cc (its))
    go met (Some x) its there =
        at_moved s.order (told_order s app) at _ (λ i h. stands_told l acts d app run met i _ h (of_session (pair_session s app) w x.job x.txn x.item)) there

    has : (o : Option ℕ) → (s.pair_at app).session ≡ o → entry_at (told_order s app) at ≡ option_map (entry_of (pair_session s app) w) (item_at s app at)
    has None e = absurd (both_ways (is_answered_item job line kind (item_at s app at)) its (((none_without_session l acts d app run (ap is_some e)).done job).item line at kind))
    has (Some n) e = go (ap is_some e) (item_at s app at) its there

item_of : (s n : ℕ) (e : Entry) → is_item_at s n e ≡ true → is_item_of s e ≡ true
item_of s n (Epoch number) h = h
item_of s n (OpenedEntry session app) h = h
item_of s n (Closed session) h = h
item_of s n (Update session w job txn op) h = (and_parts (session == s) (w == n) h).0
item_of s n (Commit session w job txn) h = (and_parts (session == s) (w == n) h).0
item_of s n (Rollback session w job txn) h = (and_parts (session == s) (w == n) h).0

or_right : (a b : Bool) → b ≡ true → (a || b) ≡ true
or_right true b e = refl
or_right false b e = e

-- one that passes a test stands at the same place of another list
any_moved : (q : Entry → Bool) (m : ℕ) (es fs : List Entry) → ((i : ℕ) (e : Entry) → slice_get es i ≡ Some e → q e ≡ true → slice_get fs i ≡ Some e) → list_any q (take m es) ≡ true → list_any q (take m fs) ≡ true
any_moved q zero es fs f h = absurd (cc (h))
any_moved q (suc m) [] fs f h = absurd (cc (h))
any_moved q (suc m) (x ∷ es) [] f h = go (q x) refl (any_moved q m es [] (λ i e a b. absurd (cc (f (suc i) e a b)))) h
  where
    none : (m : ℕ) → list_any q (take m []) ≡ true → ⊥
    none zero e = absurd (cc (e))
    none (suc m) e = absurd (cc (e))

    go : (b : Bool) → q x ≡ b → (list_any q (take m es) ≡ true → list_any q (take m []) ≡ true) → (b || list_any q (take m es)) ≡ true → list_any q (take (suc m) []) ≡ true
    go true is rest h = absurd (cc (f 0 x refl is))
    go false is rest h = absurd (none m (rest h))
any_moved q (suc m) (x ∷ es) (y ∷ fs) f h = go (q x) refl (any_moved q m es fs (λ i e a b. f (suc i) e a b)) h
  where
    go : (b : Bool) → q x ≡ b → (list_any q (take m es) ≡ true → list_any q (take m fs) ≡ true) → (b || list_any q (take m es)) ≡ true → (q y || list_any q (take m fs)) ≡ true
    go true is rest h = let same : y ≡ x = cc (f 0 x refl is) in ap (λ (b : Bool). b || list_any q (take m fs)) (ap q same ∙ is)
    go false is rest h = or_right (q y) (list_any q (take m fs)) (rest h)

pub all_in_order_are_told : AllInOrderAreTold
all_in_order_are_told l acts d app job at run has all =
    stand_more (take at (server_after l acts d).order) (take at (told_order (server_after l acts d) app)) (pair_session (server_after l acts d) app) job 0 (pair_issued (server_after l acts d) app)
    (λ w h. any_moved (is_item_at (pair_session (server_after l acts d) app) w) at (server_after l acts d).order (told_order (server_after l acts d) app)
    (λ i e there is. stands_told l acts d app run has i e there (item_of (pair_session (server_after l acts d) app) w e is)) h) all
