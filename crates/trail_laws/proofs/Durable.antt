-- What is synced stays.
use Rattle.std.proofs.Common.{◌≡◌, ℕ, zero, suc, ◌≤◌, ◌<◌, List, [], ◌∷◌, ◌++◌, take, refl, subst, sym, ap, Bool, true, arith, slice_get, Option, Some, None, ◌&&◌, ◌==◌}
use Rattle.std.specs.Prelude.{IsSomeAnd}
use Rattle.std.specs.Option.{option_map}
use Rattle.std.proofs.lemmas.Bool.{and_parts, and_from, eqb-true, eq-eqb}
use Rattle.std.proofs.lemmas.Option.{same_Some}
use Rattle.plain_orders.specs.declared.entry.Entry.{Entry}
use Rattle.plain_orders.specs.declared.item.Item.{Item}
use Rattle.plain_orders.specs.declared.item.Item.TheVariants.{Op, Commit as CommitItem, Rollback as RollbackItem}
use Rattle.plain_orders.specs.declared.act.Act.{Act}
use Rattle.plain_orders.specs.declared.act.Act.TheVariants.{Counted, NotWhole, Range, Committed, RolledBack}
use Rattle.plain_orders.specs.declared.layout.Layout.{Layout}
use Rattle.plain_orders.specs.Entries.{entry_at}
use Rattle.plain_orders.specs.Own.{Issued}
use Rattle.plain_runs.specs.Plain.{Plain, Server, app_of, order_at, current, start, pair_session, told_order}
use Rattle.plain_runs.specs.Items.{entry_of, entry_of_item, is_add, is_add_op, is_commit, is_rollback}
use Rattle.plain_runs.specs.JobRows.{AnswerMay, item_at, is_answered_item, w_at}
use Rattle.plain_runs.specs.Step.{MayCome}
use Rattle.plain_runs.specs.Run.{IsRun, RunFrom, after_all, state_after}
use Rattle.plain_runs.specs.Laws.{server_after}
use Rattle.plain_runs.proofs.RunLemmas.{run_parts, after_all-append}
use Rattle.plain_runs.proofs.Orders.{OrdersGo, facet}
use Rattle.plain_runs.proofs.OrderLaws.{orders_kept, run_steps, synced_stays}
use Rattle.trail_laws.specs.DurableLaw.{Answer, AnswersStay, EntriesStay, answer_of, is_add_of, is_commit_of, is_rollback_of}

-- the act at a place of a run may come there
pub may_after : (l : Layout) (before later : List Act) (a : Act) → IsRun l (before ++ a ∷ later) → MayCome l (state_after l before) a
may_after l before later a run = (run_parts l start before (a ∷ later) run).1.0

-- what becomes of the orders of a server along the rest of a run
pub orders_go : (l : Layout) (before later : List Act) (d : ℕ) → IsRun l (before ++ later) → OrdersGo (facet (server_after l before d)) (facet (server_after l (before ++ later) d))
orders_go l before later d run =
    let parts : RunFrom l start before × RunFrom l (after_all l start before) later = run_parts l start before later run in
    subst (λ (p : Plain). OrdersGo (facet (server_after l before d)) (facet (p.server_at d))) (sym (after_all-append l start before later)) (run_steps l (after_all l start before) later parts.1 d (orders_kept l before d parts.0)).1

-- the current order is no earlier than the one before
pub later_order : (l : Layout) (before later : List Act) (d : ℕ) → IsRun l (before ++ later) → current (server_after l before d) ≤ current (server_after l (before ++ later) d)
later_order l before later d run = (orders_go l before later d run).more

pub got_taken : {X : Type 0} (xs ys : List X) (n i : ℕ) → take n xs ≡ take n ys → i < n → slice_get xs i ≡ slice_get ys i
got_taken [] [] n i e low = refl
got_taken [] (y ∷ ys) zero i e low = absurd (omega arith)
got_taken [] (y ∷ ys) (suc n) i e low = absurd (cc (e))
got_taken (x ∷ xs) [] zero i e low = absurd (omega arith)
got_taken (x ∷ xs) [] (suc n) i e low = absurd (cc (e))
got_taken (x ∷ xs) (y ∷ ys) zero i e low = absurd (omega arith)
got_taken (x ∷ xs) (y ∷ ys) (suc n) zero e low = cc (e)
got_taken (x ∷ xs) (y ∷ ys) (suc n) (suc i) e low = got_taken xs ys n i (cc (e)) (omega arith)

pub at_taken : (xs ys : List Entry) (n at : ℕ) → take n xs ≡ take n ys → at ≤ n → entry_at xs at ≡ entry_at ys at
at_taken xs ys n zero e low = refl
at_taken xs ys n (suc i) e low = got_taken xs ys n i e (omega arith)

pub entries_stay : EntriesStay
entries_stay l before later d k at run low from to =
    at_taken (order_at (server_after l (before ++ later) d) k) (server_after l before d).order (server_after l before d).synced at (synced_stays l before later d k run from to) low

-- an answered item is the entry that it became
its_entry : (s : Server) (app job line at : ℕ) (kind : Item → Bool) (its : ℕ → Entry → Bool) → ((i : Issued) (n w : ℕ) → kind i.item ≡ true → its i.job (entry_of n w i) ≡ true) → AnswerMay s app job line at kind
    → IsSomeAnd (entry_at s.order at) (λ e. its job e ≡ true)
its_entry s app job line at kind its is may = go (item_at s app at) may.its may.in_order
  where
    w : ℕ
    w = w_at (entry_at (told_order s app) at)

    go : (o : Option Issued) → is_answered_item job line kind o ≡ true → entry_at s.order at ≡ option_map (entry_of (pair_session s app) w) o → IsSomeAnd (entry_at s.order at) (λ e. its job e ≡ true)
    go None h e = absurd (cc (h))
    go (Some i) h e =
        let x = and_parts (i.job == job && i.line == line) (kind i.item) h in
        let j : i.job ≡ job = eqb-true i.job job (and_parts (i.job == job) (i.line == line) x.0).0 in
        subst (λ o. IsSomeAnd o (λ f. its job f ≡ true)) (sym e) (subst (λ n. its n (entry_of (pair_session s app) w i) ≡ true) j (is i (pair_session s app) w x.1))

add_is : (i : Issued) (n w : ℕ) → is_add i.item ≡ true → is_add_of i.job (entry_of n w i) ≡ true
add_is i n w e = go i.item e
  where
    go : (x : Item) → is_add x ≡ true → is_add_of i.job (entry_of_item n w i.job i.txn x) ≡ true
    go (Op op) e = and_from (i.job == i.job) (is_add_op op) (eq-eqb i.job i.job refl) e
    go (CommitItem k) e = absurd (cc (e))
    go (RollbackItem k) e = absurd (cc (e))

commit_is : (i : Issued) (n w : ℕ) → is_commit i.item ≡ true → is_commit_of i.job (entry_of n w i) ≡ true
commit_is i n w e = go i.item e
  where
    go : (x : Item) → is_commit x ≡ true → is_commit_of i.job (entry_of_item n w i.job i.txn x) ≡ true
    go (Op op) e = absurd (cc (e))
    go (CommitItem k) e = eq-eqb i.job i.job refl
    go (RollbackItem k) e = absurd (cc (e))

rollback_is : (i : Issued) (n w : ℕ) → is_rollback i.item ≡ true → is_rollback_of i.job (entry_of n w i) ≡ true
rollback_is i n w e = go i.item e
  where
    go : (x : Item) → is_rollback x ≡ true → is_rollback_of i.job (entry_of_item n w i.job i.txn x) ≡ true
    go (Op op) e = absurd (cc (e))
    go (CommitItem k) e = absurd (cc (e))
    go (RollbackItem k) e = eq-eqb i.job i.job refl

-- where an answer is given its entry is synced and stands
record Answered (s : Server) (answer : Answer) : Type 0 where
  low : answer.at ≤ s.synced
  stands : IsSomeAnd (entry_at s.order answer.at) (λ e. answer.its e ≡ true)

answered : (s : Server) (app job line at d : ℕ) (kind : Item → Bool) (its : ℕ → Entry → Bool) (answer : Answer) → ((i : Issued) (n w : ℕ) → kind i.item ≡ true → its i.job (entry_of n w i) ≡ true) → AnswerMay s app job line at kind
    → Some (record { job = job; server = d; at = at; its = its job }) ≡ Some answer → Answered s answer
answered s app job line at d kind its answer is may e =
    subst (Answered s) (same_Some (record { job = job; server = d; at = at; its = its job }) answer e) (record { low = may.synced; stands = its_entry s app job line at kind its is may })

server_is : (x answer : Answer) → Some x ≡ Some answer → x.server ≡ answer.server
server_is x answer e = ap (λ (y : Answer). y.server) (same_Some x answer e)

row_answered : (l : Layout) (p : Plain) (a : Act) (answer : Answer) → MayCome l p a → answer_of a ≡ Some answer → Answered (p.server_at answer.server) answer
row_answered l p (Counted job line d at sum) answer may e = subst (λ n. Answered (p.server_at n) answer) (server_is (record { job = job; server = d; at = at; its = is_add_of job }) answer e) (answered (p.server_at d) (app_of l job) job line at d is_add is_add_of answer add_is may.1.stands e)
row_answered l p (NotWhole job line d at) answer may e = subst (λ n. Answered (p.server_at n) answer) (server_is (record { job = job; server = d; at = at; its = is_add_of job }) answer e) (answered (p.server_at d) (app_of l job) job line at d is_add is_add_of answer add_is may.1.stands e)
row_answered l p (Range job line d at) answer may e = subst (λ n. Answered (p.server_at n) answer) (server_is (record { job = job; server = d; at = at; its = is_add_of job }) answer e) (answered (p.server_at d) (app_of l job) job line at d is_add is_add_of answer add_is may.1.stands e)
row_answered l p (Committed job line d at) answer may e = subst (λ n. Answered (p.server_at n) answer) (server_is (record { job = job; server = d; at = at; its = is_commit_of job }) answer e) (answered (p.server_at d) (app_of l job) job line at d is_commit is_commit_of answer commit_is may.1 e)
row_answered l p (RolledBack job line d at) answer may e = subst (λ n. Answered (p.server_at n) answer) (server_is (record { job = job; server = d; at = at; its = is_rollback_of job }) answer e) (answered (p.server_at d) (app_of l job) job line at d is_rollback is_rollback_of answer rollback_is may.1 e)
row_answered l p _ answer may e = absurd (cc (e))

pub answers_stay : AnswersStay
answers_stay l before later a answer k run is from to =
    let x : Answered (server_after l before answer.server) answer = row_answered l (state_after l before) a answer (may_after l before later a run) is in
    (entries_stay l before (a ∷ later) answer.server k answer.at run x.low from to, x.stands)
