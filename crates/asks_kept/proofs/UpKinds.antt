-- Requests for locks among messages: what is said of each Ask, by its ticket and job.
use Rattle.std.proofs.Common.{◌≡◌, ◌<◌, ◌≤◌, ℕ, Bool, true, false, ◌&&◌, ◌||◌, List, [], ◌∷◌, refl, ◌∙◌, ap, subst}
use Rattle.std.specs.Prelude.{⊤, ◌==◌}
use Rattle.std.specs.List.{AllByRecursion, list_any}
use Rattle.std.proofs.lemmas.Bool.{and_parts, eq-eqb, eqb-true, false≢true}
use Rattle.lock_table.specs.declared.rows.Request.{Request}
use Rattle.ecp_messages.specs.declared.up.Up.{Up}
use Rattle.ecp_messages.specs.declared.up.Up.TheVariants as up
use Rattle.ecp_messages.specs.declared.down.Down.{Down}
use Rattle.app_rules.specs.declared.session_parts.Asked.{Asked}
use Rattle.cluster_runs.specs.Sent.{Lane, downs_taken}
use Rattle.cluster_invariant.proofs.AllLists.{all_follow}
use Rattle.cluster_invariant.specs.Asks.{ComesBefore, FollowsAsks, WaitsUntilOver, is_ask, asks_for, asks_it, asks_ticket, is_over, is_put_for}

-- lists

-- a test that finds something finds it where another finds all that it does
pub any_wider_test : {X : Type 0} (p q : X → Bool) → ((x : X) → p x ≡ true → q x ≡ true) → (xs : List X) → list_any p xs ≡ true → list_any q xs ≡ true
any_wider_test p q wider [] is = absurd (false≢true is)
any_wider_test p q wider (x ∷ xs) is = go (p x) refl is (any_wider_test p q wider xs)
  where
    or_first : (a b : Bool) → a ≡ true → (a || b) ≡ true
    or_first a b first = ap (λ (c : Bool). c || b) first

    or_second : (a b : Bool) → b ≡ true → (a || b) ≡ true
    or_second true b second = refl
    or_second false b second = second

    go : (b : Bool) → p x ≡ b → (b || list_any p xs) ≡ true → (list_any p xs ≡ true → list_any q xs ≡ true) → (q x || list_any q xs) ≡ true
    go true here found more = or_first (q x) (list_any q xs) (wider x here)
    go false other found more = or_second (q x) (list_any q xs) (more found)

-- what is found has what all have
pub any_of_all : {X : Type 0} (P : X → Type 0) (R : Type 0) (p : X → Bool) → ((x : X) → p x ≡ true → P x → R) → (xs : List X) → list_any p xs ≡ true
    → AllByRecursion P xs → R
any_of_all P R p each [] is all = absurd (false≢true is)
any_of_all P R p each (x ∷ xs) is all = go (p x) refl is (λ found. any_of_all P R p each xs found all.1)
  where
    go : (b : Bool) → p x ≡ b → (b || list_any p xs) ≡ true → (list_any p xs ≡ true → R) → R
    go true here found more = each x here all.0
    go false other found more = more found

-- kinds of messages

-- it holds of an Ask, by its ticket and job
abbrev pub OfAsk : (ℕ → ℕ → Type 0) → Up → Type 0
OfAsk Q (up.Ask ticket job mode key) = Q ticket job
OfAsk Q m = ⊤

-- the Ask of a ticket and a job is the one
ask_here : (t j : ℕ) → (t == t && j == j) ≡ true
ask_here t j = ap (λ (b : Bool). b && j == j) (eq-eqb t t refl) ∙ eq-eqb j j refl

of_ask : (Q : ℕ → ℕ → Type 0) (m : Up) → ((t j : ℕ) → asks_for t j m ≡ true → Q t j) → OfAsk Q m
of_ask Q (up.Hello app dial) each = tt
of_ask Q (up.Recover app session epoch came dial) each = tt
of_ask Q (up.Update w job txn op) each = tt
of_ask Q (up.Add w job key amount) each = tt
of_ask Q (up.Fetch key) each = tt
of_ask Q (up.Ask ticket job mode key) each = each ticket job (ask_here ticket job)
of_ask Q (up.Unlock job mode key) each = tt
of_ask Q (up.Cancel ticket) each = tt
of_ask Q (up.Commit w job txn wanted) each = tt
of_ask Q (up.Rollback w job txn) each = tt
of_ask Q (up.Sync ticket) each = tt
of_ask Q up.Done each = tt
of_ask Q (up.Claim job mode number at key) each = tt
of_ask Q up.Bare each = tt

-- What holds of the ticket and job of each Ask holds of each of the Asks.
pub all_asks : (Q : ℕ → ℕ → Type 0) (ms : List Up) → ((t j : ℕ) → list_any (asks_for t j) ms ≡ true → Q t j) → AllByRecursion (OfAsk Q) ms
all_asks Q [] each = tt
all_asks Q (m ∷ ms) each = (of_ask Q m (λ t j is. each t j (ap (λ (b : Bool). b || list_any (asks_for t j) ms) is)), all_asks Q ms (λ t j is. each t j (behind (asks_for t j m) (list_any (asks_for t j) ms) is)))
  where
    behind : (a b : Bool) → b ≡ true → (a || b) ≡ true
    behind true b is = refl
    behind false b is = is

its_ask : (Q : ℕ → ℕ → Type 0) (t j : ℕ) (m : Up) → asks_for t j m ≡ true → OfAsk Q m → Q t j
its_ask Q t j (up.Hello app dial) is of = absurd (false≢true is)
its_ask Q t j (up.Recover app session epoch came dial) is of = absurd (false≢true is)
its_ask Q t j (up.Update w job txn op) is of = absurd (false≢true is)
its_ask Q t j (up.Add w job key amount) is of = absurd (false≢true is)
its_ask Q t j (up.Fetch key) is of = absurd (false≢true is)
its_ask Q t j (up.Ask ticket job mode key) is of =
    let parts : ((ticket == t) ≡ true) × ((job == j) ≡ true) = and_parts (ticket == t) (job == j) is in
    subst (λ (n : ℕ). Q n j) (eqb-true ticket t parts.0) (subst (λ (n : ℕ). Q ticket n) (eqb-true job j parts.1) of)
its_ask Q t j (up.Unlock job mode key) is of = absurd (false≢true is)
its_ask Q t j (up.Cancel ticket) is of = absurd (false≢true is)
its_ask Q t j (up.Commit w job txn wanted) is of = absurd (false≢true is)
its_ask Q t j (up.Rollback w job txn) is of = absurd (false≢true is)
its_ask Q t j (up.Sync ticket) is of = absurd (false≢true is)
its_ask Q t j up.Done is of = absurd (false≢true is)
its_ask Q t j (up.Claim job mode number at key) is of = absurd (false≢true is)
its_ask Q t j up.Bare is of = absurd (false≢true is)

-- And of the ticket and job of each.
pub asks_all : (Q : ℕ → ℕ → Type 0) (ms : List Up) → AllByRecursion (OfAsk Q) ms → (t j : ℕ) → list_any (asks_for t j) ms ≡ true → Q t j
asks_all Q ms all t j is = any_of_all (OfAsk Q) (Q t j) (asks_for t j) (λ m here of. its_ask Q t j m here of) ms is all

-- tests of Asks

first_two : (a b c : Bool) → (a && (b && c)) ≡ true → (a && b) ≡ true
first_two true true c is = refl
first_two true false c is = absurd (false≢true is)
first_two false b c is = absurd (false≢true is)

for_it : (r : Request) (m : Up) → asks_it r m ≡ true → asks_for r.ticket r.who.job m ≡ true
for_it r (up.Hello app dial) is = absurd (false≢true is)
for_it r (up.Recover app session epoch came dial) is = absurd (false≢true is)
for_it r (up.Update w job txn op) is = absurd (false≢true is)
for_it r (up.Add w job key amount) is = absurd (false≢true is)
for_it r (up.Fetch key) is = absurd (false≢true is)
for_it r (up.Ask ticket job mode key) is = first_two (ticket == r.ticket) (job == r.who.job) _ is
for_it r (up.Unlock job mode key) is = absurd (false≢true is)
for_it r (up.Cancel ticket) is = absurd (false≢true is)
for_it r (up.Commit w job txn wanted) is = absurd (false≢true is)
for_it r (up.Rollback w job txn) is = absurd (false≢true is)
for_it r (up.Sync ticket) is = absurd (false≢true is)
for_it r up.Done is = absurd (false≢true is)
for_it r (up.Claim job mode number at key) is = absurd (false≢true is)
for_it r up.Bare is = absurd (false≢true is)

-- the Ask of a request is that of its ticket and job
pub any_for : (r : Request) (ms : List Up) → list_any (asks_it r) ms ≡ true → list_any (asks_for r.ticket r.who.job) ms ≡ true
any_for r ms is = any_wider_test (asks_it r) (asks_for r.ticket r.who.job) (for_it r) ms is

for_ticket : (t j : ℕ) (m : Up) → asks_for t j m ≡ true → asks_ticket t m ≡ true
for_ticket t j (up.Hello app dial) is = absurd (false≢true is)
for_ticket t j (up.Recover app session epoch came dial) is = absurd (false≢true is)
for_ticket t j (up.Update w job txn op) is = absurd (false≢true is)
for_ticket t j (up.Add w job key amount) is = absurd (false≢true is)
for_ticket t j (up.Fetch key) is = absurd (false≢true is)
for_ticket t j (up.Ask ticket job mode key) is = (and_parts (ticket == t) (job == j) is).0
for_ticket t j (up.Unlock job mode key) is = absurd (false≢true is)
for_ticket t j (up.Cancel ticket) is = absurd (false≢true is)
for_ticket t j (up.Commit w job txn wanted) is = absurd (false≢true is)
for_ticket t j (up.Rollback w job txn) is = absurd (false≢true is)
for_ticket t j (up.Sync ticket) is = absurd (false≢true is)
for_ticket t j up.Done is = absurd (false≢true is)
for_ticket t j (up.Claim job mode number at key) is = absurd (false≢true is)
for_ticket t j up.Bare is = absurd (false≢true is)

-- and that of its ticket
pub any_ticket : (t j : ℕ) (ms : List Up) → list_any (asks_for t j) ms ≡ true → list_any (asks_ticket t) ms ≡ true
any_ticket t j ms is = any_wider_test (asks_for t j) (asks_ticket t) (for_ticket t j) ms is

ticket_ask : (t : ℕ) (m : Up) → asks_ticket t m ≡ true → is_ask m ≡ true
ticket_ask t (up.Hello app dial) is = absurd (false≢true is)
ticket_ask t (up.Recover app session epoch came dial) is = absurd (false≢true is)
ticket_ask t (up.Update w job txn op) is = absurd (false≢true is)
ticket_ask t (up.Add w job key amount) is = absurd (false≢true is)
ticket_ask t (up.Fetch key) is = absurd (false≢true is)
ticket_ask t (up.Ask ticket job mode key) is = refl
ticket_ask t (up.Unlock job mode key) is = absurd (false≢true is)
ticket_ask t (up.Cancel ticket) is = absurd (false≢true is)
ticket_ask t (up.Commit w job txn wanted) is = absurd (false≢true is)
ticket_ask t (up.Rollback w job txn) is = absurd (false≢true is)
ticket_ask t (up.Sync ticket) is = absurd (false≢true is)
ticket_ask t up.Done is = absurd (false≢true is)
ticket_ask t (up.Claim job mode number at key) is = absurd (false≢true is)
ticket_ask t up.Bare is = absurd (false≢true is)

pub any_ask : (t : ℕ) (ms : List Up) → list_any (asks_ticket t) ms ≡ true → list_any is_ask ms ≡ true
any_ask t ms is = any_wider_test (asks_ticket t) is_ask (ticket_ask t) ms is

ticket_for : (t : ℕ) (m : Up) → asks_ticket t m ≡ true → (j : ℕ) × (asks_for t j m ≡ true)
ticket_for t (up.Hello app dial) is = absurd (false≢true is)
ticket_for t (up.Recover app session epoch came dial) is = absurd (false≢true is)
ticket_for t (up.Update w job txn op) is = absurd (false≢true is)
ticket_for t (up.Add w job key amount) is = absurd (false≢true is)
ticket_for t (up.Fetch key) is = absurd (false≢true is)
ticket_for t (up.Ask ticket job mode key) is = (job, ap (λ (b : Bool). b && job == job) is ∙ eq-eqb job job refl)
ticket_for t (up.Unlock job mode key) is = absurd (false≢true is)
ticket_for t (up.Cancel ticket) is = absurd (false≢true is)
ticket_for t (up.Commit w job txn wanted) is = absurd (false≢true is)
ticket_for t (up.Rollback w job txn) is = absurd (false≢true is)
ticket_for t (up.Sync ticket) is = absurd (false≢true is)
ticket_for t up.Done is = absurd (false≢true is)
ticket_for t (up.Claim job mode number at key) is = absurd (false≢true is)
ticket_for t up.Bare is = absurd (false≢true is)

-- an Ask of a ticket is of some job
pub any_job : (t : ℕ) (ms : List Up) → list_any (asks_ticket t) ms ≡ true → (j : ℕ) × (list_any (asks_for t j) ms ≡ true)
any_job t [] is = absurd (false≢true is)
any_job t (m ∷ ms) is = go (asks_ticket t m) refl is (any_job t ms)
  where
    behind : (a b : Bool) → b ≡ true → (a || b) ≡ true
    behind true b is = refl
    behind false b is = is

    go : (b : Bool) → asks_ticket t m ≡ b → (b || list_any (asks_ticket t) ms) ≡ true
        → (list_any (asks_ticket t) ms ≡ true → (j : ℕ) × (list_any (asks_for t j) ms ≡ true)) → (j : ℕ) × (list_any (asks_for t j) (m ∷ ms) ≡ true)
    go true here found more = let at : (j : ℕ) × (asks_for t j m ≡ true) = ticket_for t m here in (at.0, ap (λ (b : Bool). b || list_any (asks_for t at.0) ms) at.1)
    go false other found more = let at : (j : ℕ) × (list_any (asks_for t j) ms ≡ true) = more found in (at.0, behind (asks_for t at.0 m) (list_any (asks_for t at.0) ms) at.1)

-- what is said of an Ask before another, and of one that was put

-- one before another has a lesser ticket, and is over if it is of the same job
abbrev pub Before : List Up → List Down → ℕ → ℕ → ℕ → ℕ → Type 0
Before earlier taken ticket job t j = (t < ticket) × (j ≡ job → is_over earlier taken t ≡ true)

before_of : (earlier : List Up) (taken : List Down) (n k : ℕ) (m : Up) → ComesBefore earlier taken n k m → OfAsk (Before earlier taken n k) m
before_of earlier taken n k (up.Hello app dial) is = tt
before_of earlier taken n k (up.Recover app session epoch came dial) is = tt
before_of earlier taken n k (up.Update w job txn op) is = tt
before_of earlier taken n k (up.Add w job key amount) is = tt
before_of earlier taken n k (up.Fetch key) is = tt
before_of earlier taken n k (up.Ask ticket job mode key) is = is
before_of earlier taken n k (up.Unlock job mode key) is = tt
before_of earlier taken n k (up.Cancel ticket) is = tt
before_of earlier taken n k (up.Commit w job txn wanted) is = tt
before_of earlier taken n k (up.Rollback w job txn) is = tt
before_of earlier taken n k (up.Sync ticket) is = tt
before_of earlier taken n k up.Done is = tt
before_of earlier taken n k (up.Claim job mode number at key) is = tt
before_of earlier taken n k up.Bare is = tt

of_before : (earlier : List Up) (taken : List Down) (n k : ℕ) (m : Up) → OfAsk (Before earlier taken n k) m → ComesBefore earlier taken n k m
of_before earlier taken n k (up.Hello app dial) is = tt
of_before earlier taken n k (up.Recover app session epoch came dial) is = tt
of_before earlier taken n k (up.Update w job txn op) is = tt
of_before earlier taken n k (up.Add w job key amount) is = tt
of_before earlier taken n k (up.Fetch key) is = tt
of_before earlier taken n k (up.Ask ticket job mode key) is = is
of_before earlier taken n k (up.Unlock job mode key) is = tt
of_before earlier taken n k (up.Cancel ticket) is = tt
of_before earlier taken n k (up.Commit w job txn wanted) is = tt
of_before earlier taken n k (up.Rollback w job txn) is = tt
of_before earlier taken n k (up.Sync ticket) is = tt
of_before earlier taken n k up.Done is = tt
of_before earlier taken n k (up.Claim job mode number at key) is = tt
of_before earlier taken n k up.Bare is = tt

-- All that stand before an Ask, by their tickets and jobs, and back.
pub all_before : (earlier : List Up) (taken : List Down) (n k : ℕ) (ms : List Up) → AllByRecursion (ComesBefore earlier taken n k) ms
    → (t j : ℕ) → list_any (asks_for t j) ms ≡ true → Before earlier taken n k t j
all_before earlier taken n k ms all =
    asks_all (Before earlier taken n k) ms (all_follow (ComesBefore earlier taken n k) (OfAsk (Before earlier taken n k)) (before_of earlier taken n k) ms all)

pub before_all : (earlier : List Up) (taken : List Down) (n k : ℕ) (ms : List Up)
    → ((t j : ℕ) → list_any (asks_for t j) ms ≡ true → Before earlier taken n k t j) → AllByRecursion (ComesBefore earlier taken n k) ms
before_all earlier taken n k ms each =
    all_follow (OfAsk (Before earlier taken n k)) (ComesBefore earlier taken n k) (of_before earlier taken n k) ms (all_asks (Before earlier taken n k) ms each)

-- an end waits for it until it is over
abbrev pub Until : Lane → ℕ → List Asked → ℕ → ℕ → Type 0
Until lane newest asks t j = (t ≤ newest) × (is_over lane.up (downs_taken lane) t ≡ false → list_any (is_put_for t j) asks ≡ true)

until_of : (lane : Lane) (newest : ℕ) (asks : List Asked) (m : Up) → WaitsUntilOver lane newest asks m → OfAsk (Until lane newest asks) m
until_of lane newest asks (up.Hello app dial) is = tt
until_of lane newest asks (up.Recover app session epoch came dial) is = tt
until_of lane newest asks (up.Update w job txn op) is = tt
until_of lane newest asks (up.Add w job key amount) is = tt
until_of lane newest asks (up.Fetch key) is = tt
until_of lane newest asks (up.Ask ticket job mode key) is = is
until_of lane newest asks (up.Unlock job mode key) is = tt
until_of lane newest asks (up.Cancel ticket) is = tt
until_of lane newest asks (up.Commit w job txn wanted) is = tt
until_of lane newest asks (up.Rollback w job txn) is = tt
until_of lane newest asks (up.Sync ticket) is = tt
until_of lane newest asks up.Done is = tt
until_of lane newest asks (up.Claim job mode number at key) is = tt
until_of lane newest asks up.Bare is = tt

of_until : (lane : Lane) (newest : ℕ) (asks : List Asked) (m : Up) → OfAsk (Until lane newest asks) m → WaitsUntilOver lane newest asks m
of_until lane newest asks (up.Hello app dial) is = tt
of_until lane newest asks (up.Recover app session epoch came dial) is = tt
of_until lane newest asks (up.Update w job txn op) is = tt
of_until lane newest asks (up.Add w job key amount) is = tt
of_until lane newest asks (up.Fetch key) is = tt
of_until lane newest asks (up.Ask ticket job mode key) is = is
of_until lane newest asks (up.Unlock job mode key) is = tt
of_until lane newest asks (up.Cancel ticket) is = tt
of_until lane newest asks (up.Commit w job txn wanted) is = tt
of_until lane newest asks (up.Rollback w job txn) is = tt
of_until lane newest asks (up.Sync ticket) is = tt
of_until lane newest asks up.Done is = tt
of_until lane newest asks (up.Claim job mode number at key) is = tt
of_until lane newest asks up.Bare is = tt

-- All that an end put, by their tickets and jobs, and back.
pub all_until : (lane : Lane) (newest : ℕ) (asks : List Asked) (ms : List Up) → AllByRecursion (WaitsUntilOver lane newest asks) ms
    → (t j : ℕ) → list_any (asks_for t j) ms ≡ true → Until lane newest asks t j
all_until lane newest asks ms all =
    asks_all (Until lane newest asks) ms (all_follow (WaitsUntilOver lane newest asks) (OfAsk (Until lane newest asks)) (until_of lane newest asks) ms all)

pub until_all : (lane : Lane) (newest : ℕ) (asks : List Asked) (ms : List Up)
    → ((t j : ℕ) → list_any (asks_for t j) ms ≡ true → Until lane newest asks t j) → AllByRecursion (WaitsUntilOver lane newest asks) ms
until_all lane newest asks ms each =
    all_follow (OfAsk (Until lane newest asks)) (WaitsUntilOver lane newest asks) (of_until lane newest asks) ms (all_asks (Until lane newest asks) ms each)

-- what is known of a message by those before it, as more is over
pub follows_over : (earlier : List Up) (taken more : List Down) → ((t : ℕ) → is_over earlier taken t ≡ true → is_over earlier more t ≡ true) → (m : Up)
    → FollowsAsks earlier taken m → FollowsAsks earlier more m
follows_over earlier taken more over (up.Hello app dial) is = tt
follows_over earlier taken more over (up.Recover app session epoch came dial) is = tt
follows_over earlier taken more over (up.Update w job txn op) is = tt
follows_over earlier taken more over (up.Add w job key amount) is = tt
follows_over earlier taken more over (up.Fetch key) is = tt
follows_over earlier taken more over (up.Ask ticket job mode key) is =
    before_all earlier more ticket job earlier
    (λ t j at. let b : Before earlier taken ticket job t j = all_before earlier taken ticket job earlier is t j at in (b.0, λ same. over t (b.1 same)))
follows_over earlier taken more over (up.Unlock job mode key) is = tt
follows_over earlier taken more over (up.Cancel ticket) is = is
follows_over earlier taken more over (up.Commit w job txn wanted) is = tt
follows_over earlier taken more over (up.Rollback w job txn) is = tt
follows_over earlier taken more over (up.Sync ticket) is = tt
follows_over earlier taken more over up.Done is = tt
follows_over earlier taken more over (up.Claim job mode number at key) is = is
follows_over earlier taken more over up.Bare is = tt
