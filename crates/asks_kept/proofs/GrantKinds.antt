-- Grants among messages and replies, by their tickets; and what is given up.
use Rattle.std.proofs.Common.{◌≡◌, ℕ, zero, suc, Bool, true, false, ◌||◌, List, [], ◌∷◌, ◌++◌, take, ◌∙◌, ap, subst, refl}
use Rattle.std.specs.Prelude.{◌==◌, ◌&&◌, nat_eq}
use Rattle.std.specs.Cmp.Lexicographic.{pointwise}
use Rattle.std.specs.List.{AllByRecursion, list_any}
use Rattle.std.proofs.lemmas.Bool.{and_parts, eq-eqb, eqb-true, false≢true}
use Rattle.std.proofs.lemmas.List.{append_assoc}
use Rattle.plain_runs.proofs.Lists.{any_front}
use Rattle.lock_table.specs.declared.rows.Request.{Request}
use Rattle.ecp_messages.specs.declared.up.Up.{Up}
use Rattle.ecp_messages.specs.declared.up.Up.TheVariants as up
use Rattle.ecp_messages.specs.declared.down.Down.{Down}
use Rattle.ecp_messages.specs.declared.down.Down.TheVariants as down
use Rattle.data_rules.specs.declared.rows.Reply.{Reply}
use Rattle.data_rules.specs.declared.rows.Says.{Says}
use Rattle.data_rules.specs.declared.rows.Says.TheVariants.{AnswerOf, EpochWelcome, GrantOf, NewWelcome, ResetOf}
use Rattle.cluster_runs.specs.Sent.{Lane, ups_taken}
use Rattle.cluster_invariant.specs.Asks.{AllFollow, FollowsAsks, GrantsAsked, WaitsAsked, asks_it, asks_ticket, cancels_ticket, grants_of, grants_ticket, is_grant_of}
use Rattle.plain_orders.specs.declared.mode.Mode.{Mode}
use Rattle.plain_orders.specs.declared.mode.Mode.TheVariants.{Exclusive, Shared}
use Rattle.lock_table.specs.LockWords.{is_same_mode}
use Rattle.asks_kept.proofs.UpKinds.{any_of_all}

grant_asked : (ups : List Up) (k : ℕ) (m : Down) → grants_ticket k m ≡ true → GrantsAsked ups m → list_any (asks_ticket k) ups ≡ true
grant_asked ups k (down.Welcome session epoch kept front came) is asked = absurd (false≢true is)
grant_asked ups k (down.Reset session at) is asked = absurd (false≢true is)
grant_asked ups k (down.Block front block) is asked = absurd (false≢true is)
grant_asked ups k (down.Drop front lo hi) is asked = absurd (false≢true is)
grant_asked ups k (down.Ack front) is asked = absurd (false≢true is)
grant_asked ups k (down.Grant front ticket at) is asked = subst (λ (n : ℕ). list_any (asks_ticket n) ups ≡ true) (eqb-true ticket k is) asked
grant_asked ups k (down.Answer front about job number at sum) is asked = absurd (false≢true is)
grant_asked ups k (down.Normal front) is asked = absurd (false≢true is)
grant_asked ups k down.Bare is asked = absurd (false≢true is)

-- Each Grant among these is of a request that was taken, by its ticket, and back.
pub grants_asked : (ups : List Up) (ms : List Down) → AllByRecursion (GrantsAsked ups) ms → (k : ℕ) → list_any (grants_ticket k) ms ≡ true
    → list_any (asks_ticket k) ups ≡ true
grants_asked ups ms all k is = any_of_all (GrantsAsked ups) (list_any (asks_ticket k) ups ≡ true) (grants_ticket k) (λ m here asked. grant_asked ups k m here asked) ms is all

asked_grant : (ups : List Up) (m : Down) → ((k : ℕ) → grants_ticket k m ≡ true → list_any (asks_ticket k) ups ≡ true) → GrantsAsked ups m
asked_grant ups (down.Welcome session epoch kept front came) each = tt
asked_grant ups (down.Reset session at) each = tt
asked_grant ups (down.Block front block) each = tt
asked_grant ups (down.Drop front lo hi) each = tt
asked_grant ups (down.Ack front) each = tt
asked_grant ups (down.Grant front ticket at) each = each ticket (eq-eqb ticket ticket refl)
asked_grant ups (down.Answer front about job number at sum) each = tt
asked_grant ups (down.Normal front) each = tt
asked_grant ups down.Bare each = tt

behind : (a b : Bool) → b ≡ true → (a || b) ≡ true
behind true b is = refl
behind false b is = is

pub all_granted : (ups : List Up) (ms : List Down) → ((k : ℕ) → list_any (grants_ticket k) ms ≡ true → list_any (asks_ticket k) ups ≡ true)
    → AllByRecursion (GrantsAsked ups) ms
all_granted ups [] each = tt
all_granted ups (m ∷ ms) each = (
  asked_grant ups m (λ k is. each k (ap (λ (b : Bool). b || list_any (grants_ticket k) ms) is)),
  all_granted ups ms (λ k is. each k (behind (grants_ticket k m) (list_any (grants_ticket k) ms) is)),
)

-- replies

says_asked : (lane_of : ℕ → Lane) (s k : ℕ) (says : Says) → grants_of s k says ≡ true → WaitsAsked lane_of says → list_any (asks_ticket k) (ups_taken (lane_of s)) ≡ true
says_asked lane_of s k (NewWelcome conn session) is asked = absurd (false≢true is)
says_asked lane_of s k (EpochWelcome conn session kept) is asked = absurd (false≢true is)
says_asked lane_of s k (ResetOf conn session place) is asked = absurd (false≢true is)
says_asked lane_of s k (GrantOf session ticket number) is asked =
    let parts : ((session == s) ≡ true) × ((ticket == k) ≡ true) = and_parts (session == s) (ticket == k) is in
    subst (λ (n : ℕ). list_any (asks_ticket k) (ups_taken (lane_of n)) ≡ true) (eqb-true session s parts.0)
    (subst (λ (n : ℕ). list_any (asks_ticket n) (ups_taken (lane_of session)) ≡ true) (eqb-true ticket k parts.1) asked)
says_asked lane_of s k (AnswerOf session about job number place sum) is asked = absurd (false≢true is)

-- Each Grant that waits as a reply is of such a request, and back.
pub replies_asked : (lane_of : ℕ → Lane) (rs : List Reply) → AllByRecursion (λ (r : Reply). WaitsAsked lane_of r.says) rs → (s k : ℕ) → list_any (is_grant_of s k) rs ≡ true
    → list_any (asks_ticket k) (ups_taken (lane_of s)) ≡ true
replies_asked lane_of rs all s k is =
    any_of_all (λ (r : Reply). WaitsAsked lane_of r.says) (list_any (asks_ticket k) (ups_taken (lane_of s)) ≡ true) (is_grant_of s k)
    (λ r here asked. says_asked lane_of s k r.says here asked) rs is all

asked_says : (lane_of : ℕ → Lane) (says : Says) → ((s k : ℕ) → grants_of s k says ≡ true → list_any (asks_ticket k) (ups_taken (lane_of s)) ≡ true) → WaitsAsked lane_of says
asked_says lane_of (NewWelcome conn session) each = tt
asked_says lane_of (EpochWelcome conn session kept) each = tt
asked_says lane_of (ResetOf conn session place) each = tt
asked_says lane_of (GrantOf session ticket number) each =
    each session ticket (ap (λ (b : Bool). b && ticket == ticket) (eq-eqb session session refl) ∙ eq-eqb ticket ticket refl)
asked_says lane_of (AnswerOf session about job number place sum) each = tt

pub all_replied : (lane_of : ℕ → Lane) (rs : List Reply) → ((s k : ℕ) → list_any (is_grant_of s k) rs ≡ true → list_any (asks_ticket k) (ups_taken (lane_of s)) ≡ true)
    → AllByRecursion (λ (r : Reply). WaitsAsked lane_of r.says) rs
all_replied lane_of [] each = tt
all_replied lane_of (r ∷ rs) each = (
  asked_says lane_of r.says (λ s k is. each s k (ap (λ (b : Bool). b || list_any (is_grant_of s k) rs) is)),
  all_replied lane_of rs (λ s k is. each s k (behind (is_grant_of s k r) (list_any (is_grant_of s k) rs) is)),
)

-- what is given up

-- what gives up the request of a ticket names it
pub gives_up : (k : ℕ) (m : Up) → cancels_ticket k m ≡ true → m ≡ up.Cancel k
gives_up k (up.Hello app dial) is = absurd (false≢true is)
gives_up k (up.Recover app session epoch came dial) is = absurd (false≢true is)
gives_up k (up.Update w job txn op) is = absurd (false≢true is)
gives_up k (up.Add w job key amount) is = absurd (false≢true is)
gives_up k (up.Fetch key) is = absurd (false≢true is)
gives_up k (up.Ask ticket job mode key) is = absurd (false≢true is)
gives_up k (up.Unlock job mode key) is = absurd (false≢true is)
gives_up k (up.Cancel ticket) is = ap up.Cancel (eqb-true ticket k is)
gives_up k (up.Commit w job txn wanted) is = absurd (false≢true is)
gives_up k (up.Rollback w job txn) is = absurd (false≢true is)
gives_up k (up.Sync ticket) is = absurd (false≢true is)
gives_up k up.Done is = absurd (false≢true is)
gives_up k (up.Claim job mode number at key) is = absurd (false≢true is)
gives_up k up.Bare is = absurd (false≢true is)

-- it was asked for before
pub cancel_asked : (earlier : List Up) (taken : List Down) (n : ℕ) (ms : List Up) → AllFollow earlier taken ms → (k : ℕ) → list_any (cancels_ticket k) (take n ms) ≡ true
    → list_any (asks_ticket k) (earlier ++ take n ms) ≡ true
cancel_asked earlier taken zero ms all k is = absurd (false≢true is)
cancel_asked earlier taken (suc n) [] all k is = absurd (false≢true is)
cancel_asked earlier taken (suc n) (m ∷ ms) all k is = go (cancels_ticket k m) refl is (cancel_asked (earlier ++ m ∷ []) taken n ms all.1 k)
  where
    go : (b : Bool) → cancels_ticket k m ≡ b → (b || list_any (cancels_ticket k) (take n ms)) ≡ true
        → (list_any (cancels_ticket k) (take n ms) ≡ true → list_any (asks_ticket k) ((earlier ++ m ∷ []) ++ take n ms) ≡ true)
        → list_any (asks_ticket k) (earlier ++ m ∷ take n ms) ≡ true
    go true here found more =
        any_front (asks_ticket k) earlier (m ∷ take n ms) (subst (FollowsAsks earlier taken) (gives_up k m here) all.0)
    go false other found more = subst (λ (us : List Up). list_any (asks_ticket k) us ≡ true) (append_assoc earlier (m ∷ []) (take n ms)) (more found)

-- the Ask of a request is its

same_mode : (mode : Mode) → is_same_mode mode mode ≡ true
same_mode Exclusive = refl
same_mode Shared = refl

same_name : (key : List ℕ) → pointwise nat_eq key key ≡ true
same_name [] = refl
same_name (n ∷ key) = ap (λ (b : Bool). b && pointwise nat_eq key key) (eq-eqb n n refl) ∙ same_name key

pub asks_itself : (r : Request) → asks_it r (up.Ask r.ticket r.who.job r.mode r.name) ≡ true
asks_itself r =
    ap (λ (b : Bool). b && (r.who.job == r.who.job && (is_same_mode r.mode r.mode && pointwise nat_eq r.name r.name))) (eq-eqb r.ticket r.ticket refl)
    ∙ ap (λ (b : Bool). b && (is_same_mode r.mode r.mode && pointwise nat_eq r.name r.name)) (eq-eqb r.who.job r.who.job refl)
    ∙ ap (λ (b : Bool). b && pointwise nat_eq r.name r.name) (same_mode r.mode) ∙ same_name r.name
