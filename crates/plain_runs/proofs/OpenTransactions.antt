-- The session of an open transaction is live.
use Rattle.std.proofs.Common.{◌≡◌, ℕ, List, [], ◌∷◌, ◌++◌, refl, subst, sym, ap, ◌∙◌, Bool, true, false, ◌==◌, ◌&&◌, if◌then◌else◌}
use Rattle.std.proofs.lemmas.Bool.{and_parts, eqb-true}
use Rattle.std.proofs.lemmas.List.{append-nil}
use Rattle.std.proofs.Common.{append_assoc}
use Rattle.plain_orders.specs.declared.entry.Entry.{Entry}
use Rattle.plain_orders.specs.declared.entry.Entry.TheVariants.{Epoch, Opened, Closed, Update, Commit, Rollback}
use Rattle.plain_orders.specs.Begun.{begun_after, is_named, is_of_one}
use Rattle.plain_orders.specs.Entries.{live, live_after}
use Rattle.plain_orders.specs.Fold.{fold, is_begun}
use Rattle.plain_orders.specs.Ordered.{MayFollow, OrderedFrom}
use Rattle.plain_orders.proofs.BegunLemmas.{begun-step}
use Rattle.plain_orders.proofs.EntryLemmas.{live-push}
use Rattle.plain_orders.proofs.FoldLemmas.{fold-push}
use Rattle.plain_runs.specs.Together.{OpenIsLive}

abbrev Live : List Entry → Type 0
Live es = (s j t : ℕ) → is_begun s j t (fold es).begun ≡ true → live es s ≡ true

opened_live : (c b : Bool) → b ≡ true → (if c then true else b) ≡ true
opened_live true b h = refl
opened_live false b h = h

closed_live : (c b d : Bool) → (b ≡ true → d ≡ true) → (if c then false else b) ≡ true → (if c then false else d) ≡ true
closed_live true b d f h = h
closed_live false b d f h = f h

ended_live : (c b d : Bool) → (b ≡ true → d ≡ true) → (if c then false else b) ≡ true → d ≡ true
ended_live true b d f h = absurd (cc (h))
ended_live false b d f h = f h

updated_live : (c b d : Bool) → (c ≡ true → d ≡ true) → (b ≡ true → d ≡ true) → (if c then true else b) ≡ true → d ≡ true
updated_live true b d new old h = new refl
updated_live false b d new old h = old h

named_session : (s j t session job txn : ℕ) (more : Bool) → (is_named s j t session job txn && more) ≡ true → session ≡ s
named_session s j t session job txn more h =
    let a = and_parts (is_named s j t session job txn) more h in
    let b = and_parts (session == s && job == j) (txn == t) a.0 in
    eqb-true session s (and_parts (session == s) (job == j) b.0).0

step : (before : List Entry) (e : Entry) → MayFollow before e → Live before → (s j t : ℕ) → begun_after (is_begun s j t (fold before).begun) e s j t ≡ true → live_after (live before s) e s ≡ true
step before (Epoch number) may k s j t h = k s j t h
step before (Opened session app) may k s j t h = opened_live (session == s) (live before s) (k s j t h)
step before (Closed session) may k s j t h = closed_live (session == s) (is_begun s j t (fold before).begun) (live before s) (k s j t) h
step before (Update session w job txn op) may k s j t h =
    updated_live (is_named s j t session job txn && is_of_one txn op) (is_begun s j t (fold before).begun) (live before s)
    (λ n. subst (λ m. live before m ≡ true) (named_session s j t session job txn (is_of_one txn op) n) may.is_live) (k s j t) h
step before (Commit session w job txn) may k s j t h = ended_live (is_named s j t session job txn) (is_begun s j t (fold before).begun) (live before s) (k s j t) h
step before (Rollback session w job txn) may k s j t h = ended_live (is_named s j t session job txn) (is_begun s j t (fold before).begun) (live before s) (k s j t) h

push : (before : List Entry) (e : Entry) → MayFollow before e → Live before → Live (before ++ e ∷ [])
push before e may k s j t h =
    live-push before e s
    ∙ step before e may k s j t (sym (begun-step s j t (fold before) e) ∙ (sym (ap (λ f. is_begun s j t f.begun) (fold-push before e)) ∙ h))

from : (before es : List Entry) → Live before → OrderedFrom before es → Live (before ++ es)
from before [] k o = subst Live (sym (append-nil before)) k
from before (e ∷ es) k o = subst Live (append_assoc before (e ∷ []) es) (from (before ++ e ∷ []) es (push before e o.0 k) o.1)

pub open_is_live : OpenIsLive
open_is_live before session job txn ordered = from [] before (λ s j t h. absurd (cc (h))) ordered session job txn
