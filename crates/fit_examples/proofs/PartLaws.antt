-- What a refusal and a part of a command come to.
use Rattle.std.proofs.Common.{◌≡◌, ◌≢◌, inl, inr, ℕ, Bool, true, false, List, [], ◌∷◌, ◌++◌, refl, sym, subst}
use Rattle.std.proofs.lemmas.List.{append-nil}
use Rattle.std.specs.Prelude.{if◌then◌else◌, Some, None, unwrap_or, ◌==◌}
use Rattle.std.specs.List.{list_any}
use Rattle.plain_runs.specs.Items.{is_update_of}
use Rattle.plain_runs.specs.Run.{state_after}
use Rattle.fit_examples.specs.Groups.{two}
use Rattle.fit_examples.specs.Trails.{set_one}
use Rattle.plain_orders.specs.declared.act.Act.TheVariants.{Refused as RefusedAct}
use Rattle.plain_orders.specs.declared.item.Item.{Item}
use Rattle.plain_orders.specs.declared.item.Item.TheVariants.{Commit as CommitItem, Rollback as RollbackItem}
use Rattle.plain_orders.specs.declared.layout.Layout.{Layout}
use Rattle.plain_orders.specs.declared.refused.Refused.{Refused}
use Rattle.app_job.specs.declared.answer.Answer.{Answer}
use Rattle.app_job.specs.declared.command.Command.{Command}
use Rattle.app_job.specs.declared.command.Command.TheVariants.{Commit, Rollback}
use Rattle.app_job.specs.declared.place.Place.{Place}
use Rattle.plain_runs.specs.Plain.{Plain, Session}
use Rattle.script_fits.specs.Moments.{Moment}
use Rattle.script_fits.specs.Locking.{HeldBack, Past}
use Rattle.script_fits.specs.Committing.{updated, txn_at, PutsAwaited}
use Rattle.script_fits.specs.Refusing.{HasUpdateAt, RefusalMay, IsRefusal}
use Rattle.script_fits.specs.Commands.{Part, RefusedAfter}
use Rattle.fit_examples.proofs.FirstMoments.{first_is}
use Rattle.fit_examples.proofs.EndsOn.{PutsOn, LeavesNothing, puts_on}

same_ends : (xs ys : List Moment) (m n : Moment) → xs ++ m ∷ [] ≡ ys ++ n ∷ [] → (xs ≡ ys) × (m ≡ n)
same_ends [] [] m n e = (refl, cc e)
same_ends [] (y ∷ []) m n e = absurd (cc e)
same_ends [] (y ∷ z ∷ ys) m n e = absurd (cc e)
same_ends (x ∷ []) [] m n e = absurd (cc e)
same_ends (x ∷ z ∷ xs) [] m n e = absurd (cc e)
same_ends (x ∷ xs) (y ∷ ys) m n e = let (same, last) = same_ends xs ys m n (cc e) in (cc (same, e), last)

-- no such refusal after this part
pub no_refusal : (l : Layout) (job line : ℕ) (command : Command) (past : Past) (part : List Moment) (m : Moment) (refused : Refused) (answer : Answer) (held : List HeldBack)
    → m.act ≡ RefusedAct job line refused
    → ¬ (Part l job line command past part held × RefusalMay m.before job command part refused × IsRefusal refused answer)
    → ¬ RefusedAfter l job line command past (part ++ m ∷ []) answer held
no_refusal l job line command past part m refused answer held act wrong (its, n, other, e, is_part, its_act, may, told) =
    let (same, last) = same_ends part its m n e in
    let named : other ≡ refused = cc (act, its_act, last) in
    let first : RefusalMay n.before job command its refused = subst (λ r. RefusalMay n.before job command its r) named may in
    let second : RefusalMay m.before job command its refused = subst (λ (x : Moment). RefusalMay x.before job command its refused) (sym last) first in
    wrong (
      subst (λ x. Part l job line command past x held) (sym same) is_part,
      subst (λ x. RefusalMay m.before job command x refused) (sym same) second,
      subst (λ r. IsRefusal r answer) named told,
    )

-- what stands last is no refusal of this line
pub not_refused : (l : Layout) (job line : ℕ) (command : Command) (past : Past) (part : List Moment) (m : Moment) (answer : Answer) (held : List HeldBack)
    → ((refused : Refused) → m.act ≡ RefusedAct job line refused → ⊥) → ¬ RefusedAfter l job line command past (part ++ m ∷ []) answer held
not_refused l job line command past part m answer held wrong (its, n, other, e, is_part, its_act, may, told) =
    wrong other (cc (its_act, (same_ends part its m n e).1))

awaits_on : (l : Layout) (job line : ℕ) (item_of : ℕ → Item) (past : Past) (m : Moment) (ms : List Moment) (held : List HeldBack) (servers : List ℕ)
    → updated l m.before job ≡ servers → PutsAwaited l job line item_of past (m ∷ ms) held
    → (servers ≢ []) × ((places : List Place) × PutsOn l job line (item_of (txn_at m.before job)) LeavesNothing past.held_back servers (m ∷ ms) places)
awaits_on l job line item_of past m ms held servers same (p, places, (n, rest, e, b), low, h, some, puts) =
    let q : p ≡ m.before = cc (b, first_is m n ms rest e) in
    let now : updated l p job ≡ servers = subst (λ (x : Plain). updated l x job ≡ servers) (sym q) same in (
      (λ none. some (cc (now, none))),
      (
        places,
        subst (λ x. PutsOn l job line (item_of (txn_at m.before job)) LeavesNothing past.held_back servers x places) (append-nil (m ∷ ms))
            (subst (λ (x : Plain). PutsOn l job line (item_of (txn_at x job)) LeavesNothing past.held_back servers ((m ∷ ms) ++ []) places) q
            (subst (λ s. PutsOn l job line (item_of (txn_at p job)) LeavesNothing past.held_back s ((m ∷ ms) ++ []) places) now
            (puts_on l job line (item_of (txn_at p job)) LeavesNothing (updated l p job) past (m ∷ ms) [] places puts refl))),
      ),
    )

-- no such part of a commit
pub no_commit_part : (l : Layout) (job line : ℕ) (past : Past) (m : Moment) (ms : List Moment) (held : List HeldBack) (servers : List ℕ)
    → updated l m.before job ≡ servers
    → ¬ ((servers ≢ []) × ((places : List Place) × PutsOn l job line (CommitItem (txn_at m.before job)) LeavesNothing past.held_back servers (m ∷ ms) places))
    → ¬ Part l job line (Commit true) past (m ∷ ms) held
no_commit_part l job line past m ms held servers same wrong (inl (e, h)) = absurd (cc e)
no_commit_part l job line past m ms held servers same wrong (inr (free, first, awaited)) = wrong (awaits_on l job line CommitItem past m ms held servers same awaited)

-- no such part of a rollback
pub no_rollback_part : (l : Layout) (job line : ℕ) (past : Past) (m : Moment) (ms : List Moment) (held : List HeldBack) (servers : List ℕ)
    → updated l m.before job ≡ servers
    → ¬ ((servers ≢ []) × ((places : List Place) × PutsOn l job line (RollbackItem (txn_at m.before job)) LeavesNothing past.held_back servers (m ∷ ms) places))
    → ¬ Part l job line Rollback past (m ∷ ms) held
no_rollback_part l job line past m ms held servers same wrong (inl (e, h)) = absurd (cc e)
no_rollback_part l job line past m ms held servers same wrong (inr (awaited, heard)) = wrong (awaits_on l job line RollbackItem past m ms held servers same awaited)

-- a session in which nothing was issued
abbrev no_items : Session
no_items = record { app = 0; issued = []; told = 0 }

-- the second data server has no update where the job set a node at the first one alone
pub no_update : ¬ HasUpdateAt (state_after two set_one) 0 1
no_update (session, used) = go (session == 2) used
  where
    go : (b : Bool) → list_any (is_update_of 0 1) (unwrap_or (if b then Some no_items else None) no_items).issued ≡ true → ⊥
    go true e = absurd (cc e)
    go false e = absurd (cc e)
