-- What is read in the state before the first moment of a group.
use Rattle.std.proofs.Common.{◌≡◌, inl, inr, ℕ, Bool, List, [], ◌∷◌, Option, sym, subst}
use Rattle.plain_orders.specs.declared.layout.Layout.{Layout}
use Rattle.plain_orders.specs.declared.mode.Mode.{Mode}
use Rattle.plain_orders.specs.declared.act.Act.TheVariants.{Granted}
use Rattle.app_job.specs.declared.answer.Answer.{Answer}
use Rattle.app_job.specs.Sites.{Site}
use Rattle.script_fits.specs.Moments.{Moment, acts_in}
use Rattle.script_fits.specs.Locking.{HeldBack, Past, IsMeant, IsUp, Locks, Unlocks, unlock_acts, held_after}

-- the first of two equal lists
pub first_is : (m n : Moment) (ms ns : List Moment) → m ∷ ms ≡ n ∷ ns → m ≡ n
first_is m n ms ns e = cc e

-- an unlock has the acts that the state before its first act asks for
pub unlock_does : (l : Layout) (job line : ℕ) (at : Site) (mode : Mode) (now : Bool) (past : Past) (m : Moment) (ms : List Moment) (answer : Answer) (held : List HeldBack)
    → Unlocks l job line at mode now past (m ∷ ms) answer held → acts_in (m ∷ ms) ≡ unlock_acts l m.before job line at mode now
unlock_does l job line at mode now past m ms answer held (n, rest, e, together, up, acts, u, h) =
    subst (λ (o : Moment). acts_in (m ∷ ms) ≡ unlock_acts l o.before job line at mode now) (sym (first_is m n ms rest e)) acts

-- and holds back what it asks for
pub unlock_holds : (l : Layout) (job line : ℕ) (at : Site) (mode : Mode) (now : Bool) (past : Past) (m : Moment) (ms : List Moment) (answer : Answer) (held : List HeldBack)
    → Unlocks l job line at mode now past (m ∷ ms) answer held → held ≡ held_after l m.before job at mode now past.held_back
unlock_holds l job line at mode now past m ms answer held (n, rest, e, together, up, acts, u, h) =
    subst (λ (o : Moment). held ≡ held_after l o.before job at mode now past.held_back) (sym (first_is m n ms rest e)) h

-- and its pair has a session and is whole
pub unlock_up : (l : Layout) (job line : ℕ) (at : Site) (mode : Mode) (now : Bool) (past : Past) (m : Moment) (ms : List Moment) (answer : Answer) (held : List HeldBack)
    → Unlocks l job line at mode now past (m ∷ ms) answer held → IsUp l m.before job at.server
unlock_up l job line at mode now past m ms answer held (n, rest, e, together, up, acts, u, h) =
    subst (λ (o : Moment). IsUp l o.before job at.server) (sym (first_is m n ms rest e)) up

-- a grant is of the hold that the state before it shows
pub grant_means : (l : Layout) (job line k : ℕ) (at : Site) (mode : Mode) (wait : Option ℕ) (past : Past) (m : Moment) (answer : Answer)
    → m.act ≡ Granted job line at.server k → Locks l job line at mode wait past (m ∷ []) answer → IsMeant l m.before job k at mode
grant_means l job line k at mode wait past m answer act (inl (n, i, e, granted, meant, free, a)) =
    subst (λ (o : Moment). IsMeant l o.before job k at mode) (sym (first_is m n [] [] e)) (subst (λ j. IsMeant l n.before job j at mode) (cc (e, act, granted)) meant)
grant_means l job line k at mode wait past m answer act (inr (inl (n, (o, e, together, quit, r), free, over, a))) = absurd (cc e)
grant_means l job line k at mode wait past m answer act (inr (inr (n, (o, e, together, quit, r), a))) = absurd (cc e)
