-- What a data server puts to sessions that learnt of the order, by its node.
use Rattle.std.proofs.Common.{◌≡◌, ℕ, ◌+◌, true, List, [], ◌∷◌, ◌++◌, Option, Some, None, is_some, refl, sym, ap, subst}
use Rattle.std.specs.Prelude.{IsSomeAnd}
use Rattle.std.specs.List.{AllByRecursion}
use Rattle.ecp_messages.specs.declared.down.Down.{Down}
use Rattle.block_holders.specs.declared.noted.Noted.{Noted}
use Rattle.end_words.specs.Windows.{sent, with_sent}
use Rattle.data_rules.specs.declared.rows.Role.TheVariants.{Bound}
use Rattle.data_rules.specs.DataState.{DataState}
use Rattle.data_rules.specs.Conns.{role_of}
use Rattle.data_rules.specs.Entering.{drops, drops_one}
use Rattle.data_rules.specs.Puts.{Sofar, becomes, conn_of, puts, tells_on, window_of, with_window}
use Rattle.cluster_runs.specs.CoresState.{Linked}
use Rattle.cluster_runs.specs.Sent.{Connection}
use Rattle.cluster_runs.specs.Machine.{Site}
use Rattle.cluster_invariant.specs.Dials.{BoundIs, BoundTo, NodeDials, RoleIs}
use Rattle.cluster_invariant.specs.Served.{HasLearnt}
use Rattle.cluster_invariant.proofs.ConnRoles.{bound_role}
use Rattle.cluster_invariant.proofs.PutLaws.{only_puts}
use Rattle.cluster_invariant.proofs.Small.{of_some}
use Rattle.dials_server.proofs.PlainFrames.{IsPlain, PlainOn, TellsOn}

-- putting to sessions that learnt of the order

-- their connections carry their messages
abbrev pub Tells : Site → DataState → Type 0
Tells z n = (s conn : ℕ) → HasLearnt z s → conn_of n s ≡ Some conn → TellsOn z conn

pub tells_of : (z : Site) (n : DataState) → NodeDials z n → Tells z n
tells_of z n is s conn learnt its = go (of_some (RoleIs z n conn) (role_of n conn) (Bound s) (bound_role s n.conns conn is.differ its) (is.roles conn))
  where
    carries : (o : Option Connection) → IsSomeAnd o (BoundTo z n.order s) → IsSomeAnd o (λ c. is_some c.its ≡ true)
    carries None at = at
    carries (Some c) at = ap is_some (at.told learnt)

    go : BoundIs z n conn s → TellsOn z conn
    go at =
        subst (λ (o : Option Linked). IsSomeAnd o (λ l. IsSomeAnd ((z.end_at l.app).connection_at l.dial) (λ c. is_some c.its ≡ true))) (sym at.linked.link)
        (carries ((z.end_at at.app).connection_at at.linked.dial) at.linked.its)

-- one more
pub all_one_more : {X : Type 0} (P : X → Type 0) (xs : List X) (x : X) → AllByRecursion P xs → P x → AllByRecursion P (xs ++ x ∷ [])
all_one_more P [] x all is = (is, tt)
all_one_more P (y ∷ ys) x all is = (all.0, all_one_more P ys x all.1 is)

pub puts_plain : (z : Site) (s : ℕ) (m : Down) (b : Sofar) → IsPlain m → HasLearnt z s → Tells z b.state → AllByRecursion (PlainOn z) b.outs.frames
    → AllByRecursion (PlainOn z) (puts s m b).outs.frames
puts_plain z s m b plain learnt tells all = go (conn_of b.state s) refl
  where
    go : (o : Option ℕ) → conn_of b.state s ≡ o
        → AllByRecursion (PlainOn z) (tells_on s o (sent (window_of b.state s) + 1) m (becomes (λ d. with_window s (with_sent (window_of d s) m) d) b)).outs.frames
    go None its = all
    go (Some conn) its = all_one_more (PlainOn z) b.outs.frames _ all (record { plain = plain; tells = tells s conn learnt its })

-- putting leaves the connections
pub puts_tells : (z : Site) (s : ℕ) (m : Down) (b : Sofar) → Tells z b.state → Tells z (puts s m b).state
puts_tells z s m b tells = subst (λ (d : DataState). Tells z d) (sym (only_puts s m b).state) tells

pub drops_plain : (z : Site) (before : ℕ) (xs : List Noted) (b : Sofar) → AllByRecursion (λ y. HasLearnt z y.session) xs → Tells z b.state
    → AllByRecursion (PlainOn z) b.outs.frames → AllByRecursion (PlainOn z) (drops before xs b).outs.frames
drops_plain z before [] b learnt tells all = all
drops_plain z before (x ∷ xs) b learnt tells all =
    drops_plain z before xs (drops_one before x xs b) learnt.1 (puts_tells z x.session _ b tells) (puts_plain z x.session _ b tt learnt.0 tells all)
