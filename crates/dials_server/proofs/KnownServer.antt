-- What connections need of the plain server stays over a step of its data server.
use Rattle.std.proofs.Common.{◌≡◌, ℕ, zero, suc, Bool, true, false, ◌==◌, if◌then◌else◌, List, [], ◌∷◌, ◌++◌, Option, Some, None, refl, sym, ◌∙◌, ap, subst, arith}
use Rattle.std.specs.Prelude.{get_or}
use Rattle.std.proofs.lemmas.Bool.{eqb-true}
use Rattle.std.proofs.lemmas.List.{append-nil, append_assoc}
use Rattle.plain_orders.specs.declared.act.Act.{Act}
use Rattle.plain_orders.specs.declared.entry.Entry.{Entry}
use Rattle.plain_orders.specs.declared.entry.Entry.TheVariants.{Epoch, Opened, Closed, Update, Commit, Rollback}
use Rattle.plain_orders.specs.declared.layout.Layout.{Layout}
use Rattle.plain_orders.specs.Entries.{last_epoch}
use Rattle.plain_orders.specs.Ordered.{IsOrdered, MayFollow, OrderedFrom}
use Rattle.plain_orders.specs.Sessions.{app_after, app_in}
use Rattle.plain_orders.proofs.EntryLemmas.{app_from-push}
use Rattle.plain_orders.proofs.LiveSessions.{none_opened}
use Rattle.plain_orders.proofs.OrderLemmas.{ordered-push}
use Rattle.plain_runs.specs.Plain.{Plain, Server, order_at, start}
use Rattle.plain_runs.specs.Run.{IsRun, RunFrom, after_all, state_after}
use Rattle.plain_runs.proofs.Ordered.{ordered_kept}
use Rattle.plain_runs.proofs.RunLemmas.{after_all-append, run_parts}
use Rattle.data_rules.specs.declared.data_in.DataIn.{DataIn}
use Rattle.data_rules.specs.Places.{epoch_place}
use Rattle.cluster_runs.specs.declared.move_outs.MoveOuts.{MoveOuts}
use Rattle.cluster_runs.specs.declared.moves.Move.TheVariants.{Server as ServerMove}
use Rattle.cluster_runs.specs.CoresState.{CoresState}
use Rattle.cluster_runs.specs.Machine.{Machine}
use Rattle.cluster_runs.specs.Mirrors.{Mirrors}
use Rattle.cluster_runs.specs.Moves.{Allowed}
use Rattle.cluster_runs.specs.Goes.{ServerGoes, server_site}
use Rattle.cluster_invariant.specs.Dials.{DialsAre, WasTold}
use Rattle.cluster_invariant.specs.Holds.{Holds}
use Rattle.cluster_invariant.proofs.Deeds.{deeds_grow, order_by}
use Rattle.cluster_invariant.proofs.OrderMoves.{server_wrote}
use Rattle.cluster_invariant.proofs.OrderRows.{StepWrote}
use Rattle.cluster_invariant.proofs.Written.{place_kept}
use Rattle.told_kept.proofs.OrdersLater.{epoch_kept, grown_later}
use Rattle.told_kept.proofs.ToldStays.{OrdersLater}
use Rattle.cluster_invariant.proofs.SiteMoves.{kept_at_one}
use Rattle.dials_kept.proofs.ConnectionsGrow.{StaysKnown}
use Rattle.dials_kept.proofs.ShortDials.{DialsPart, EachDials}
use Rattle.dials_kept.proofs.ToldStays.{rows_tell}

-- whose a session is, as an ordered list goes on

-- one entry more
opened_after : (es : List Entry) (e : Entry) → IsOrdered es → MayFollow es e → (s a : ℕ) → app_in es s ≡ Some a → app_after (app_in es s) e s ≡ Some a
opened_after es (Epoch number) ordered may s a is = is
opened_after es (Opened session app) ordered may s a is = go (session == s) refl
  where
    go : (b : Bool) → (session == s) ≡ b → (if b then Some app else app_in es s) ≡ Some a
    go true same =
        absurd (let both : ◌≡◌ {A = Option ℕ} None (Some a)
        = sym (none_opened es ordered s (omega (arith, eqb-true session s same, may.is_position))) ∙ is in cc)
    go false other = is
opened_after es (Closed session) ordered may s a is = is
opened_after es (Update session w job txn op) ordered may s a is = is
opened_after es (Commit session w job txn) ordered may s a is = is
opened_after es (Rollback session w job txn) ordered may s a is = is

opened_from : (es fs : List Entry) → IsOrdered es → OrderedFrom es fs → (s a : ℕ) → app_in es s ≡ Some a → app_in (es ++ fs) s ≡ Some a
opened_from es [] ordered more s a is = ap (λ (xs : List Entry). app_in xs s) (append-nil es) ∙ is
opened_from es (e ∷ fs) ordered more s a is =
    ap (λ (xs : List Entry). app_in xs s) (sym (append_assoc es (e ∷ []) fs))
    ∙ opened_from (es ++ e ∷ []) fs (ordered-push es e ordered more.0) more.1 s a (app_from-push None es e s ∙ opened_after es e ordered more.0 s a is)

ordered_parts : (before es fs : List Entry) → OrderedFrom before (es ++ fs) → OrderedFrom before es × OrderedFrom (before ++ es) fs
ordered_parts before [] fs more = (tt, subst (λ (xs : List Entry). OrderedFrom xs fs) (sym (append-nil before)) more)
ordered_parts before (e ∷ es) fs more = both (ordered_parts (before ++ e ∷ []) es fs more.1)
  where
    both : OrderedFrom (before ++ e ∷ []) es × OrderedFrom ((before ++ e ∷ []) ++ es) fs → OrderedFrom before (e ∷ es) × OrderedFrom (before ++ e ∷ es) fs
    both parts = ((more.0, parts.0), subst (λ (xs : List Entry). OrderedFrom xs fs) (append_assoc before (e ∷ []) es) parts.1)

-- A session's application server stays as an ordered list goes on.
pub opened_stays : (es fs : List Entry) → IsOrdered (es ++ fs) → (s a : ℕ) → app_in es s ≡ Some a → app_in (es ++ fs) s ≡ Some a
opened_stays es fs ordered s a is = go (ordered_parts [] es fs ordered)
  where
    go : OrderedFrom [] es × OrderedFrom ([] ++ es) fs → app_in (es ++ fs) s ≡ Some a
    go parts = opened_from es fs parts.0 parts.1 s a is

-- the last order and those before it
orders_go_on : (P : List Entry → List Entry → Type 0) (xs : List (List Entry)) (o q : List Entry) → ((es : List Entry) → P es es) → P o q → (k : ℕ)
    → P (get_or (xs ++ o ∷ []) k []) (get_or (xs ++ q ∷ []) k [])
orders_go_on P [] o q same last zero = last
orders_go_on P [] o q same last (suc k) = same []
orders_go_on P (x ∷ xs) o q same last zero = same x
orders_go_on P (x ∷ xs) o q same last (suc k) = orders_go_on P xs o q same last k

-- What connections need stays, where the last order goes on by these deeds.
known_grown : (l : Layout) (p q : Plain) (d : ℕ) (written : List Act) → RunFrom l p written → q ≡ after_all l p written → (more : List Entry)
    → (q.server_at d).past ≡ (p.server_at d).past → (q.server_at d).order ≡ (p.server_at d).order ++ more → IsOrdered (q.server_at d).order
    → OrdersLater (p.server_at d) (q.server_at d) → StaysKnown (p.server_at d) (q.server_at d)
known_grown l p q d written ran after more past order ordered later = record {
  there = later.there;
  last = later.last;
  stays = λ k low is. omega (arith, is, later.place k low, later.stays k low);
  told = λ app s k is. subst (λ (r : Plain). WasTold (r.server_at d) app s k) (sym after) (rows_tell l p written ran d app s k is);
  opened = λ s k app low is. opened k s app is;
}
  where
    v : Server
    v = p.server_at d

    w : Server
    w = q.server_at d

    opened : (k s app : ℕ) → app_in (order_at v k) s ≡ Some app → app_in (order_at w k) s ≡ Some app
    opened k s app =
        subst (λ (os : List (List Entry)). app_in (order_at v k) s ≡ Some app → app_in (get_or (os ++ w.order ∷ []) k []) s ≡ Some app) (sym past)
        (orders_go_on (λ es fs. app_in es s ≡ Some app → app_in fs s ≡ Some app) v.past v.order w.order (λ es is. is)
        (λ is. ap (λ (es : List Entry). app_in es s) order ∙ opened_stays v.order more (subst IsOrdered order ordered) s app is) k)

-- A step of a data server keeps the part where it keeps it there.
pub dials_by_server : (l : Layout) (c : CoresState) (m : Machine) (server now : ℕ) (input : DataIn) (outs : MoveOuts) (written : List Act) (new : Machine)
    → Holds l m → IsRun l m.trail → IsRun l new.trail → Mirrors c m → Allowed c (ServerMove server now input)
    → (goes : ServerGoes m server now input outs written new)
    → (StaysKnown ((state_after l m.trail).server_at server) ((after_all l (state_after l m.trail) written).server_at server)
    → StepWrote server goes.node goes.state (state_after l m.trail) (after_all l (state_after l m.trail) written)
    → IsOrdered ((after_all l (state_after l m.trail) written).server_at server).order
    → DialsAre ((after_all l (state_after l m.trail) written).server_at server) (server_site goes.node now input goes.data_outs goes.state (m.site_at server)) m.is_dead_at)
    → EachDials l (state_after l new.trail) new
dials_by_server l c m server now input outs written new h run after_run shows allowed goes here = go (server_wrote l c m server now input outs written new h run shows allowed goes)
  where
    p : Plain
    p = state_after l m.trail

    q : Plain
    q = after_all l (state_after l m.trail) written

    joined : IsRun l (m.trail ++ written)
    joined = subst (λ (n : Machine). IsRun l n.trail) goes.after after_run

    ran : RunFrom l p written
    ran = (run_parts l start m.trail written joined).1

    ordered : IsOrdered (q.server_at server).order
    ordered =
        subst (λ (r : Plain). IsOrdered (r.server_at server).order) (after_all-append l start m.trail written)
        (ordered_kept l (m.trail ++ written) server joined).now

    go : StepWrote server goes.node goes.state p q → EachDials l (state_after l new.trail) new
    go w =
        kept_at_one DialsPart l m new server (server_site goes.node now input goes.data_outs goes.state) written (λ d. (h.sites d).dials) goes.after w.others
        (here (by (deeds_grow w.deeds (p.server_at server).order)) w ordered)
      where
        by : (more : List Entry) × (order_by w.deeds (p.server_at server).order ≡ (p.server_at server).order ++ more) → StaysKnown (p.server_at server) (q.server_at server)
        by more =
            known_grown l p q server written ran refl more.0 w.past (w.order ∙ more.1) ordered
            (grown_later (p.server_at server) (q.server_at server) w.past (ap last_epoch w.order ∙ epoch_kept w.deeds (p.server_at server).order w.may)
            (ap epoch_place w.order ∙ place_kept w.deeds (p.server_at server).order w.may) (omega (arith, w.synced)))
