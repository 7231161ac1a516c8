-- The part on orders, for each move: the order of each data server is the plain one again.
use Rattle.std.proofs.Common.{◌≡◌, ◌≢◌, ◌≤◌, ℕ, Bool, true, false, List, [], ◌∷◌, ◌++◌, length, take, Option, Some, None, refl, sym, ◌∙◌, ap, subst, arith, if◌then◌else◌}
use Rattle.plain_orders.specs.declared.act.Act.{Act}
use Rattle.plain_orders.specs.declared.act.Act.TheVariants as act
use Rattle.plain_orders.specs.declared.entry.Entry.{Entry}
use Rattle.plain_orders.specs.declared.layout.Layout.{Layout}
use Rattle.plain_runs.specs.Plain.{Plain, Server, start}
use Rattle.plain_runs.specs.OrderRows.{opened_with, crashed}
use Rattle.plain_runs.specs.Step.{after}
use Rattle.plain_runs.specs.Run.{IsRun, after_all, state_after}
use Rattle.plain_runs.proofs.RunLemmas.{after_all-append}
use Rattle.plain_runs.proofs.OrderLaws.{orders_kept}
use Rattle.plain_runs.proofs.Ordered.{ordered_kept}
use Rattle.plain_orders.specs.Ordered.{IsOrdered}
use Rattle.data_rules.specs.declared.data_in.DataIn.{DataIn}
use Rattle.data_rules.specs.DataState.{DataState}
use Rattle.data_rules.specs.Step.{DataMay}
use Rattle.cluster_runs.specs.declared.move_outs.MoveOuts.{MoveOuts}
use Rattle.cluster_runs.specs.declared.moves.Move.TheVariants.{Server as ServerMove, Begin}
use Rattle.cluster_runs.specs.CoresState.{CoresState, plain_server}
use Rattle.cluster_runs.specs.Moves.{Allowed, NodeMay, EntriesMay}
use Rattle.cluster_runs.specs.Steps.{raised, begin_act}
use Rattle.cluster_runs.specs.Mirrors.{Mirrors}
use Rattle.cluster_runs.specs.Machine.{Machine, Site, with_acts}
use Rattle.cluster_runs.specs.Goes.{at_site, server_site, begun_site, halted_site, ServerGoes, BeginGoes, HaltGoes}
use Rattle.cluster_invariant.specs.Orders.{NodeOrder, OrderIs}
use Rattle.cluster_invariant.specs.Dials.{NodeDials}
use Rattle.cluster_invariant.proofs.PiecesOfSteps.{StepFrom}
use Rattle.cluster_invariant.specs.Holds.{Holds}
use Rattle.cluster_invariant.proofs.Small.{of_some, put_same, put_other}
use Rattle.cluster_invariant.proofs.Frame.{others_left}
use Rattle.cluster_invariant.proofs.OrderRows.{StepWrote, step_wrote}
use Rattle.cluster_invariant.proofs.OrderKept.{step_site, order_kept_by_step, order_kept_by_first, order_kept_by_later, order_kept_by_halt}

-- each data server's order
abbrev pub OrdersHold : Layout → Plain → Machine → Type 0
OrdersHold l p m = (d : ℕ) → OrderIs l d (p.server_at d) (m.site_at d)

pub orders_of : (l : Layout) (m : Machine) → Holds l m → OrdersHold l (state_after l m.trail) m
orders_of l m h d = (h.sites d).order

-- a site that is changed with what its acts make of the plain machine
orders_at : (l : Layout) (m new : Machine) (server : ℕ) (f : Site → Site) (written : List Act) → Holds l m → new ≡ with_acts written (at_site server f m)
    → ((e : ℕ) → e ≢ server → (after_all l (state_after l m.trail) written).server_at e ≡ (state_after l m.trail).server_at e)
    → OrderIs l server ((after_all l (state_after l m.trail) written).server_at server) (f (m.site_at server)) → OrdersHold l (state_after l new.trail) new
orders_at l m new server f written h after others here =
    subst (λ (n : Machine). OrdersHold l (state_after l n.trail) n) (sym after)
    (subst (λ (q : Plain). OrdersHold l q (with_acts written (at_site server f m))) (sym (after_all-append l start m.trail written))
    (others_left l (state_after l m.trail) (after_all l (state_after l m.trail) written) m server (f (m.site_at server)) (λ d v x. OrderIs l d v x) (orders_of l m h) others here))

-- what a node may do
node_may : (c : CoresState) (m : Machine) (server now : ℕ) (input : DataIn) (node : DataState) → Mirrors c m → Allowed c (ServerMove server now input)
    → (m.site_at server).node ≡ Some node → DataMay node input
node_may c m server now input node shows allowed runs = subst (λ (o : Option DataState). NodeMay o input) (shows.nodes server ∙ runs) allowed.may

-- what a step of a node begins with
pub step_from : (l : Layout) (m : Machine) (server : ℕ) (node : DataState) → Holds l m → IsRun l m.trail → (m.site_at server).node ≡ Some node → StepFrom node
step_from l m server node h run runs =
    go (of_some (NodeOrder l server (m.site_at server).past ((state_after l m.trail).server_at server)) (m.site_at server).node node runs (h.sites server).order.node)
    (of_some (NodeDials (m.site_at server)) (m.site_at server).node node runs (h.sites server).dials.node)
  where
    go : NodeOrder l server (m.site_at server).past ((state_after l m.trail).server_at server) node → NodeDials (m.site_at server) node → StepFrom node
    go o dials = record { differ = dials.differ; ordered = subst IsOrdered (sym o.order) (ordered_kept l m.trail server run).now }

-- What a step of a data server made of the plain machine.
pub server_wrote : (l : Layout) (c : CoresState) (m : Machine) (server now : ℕ) (input : DataIn) (outs : MoveOuts) (written : List Act) (new : Machine)
    → Holds l m → IsRun l m.trail → Mirrors c m → Allowed c (ServerMove server now input) → (goes : ServerGoes m server now input outs written new)
    → StepWrote server goes.node goes.state (state_after l m.trail) (after_all l (state_after l m.trail) written)
server_wrote l c m server now input outs written new h run shows allowed goes =
    go (of_some (NodeOrder l server (m.site_at server).past ((state_after l m.trail).server_at server)) (m.site_at server).node goes.node goes.runs (h.sites server).order.node)
  where
    its : (d : ℕ) → d ≡ server → goes.node.synced ≤ ((state_after l m.trail).server_at d).synced
        → StepWrote d goes.node goes.state (state_after l m.trail) (after_all l (state_after l m.trail) (raised ((state_after l m.trail).server_at d).synced goes.data_outs.acts))
        → StepWrote server goes.node goes.state (state_after l m.trail) (after_all l (state_after l m.trail) (raised ((state_after l m.trail).server_at server).synced goes.data_outs.acts))
    its d same low w = subst (λ k. StepWrote k goes.node goes.state (state_after l m.trail) (after_all l (state_after l m.trail) (raised ((state_after l m.trail).server_at k).synced goes.data_outs.acts))) same w

    go : NodeOrder l server (m.site_at server).past ((state_after l m.trail).server_at server) goes.node
        → StepWrote server goes.node goes.state (state_after l m.trail) (after_all l (state_after l m.trail) written)
    go o =
        subst (λ (w : List Act). StepWrote server goes.node goes.state (state_after l m.trail) (after_all l (state_after l m.trail) w))
        (sym (goes.acts ∙ ap (λ (k : Layout). raised ((state_after k m.trail).server_at server).synced goes.data_outs.acts) h.layout))
        (its goes.node.server o.its_server low (step_wrote l (state_after l m.trail) goes.node now input goes.data_outs goes.state
        (step_from l m server goes.node h run goes.runs) (node_may c m server now input goes.node shows allowed goes.runs) low goes.steps))
      where
        low : goes.node.synced ≤ ((state_after l m.trail).server_at goes.node.server).synced
        low = subst (λ d. goes.node.synced ≤ ((state_after l m.trail).server_at d).synced) (sym o.its_server) (omega (arith, o.synced))

-- Each step of a data server keeps all orders.
pub orders_kept_by_server : (l : Layout) (c : CoresState) (m : Machine) (server now : ℕ) (input : DataIn) (outs : MoveOuts) (written : List Act) (new : Machine)
    → Holds l m → IsRun l m.trail → Mirrors c m → Allowed c (ServerMove server now input) → ServerGoes m server now input outs written new → OrdersHold l (state_after l new.trail) new
orders_kept_by_server l c m server now input outs written new h run shows allowed goes = go (server_wrote l c m server now input outs written new h run shows allowed goes)
  where
    go : StepWrote server goes.node goes.state (state_after l m.trail) (after_all l (state_after l m.trail) written) → OrdersHold l (state_after l new.trail) new
    go w =
        orders_at l m new server (server_site goes.node now input goes.data_outs goes.state) written h goes.after w.others
        (order_kept_by_step l server (state_after l m.trail) (after_all l (state_after l m.trail) written) (m.site_at server)
        (server_site goes.node now input goes.data_outs goes.state (m.site_at server)) goes.node goes.state (h.sites server).order goes.runs
        (step_site goes.node now input goes.data_outs goes.state (m.site_at server)) w)

-- A halt keeps all orders.
pub orders_kept_by_halt : (l : Layout) (m : Machine) (server : ℕ) (outs : MoveOuts) (written : List Act) (new : Machine) → Holds l m → HaltGoes m server outs written new → OrdersHold l (state_after l new.trail) new
orders_kept_by_halt l m server outs written new h goes =
    subst (λ (n : Machine). OrdersHold l (state_after l n.trail) n) (sym goes.after)
    (others_left l (state_after l m.trail) (state_after l m.trail) m server (halted_site (m.site_at server)) (λ d v x. OrderIs l d v x) (orders_of l m h) (λ e other. refl)
    (order_kept_by_halt l server ((state_after l m.trail).server_at server) (m.site_at server) (h.sites server).order))

-- the act of a start, by what the plain machine opened
begins_act : (l : Layout) (v : Server) (x : Site) (d : ℕ) (es : List Entry) → OrderIs l d v x → (b : Bool) → v.opened ≡ b → begin_act x.order d es ≡ begin_act (if b then Some v.order else None) d es
begins_act l v x d es h b opened = ap (λ (o : Option (List Entry)). begin_act o d es) (h.disk ∙ ap (λ (t : Bool). if t then Some v.order else None) opened)

-- Each start of a data server keeps all orders.
pub orders_kept_by_begin : (l : Layout) (c : CoresState) (m : Machine) (server now : ℕ) (es : List Entry) (outs : MoveOuts) (written : List Act) (new : Machine)
    → Holds l m → IsRun l m.trail → Mirrors c m → Allowed c (Begin server now es) → BeginGoes m server now es outs written new → OrdersHold l (state_after l new.trail) new
orders_kept_by_begin l c m server now es outs written new h run shows allowed goes =
    subst (λ (n : Machine). OrdersHold l (state_after l n.trail) n) (sym goes.after)
    (subst (λ (w : List Act). OrdersHold l (state_after l (m.trail ++ w)) (with_acts w (at_site server (begun_site m.layout server now es) m))) (sym goes.acts)
    (subst (λ (k : Layout). OrdersHold l (state_after l (m.trail ++ begin_act (m.site_at server).order server es ∷ [])) (with_acts (begin_act (m.site_at server).order server es ∷ []) (at_site server (begun_site k server now es) m))) (sym h.layout)
    (go ((state_after l m.trail).server_at server).opened refl)))
  where
    here : (h.sites server).order ≡ (h.sites server).order
    here = refl

    go : (b : Bool) → ((state_after l m.trail).server_at server).opened ≡ b
        → OrdersHold l (state_after l (m.trail ++ begin_act (m.site_at server).order server es ∷ [])) (with_acts (begin_act (m.site_at server).order server es ∷ []) (at_site server (begun_site l server now es) m))
    go b opened =
        subst (λ (a : Act). OrdersHold l (state_after l (m.trail ++ a ∷ [])) (with_acts (a ∷ []) (at_site server (begun_site l server now es) m)))
        (sym (begins_act l ((state_after l m.trail).server_at server) (m.site_at server) server es (h.sites server).order b opened)) (by b opened)
      where
        by : (t : Bool) → ((state_after l m.trail).server_at server).opened ≡ t
            → OrdersHold l (state_after l (m.trail ++ begin_act (if t then Some ((state_after l m.trail).server_at server).order else None) server es ∷ []))
            (with_acts (begin_act (if t then Some ((state_after l m.trail).server_at server).order else None) server es ∷ []) (at_site server (begun_site l server now es) m))
        by false shut =
            orders_at l m (with_acts (act.Opened server es ∷ []) (at_site server (begun_site l server now es) m)) server (begun_site l server now es) (act.Opened server es ∷ []) h refl
            (λ e other. put_other (state_after l m.trail).server_at server _ e other)
            (subst (λ (v : Server). OrderIs l server v (begun_site l server now es (m.site_at server)))
            (sym (put_same (state_after l m.trail).server_at server (opened_with (state_after l m.trail).clock l.times.round ((state_after l m.trail).server_at server) es)))
            (order_kept_by_first l server now (state_after l m.trail).clock es ((state_after l m.trail).server_at server) (m.site_at server) (h.sites server).order shut ((orders_kept l m.trail server run).fresh shut).1))
        by true opened_is =
            orders_at l m (with_acts (act.Crash server (length es) ∷ []) (at_site server (begun_site l server now es) m)) server (begun_site l server now es) (act.Crash server (length es) ∷ []) h refl
            (λ e other. put_other (state_after l m.trail).server_at server _ e other)
            (subst (λ (v : Server). OrderIs l server v (begun_site l server now es (m.site_at server)))
            (sym (put_same (state_after l m.trail).server_at server (crashed (state_after l m.trail).clock l.times.round ((state_after l m.trail).server_at server) (length es))))
            (order_kept_by_later l server now (state_after l m.trail).clock es ((state_after l m.trail).server_at server) (m.site_at server) (h.sites server).order opened_is (front opened_is)))
          where
            front : ((state_after l m.trail).server_at server).opened ≡ true → es ≡ take (length es) ((state_after l m.trail).server_at server).order
            front up =
                (subst (λ (o : Option (List Entry)). EntriesMay o (plain_server c server).synced es)
                (shows.orders server ∙ (h.sites server).order.disk ∙ ap (λ (t : Bool). if t then Some ((state_after l m.trail).server_at server).order else None) up) allowed.kept).front
