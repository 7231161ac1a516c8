-- The trail stays a run as data servers start and halt, as application servers go, and at ticks.
use Rattle.std.proofs.Common.{◌≡◌, ◌≤◌, ℕ, Bool, true, false, List, [], ◌∷◌, ◌++◌, length, Option, Some, None, refl, sym, ◌∙◌, ap, subst, arith, if◌then◌else◌}
use Rattle.std.proofs.lemmas.List.{length-take}
use Rattle.plain_orders.specs.declared.act.Act.{Act}
use Rattle.plain_orders.specs.declared.act.Act.TheVariants as act
use Rattle.plain_orders.specs.declared.entry.Entry.{Entry}
use Rattle.plain_orders.specs.declared.layout.Layout.{Layout}
use Rattle.plain_orders.specs.declared.limits.TheConstants.{START_EPOCH_LIMIT}
use Rattle.plain_orders.specs.Entries.{last_epoch}
use Rattle.plain_runs.specs.Plain.{Server, start}
use Rattle.plain_runs.specs.OrderRows.{OpenedMay, CrashMay}
use Rattle.plain_runs.specs.Run.{IsRun, state_after}
use Rattle.plain_runs.specs.Step.{MayCome}
use Rattle.plain_runs.proofs.RunLemmas.{run_more}
use Rattle.cluster_runs.specs.CoresState.{CoresState, plain_server, order_at}
use Rattle.cluster_runs.specs.declared.move_outs.MoveOuts.{MoveOuts}
use Rattle.cluster_runs.specs.declared.moves.Move.TheVariants.{Begin}
use Rattle.cluster_runs.specs.Goes.{BeginGoes, HaltGoes, DieGoes, TickGoes}
use Rattle.cluster_runs.specs.Machine.{Machine}
use Rattle.cluster_runs.specs.Mirrors.{Mirrors}
use Rattle.cluster_runs.specs.Moves.{Allowed, EntriesMay, LaterMay}
use Rattle.cluster_runs.specs.Steps.{begin_act}
use Rattle.cluster_invariant.specs.Holds.{Holds}
use Rattle.cluster_invariant.specs.Orders.{disk_order}

-- an act more, where a move writes one
one_act : (l : Layout) (m new : Machine) (a : Act) (written : List Act) → IsRun l m.trail → new.trail ≡ m.trail ++ written → written ≡ a ∷ [] → MayCome l (state_after l m.trail) a → IsRun l new.trail
one_act l m new a written run trail one may =
    subst (IsRun l) (sym (trail ∙ ap (λ (ws : List Act). m.trail ++ ws) one)) (run_more l start m.trail a run may)

-- A tick.
pub run_kept_by_tick : (l : Layout) (m new : Machine) (now : ℕ) (outs : MoveOuts) (written : List Act) → IsRun l m.trail → TickGoes m now outs written new → IsRun l new.trail
run_kept_by_tick l m new now outs written run goes = one_act l m new (act.Tick now) written run (ap (λ (n : Machine). n.trail) goes.after) goes.acts tt

-- An application server that goes.
pub run_kept_by_die : (l : Layout) (m new : Machine) (app : ℕ) (outs : MoveOuts) (written : List Act) → IsRun l m.trail → DieGoes m app outs written new → IsRun l new.trail
run_kept_by_die l m new app outs written run goes = one_act l m new (act.Died app) written run (ap (λ (n : Machine). n.trail) goes.after) goes.acts tt

-- A data server that halts.
pub run_kept_by_halt : (l : Layout) (m new : Machine) (server : ℕ) (outs : MoveOuts) (written : List Act) → IsRun l m.trail → HaltGoes m server outs written new → IsRun l new.trail
run_kept_by_halt l m new server outs written run goes = subst (λ (n : Machine). IsRun l n.trail) (sym goes.after) run

-- A start: the first opens, and a later one is a crash behind the synced part.

begins_first : (v : Server) (es : List Entry) → v.opened ≡ false → EntriesMay None v.synced es → last_epoch es ≤ START_EPOCH_LIMIT → OpenedMay v es
begins_first v es shut kept low = record { fresh = shut; ordered = kept; low = low }

begins_later : (v : Server) (es : List Entry) → v.opened ≡ true → LaterMay v.order v.synced es → last_epoch es ≤ START_EPOCH_LIMIT → CrashMay v (length es)
begins_later v es is_open kept low = record {
  opened = is_open;
  no_less = kept.no_less;
  within = omega (arith, ap (λ (xs : List Entry). length xs) kept.front, length-take (length es) v.order);
  low = subst (λ (xs : List Entry). last_epoch xs ≤ START_EPOCH_LIMIT) kept.front low;
}

pub run_kept_by_begin : (l : Layout) (c : CoresState) (m : Machine) (server now : ℕ) (es : List Entry) (outs : MoveOuts) (written : List Act) (new : Machine)
    → Holds l m → IsRun l m.trail → Mirrors c m → Allowed c (Begin server now es) → BeginGoes m server now es outs written new → IsRun l new.trail
run_kept_by_begin l c m server now es outs written new h run shows allowed goes =
    one_act l m new (begin_act (m.site_at server).order server es) written run (ap (λ (n : Machine). n.trail) goes.after) goes.acts
    (subst (λ (o : Option (List Entry)). MayCome l (state_after l m.trail) (begin_act o server es)) (sym (h.sites server).order.disk)
    (go v.opened refl (subst (λ (o : Option (List Entry)). EntriesMay o v.synced es) (shows.orders server ∙ (h.sites server).order.disk) (subst (λ (s : Server). EntriesMay (order_at c server) s.synced es) same allowed.kept))))
  where
    v : Server
    v = (state_after l m.trail).server_at server

    same : plain_server c server ≡ v
    same = ap (λ (k : Layout). (state_after k c.trail).server_at server) (shows.layout ∙ h.layout) ∙ ap (λ (acts : List Act). (state_after l acts).server_at server) shows.trail

    go : (b : Bool) → v.opened ≡ b → EntriesMay (disk_order v) v.synced es → MayCome l (state_after l m.trail) (begin_act (disk_order v) server es)
    go b is kept = by b is (subst (λ (t : Bool). EntriesMay (if t then Some v.order else None) v.synced es) is kept)
      where
        by : (t : Bool) → v.opened ≡ t → EntriesMay (if t then Some v.order else None) v.synced es → MayCome l (state_after l m.trail) (begin_act (disk_order v) server es)
        by true is k = subst (λ (t : Bool). MayCome l (state_after l m.trail) (begin_act (if t then Some v.order else None) server es)) (sym is) (begins_later v es is k allowed.low)
        by false is k = subst (λ (t : Bool). MayCome l (state_after l m.trail) (begin_act (if t then Some v.order else None) server es)) (sym is) (begins_first v es is k allowed.low)
