-- What application ends were told stays over each step of a data server.
use Rattle.std.proofs.Common.{◌≡◌, ℕ, Bool, true, false, List, [], ◌∷◌, ◌++◌, map, Option, refl, sym, ◌∙◌, ap, subst, arith, if◌then◌else◌}
use Rattle.std.specs.Prelude.{nat_lt}
use Rattle.std.specs.List.{AllByRecursion}
use Rattle.plain_orders.specs.declared.act.Act.{Act}
use Rattle.plain_orders.specs.declared.layout.Layout.{Layout}
use Rattle.plain_orders.specs.Entries.{last_epoch}
use Rattle.plain_runs.specs.Plain.{Plain, Server}
use Rattle.plain_runs.specs.Run.{IsRun, after_all, state_after}
use Rattle.data_rules.specs.DataState.{DataState}
use Rattle.data_rules.specs.declared.data_in.DataIn.{DataIn}
use Rattle.data_rules.specs.declared.data_in.DataIn.TheVariants as data_in
use Rattle.data_rules.specs.Places.{epoch_place}
use Rattle.data_rules.specs.Puts.{begun}
use Rattle.data_rules.specs.Saving.{writes_synced}
use Rattle.data_rules.specs.Step.{DataMay, made}
use Rattle.cluster_runs.specs.declared.move_outs.MoveOuts.{MoveOuts}
use Rattle.cluster_runs.specs.declared.moves.Move.TheVariants.{Server as ServerMove}
use Rattle.cluster_runs.specs.CoresState.{CoresState}
use Rattle.cluster_runs.specs.Connections.{hears_downs, leaves_conn, leaves_conns}
use Rattle.cluster_runs.specs.Goes.{ServerGoes, server_site, server_takes, with_node}
use Rattle.data_rules.specs.declared.data_outs.DataOuts.{DataOuts}
use Rattle.cluster_runs.specs.Machine.{Machine, Site}
use Rattle.cluster_runs.specs.Mirrors.{Mirrors}
use Rattle.cluster_runs.specs.Moves.{Allowed, NodeMay}
use Rattle.cluster_runs.specs.Steps.{raised, is_raised}
use Rattle.cluster_invariant.specs.Holds.{Holds}
use Rattle.cluster_invariant.proofs.Deeds.{Deed, Enters, Closes, Releases, ComesBack, Grants, Frees, Breaks, Does, act_of}
use Rattle.cluster_invariant.proofs.SiteMoves.{kept_at_one}
use Rattle.cluster_invariant.proofs.OrderMoves.{server_wrote, step_from}
use Rattle.cluster_invariant.proofs.OrderRows.{StepWrote}
use Rattle.cluster_invariant.proofs.PieceDeeds.{does_step}
use Rattle.cluster_invariant.proofs.PieceMay.{begins}
use Rattle.cluster_invariant.proofs.Written.{place_kept}
use Rattle.cluster_steps.proofs.Outcomes.{end_same}
use Rattle.told_kept.proofs.OrdersLater.{epoch_kept, grown_later}
use Rattle.told_kept.proofs.SameSessions.{leaves_told, SameMets, rows_met, mets_kept}
use Rattle.told_kept.proofs.ToldBeside.{ToldPart, ToldAt, ToldHolds, told_of, same_told}
use Rattle.told_kept.proofs.ToldStays.{OrdersLater, told_later}

-- the acts of a data server's step tell no session anything

deed_tells : (d : ℕ) (x : Deed) → leaves_told (act_of d x) ≡ true
deed_tells d (Enters e) = refl
deed_tells d (Closes s cause) = refl
deed_tells d (Releases s) = refl
deed_tells d ComesBack = refl
deed_tells d (Grants s j m key at) = refl
deed_tells d (Frees s j m key) = refl
deed_tells d (Breaks app now) = refl

abbrev pub AllLeave : List Act → Type 0
AllLeave acts = AllByRecursion (λ a. leaves_told a ≡ true) acts

pub deeds_tell : (d : ℕ) (ds : List Deed) → AllLeave (map (act_of d) ds)
deeds_tell d [] = tt
deeds_tell d (x ∷ xs) = (deed_tells d x, deeds_tell d xs)

pub both_tell : (xs ys : List Act) → AllLeave xs → AllLeave ys → AllLeave (xs ++ ys)
both_tell [] ys a b = b
both_tell (x ∷ xs) ys a b = (a.0, both_tell xs ys a.1 b)

pub begins_tells : (old : DataState) (now : ℕ) (input : DataIn) → AllLeave (begins (record { old = old; now = now; input = input })).outs.acts
begins_tells old now (data_in.Frame conn up) = tt
begins_tells old now (data_in.Connected conn) = tt
begins_tells old now (data_in.Broken conn) = tt
begins_tells old now data_in.Tick = tt
begins_tells old now (data_in.Saved upto) = go (nat_lt old.synced upto)
  where
    go : (rises : Bool) → AllLeave (writes_synced rises upto (begun old)).outs.acts
    go true = (refl, tt)
    go false = tt

pub raised_tell : (n : ℕ) (acts : List Act) → AllLeave acts → AllLeave (raised n acts)
raised_tell n [] all = tt
raised_tell n (a ∷ acts) all = go (is_raised n a) (raised_tell n acts all.1)
  where
    go : (b : Bool) → AllLeave (raised n acts) → AllLeave (if b then a ∷ raised n acts else raised n acts)
    go true rest = (all.0, rest)
    go false rest = rest

-- all its ends at a data server that goes on
pub told_at_later : (v w : Server) (x y : Site) (is_dead : ℕ → Bool) → OrdersLater v w → SameMets v w → ((app : ℕ) → (y.end_at app).state ≡ (x.end_at app).state) → ((app : ℕ) → (y.end_at app).told ≡ (x.end_at app).told)
    → ToldAt is_dead v x → ToldAt is_dead w y
told_at_later v w x y is_dead later mets states tolds h app alive =
    same_told w app (x.end_at app) (y.end_at app) (states app) (tolds app)
    (told_later v w app (x.end_at app) (x.end_at app) later (mets_kept app v w mets) (end_same (x.end_at app).state) refl (h app alive))

-- a step of a data server leaves the states of the ends

abbrev SameTold : Site → Site → Type 0
SameTold x y = (app : ℕ) → ((y.end_at app).state ≡ (x.end_at app).state) × ((y.end_at app).told ≡ (x.end_at app).told)

takes_same : (input : DataIn) (x : Site) → SameTold x (server_takes input x)
takes_same (data_in.Frame conn frame) x app = (refl, refl)
takes_same (data_in.Connected conn) x app = (refl, refl)
takes_same (data_in.Broken conn) x app = (refl, refl)
takes_same data_in.Tick x app = (refl, refl)
takes_same (data_in.Saved upto) x app = (refl, refl)

leaves_same : (conns : List ℕ) (x : Site) → SameTold x (leaves_conns conns x)
leaves_same [] x app = (refl, refl)
leaves_same (conn ∷ conns) x app = leaves_same conns (leaves_conn conn x) app

pub server_same : (old : DataState) (now : ℕ) (input : DataIn) (outs : DataOuts) (new : DataState) (x : Site) → SameTold x (server_site old now input outs new x)
server_same old now input outs new x app = go (leaves_same outs.cuts (hears_downs outs.frames (with_node now new (server_takes input x))) app) (takes_same input x app)
  where
    go : (((server_site old now input outs new x).end_at app).state ≡ ((server_takes input x).end_at app).state) × (((server_site old now input outs new x).end_at app).told ≡ ((server_takes input x).end_at app).told)
        → (((server_takes input x).end_at app).state ≡ (x.end_at app).state) × (((server_takes input x).end_at app).told ≡ (x.end_at app).told)
        → (((server_site old now input outs new x).end_at app).state ≡ (x.end_at app).state) × (((server_site old now input outs new x).end_at app).told ≡ (x.end_at app).told)
    go a b = (a.0 ∙ b.0, a.1 ∙ b.1)

-- Each step of a data server.
pub told_kept_by_server : (l : Layout) (c : CoresState) (m : Machine) (server now : ℕ) (input : DataIn) (outs : MoveOuts) (written : List Act) (new : Machine)
    → Holds l m → IsRun l m.trail → Mirrors c m → Allowed c (ServerMove server now input) → ServerGoes m server now input outs written new → ToldHolds l (state_after l new.trail) new
told_kept_by_server l c m server now input outs written new h run shows allowed goes = go (server_wrote l c m server now input outs written new h run shows allowed goes)
  where
    p : Plain
    p = state_after l m.trail

    may : DataMay goes.node input
    may = subst (λ (o : Option DataState). NodeMay o input) (shows.nodes server ∙ goes.runs) allowed.may

    tell : Does (begins (record { old = goes.node; now = now; input = input })) (made goes.state goes.data_outs) → AllLeave written
    tell does =
        subst AllLeave (sym goes.acts)
        (raised_tell ((state_after m.layout m.trail).server_at server).synced goes.data_outs.acts
        (subst AllLeave (sym does.acts) (both_tell (begins (record { old = goes.node; now = now; input = input })).outs.acts _ (begins_tells goes.node now input) (deeds_tell _ does.deeds))))

    go : StepWrote server goes.node goes.state p (after_all l p written) → ToldHolds l (state_after l new.trail) new
    go w =
        kept_at_one ToldPart l m new server (server_site goes.node now input goes.data_outs goes.state) written (told_of l m h) goes.after w.others
        (told_at_later (p.server_at server) ((after_all l p written).server_at server) (m.site_at server) (server_site goes.node now input goes.data_outs goes.state (m.site_at server)) m.is_dead_at
        (grown_later (p.server_at server) ((after_all l p written).server_at server) w.past (ap last_epoch w.order ∙ epoch_kept w.deeds (p.server_at server).order w.may)
        (ap epoch_place w.order ∙ place_kept w.deeds (p.server_at server).order w.may) (omega (arith, w.synced)))
        (rows_met l p written (tell (does_step goes.node now input goes.data_outs goes.state (step_from l m server goes.node h run goes.runs) may goes.steps)) server)
        (λ app. (server_same goes.node now input goes.data_outs goes.state (m.site_at server) app).0) (λ app. (server_same goes.node now input goes.data_outs goes.state (m.site_at server) app).1) (h.sites server).ends.told)
