-- What a data server's step makes of its plain server: the current order goes on, no less of it stays, no session is met, and nothing more
-- counts of one whose application server didn't learn of the order.
use Rattle.std.proofs.Common.{◌≡◌, ◌≢◌, ◌≤◌, ◌<◌, ◌⊎◌, inl, inr, ℕ, ◌+◌, ◌-◌, Bool, true, false, List, [], ◌∷◌, ◌++◌, length, map, get_or, Option, Some, None, option_map, refl, sym, ◌∙◌, ap, subst, arith, ◌==◌, if◌then◌else◌}
use Rattle.std.specs.List.{AllByRecursion}
use Rattle.std.proofs.lemmas.Bool.{eq-eqb, eqb-true, false≢true}
use Rattle.std.proofs.lemmas.List.{get_or_append_left}
use Rattle.plain_orders.specs.declared.act.Act.{Act}
use Rattle.plain_orders.specs.declared.entry.Entry.{Entry}
use Rattle.plain_orders.specs.declared.entry.Entry.TheVariants.{Opened, Closed}
use Rattle.plain_orders.specs.declared.layout.Layout.{Layout}
use Rattle.plain_orders.specs.Entries.{count, last_epoch}
use Rattle.plain_runs.specs.Plain.{Plain, Server, current, order_at, start}
use Rattle.plain_runs.specs.Run.{IsRun, after_all, state_after}
use Rattle.data_rules.specs.DataState.{DataState}
use Rattle.data_rules.specs.declared.data_in.DataIn.{DataIn}
use Rattle.data_rules.specs.Places.{epoch_place}
use Rattle.data_rules.specs.Puts.{Sofar}
use Rattle.data_rules.specs.Step.{DataMay, made}
use Rattle.cluster_runs.specs.declared.move_outs.MoveOuts.{MoveOuts}
use Rattle.cluster_runs.specs.declared.moves.Move.TheVariants.{Server as ServerMove}
use Rattle.cluster_runs.specs.CoresState.{CoresState}
use Rattle.cluster_runs.specs.Goes.{ServerGoes}
use Rattle.cluster_runs.specs.Machine.{Machine, Site}
use Rattle.cluster_runs.specs.Mirrors.{Mirrors}
use Rattle.cluster_runs.specs.Moves.{Allowed, NodeMay}
use Rattle.cluster_runs.specs.Steps.{raised}
use Rattle.cluster_invariant.specs.Holds.{Holds}
use Rattle.cluster_invariant.specs.Words.{stays_at}
use Rattle.cluster_invariant.proofs.Deeds.{Does, order_by}
use Rattle.cluster_invariant.proofs.OrderMoves.{server_wrote, step_from}
use Rattle.cluster_invariant.proofs.OrderRows.{StepWrote}
use Rattle.cluster_invariant.proofs.OrdersStay.{orders_agree}
use Rattle.cluster_invariant.proofs.PastOrders.{order_now, past_stays}
use Rattle.cluster_invariant.proofs.PieceDeeds.{does_step}
use Rattle.cluster_invariant.proofs.PieceMay.{begins}
use Rattle.cluster_invariant.proofs.Written.{place_kept}
use Rattle.told_kept.proofs.OrdersLater.{epoch_kept, grown_later}
use Rattle.told_kept.proofs.SameSessions.{SameMets, rows_met}
use Rattle.told_kept.proofs.ToldServer.{AllLeave, begins_tells, both_tell, deeds_tell, raised_tell}
use Rattle.told_kept.proofs.ToldStays.{OrdersLater}
use Rattle.coherence_kept.proofs.DeedsOn.{deeds_on}
use Rattle.coherence_kept.proofs.Grows.{OrdersOn}
use Rattle.link_kept.proofs.Later.{EnteredStays, Later}
use Rattle.link_apps.proofs.EnteredStays.{NoneMet, none_met}

-- the orders of a plain server that goes on by its current one
pub record LaterBy (x : Site) (v w : Server) : Type 0 where
  pub past : w.past ≡ v.past
  pub on : OrdersOn v w
  pub known : OrdersLater v w
  -- in the current order
  pub counts : (s : ℕ) → (x.lane_at s (current v)).began ≡ None → count w.order s ≡ count v.order s

pub later_by : (x : Site) (v w : Server) → LaterBy x v w → Later x v w
later_by x v w b = record {
  there = omega (arith, now);
  goes_on = b.on.goes_on;
  within = b.on.within;
  stays = b.on.stays;
  left = left;
  last = b.known.last;
  place = b.known.place;
  newer = λ i j low above there stays. absurd (omega (arith, above, there, now));
  counts = λ s k low unlearnt. counts s k (k == current v) refl low unlearnt;
}
  where
    now : current w ≡ current v
    now = ap (λ (xs : List (List Entry)). length xs) b.past

    left : (k : ℕ) → k < current v → stays_at w k ≡ stays_at v k
    left k low =
        past_stays w k (λ same. absurd (omega (arith, same, low, now)))
        ∙ ap (λ (n : ℕ). n - 1) (b.known.place (k + 1) (omega (arith, low)))
        ∙ sym (past_stays v k (λ same. absurd (omega (arith, same, low))))

    before : (k : ℕ) → k < current v → order_at w k ≡ order_at v k
    before k low =
        get_or_append_left w.past (w.order ∷ []) [] k (omega (arith, low, now)) ∙ ap (λ (xs : List (List Entry)). get_or xs k []) b.past
        ∙ sym (get_or_append_left v.past (v.order ∷ []) [] k low)

    counts : (s k : ℕ) (c : Bool) → (k == current v) ≡ c → k ≤ current v → (x.lane_at s k).began ≡ None → count (order_at w k) s ≡ count (order_at v k) s
    counts s k true same low unlearnt =
        ap (λ (es : List Entry). count es s) (ap (order_at w) (eqb-true k (current v) same ∙ sym now) ∙ order_now w)
        ∙ b.counts s (ap (λ (n : ℕ). (x.lane_at s n).began) (sym (eqb-true k (current v) same)) ∙ unlearnt)
        ∙ sym (ap (λ (es : List Entry). count es s) (ap (order_at v) (eqb-true k (current v) same) ∙ order_now v))
    counts s k false other low unlearnt = ap (λ (es : List Entry). count es s) (before k (below (λ same. false≢true (sym other ∙ eq-eqb k (current v) same))))
      where
        below : k ≢ current v → k < current v
        below apart = omega (arith, low, apart)

module _ (l : Layout) (c : CoresState) (m : Machine) (server now : ℕ) (input : DataIn) (outs : MoveOuts) (written : List Act) (new : Machine) (h : Holds l m)
    (run : IsRun l m.trail) (shows : Mirrors c m) (allowed : Allowed c (ServerMove server now input)) (goes : ServerGoes m server now input outs written new) where
  abbrev pub x : Site
  x = m.site_at server

  abbrev pub p : Plain
  p = state_after l m.trail

  abbrev pub q : Plain
  q = after_all l (state_after l m.trail) written

  abbrev pub v : Server
  v = p.server_at server

  abbrev pub w : Server
  w = q.server_at server

  pub wrote : StepWrote server goes.node goes.state (state_after l m.trail) (after_all l (state_after l m.trail) written)
  wrote = server_wrote l c m server now input outs written new h run shows allowed goes

  may_step : DataMay goes.node input
  may_step = subst (λ (o : Option DataState). NodeMay o input) (shows.nodes server ∙ goes.runs) allowed.may

  -- none is met
  pub mets : SameMets ((state_after l m.trail).server_at server) ((after_all l (state_after l m.trail) written).server_at server)
  mets = rows_met l (state_after l m.trail) written (tell (does_step goes.node now input goes.data_outs goes.state (step_from l m server goes.node h run goes.runs) may_step goes.steps)) server
    where
      tell : Does (begins (record { old = goes.node; now = now; input = input })) (made goes.state goes.data_outs) → AllLeave written
      tell does =
          subst AllLeave (sym goes.acts)
          (raised_tell ((state_after m.layout m.trail).server_at server).synced goes.data_outs.acts
          (subst AllLeave (sym does.acts) (both_tell (begins (record { old = goes.node; now = now; input = input })).outs.acts _ (begins_tells goes.node now input) (deeds_tell _ does.deeds))))

  pub later_step : ((s : ℕ) → ((m.site_at server).lane_at s (current ((state_after l m.trail).server_at server))).began ≡ None
      → count ((after_all l (state_after l m.trail) written).server_at server).order s ≡ count ((state_after l m.trail).server_at server).order s)
      → Later (m.site_at server) ((state_after l m.trail).server_at server) ((after_all l (state_after l m.trail) written).server_at server)
  later_step counts =
      later_by x v w
      (record {
        past = wrote.past;
        on = deeds_on v w wrote.deeds (orders_agree l m.trail server run) wrote.may wrote.past wrote.order (omega (arith, wrote.synced));
        known =
            grown_later v w wrote.past (ap last_epoch wrote.order ∙ epoch_kept wrote.deeds v.order wrote.may)
            (ap epoch_place wrote.order ∙ place_kept wrote.deeds v.order wrote.may) (omega (arith, wrote.synced));
        counts = counts;
      })
