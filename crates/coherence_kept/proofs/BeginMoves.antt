-- Coherence, for each start of a data server: in its new order nothing was put yet, and those before it are as they were.
use Rattle.std.proofs.Common.{◌≡◌, ◌<◌, ◌≤◌, ℕ, Bool, List, [], ◌∷◌, length, refl, sym, ◌∙◌, ap, subst, arith}
use Rattle.plain_orders.specs.declared.act.Act.{Act}
use Rattle.plain_orders.specs.declared.entry.Entry.{Entry}
use Rattle.plain_orders.specs.declared.layout.Layout.{Layout}
use Rattle.plain_orders.specs.declared.layout.Times.{Times}
use Rattle.plain_orders.specs.Times.{until}
use Rattle.plain_runs.specs.Plain.{Plain, Server, current, order_at}
use Rattle.plain_runs.specs.OrderRows.{crashed, opened_with}
use Rattle.plain_runs.specs.Run.{IsRun, state_after}
use Rattle.link_states.specs.declared.data_link.DataLink.TheVariants.{Recovering}
use Rattle.data_rules.specs.DataState.{DataState}
use Rattle.data_rules.specs.declared.rows.LiveEnd.{LiveEnd}
use Rattle.data_rules.specs.Conns.{with_link}
use Rattle.data_rules.specs.Opening.{live_ends}
use Rattle.data_rules.specs.Step.{recovering, started, with_epoch}
use Rattle.cluster_runs.specs.declared.move_outs.MoveOuts.{MoveOuts}
use Rattle.cluster_runs.specs.declared.moves.Move.TheVariants.{Begin}
use Rattle.cluster_runs.specs.CoresState.{CoresState}
use Rattle.cluster_runs.specs.Moves.{Allowed}
use Rattle.cluster_runs.specs.Mirrors.{Mirrors}
use Rattle.cluster_runs.specs.Machine.{Machine, Site}
use Rattle.cluster_runs.specs.Goes.{BeginGoes, begun_site, past_with}
use Rattle.cluster_invariant.specs.Orders.{OrdersAgree}
use Rattle.cluster_invariant.specs.Coherence.{CoherenceHolds}
use Rattle.cluster_runs.specs.Sent.{no_lane}
use Rattle.cluster_invariant.specs.Holds.{SiteHolds, Holds}
use Rattle.cluster_invariant.specs.Words.{IsFront, stays_at}
use Rattle.link_kept.proofs.Later.{front_same}
use Rattle.cluster_invariant.proofs.PastOrders.{order_now, now_stays, stays_within, crashed_order, crashed_stays}
use Rattle.cluster_invariant.proofs.SiteMoves.{kept_by_start}
use Rattle.coherence_kept.proofs.Grows.{OrdersOn}
use Rattle.coherence_kept.proofs.CoherenceLater.{lanes_later, none_held}
use Rattle.coherence_kept.proofs.ShortMoves.{CoherencePart, PutsCoherent}

-- a node that starts has no notes

recovering_noted : (xs : List LiveEnd) (due : ℕ) (n : DataState) → (recovering xs due n).noted ≡ n.noted
recovering_noted [] due n = refl
recovering_noted (x ∷ xs) due n = recovering_noted xs due (with_link x.app (Recovering due) n)

started_noted : (d : ℕ) (times : Times) (es : List Entry) (now : ℕ) → (started d times es now).noted ≡ []
started_noted d times es now = recovering_noted (live_ends es) (until now times.round) (with_epoch d times es)

-- The orders before a start are as they were after it, and no less of them stays.
pub crashed_on : (v : Server) (clock round kept : ℕ) → OrdersAgree v → v.synced ≤ kept → kept ≤ length v.order → OrdersOn v (crashed clock round v kept)
crashed_on v clock round kept agree low within = record {
  goes_on = λ k under. subst (λ (es : List Entry). IsFront (order_at v k) es) (sym (crashed_order v clock round kept k under)) (front_same (order_at v k));
  within = stays_within v agree;
  stays = λ k under. crashed_stays v clock round kept k low within under;
}

-- the orders of a server that never started are empty
pub opened_on : (v : Server) (clock round : ℕ) (es : List Entry) → v.order ≡ [] → v.past ≡ [] → v.synced ≤ length v.order → OrdersOn v (opened_with clock round v es)
opened_on v clock round es none first low = record {
  goes_on = λ k under. subst (λ (fs : List Entry). IsFront fs (order_at w k)) (sym (empty k under)) (order_at w k, refl);
  within = λ k under. omega (arith, stays k under);
  stays = λ k under. omega (arith, stays k under);
}
  where
    w : Server
    w = opened_with clock round v es

    only : (k : ℕ) → k ≤ current v → k ≡ current v
    only k under = omega (arith, under, ap (λ (xs : List (List Entry)). length xs) first)

    empty : (k : ℕ) → k ≤ current v → order_at v k ≡ []
    empty k under = ap (order_at v) (only k under) ∙ order_now v ∙ none

    stays : (k : ℕ) → k ≤ current v → stays_at v k ≡ 0
    stays k under = ap (stays_at v) (only k under) ∙ now_stays v ∙ omega (arith, low, ap (λ (xs : List Entry). length xs) none)

-- A site whose node starts.
begun_coherent : (l : Layout) (d now : ℕ) (es : List Entry) (v w : Server) (x : Site) (dead : ℕ → Bool) → SiteHolds l d dead v x → OrdersOn v w
    → ((q j : ℕ) → current v < j → x.lane_at q j ≡ no_lane) → CoherenceHolds w (begun_site l d now es x)
begun_coherent l d now es v w x dead its on to_come = record {
  lanes = λ s k there. lanes_later v w x on to_come its.coherence.lanes s k;
  node = none_held (begun_site l d now es x) (started d l.times es now) (started_noted d l.times es now) (λ s. its.order.to_come s (past_with x.order x.past) (omega arith));
}

-- Each start of a data server keeps it.
pub coherence_kept_by_begin : (l : Layout) (c : CoresState) (m : Machine) (server now : ℕ) (es : List Entry) (outs : MoveOuts) (written : List Act) (new : Machine)
    → Holds l m → IsRun l m.trail → Mirrors c m → Allowed c (Begin server now es) → BeginGoes m server now es outs written new → PutsCoherent l new
coherence_kept_by_begin l c m server now es outs written new h run shows allowed goes =
    kept_by_start CoherencePart l c m server now es outs written new h run shows allowed goes (λ d. (h.sites d).coherence)
    (λ starts.
    begun_coherent l server now es v (opened_with p.clock l.times.round v es) x m.is_dead_at its
    (opened_on v p.clock l.times.round es starts.none starts.first (omega (arith, starts.synced)))
    (λ q j far. its.order.to_come q j (omega (arith, far, starts.next))))
    (λ starts.
    begun_coherent l server now es v (crashed p.clock l.times.round v (length es)) x m.is_dead_at its
    (crashed_on v p.clock l.times.round (length es) starts.agree starts.low starts.within)
    (λ q j far. its.order.to_come q j (omega (arith, far, starts.next))))
  where
    p : Plain
    p = state_after l m.trail

    x : Site
    x = m.site_at server

    v : Server
    v = p.server_at server

    its : SiteHolds l server m.is_dead_at v x
    its = h.sites server
