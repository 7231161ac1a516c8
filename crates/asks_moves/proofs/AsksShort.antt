-- Requests for locks over the moves that put and take nothing: a tick, a look, a node or an application server that goes, and starts.
use Rattle.std.proofs.Common.{◌≡◌, ℕ, Bool, false, List, [], ◌∷◌, refl, sym, ap, subst}
use Rattle.std.specs.List.{AllByRecursion}
use Rattle.plain_orders.specs.declared.act.Act.{Act}
use Rattle.plain_orders.specs.declared.entry.Entry.{Entry}
use Rattle.plain_orders.specs.declared.layout.Layout.{Layout}
use Rattle.plain_orders.specs.declared.layout.Times.{Times}
use Rattle.plain_orders.specs.Times.{until}
use Rattle.plain_runs.specs.Plain.{Server}
use Rattle.plain_runs.specs.Run.{IsRun, state_after}
use Rattle.link_states.specs.declared.data_link.DataLink.TheVariants.{Recovering}
use Rattle.lock_table.specs.declared.rows.Request.{Request}
use Rattle.app_job.specs.Sites.{Site as Target}
use Rattle.data_rules.specs.Conns.{with_link}
use Rattle.data_rules.specs.DataState.{DataState}
use Rattle.data_rules.specs.declared.rows.LiveEnd.{LiveEnd}
use Rattle.data_rules.specs.declared.rows.Reply.{Reply}
use Rattle.data_rules.specs.Opening.{live_ends}
use Rattle.data_rules.specs.Step.{recovering, started, with_epoch}
use Rattle.cluster_runs.specs.declared.move_outs.MoveOuts.{MoveOuts}
use Rattle.cluster_runs.specs.declared.moves.Move.TheVariants.{Begin}
use Rattle.cluster_runs.specs.CoresState.{CoresState}
use Rattle.cluster_runs.specs.Goes.{BeginGoes, DieGoes, HaltGoes, LookGoes, TickGoes, begun_site}
use Rattle.cluster_runs.specs.Machine.{Machine, Site}
use Rattle.cluster_runs.specs.Mirrors.{Mirrors}
use Rattle.cluster_runs.specs.Moves.{Allowed}
use Rattle.cluster_runs.specs.Sent.{Lane}
use Rattle.cluster_invariant.specs.Asks.{AsksHold, NodeAsks, RequestIs, WaitsAsked}
use Rattle.cluster_invariant.specs.Holds.{Holds}
use Rattle.cluster_invariant.specs.Served.{has_one_ticket}
use Rattle.cluster_invariant.proofs.Frame.{kept_by_tick}
use Rattle.cluster_invariant.proofs.SiteMoves.{kept_by_death, kept_by_halt, kept_by_look, kept_by_start}
use Rattle.asks_moves.specs.Laws.{EachAsksHold}

-- they as a part of the invariant
abbrev pub AsksPart : (ℕ → Bool) → ℕ → Server → Site → Type 0
AsksPart dead d v x = AsksHold x dead

-- A tick keeps them.
pub asks_kept_by_tick : (l : Layout) (m new : Machine) (now : ℕ) (outs : MoveOuts) (written : List Act) → Holds l m → TickGoes m now outs written new → EachAsksHold new
asks_kept_by_tick l m new now outs written h goes d = ((kept_by_tick l m new now outs written h goes).sites d).asks

-- A look keeps them.
pub asks_kept_by_look : (l : Layout) (m : Machine) (app job line : ℕ) (at : Target) (outs : MoveOuts) (written : List Act) (new : Machine)
    → Holds l m → LookGoes m app job line at outs written new → EachAsksHold new
asks_kept_by_look l m app job line at outs written new h goes =
    kept_by_look AsksPart l m app job line at outs written new goes (λ d. (h.sites d).asks)
    (λ knows. record { lanes = (h.sites at.server).asks.lanes; node = (h.sites at.server).asks.node; apps = (h.sites at.server).asks.apps })

-- An application server that goes keeps them.
pub asks_kept_by_die : (l : Layout) (m : Machine) (app : ℕ) (outs : MoveOuts) (written : List Act) (new : Machine)
    → Holds l m → DieGoes m app outs written new → EachAsksHold new
asks_kept_by_die l m app outs written new h goes =
    kept_by_death AsksPart l m app outs written new goes
    (λ alive d. record { lanes = (h.sites d).asks.lanes; node = (h.sites d).asks.node; apps = λ a lives. (h.sites d).asks.apps a (alive a lives) })

-- A halt keeps them.
pub asks_kept_by_halt : (l : Layout) (m : Machine) (server : ℕ) (outs : MoveOuts) (written : List Act) (new : Machine)
    → Holds l m → HaltGoes m server outs written new → EachAsksHold new
asks_kept_by_halt l m server outs written new h goes =
    kept_by_halt AsksPart l m server outs written new goes (λ d. (h.sites d).asks)
    (record { lanes = (h.sites server).asks.lanes; node = tt; apps = (h.sites server).asks.apps })

-- starts

-- a data server that starts has no requests and no replies
recovering_none : (xs : List LiveEnd) (due : ℕ) (n : DataState) → ((recovering xs due n).locks ≡ n.locks) × ((recovering xs due n).replies ≡ n.replies)
recovering_none [] due n = (refl, refl)
recovering_none (x ∷ xs) due n = recovering_none xs due (with_link x.app (Recovering due) n)

started_none : (lane_of : ℕ → Lane) (d : ℕ) (times : Times) (es : List Entry) (now : ℕ) → NodeAsks lane_of (started d times es now)
started_none lane_of d times es now = go (recovering_none (live_ends es) (until now times.round) (with_epoch d times es))
  where
    n : DataState
    n = started d times es now

    go : (n.locks ≡ (with_epoch d times es).locks) × (n.replies ≡ []) → NodeAsks lane_of n
    go none = record {
      one_each = ap (λ (l : _). has_one_ticket l.requests) none.0;
      requests = subst (λ (rs : List Request). AllByRecursion (λ (r : Request). RequestIs (lane_of r.who.session) n r) rs) (sym (ap (λ (l : _). l.requests) none.0)) tt;
      replies = subst (λ (rs : List Reply). AllByRecursion (λ (r : Reply). WaitsAsked lane_of r.says) rs) (sym none.1) tt;
    }

-- Each start of a data server keeps them.
pub asks_kept_by_begin : (l : Layout) (c : CoresState) (m : Machine) (server now : ℕ) (es : List Entry) (outs : MoveOuts) (written : List Act) (new : Machine)
    → Holds l m → IsRun l m.trail → Mirrors c m → Allowed c (Begin server now es) → BeginGoes m server now es outs written new → EachAsksHold new
asks_kept_by_begin l c m server now es outs written new h run shows allowed goes =
    kept_by_start AsksPart l c m server now es outs written new h run shows allowed goes (λ d. (h.sites d).asks) (λ starts. begun) (λ starts. begun)
  where
    y : Site
    y = begun_site l server now es (m.site_at server)

    begun : AsksHold y m.is_dead_at
    begun = record {
      lanes = (h.sites server).asks.lanes;
      node = started_none (λ s. y.lane_at s y.past) server l.times es now;
      apps = (h.sites server).asks.apps;
    }
