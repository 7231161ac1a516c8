-- What a recovery round puts, for the moves that put and take nothing.
use Rattle.std.proofs.Common.{◌≡◌, ◌≤◌, ◌<◌, ◌+◌, ℕ, Bool, true, false, List, [], ◌∷◌, ◌++◌, length, Option, Some, None, refl, sym, ◌∙◌, ap, subst, arith}
use Rattle.std.specs.Prelude.{◌&&◌, not, IfSome, nat_lt}
use Rattle.std.specs.List.{list_any}
use Rattle.std.proofs.lemmas.Bool.{false_from_ne_true, false≢true, ltb-true, ltb-false}
use Rattle.plain_orders.specs.declared.act.Act.{Act}
use Rattle.plain_orders.specs.declared.entry.Entry.{Entry}
use Rattle.plain_orders.specs.declared.entry.Entry.TheVariants.{Epoch}
use Rattle.plain_orders.specs.declared.layout.Layout.{Layout}
use Rattle.plain_orders.specs.declared.layout.Times.{Times}
use Rattle.plain_orders.specs.Entries.{last_epoch, live}
use Rattle.plain_orders.specs.Ordered.{IsOrdered}
use Rattle.plain_orders.specs.Times.{until}
use Rattle.plain_orders.proofs.EntryLemmas.{live-push}
use Rattle.plain_orders.proofs.PastLemmas.{ordered_past}
use Rattle.plain_runs.specs.OrderRows.{crashed, opened_with}
use Rattle.plain_runs.specs.Plain.{Plain, Server, current, order_at}
use Rattle.plain_runs.specs.Run.{IsRun, state_after}
use Rattle.app_job.specs.Sites.{Site as Target}
use Rattle.app_rules.specs.AppState.{Session}
use Rattle.link_states.specs.declared.data_link.DataLink.TheVariants.{Recovering}
use Rattle.recovery_round.specs.RoundWords.{Round}
use Rattle.data_rules.specs.Conns.{with_link}
use Rattle.data_rules.specs.DataState.{DataState}
use Rattle.data_rules.specs.declared.rows.LiveEnd.{LiveEnd}
use Rattle.data_rules.specs.Opening.{live_ends}
use Rattle.data_rules.specs.Places.{epoch_place}
use Rattle.data_rules.specs.Step.{recovering, started, with_epoch}
use Rattle.cluster_runs.specs.declared.move_outs.MoveOuts.{MoveOuts}
use Rattle.cluster_runs.specs.declared.moves.Move.TheVariants.{Begin}
use Rattle.cluster_runs.specs.CoresState.{CoresState}
use Rattle.cluster_runs.specs.Moves.{Allowed}
use Rattle.cluster_runs.specs.Mirrors.{Mirrors}
use Rattle.cluster_runs.specs.Sent.{Lane, Place, downs_taken, no_lane}
use Rattle.cluster_runs.specs.Machine.{Machine, Site, End}
use Rattle.cluster_runs.specs.Goes.{BeginGoes, DieGoes, HaltGoes, LookGoes, TickGoes, begun_site, dies, past_with}
use Rattle.cluster_invariant.specs.Holds.{SiteHolds, Holds}
use Rattle.cluster_invariant.specs.Rounds.{LaneRound, RoundGoes, RoundOf, RoundsHold, SessionRound, awaits_normal}
use Rattle.cluster_invariant.specs.Words.{is_normal_down, is_opened_in}
use Rattle.cluster_invariant.proofs.Frame.{kept_by_tick}
use Rattle.cluster_invariant.proofs.Small.{some_kept}
use Rattle.cluster_invariant.proofs.Written.{next_place}
use Rattle.cluster_invariant.proofs.PastOrders.{crashed_order}
use Rattle.cluster_invariant.proofs.SiteMoves.{FirstStart, LaterStart, kept_by_start, kept_by_look, kept_by_death, kept_by_halt}
use Rattle.link_kept.proofs.ShortMoves.{told_there}

-- the rounds of each data server
abbrev pub AllRounds : Layout → Plain → Machine → Type 0
AllRounds l p m = (d : ℕ) → RoundsHold (p.server_at d) (m.site_at d) m.is_dead_at

-- A tick keeps them.
pub rounds_kept_by_tick : (l : Layout) (m new : Machine) (now : ℕ) (outs : MoveOuts) (written : List Act) → Holds l m → TickGoes m now outs written new
    → AllRounds l (state_after l new.trail) new
rounds_kept_by_tick l m new now outs written h goes d = ((kept_by_tick l m new now outs written h goes).sites d).rounds

-- the rounds, as a part of the invariant
abbrev RoundsPart : (ℕ → Bool) → ℕ → Server → Site → Type 0
RoundsPart dead d v x = RoundsHold v x dead

-- A look keeps them: what jobs know is not of them.
pub rounds_kept_by_look : (l : Layout) (m : Machine) (app job line : ℕ) (at : Target) (outs : MoveOuts) (written : List Act) (new : Machine)
    → Holds l m → LookGoes m app job line at outs written new → AllRounds l (state_after l new.trail) new
rounds_kept_by_look l m app job line at outs written new h goes =
    kept_by_look RoundsPart l m app job line at outs written new goes (λ d. (h.sites d).rounds)
    (λ knows. record { lanes = (h.sites at.server).rounds.lanes; node = (h.sites at.server).rounds.node; apps = (h.sites at.server).rounds.apps })

-- a round that goes on at a site with the same lanes
same_round : (x y : Site) (n : DataState) → ((s : ℕ) → y.lane_at s y.past ≡ x.lane_at s x.past) → RoundGoes x n → RoundGoes y n
same_round x y n same is = record {
  untold = λ s. subst (λ (z : Lane). list_any is_normal_down z.down ≡ false) (sym (same s)) (is.untold s);
  before = is.before;
}

-- An application server that goes keeps them.
pub rounds_kept_by_die : (l : Layout) (m : Machine) (app : ℕ) (outs : MoveOuts) (written : List Act) (new : Machine)
    → Holds l m → DieGoes m app outs written new → AllRounds l (state_after l new.trail) new
rounds_kept_by_die l m app outs written new h goes =
    kept_by_death RoundsPart l m app outs written new goes
    (λ alive d. record {
      lanes = (h.sites d).rounds.lanes;
      node =
          some_kept (λ (n : DataState). IfSome n.round (λ r. RoundGoes (m.site_at d) n)) (λ (n : DataState). IfSome n.round (λ r. RoundGoes ((dies app m).site_at d) n))
          (λ n. some_kept (λ (r : Round). RoundGoes (m.site_at d) n) (λ (r : Round). RoundGoes ((dies app m).site_at d) n)
          (λ r. same_round (m.site_at d) ((dies app m).site_at d) n (λ s. refl)) n.round) (m.site_at d).node (h.sites d).rounds.node;
      apps = λ a lives. (h.sites d).rounds.apps a (alive a lives);
    })

-- A halt keeps them.
pub rounds_kept_by_halt : (l : Layout) (m : Machine) (server : ℕ) (outs : MoveOuts) (written : List Act) (new : Machine)
    → Holds l m → HaltGoes m server outs written new → AllRounds l (state_after l new.trail) new
rounds_kept_by_halt l m server outs written new h goes =
    kept_by_halt RoundsPart l m server outs written new goes (λ d. (h.sites d).rounds)
    (record { lanes = (h.sites server).rounds.lanes; node = tt; apps = (h.sites server).rounds.apps })

-- starts

-- a node that starts has its list and the next Epoch
recovering_order : (xs : List LiveEnd) (due : ℕ) (n : DataState) → (recovering xs due n).order ≡ n.order
recovering_order [] due n = refl
recovering_order (x ∷ xs) due n = recovering_order xs due (with_link x.app (Recovering due) n)

started_order : (d : ℕ) (times : Times) (es : List Entry) (now : ℕ) → (started d times es now).order ≡ es ++ Epoch (last_epoch es + 1) ∷ []
started_order d times es now = recovering_order (live_ends es) (until now times.round) (with_epoch d times es)

-- a session that is live as a data server starts was opened before
live_before : (es : List Entry) (number s : ℕ) → IsOrdered es → live (es ++ Epoch number ∷ []) s ≡ true → s < epoch_place (es ++ Epoch number ∷ [])
live_before es number s ordered lives = go (nat_lt (length es) s) refl
  where
    go : (b : Bool) → nat_lt (length es) s ≡ b → s < epoch_place (es ++ Epoch number ∷ [])
    go true late =
        absurd (false≢true (sym ((ordered_past es ordered).is_dead s (ltb-true (length es) s late)) ∙ sym (live-push es (Epoch number) s) ∙ lives))
    go false low = omega (arith, ltb-false (length es) s low, next_place number 0 0 es)

-- a lane to which nothing was put
none_round : (es : List Entry) (s : ℕ) → LaneRound es s no_lane
none_round es s = record { once = omega arith; opened = λ is. refl; awaits = λ begun. absurd (false≢true begun); blocks = refl }

-- what is said of one thing is said of it where it is there
where_there : {X : Type 0} (P : Type 0) (o : Option X) → P → IfSome o (λ r. P)
where_there P None is = tt
where_there P (Some x) is = is

-- an order that tells alike which sessions were opened in it
alike_awaits : (es fs : List Entry) (n : ℕ) (lane : Lane) → is_opened_in fs n ≡ is_opened_in es n → awaits_normal fs n lane ≡ awaits_normal es n lane
alike_awaits es fs n lane same = ap (λ (b : Bool). not b && not (list_any is_normal_down (downs_taken lane))) same

session_alike : (es fs : List Entry) (lane : Lane) (s : Session) → is_opened_in fs s.number ≡ is_opened_in es s.number → SessionRound es lane s → SessionRound fs lane s
session_alike es fs lane s same is = record { due = is.due ∙ sym (alike_awaits es fs s.number lane same); asks = is.asks; queued = is.queued; owed = is.owed }

-- the sessions of the ends, where each order that they are told of tells alike
module _ (v w : Server) (x : Site) where
  told_alike : (told : Option Place) (s : Session) → IfSome told (λ p. p.order ≤ current v)
      → ((k : ℕ) → k ≤ current v → is_opened_in (order_at w k) s.number ≡ is_opened_in (order_at v k) s.number)
      → IfSome told (λ p. SessionRound (order_at v p.order) (x.lane_at s.number p.order) s) → IfSome told (λ p. SessionRound (order_at w p.order) (x.lane_at s.number p.order) s)
  told_alike None s low same is = tt
  told_alike (Some p) s low same is = session_alike (order_at v p.order) (order_at w p.order) (x.lane_at s.number p.order) s (same p.order low) is

  apps_alike : (e : End) (o : Option Session) → IfSome o (λ s. IfSome e.told (λ p. p.order ≤ current v))
      → IfSome o (λ s. (k : ℕ) → k ≤ current v → is_opened_in (order_at w k) s.number ≡ is_opened_in (order_at v k) s.number)
      → IfSome o (RoundOf v x e) → IfSome o (RoundOf w x e)
  apps_alike e None low same is = tt
  apps_alike e (Some s) low same is = told_alike e.told s low same is

-- A site whose node starts.
begun_rounds : (l : Layout) (d now : ℕ) (es : List Entry) (v w : Server) (x : Site) (dead : ℕ → Bool) → SiteHolds l d dead v x → IsOrdered es
    → ((s k : ℕ) → k ≤ current w → LaneRound (order_at w k) s (x.lane_at s k))
    → ((app : ℕ) → dead app ≡ false
    → IfSome (x.end_at app).state.session (λ s. (k : ℕ) → k ≤ current v → is_opened_in (order_at w k) s.number ≡ is_opened_in (order_at v k) s.number))
    → RoundsHold w (begun_site l d now es x) dead
begun_rounds l d now es v w x dead its ordered lanes alike = record {
  lanes = lanes;
  node = where_there (RoundGoes (begun_site l d now es x) n) n.round (record {
    untold =
        λ s. subst (λ (z : Lane). list_any is_normal_down z.down ≡ false) (sym (its.order.to_come s (past_with x.order x.past) (omega arith))) refl;
    before =
        λ s. subst (λ (fs : List Entry). live fs s ≡ true → s < epoch_place fs) (sym (started_order d l.times es now)) (live_before es (last_epoch es + 1) s ordered);
  });
  apps =
      λ app lives.
      apps_alike v w x (x.end_at app) (x.end_at app).state.session (told_there v app (x.end_at app) (its.ends.told app lives)) (alike app lives)
      (its.rounds.apps app lives);
}
  where
    n : DataState
    n = started d l.times es now

-- a later start
rounds_kept_by_later : (l : Layout) (d now clock : ℕ) (es : List Entry) (v : Server) (x : Site) (dead : ℕ → Bool) → SiteHolds l d dead v x → LaterStart v x es
    → RoundsHold (crashed clock l.times.round v (length es)) (begun_site l d now es x) dead
rounds_kept_by_later l d now clock es v x dead its starts =
    begun_rounds l d now es v w x dead its starts.ordered (λ s k there. lane s k there (nat_lt (current v) k) refl) (λ app lives. same (x.end_at app).state.session)
  where
    w : Server
    w = crashed clock l.times.round v (length es)

    lane : (s k : ℕ) → k ≤ current w → (b : Bool) → nat_lt (current v) k ≡ b → LaneRound (order_at w k) s (x.lane_at s k)
    lane s k there true late =
        subst (λ (z : Lane). LaneRound (order_at w k) s z) (sym (its.order.to_come s k (omega (arith, starts.next, ltb-true (current v) k late)))) (none_round (order_at w k) s)
    lane s k there false low =
        subst (λ (fs : List Entry). LaneRound fs s (x.lane_at s k)) (sym (crashed_order v clock l.times.round (length es) k (ltb-false (current v) k low)))
        (its.rounds.lanes s k (ltb-false (current v) k low))

    same : (o : Option Session) → IfSome o (λ s. (k : ℕ) → k ≤ current v → is_opened_in (order_at w k) s.number ≡ is_opened_in (order_at v k) s.number)
    same None = tt
    same (Some s) = λ k low. ap (λ (fs : List Entry). is_opened_in fs s.number) (crashed_order v clock l.times.round (length es) k low)

-- the first start
rounds_kept_by_first : (l : Layout) (d now clock : ℕ) (es : List Entry) (v : Server) (x : Site) (dead : ℕ → Bool) → SiteHolds l d dead v x → FirstStart v x es
    → RoundsHold (opened_with clock l.times.round v es) (begun_site l d now es x) dead
rounds_kept_by_first l d now clock es v x dead its starts =
    begun_rounds l d now es v w x dead its starts.ordered
    (λ s k there. subst (λ (z : Lane). LaneRound (order_at w k) s z) (sym (its.order.to_come s k (omega (arith, starts.next, first_now)))) (none_round (order_at w k) s))
    (λ app lives. same (x.end_at app).state.session (its.ends.told app lives).synced (its.ends.told app lives).newest)
  where
    w : Server
    w = opened_with clock l.times.round v es

    first_now : current v ≡ 0
    first_now = ap (λ (xs : List (List Entry)). length xs) starts.first

    never : (fs : List Entry) (n : ℕ) → n ≡ 0 → is_opened_in fs n ≡ false
    never fs n zero = false_from_ne_true (nat_lt (epoch_place fs) n) (λ above. absurd (omega (arith, zero, ltb-true (epoch_place fs) n above)))

    same : {told : ℕ} (o : Option Session) → told ≤ v.synced → IfSome o (λ s. s.number ≡ told)
        → IfSome o (λ s. (k : ℕ) → k ≤ current v → is_opened_in (order_at w k) s.number ≡ is_opened_in (order_at v k) s.number)
    same None within newest = tt
    same (Some s) within newest =
        λ k there.
        never (order_at w k) s.number (omega (arith, within, newest, starts.synced))
        ∙ sym (never (order_at v k) s.number (omega (arith, within, newest, starts.synced)))

-- Each start of a data server keeps them.
pub rounds_kept_by_begin : (l : Layout) (c : CoresState) (m : Machine) (server now : ℕ) (es : List Entry) (outs : MoveOuts) (written : List Act) (new : Machine)
    → Holds l m → IsRun l m.trail → Mirrors c m → Allowed c (Begin server now es) → BeginGoes m server now es outs written new → AllRounds l (state_after l new.trail) new
rounds_kept_by_begin l c m server now es outs written new h run shows allowed goes =
    kept_by_start RoundsPart l c m server now es outs written new h run shows allowed goes (λ d. (h.sites d).rounds)
    (λ starts. rounds_kept_by_first l server now (state_after l m.trail).clock es ((state_after l m.trail).server_at server) (m.site_at server) m.is_dead_at (h.sites server) starts)
    (λ starts. rounds_kept_by_later l server now (state_after l m.trail).clock es ((state_after l m.trail).server_at server) (m.site_at server) m.is_dead_at (h.sites server) starts)
