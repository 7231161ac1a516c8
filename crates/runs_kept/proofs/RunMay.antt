-- When a data server may close a session and when its end may break, by its ends.
use Rattle.std.proofs.Common.{◌≡◌, ◌≤◌, ℕ, Bool, true, false, List, Option, Some, None, is_some, option_map, refl, sym, ◌∙◌, ap, subst}
use Rattle.std.proofs.lemmas.List.{get_or_past}
use Rattle.std.specs.Prelude.{IsSomeAnd, if◌then◌else◌, nat_le, nat_lt, unwrap_or}
use Rattle.std.proofs.lemmas.Bool.{false≢true, leb-true, ltb-false, ltb-true}
use Rattle.plain_orders.specs.declared.causes.ShutCause.{ShutCause}
use Rattle.plain_orders.specs.declared.causes.ShutCause.TheVariants as causes
use Rattle.plain_orders.specs.declared.entry.Entry.{Entry}
use Rattle.plain_orders.specs.declared.layout.Layout.{Layout}
use Rattle.plain_orders.specs.declared.layout.Times.{Times}
use Rattle.plain_orders.specs.Entries.{live, live_session}
use Rattle.plain_orders.specs.Sessions.{app_in}
use Rattle.plain_orders.specs.Times.{until}
use Rattle.plain_orders.proofs.LiveSessions.{OneLive, ordered_one_live}
use Rattle.plain_runs.specs.EndRows.{BrokeServerMay, ShutMay, ShutRoundMay, ShutTroubleMay, end_in, end_of_app}
use Rattle.plain_runs.specs.Plain.{Plain, Server}
use Rattle.link_states.specs.declared.data_link.DataLink.{DataLink}
use Rattle.link_states.specs.declared.data_link.DataLink.TheVariants.{Free, Normal, Trouble, Recovering}
use Rattle.link_states.specs.declared.link_event.LinkEvent.TheVariants.{Ticked}
use Rattle.link_states.specs.Tables.{data_next}
use Rattle.recovery_round.specs.RoundWords.{Round}
use Rattle.data_rules.specs.DataState.{DataState}
use Rattle.data_rules.specs.declared.limits.TheConstants.{APP_LIMIT}
use Rattle.data_rules.specs.Conns.{link_of}
use Rattle.data_rules.specs.Puts.{Sofar}
use Rattle.data_rules.specs.Saving.{cause_of, hears_tick}
use Rattle.cluster_invariant.specs.Ends.{LinkIs, due_in}
use Rattle.cluster_invariant.proofs.PieceMay.{ClosesBy, Coming, TickCloses}
use Rattle.data_pieces.proofs.LinksGo.{LinksGo}

module _ (l : Layout) (q : Plain) (d : ℕ) (t : Coming) (b : Sofar) (session app : ℕ) (h : LinksGo d (q.server_at d) b.state) (times : b.state.times ≡ l.times) (clock : t.now ≡ q.clock)
    (has : live_session b.state.order app ≡ Some session) where
  abbrev v : Server
  v = q.server_at d

  abbrev n : DataState
  n = b.state

  one : OneLive b.state.order
  one = ordered_one_live b.state.order h.ordered

  is_live : live (q.server_at d).order session ≡ true
  is_live = ap (λ (es : List Entry). live es session) h.order ∙ one.lives app session has

  its : app_in (q.server_at d).order session ≡ Some app
  its = ap (λ (es : List Entry). app_in es session) h.order ∙ one.has_app app session has

  -- an end that hears a tick has a place
  link : (awaited : Bool) → hears_tick (link_of b.state app) awaited ≡ true → LinkIs (q.server_at d) b.state app (link_of b.state app)
  link awaited hears = go (nat_lt app APP_LIMIT) refl
    where
      go : (low : Bool) → nat_lt app APP_LIMIT ≡ low → LinkIs (q.server_at d) b.state app (link_of b.state app)
      go true is = h.links app (ltb-true app APP_LIMIT is)
      go false is =
          absurd (false≢true (sym (ap (λ (x : DataLink). hears_tick x awaited) (get_or_past b.state.links app Free (subst (λ (m : ℕ). m ≤ app) (sym h.places) (ltb-false app APP_LIMIT is)))) ∙ hears))

  -- a condition that makes it free
  over_of : (c : Bool) (x : DataLink) → (x ≡ Free → ⊥) → (if c then Free else x) ≡ Free → c ≡ true
  over_of true x apart is = refl
  over_of false x apart is = absurd (apart is)

  trouble : (time : ℕ) (awaited : Bool) (x : DataLink) → hears_tick x awaited ≡ true → data_next b.state.times t.now x Ticked ≡ Free → causes.Trouble time ≡ cause_of x t.now → LinkIs (q.server_at d) b.state app x
      → ShutTroubleMay q (q.server_at d) session time l.times.trouble
  trouble time awaited Free hears free cause is = absurd (false≢true hears)
  trouble time awaited Normal hears free cause is = absurd cc
  trouble time awaited (Trouble broke) hears free cause is = record {
    is_live = is_live;
    now = same ∙ clock;
    broken = ap is_some broken;
    over = subst (λ (o : Option ℕ). until (unwrap_or o 0) l.times.trouble ≤ time) (sym broken)
        (subst (λ (m : ℕ). until broke l.times.trouble ≤ m) (sym same)
        (subst (λ (s : Times). until broke s.trouble ≤ t.now) times
        (leb-true (until broke b.state.times.trouble) t.now (over_of (nat_le (until broke b.state.times.trouble) t.now) (Trouble broke) (λ apart. cc) free))));
  }
    where
      same : time ≡ t.now
      same = cc

      broken : end_in (q.server_at d) session ≡ Some broke
      broken = ap (end_of_app (q.server_at d)) its ∙ is.plain
  trouble time awaited (Recovering due) hears free cause is = absurd cc

  round : (time : ℕ) (awaited : Bool) (x : DataLink) → hears_tick x awaited ≡ true → data_next b.state.times t.now x Ticked ≡ Free → causes.Round time ≡ cause_of x t.now → LinkIs (q.server_at d) b.state app x
      → ShutRoundMay q (q.server_at d) session time
  round time awaited Free hears free cause is = absurd (false≢true hears)
  round time awaited Normal hears free cause is = absurd cc
  round time awaited (Trouble broke) hears free cause is = absurd cc
  round time awaited (Recovering due) hears free cause is = record {
    is_live = is_live;
    now = same ∙ clock;
    recovering = ap is_some due_is;
    over = subst (λ (o : Option ℕ). unwrap_or o 0 ≤ time) (sym due_is)
        (subst (λ (m : ℕ). due ≤ m) (sym same) (leb-true due t.now (over_of (nat_le due t.now) (Recovering due) (λ apart. cc) free)));
  }
    where
      same : time ≡ t.now
      same = cc

      of_round : (o : Option Round) → IsSomeAnd o (λ r. r.due ≡ due) → option_map due_in o ≡ Some due
      of_round None at = absurd at
      of_round (Some r) at = ap Some at

      due_is : (q.server_at d).due ≡ Some due
      due_is = sym h.due ∙ of_round b.state.round is.in_round

  pub shuts_may : (cause : ShutCause) → ClosesBy t session app cause b → ShutMay l q (q.server_at d) session cause
  shuts_may (causes.Trouble time) why = by why
    where
      by : TickCloses t session app (causes.Trouble time) b → ShutMay l q (q.server_at d) session (causes.Trouble time)
      by w = trouble time _ (link_of b.state app) w.hears w.free w.its_cause (link _ w.hears)
  shuts_may causes.Replaced why = record { is_live = is_live }
  shuts_may (causes.Round time) why = by why
    where
      by : TickCloses t session app (causes.Round time) b → ShutMay l q (q.server_at d) session (causes.Round time)
      by w = round time _ (link_of b.state app) w.hears w.free w.its_cause (link _ w.hears)

  pub breaks_may : BrokeServerMay q (q.server_at d) app t.now
  breaks_may = record { now = clock; has_live = ap is_some (ap (λ (es : List Entry). live_session es app) h.order ∙ has) }
