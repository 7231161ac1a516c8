-- What application ends were told stays over each start of a data server.
use Rattle.std.proofs.Common.{◌≡◌, ℕ, Bool, true, false, List, length, Option, Some, None, is_some, refl, sym, ◌∙◌, subst, arith}
use Rattle.std.specs.Prelude.{IfSome, IsSomeAnd}
use Rattle.std.proofs.lemmas.Bool.{false≢true}
use Rattle.plain_orders.specs.declared.act.Act.{Act}
use Rattle.plain_orders.specs.declared.entry.Entry.{Entry}
use Rattle.plain_orders.specs.declared.layout.Layout.{Layout}
use Rattle.plain_runs.specs.Plain.{Plain, Server, Session as PlainSession}
use Rattle.plain_runs.specs.OrderRows.{opened_with, crashed}
use Rattle.plain_runs.specs.Run.{IsRun, state_after}
use Rattle.plain_runs.proofs.Issued.{issued_kept}
use Rattle.app_rules.specs.AppState.{Session}
use Rattle.cluster_runs.specs.declared.move_outs.MoveOuts.{MoveOuts}
use Rattle.cluster_runs.specs.declared.moves.Move.TheVariants.{Begin}
use Rattle.cluster_runs.specs.CoresState.{CoresState}
use Rattle.cluster_runs.specs.Goes.{BeginGoes, begun_site}
use Rattle.cluster_runs.specs.Machine.{Machine, Site, End}
use Rattle.cluster_runs.specs.Mirrors.{Mirrors}
use Rattle.cluster_runs.specs.Moves.{Allowed}
use Rattle.cluster_invariant.specs.Ends.{AppTold, MetBelow, ToldPlace}
use Rattle.cluster_invariant.specs.Holds.{Holds}
use Rattle.told_kept.proofs.OrdersLater.{crashed_later}
use Rattle.cluster_invariant.proofs.SiteMoves.{kept_by_start}
use Rattle.told_kept.proofs.ToldBeside.{ToldHolds, ToldPart}
use Rattle.told_kept.proofs.ToldServer.{told_at_later}

some_and : (P : PlainSession → Type 0) (o : Option PlainSession) → IsSomeAnd o P → is_some o ≡ true
some_and P None h = absurd h
some_and P (Some s) h = refl

-- the first start: no session was met
first_told : (v w : Server) (app : ℕ) (e : End) → v.synced ≡ 0 → ((n : ℕ) → is_some (v.session_at n) ≡ false) → w.session_at ≡ v.session_at → AppTold v app e → AppTold w app e
first_told v w app e none unmet same h = record {
  synced = omega (arith, h.synced, none);
  newest = h.newest;
  met = λ number. subst (λ (f : ℕ → Option PlainSession). MetBelow app e.state.told number (f number)) (sym same) (h.met number);
  place = go e.state.session h.place;
}
  where
    go : (o : Option Session) → IfSome o (λ s. ToldPlace v app s e.told) → IfSome o (λ s. ToldPlace w app s e.told)
    go None p = tt
    go (Some s) p = absurd (false≢true (sym (unmet s.number) ∙ some_and _ (v.session_at s.number) p.met))

-- Each start of a data server.
pub told_kept_by_begin : (l : Layout) (c : CoresState) (m : Machine) (server now : ℕ) (es : List Entry) (outs : MoveOuts) (written : List Act) (new : Machine)
    → Holds l m → IsRun l m.trail → Mirrors c m → Allowed c (Begin server now es) → BeginGoes m server now es outs written new → ToldHolds l (state_after l new.trail) new
told_kept_by_begin l c m server now es outs written new h run shows allowed goes =
    kept_by_start ToldPart l c m server now es outs written new h run shows allowed goes (λ d. (h.sites d).ends.told)
    (λ starts app alive. first_told v (opened_with p.clock l.times.round v es) app (x.end_at app) starts.synced (unmet starts.shut) refl ((h.sites server).ends.told app alive))
    (λ starts.
    told_at_later v (crashed p.clock l.times.round v (length es)) x (begun_site l server now es x) m.is_dead_at
    (crashed_later v p.clock l.times.round (length es) starts.low starts.within) (λ n. refl) (λ app. refl) (λ app. refl) (h.sites server).ends.told)
  where
    p : Plain
    p = state_after l m.trail

    v : Server
    v = p.server_at server

    x : Site
    x = m.site_at server

    unmet : v.opened ≡ false → (n : ℕ) → is_some (v.session_at n) ≡ false
    unmet shut n = by (is_some (v.session_at n)) refl
      where
        by : (t : Bool) → is_some (v.session_at n) ≡ t → is_some (v.session_at n) ≡ false
        by false is = is
        by true is = absurd (false≢true (sym ((issued_kept l m.trail server run).fresh shut n) ∙ (issued_kept l m.trail server run).met n is))
