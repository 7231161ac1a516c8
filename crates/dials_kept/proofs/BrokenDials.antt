-- The part on connections, for a connection of an application server that ended.
use Rattle.std.proofs.Common.{◌≡◌, ◌⊎◌, ℕ, Bool, true, false, not, ◌==◌, List, [], Option, Some, None, option_map, if◌then◌else◌, refl, sym, ◌∙◌, ap, subst, inl, inr, eqb-true}
use Rattle.std.specs.Prelude.{IfSome}
use Rattle.std.proofs.lemmas.Bool.{false≢true, eq-eqb}
use Rattle.std.proofs.lemmas.List.{append-nil}
use Rattle.plain_orders.specs.declared.act.Act.{Act}
use Rattle.plain_orders.specs.declared.layout.Layout.{Layout}
use Rattle.plain_runs.specs.Plain.{Plain, Server}
use Rattle.plain_runs.specs.Run.{IsRun, after_all, state_after}
use Rattle.app_rules.specs.declared.app_in.AppIn.{AppIn}
use Rattle.app_rules.specs.declared.app_in.AppIn.TheVariants as app_in
use Rattle.plain_orders.specs.declared.layout.Times.{Times}
use Rattle.app_rules.specs.Losing.{broken, broken_from}
use Rattle.app_rules.proofs.StepLaws.{steps_at_one_end}
use Rattle.cluster_runs.specs.Connections.{app_leaves, leaves_if}
use Rattle.cluster_steps.proofs.AppSites.{app_ends}
use Rattle.cluster_steps.proofs.FrameEnds.{ended_from}
use Rattle.cluster_steps.proofs.InputEnds.{broken_came}
use Rattle.ends_kept.proofs.TablesMoves.{app_may}
use Rattle.dials_kept.proofs.AppInputs.{changed_twice, dials_by_app, dials_with_change, passes_grows, unwired}
use Rattle.dials_kept.proofs.QuietMoves.{knows_quiet, none_new, passes_same, took_quiet, wireless_still}
use Rattle.app_rules.specs.declared.line.Line.{Line}
use Rattle.app_rules.specs.declared.line.Line.TheVariants.{Apart, Trying, Greeting, Asking, Joined}
use Rattle.app_rules.specs.declared.up_frames.UpOut.{UpOut}
use Rattle.app_rules.specs.AppState.{AppState, AppEnd, Session}
use Rattle.app_rules.specs.Works.{Sofar, begun, end_at}
use Rattle.cluster_runs.specs.declared.move_outs.MoveOuts.{MoveOuts}
use Rattle.cluster_runs.specs.declared.moves.Move.TheVariants.{App}
use Rattle.cluster_runs.specs.CoresState.{CoresState}
use Rattle.cluster_runs.specs.Moves.{Allowed}
use Rattle.cluster_runs.specs.Mirrors.{Mirrors}
use Rattle.cluster_runs.specs.Sent.{Connection, Knew}
use Rattle.cluster_runs.specs.Machine.{Machine, Site, End, app_state, end_state}
use Rattle.cluster_runs.specs.Connections.{knows, knows_of, with_ups, at_number, carries_up}
use Rattle.cluster_runs.specs.Goes.{AppGoes, app_end, app_takes, input_site, message_from, with_state}
use Rattle.cluster_runs.specs.Lanes.{is_told_new, told_by}
use Rattle.cluster_invariant.specs.Dials.{DialsAre, KnowsStill}
use Rattle.cluster_invariant.specs.Holds.{Holds}
use Rattle.cluster_invariant.specs.Words.{NoLess, is_wire, has_wire}
use Rattle.dials_kept.proofs.ConnectionsGrow.{StaysKnown, Grows}
use Rattle.dials_kept.proofs.ShortDials.{EachDials, still_mapped}
use Rattle.dials_kept.proofs.QuietEnds.{TookMore, Changes, changed}
use Rattle.dials_kept.proofs.JobDials.{lane_taken}

-- An end whose connection ended, or that is as it was: whether it left, and what stays.
record EndedEnd (gone : Bool) (e t : AppEnd) : Type 0 where
  dial : t.dial ≡ e.dial
  told : t.told ≡ e.told
  session : t.session ≡ e.session
  line : (t.line ≡ e.line) ⊎ (has_wire t.line ≡ false)
  left : (dead : Bool) (z : Connection) → z.app_left ≡ not (is_wire dead e t.dial) → (leaves_if gone z).app_left ≡ not (is_wire dead t t.dial)

ended_end : (line : Line) (times : Times) (now : ℕ) (e : AppEnd) → e.line ≡ line → EndedEnd true e (ended_from line times now e)
ended_end Apart times now e is = record {
  dial = refl;
  told = refl;
  session = refl;
  line = inl refl;
  left = λ dead z at. sym (ap not (unwired e (ap has_wire is) dead));
}
ended_end Trying times now e is = record {
  dial = refl;
  told = refl;
  session = refl;
  line = inl refl;
  left = λ dead z at. sym (ap not (unwired e (ap has_wire is) dead));
}
ended_end Greeting times now e is = record {
  dial = refl;
  told = refl;
  session = refl;
  line = inr refl;
  left = λ dead z at. sym (ap not (unwired (ended_from Greeting times now e) refl dead));
}
ended_end Asking times now e is = record {
  dial = refl;
  told = refl;
  session = refl;
  line = inr refl;
  left = λ dead z at. sym (ap not (unwired (ended_from Asking times now e) refl dead));
}
ended_end Joined times now e is = record {
  dial = refl;
  told = refl;
  session = refl;
  line = inr refl;
  left = λ dead z at. sym (ap not (unwired (ended_from Joined times now e) refl dead));
}

same_end : (e : AppEnd) → EndedEnd false e e
same_end e = record { dial = refl; told = refl; session = refl; line = inl refl; left = λ dead z at. at }

-- nothing is put or cut
broken_frames : (d now : ℕ) (b : Sofar) → (broken d now b).outs.frames ≡ b.outs.frames
broken_frames d now b = go (end_at b.state d).line
  where
    go : (k : Line) → (broken_from k d now b).outs.frames ≡ b.outs.frames
    go Apart = refl
    go Trying = refl
    go Greeting = refl
    go Asking = refl
    go Joined = refl

broken_cuts : (d now : ℕ) (b : Sofar) → (broken d now b).outs.cuts ≡ b.outs.cuts
broken_cuts d now b = go (end_at b.state d).line
  where
    go : (k : Line) → (broken_from k d now b).outs.cuts ≡ b.outs.cuts
    go Apart = refl
    go Trying = refl
    go Greeting = refl
    go Asking = refl
    go Joined = refl

-- A connection that ended keeps it.
pub dials_kept_by_broken : (l : Layout) (c : CoresState) (m : Machine) (app now ended : ℕ) (outs : MoveOuts) (written : List Act) (new : Machine)
    → Holds l m → IsRun l m.trail → Mirrors c m → Allowed c (App app now (app_in.Broken ended)) → AppGoes m app now (app_in.Broken ended) outs written new
    → EachDials l (state_after l new.trail) new
dials_kept_by_broken l c m app now ended outs written new h run shows allowed goes =
    dials_by_app l c m app now (app_in.Broken ended) outs written new h run shows allowed goes each
  where
    p : Plain
    p = state_after l m.trail

    input : AppIn
    input = app_in.Broken ended

    a : AppState
    a = app_state m app

    frames : goes.app_outs.frames ≡ []
    frames = ap (λ (x : Sofar). x.outs.frames) goes.steps ∙ broken_frames ended now (begun a)

    cuts : goes.app_outs.cuts ≡ []
    cuts = ap (λ (x : Sofar). x.outs.cuts) goes.steps ∙ broken_cuts ended now (begun a)

    goes_on : (d : ℕ) → EndedEnd (ended == d) (end_state m app d) (end_at goes.state d)
    goes_on d = subst (λ (e : AppEnd). EndedEnd (ended == d) e (end_at goes.state d)) (app_ends c m app d shows allowed.known) (go (ended == d) refl)
      where
        go : (b : Bool) → (ended == d) ≡ b → EndedEnd b (end_at a d) (end_at goes.state d)
        go true is =
            subst (λ (n : ℕ). EndedEnd true (end_at a n) (end_at goes.state n)) (eqb-true ended d is)
            (subst (λ (t : AppEnd). EndedEnd true (end_at a ended) t)
            (sym (ap (λ (x : Sofar). end_at x.state ended) goes.steps ∙ (broken_came ended now (begun a) (app_may c m app input shows allowed.known allowed.may)).end))
            (ended_end (end_at a ended).line a.times now (end_at a ended) refl))
        go false is =
            subst (λ (t : AppEnd). EndedEnd false (end_at a d) t)
            (sym ((steps_at_one_end a goes.state now input goes.app_outs goes.steps).1 d (λ same. false≢true (sym is ∙ eq-eqb ended d (sym same)))))
            (same_end (end_at a d))

    alive : m.is_dead_at app ≡ false
    alive = sym (shows.dead app) ∙ allowed.alive

    each : (d : ℕ) → StaysKnown (p.server_at d) ((after_all l p goes.app_outs.acts).server_at d)
        → DialsAre ((after_all l p goes.app_outs.acts).server_at d) (input_site app input goes.app_outs goes.state goes.shown d (m.site_at d)) m.is_dead_at
    each d later =
        dials_with_change v ((after_all l p goes.app_outs.acts).server_at d) x m.is_dead_at app d goes.app_outs t (goes.shown d) (message_from d input) came g moved
        nothing took (goes_on d).dial knew (λ y same. puts y same (e.connection_at t.dial) ((is.pairs app).left t.dial)) still later is
      where
        v : Server
        v = p.server_at d

        x : Site
        x = m.site_at d

        e : End
        e = x.end_at app

        t : AppEnd
        t = end_at goes.state d

        is : DialsAre v x m.is_dead_at
        is = (h.sites d).dials

        leaves : Bool → Connection → Connection
        leaves b z = with_ups [] (leaves_if b z)

        g : Connection → Connection
        g = leaves (ended == d)

        nothing : is_told_new e.state.session t.session ≡ false
        nothing = none_new e.state.session t.session (inl (goes_on d).session)

        twice : (b : Bool) → at_number t.dial (with_ups []) (with_state t (goes.shown d) (if b then at_number e.state.dial app_leaves e else e))
            ≡ changed (leaves b) t (goes.shown d) e
        twice true =
            subst (λ (n : ℕ). at_number t.dial (with_ups []) (with_state t (goes.shown d) (at_number n app_leaves e)) ≡ changed (leaves true) t (goes.shown d) e) (goes_on d).dial
            (changed_twice app_leaves (with_ups []) t (goes.shown d) e)
        twice false = refl

        came : End
        came = app_takes d input e.state.dial e

        moved : app_end d goes.app_outs e.state t (goes.shown d) (message_from d input) came ≡ changed g t (goes.shown d) e
        moved =
            ap (λ (b : Bool). carries_up d t.dial goes.app_outs.frames goes.app_outs.cuts (told_by b (message_from d input) e.state.dial (with_state t (goes.shown d) came))) nothing
            ∙ ap (λ (cs : List ℕ). carries_up d t.dial goes.app_outs.frames cs (with_state t (goes.shown d) came)) cuts
            ∙ ap (λ (us : List UpOut). carries_up d t.dial us [] (with_state t (goes.shown d) came)) frames
            ∙ twice (ended == d)

        took : TookMore x t.session e.told
        took =
            took_quiet x e.state.session t.session e.told (inl (goes_on d).session)
            (lane_taken v x app e.state.session e.told ((h.sites d).ends.told app alive).place ((h.sites d).link.apps app alive).window)

        knew : NoLess (knows e) (knows (with_state t (goes.shown d) e))
        knew =
            knows_quiet e.state.session t.session e.told e.state.told t.told (goes_on d).told (inl (goes_on d).session) ((h.sites d).ends.told app alive).newest

        grown : (y : Site) → y.connection_at ≡ x.connection_at → (b : Bool) (z : Connection) → Grows x y z (leaves b z)
        grown y same true z = passes_grows x y same true [] z z (passes_same z) refl (λ none. refl)
        grown y same false z = passes_grows x y same false [] z z (passes_same z) refl (λ none. refl)

        leaves_knew : (b : Bool) (z : Connection) → (leaves b z).knew ≡ z.knew
        leaves_knew true z = refl
        leaves_knew false z = refl

        leaves_ups : (b : Bool) (z : Connection) → (leaves b z).ups ≡ z.ups
        leaves_ups true z = append-nil z.ups
        leaves_ups false z = append-nil z.ups

        puts : (y : Site) → y.connection_at ≡ x.connection_at → (o : Option Connection) → IfSome o (λ z. z.app_left ≡ not (is_wire (m.is_dead_at app) e.state t.dial))
            → IfSome o (Changes x y (m.is_dead_at app) g t e)
        puts y same None left = tt
        puts y same (Some z) left = record { grows = grown y same (ended == d) z; left = (goes_on d).left (m.is_dead_at app) z left }

        still : KnowsStill t.line (knows (with_state t (goes.shown d) e)) (option_map g (e.connection_at t.dial))
        still = go (goes_on d).line
          where
            go : (t.line ≡ e.state.line) ⊎ (has_wire t.line ≡ false) → KnowsStill t.line (knows (with_state t (goes.shown d) e)) (option_map g (e.connection_at t.dial))
            go (inr none) = wireless_still t.line (knows (with_state t (goes.shown d) e)) (option_map g (e.connection_at t.dial)) none
            go (inl stays) =
                subst (λ (z : Line). KnowsStill z (knows (with_state t (goes.shown d) e)) (option_map g (e.connection_at t.dial))) (sym stays)
                (subst (λ (k : Knew). KnowsStill e.state.line k (option_map g (e.connection_at t.dial)))
                (sym (ap (λ (o : Option Session). knows_of o e.told t.told) (goes_on d).session ∙ ap (λ (n : ℕ). knows_of e.state.session e.told n) (goes_on d).told))
                (still_mapped g (leaves_knew (ended == d)) (leaves_ups (ended == d)) e.state.line (knows e) (e.connection_at t.dial)
                (subst (λ (n : ℕ). KnowsStill e.state.line (knows e) (e.connection_at n)) (sym (goes_on d).dial) (is.pairs app).still)))
