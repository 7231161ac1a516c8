-- The data ends of running nodes stay as the invariant has them over each input of an application server that is no frame.
use Rattle.std.proofs.Common.{◌≡◌, ◌≢◌, ◌<◌, ◌+◌, ℕ, Bool, true, false, List, [], ◌∷◌, length, is_some, refl, sym, ◌∙◌, ap, subst, eqb}
use Rattle.std.specs.Prelude.{nat_le, ⊤}
use Rattle.std.specs.List.{range_with_len}
use Rattle.std.proofs.lemmas.Bool.{eqb-true, eq-eqb, false≢true}
use Rattle.plain_orders.specs.declared.act.Act.{Act}
use Rattle.plain_orders.specs.declared.layout.Layout.{Layout}
use Rattle.plain_orders.specs.Times.{until}
use Rattle.plain_runs.specs.Run.{state_after}
use Rattle.link_states.specs.declared.app_link.AppLink.{AppLink}
use Rattle.link_states.specs.declared.app_link.AppLink.TheVariants.{NotConnected, Normal as NormalLink, Trouble, Recovery}
use Rattle.app_rules.specs.declared.app_in.AppIn.{AppIn}
use Rattle.app_rules.specs.declared.app_in.AppIn.TheVariants as app_in
use Rattle.app_rules.specs.declared.app_outs.AppOuts.{AppOuts}
use Rattle.app_rules.specs.declared.line.Line.{Line}
use Rattle.app_rules.specs.declared.line.Line.TheVariants.{Apart, Trying, Greeting, Asking, Joined}
use Rattle.app_rules.specs.AppState.{AppState, AppEnd}
use Rattle.app_rules.specs.AppStep.{AppMay, Makes, made}
use Rattle.app_rules.specs.Losing.{broken_from, connected_from, failed_from, joins_from, ticks, ticks_from, ticks_trouble, tries_when, with_dial}
use Rattle.app_rules.specs.Works.{Sofar, becomes, begun, end_at, is_apart, tries_if}
use Rattle.cluster_runs.specs.CoresState.{CoresState}
use Rattle.cluster_runs.specs.Connections.{ups_to}
use Rattle.cluster_runs.specs.declared.move_outs.MoveOuts.{MoveOuts}
use Rattle.cluster_runs.specs.declared.moves.Move.TheVariants.{App}
use Rattle.cluster_runs.specs.Goes.{AppGoes}
use Rattle.cluster_runs.specs.Machine.{Machine, app_state}
use Rattle.cluster_runs.specs.Mirrors.{Mirrors}
use Rattle.cluster_runs.specs.Moves.{Allowed}
use Rattle.cluster_invariant.specs.Holds.{Holds}
use Rattle.cluster_steps.proofs.AppSites.{app_ends}
use Rattle.cluster_steps.proofs.InputEnds.{ConnectedCame, connected_came}
use Rattle.cluster_steps.proofs.JobEnds.{up_elsewhere}
use Rattle.ends_kept.proofs.TablesMoves.{app_may}
use Rattle.data_ends_kept.proofs.NodeEndsApps.{PutsNothing, node_ends_kept_by_app, unmade}
use Rattle.data_ends_kept.proofs.NodeEndsMoves.{NodeEndsHold}

-- an input that is no frame
abbrev pub IsNoFrame : AppIn → Type 0
IsNoFrame (app_in.Frame d frame) = ⊥
IsNoFrame (app_in.Connected d) = ⊤
IsNoFrame (app_in.NoWay d before later) = ⊤
IsNoFrame (app_in.Broken d) = ⊤
IsNoFrame (app_in.Join d) = ⊤
IsNoFrame app_in.Tick = ⊤

-- what puts no frame

tries_frames : (apart : Bool) (d : ℕ) (b : Sofar) → (tries_if apart d b).outs.frames ≡ b.outs.frames
tries_frames true d b = refl
tries_frames false d b = refl

when_frames : (time : Bool) (d : ℕ) (b : Sofar) → (tries_when time d b).outs.frames ≡ b.outs.frames
when_frames true d b = tries_frames (is_apart (end_at b.state d).line) d b
when_frames false d b = refl

trouble_frames : (over : Bool) (d broke try_at now : ℕ) (b : Sofar) → (ticks_trouble over d broke try_at now b).outs.frames ≡ b.outs.frames
trouble_frames true d broke try_at now b = refl
trouble_frames false d broke try_at now b = when_frames (nat_le try_at now) d b

tick_frames : (link : AppLink) (d now : ℕ) (b : Sofar) → (ticks_from link d now b).outs.frames ≡ b.outs.frames
tick_frames NotConnected d now b = refl
tick_frames NormalLink d now b = refl
tick_frames (Trouble broke try_at) d now b = trouble_frames (nat_le (until broke b.state.times.recover) now) d broke try_at now b
tick_frames Recovery d now b = refl

ticks_frames : (ds : List ℕ) (now : ℕ) (b : Sofar) → (ticks ds now b).outs.frames ≡ b.outs.frames
ticks_frames [] now b = refl
ticks_frames (d ∷ ds) now b = ticks_frames ds now (ticks_from (end_at b.state d).link d now b) ∙ tick_frames (end_at b.state d).link d now b

broken_frames : (line : Line) (d now : ℕ) (b : Sofar) → (broken_from line d now b).outs.frames ≡ b.outs.frames
broken_frames Apart d now b = refl
broken_frames Trying d now b = refl
broken_frames Greeting d now b = refl
broken_frames Asking d now b = refl
broken_frames Joined d now b = refl

failed_frames : (link : AppLink) (d before later now : ℕ) (b : Sofar) → (failed_from link d before later now b).outs.frames ≡ b.outs.frames
failed_frames NotConnected d before later now b = refl
failed_frames NormalLink d before later now b = refl
failed_frames (Trouble broke try_at) d before later now b = refl
failed_frames Recovery d before later now b = refl

joins_frames : (link : AppLink) (d : ℕ) (b : Sofar) → (joins_from link d b).outs.frames ≡ b.outs.frames
joins_frames NotConnected d b = refl
joins_frames NormalLink d b = refl
joins_frames (Trouble broke try_at) d b = tries_frames (is_apart (end_at b.state d).line) d b
joins_frames Recovery d b = refl

-- a connection's first frame goes to its data server, on a number that no connection had

connected_frames : (link : AppLink) (d k now : ℕ) (b : Sofar) → d ≢ k → ups_to k (connected_from link d now b).outs.frames ≡ ups_to k b.outs.frames
connected_frames NotConnected d k now b other = up_elsewhere k b.outs.frames _ other
connected_frames NormalLink d k now b other = up_elsewhere k b.outs.frames _ other
connected_frames (Trouble broke try_at) d k now b other = up_elsewhere k b.outs.frames _ other
connected_frames Recovery d k now b other = up_elsewhere k b.outs.frames _ other

connected_dial : (link : AppLink) (d now : ℕ) (e : AppEnd) (b c : Sofar) → ConnectedCame link d now e b c → (end_at c.state d).dial ≡ e.dial + 1
connected_dial NotConnected d now e b c x = ap (λ (y : AppEnd). y.dial) x.end
connected_dial NormalLink d now e b c x = ap (λ (y : AppEnd). y.dial) x.end
connected_dial (Trouble broke try_at) d now e b c x = ap (λ (y : AppEnd). y.dial) x.end
connected_dial Recovery d now e b c x = ap (λ (y : AppEnd). y.dial) x.end

puts_nothing : (i : AppIn) (l : Layout) (c : CoresState) (m : Machine) (app now d : ℕ) (state : AppState) (outs : AppOuts) → Holds l m → Mirrors c m → app < c.layout.apps → IsNoFrame i → AppMay (app_state m app) i
    → Makes (begun (app_state m app)) now i (made state outs) → PutsNothing m app d state outs.frames
puts_nothing (app_in.Frame k frame) l c m app now d state outs h shows known no_frame may makes dial conn there alone is = absurd no_frame
puts_nothing (app_in.Connected k) l c m app now d state outs h shows known no_frame may makes dial conn there alone is = go (eqb k d) refl
  where
    b : Sofar
    b = begun (app_state m app)

    new_dial : (end_at state k).dial ≡ (end_at b.state k).dial + 1
    new_dial = connected_dial (end_at b.state k).link k now (end_at b.state k) b (made state outs) (subst (λ (x : Sofar). ConnectedCame (end_at b.state k).link k now (end_at b.state k) b x) (sym makes) (connected_came k now b may.known))

    here : k ≡ d → dial ≡ ((m.site_at d).end_at app).state.dial + 1
    here same = is ∙ subst (λ n. (end_at state n).dial ≡ (end_at b.state n).dial + 1) same new_dial ∙ ap (λ (y : AppEnd). y.dial + 1) (app_ends c m app d shows known)

    go : (t : Bool) → eqb k d ≡ t → ups_to d outs.frames ≡ []
    go true same =
        absurd (false≢true (sym (unmade l m app d h) ∙ ap (λ (n : ℕ). is_some (((m.site_at d).end_at app).connection_at n)) (sym (here (eqb-true k d same))) ∙ ap is_some there))
    go false other =
        ap (λ (x : Sofar). ups_to d x.outs.frames) makes ∙ connected_frames (end_at b.state k).link k d now (becomes k with_dial b) (λ same. false≢true (sym other ∙ eq-eqb k d same))
puts_nothing (app_in.NoWay k before later) l c m app now d state outs h shows known no_frame may makes dial conn there alone is =
    ap (λ (x : Sofar). ups_to d x.outs.frames) makes ∙ ap (ups_to d) (failed_frames (end_at (app_state m app) k).link k before later now _)
puts_nothing (app_in.Broken k) l c m app now d state outs h shows known no_frame may makes dial conn there alone is =
    ap (λ (x : Sofar). ups_to d x.outs.frames) makes ∙ ap (ups_to d) (broken_frames (end_at (app_state m app) k).line k now (begun (app_state m app)))
puts_nothing (app_in.Join k) l c m app now d state outs h shows known no_frame may makes dial conn there alone is =
    ap (λ (x : Sofar). ups_to d x.outs.frames) makes ∙ ap (ups_to d) (joins_frames (end_at (app_state m app) k).link k (begun (app_state m app)))
puts_nothing app_in.Tick l c m app now d state outs h shows known no_frame may makes dial conn there alone is =
    ap (λ (x : Sofar). ups_to d x.outs.frames) makes ∙ ap (ups_to d) (ticks_frames (range_with_len 0 (length (app_state m app).ends)) now (begun (app_state m app)))

-- Each input that is no frame.
pub node_ends_kept_by_input : (l : Layout) (c : CoresState) (m : Machine) (app now : ℕ) (input : AppIn) (outs : MoveOuts) (written : List Act) (new : Machine)
    → Holds l m → Mirrors c m → Allowed c (App app now input) → AppGoes m app now input outs written new → IsNoFrame input → NodeEndsHold l (state_after l new.trail) new
node_ends_kept_by_input l c m app now input outs written new h shows allowed goes no_frame =
    node_ends_kept_by_app l c m app now input outs written new h shows allowed goes
    (λ d. puts_nothing input l c m app now d goes.state goes.app_outs h shows allowed.known no_frame (app_may c m app input shows allowed.known allowed.may) goes.steps)
