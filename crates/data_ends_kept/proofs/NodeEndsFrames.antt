-- The data ends of running nodes stay as the invariant has them over each frame that an application server takes, where what it puts goes to
-- that frame's data server alone.
use Rattle.std.proofs.Common.{◌≡◌, ◌≢◌, ℕ, Bool, true, false, List, [], ◌∷◌, Option, Some, refl, sym, ◌∙◌, ap, subst, inl, inr, eqb}
use Rattle.std.specs.Prelude.{drop}
use Rattle.std.proofs.lemmas.Bool.{eqb-true, eq-eqb, false≢true}
use Rattle.std.proofs.Math.Seq.{drop-nil}
use Rattle.plain_orders.specs.declared.act.Act.{Act}
use Rattle.plain_orders.specs.declared.layout.Layout.{Layout}
use Rattle.plain_orders.specs.declared.layout.Times.{Times}
use Rattle.plain_runs.specs.Run.{state_after}
use Rattle.ecp_messages.specs.declared.down.Down.{Down}
use Rattle.ecp_messages.specs.declared.down.Down.TheVariants.{Welcome, Reset, Block, Drop, Ack, Grant, Answer, Normal, Bare}
use Rattle.ecp_messages.specs.declared.down.DownFrame.{DownFrame}
use Rattle.ecp_messages.specs.declared.front.Front.{Front}
use Rattle.app_rules.specs.declared.app_in.AppIn.TheVariants as app_in
use Rattle.app_rules.specs.declared.line.Line.{Line}
use Rattle.app_rules.specs.declared.line.Line.TheVariants.{Apart, Trying, Greeting, Asking, Joined}
use Rattle.app_rules.specs.AppState.{AppEnd}
use Rattle.app_rules.specs.AppStep.{AppMay, made}
use Rattle.app_rules.specs.Works.{Sofar, begun, end_at}
use Rattle.cluster_runs.specs.CoresState.{CoresState}
use Rattle.cluster_runs.specs.Connections.{ups_to}
use Rattle.cluster_runs.specs.declared.move_outs.MoveOuts.{MoveOuts}
use Rattle.cluster_runs.specs.declared.moves.Move.TheVariants.{App}
use Rattle.cluster_runs.specs.Goes.{AppGoes}
use Rattle.cluster_runs.specs.Machine.{Machine, End, app_state, end_state}
use Rattle.cluster_runs.specs.Mirrors.{Mirrors}
use Rattle.cluster_runs.specs.Moves.{Allowed}
use Rattle.cluster_runs.specs.Sent.{Connection}
use Rattle.cluster_invariant.specs.Ends.{HelloAlone}
use Rattle.cluster_invariant.specs.Holds.{Holds}
use Rattle.cluster_invariant.specs.Words.{downs_left}
use Rattle.cluster_steps.proofs.AppSites.{app_ends}
use Rattle.cluster_steps.proofs.FrameCases.{LineHas, frame_came}
use Rattle.cluster_steps.proofs.FrameEnds.{FrameCame, NumberedCame, ended_from}
use Rattle.ends_kept.proofs.PairTables.{line_has}
use Rattle.ends_kept.proofs.TablesMoves.{app_may}
use Rattle.ends_kept.proofs.TakenDown.{Taken, taken_down}
use Rattle.app_rules.specs.declared.app_in.AppIn.{AppIn}
use Rattle.cluster_steps.proofs.FrameAlone.{taken_silent}
use Rattle.data_ends_kept.proofs.NodeEndsInputs.{node_ends_kept_by_input}
use Rattle.data_ends_kept.proofs.NodeEndsApps.{PutsNothing, node_ends_kept_by_app}
use Rattle.data_ends_kept.proofs.NodeEndsMoves.{NodeEndsHold}

-- a frame leaves the number of the connection

ended_dial : (line : Line) (times : Times) (now : ℕ) (e : AppEnd) → (ended_from line times now e).dial ≡ e.dial
ended_dial Apart times now e = refl
ended_dial Trying times now e = refl
ended_dial Greeting times now e = refl
ended_dial Asking times now e = refl
ended_dial Joined times now e = refl

ends_dial : (d now : ℕ) (b c : Sofar) → end_at c.state d ≡ ended_from (end_at b.state d).line b.state.times now (end_at b.state d) → (end_at c.state d).dial ≡ (end_at b.state d).dial
ends_dial d now b c is = ap (λ (y : AppEnd). y.dial) is ∙ ended_dial (end_at b.state d).line b.state.times now (end_at b.state d)

numbered_dial : (d now seq ack : ℕ) (m : Down) (f : Front) (b c : Sofar) → NumberedCame d now seq ack m f (end_at b.state d) b c → (end_at c.state d).dial ≡ (end_at b.state d).dial
numbered_dial d now seq ack m f b c (inl x) = ap (λ (y : AppEnd). y.dial) x.here.end
numbered_dial d now seq ack m f b c (inr (inl x)) = ap (λ (y : AppEnd). y.dial) x.settles.here.end
numbered_dial d now seq ack m f b c (inr (inr x)) = ends_dial d now b c x.end

frame_dial : (m : Down) (d now : ℕ) (frame : DownFrame) (b c : Sofar) → FrameCame m d now frame (end_at b.state d) b c → (end_at c.state d).dial ≡ (end_at b.state d).dial
frame_dial (Welcome session epoch kept front taken) d now frame b c (inl x) = ap (λ (y : AppEnd). y.dial) x.here.end
frame_dial (Welcome session epoch kept front taken) d now frame b c (inr (inl x)) = ap (λ (y : AppEnd). y.dial) x.here.end
frame_dial (Welcome session epoch kept front taken) d now frame b c (inr (inr (inl x))) = ap (λ (y : AppEnd). y.dial) x.here.end
frame_dial (Welcome session epoch kept front taken) d now frame b c (inr (inr (inr x))) = ends_dial d now b c x.end
frame_dial (Reset session at) d now frame b c (inl x) = ap (λ (y : AppEnd). y.dial) x.here.end
frame_dial (Reset session at) d now frame b c (inr x) = ends_dial d now b c x.end
frame_dial (Block front block) d now frame b c x = numbered_dial d now frame.seq frame.ack (Block front block) front b c x
frame_dial (Drop front lo hi) d now frame b c x = numbered_dial d now frame.seq frame.ack (Drop front lo hi) front b c x
frame_dial (Ack front) d now frame b c x = numbered_dial d now frame.seq frame.ack (Ack front) front b c x
frame_dial (Grant front ticket at) d now frame b c x = numbered_dial d now frame.seq frame.ack (Grant front ticket at) front b c x
frame_dial (Answer front about job number at sum) d now frame b c x = numbered_dial d now frame.seq frame.ack (Answer front about job number at sum) front b c x
frame_dial (Normal front) d now frame b c x = numbered_dial d now frame.seq frame.ack (Normal front) front b c x
frame_dial Bare d now frame b c (inl x) = ap (λ (y : AppEnd). y.dial) x.settles.here.end
frame_dial Bare d now frame b c (inr (inl x)) = ap (λ (y : AppEnd). y.dial) x.end
frame_dial Bare d now frame b c (inr (inr x)) = ends_dial d now b c x.end

-- no frame was taken on the connection of a Hello that is alone
none_taken : (e : End) (frame : DownFrame) (c : Connection) → Taken e frame → e.connection_at e.state.dial ≡ Some c → HelloAlone c → ⊥
none_taken e frame c t there alone = go (sym (ap (drop c.downs_taken) alone.silent ∙ drop-nil c.downs_taken) ∙ subst (λ (k : Connection). downs_left k ≡ frame ∷ t.behind) (same t.connection c (sym t.its ∙ there)) t.left)
  where
    same : (a b : Connection) → ◌≡◌ {A = Option Connection} (Some a) (Some b) → a ≡ b
    same a b is = cc (is)

    go : ◌≡◌ {A = List DownFrame} [] (frame ∷ t.behind) → ⊥
    go is = absurd (cc (is))

-- Each frame: what is put goes to its data server alone.
pub node_ends_kept_by_frame : (l : Layout) (c : CoresState) (m : Machine) (app now d : ℕ) (frame : DownFrame) (outs : MoveOuts) (written : List Act) (new : Machine)
    → Holds l m → Mirrors c m → Allowed c (App app now (app_in.Frame d frame)) → (goes : AppGoes m app now (app_in.Frame d frame) outs written new)
    → NodeEndsHold l (state_after l new.trail) new
node_ends_kept_by_frame l c m app now d frame outs written new h shows allowed goes =
    node_ends_kept_by_app l c m app now (app_in.Frame d frame) outs written new h shows allowed goes (λ k. silent k)
  where
    alive : m.is_dead_at app ≡ false
    alive = sym (shows.dead app) ∙ allowed.alive

    may : AppMay (app_state m app) (app_in.Frame d frame)
    may = app_may c m app (app_in.Frame d frame) shows allowed.known allowed.may

    has : LineHas (end_at (app_state m app) d).line (end_at (app_state m app) d).session
    has = subst (λ (e : AppEnd). LineHas e.line e.session) (sym (app_ends c m app d shows allowed.known)) (line_has (((state_after l m.trail).server_at d).pair_at app) (end_state m app d) ((h.sites d).ends.tables app alive))

    dialled : (end_at goes.state d).dial ≡ ((m.site_at d).end_at app).state.dial
    dialled =
        frame_dial frame.message d now frame (begun (app_state m app)) (made goes.state goes.app_outs) (frame_came (begun (app_state m app)) now d frame (made goes.state goes.app_outs) may.known has goes.steps)
        ∙ ap (λ (y : AppEnd). y.dial) (app_ends c m app d shows allowed.known)

    elsewhere : (k : ℕ) → k ≢ d → ups_to k goes.app_outs.frames ≡ []
    elsewhere k other = taken_silent k d (λ same. other (sym same)) (begun (app_state m app)) now frame (made goes.state goes.app_outs) goes.steps

    silent : (k : ℕ) → PutsNothing m app k goes.state goes.app_outs.frames
    silent k dial conn there alone is = go (eqb k d) refl
      where
        here : (n : ℕ) → n ≡ d → ((m.site_at n).end_at app).connection_at dial ≡ Some conn → dial ≡ (end_at goes.state n).dial → ⊥
        here n same found number =
            none_taken ((m.site_at d).end_at app) frame conn (taken_down c m app d frame shows allowed.takes)
            (ap ((m.site_at d).end_at app).connection_at (sym (subst (λ (j : ℕ). dial ≡ (end_at goes.state j).dial) same number ∙ dialled)) ∙ subst (λ (j : ℕ). ((m.site_at j).end_at app).connection_at dial ≡ Some conn) same found) alone

        go : (b : Bool) → eqb k d ≡ b → ups_to k goes.app_outs.frames ≡ []
        go true same = absurd (here k (eqb-true k d same) there is)
        go false other = elsewhere k (λ same. false≢true (sym other ∙ eq-eqb k d same))

-- So each input of an application server keeps them.
pub node_ends_kept_by_inputs : (l : Layout) (c : CoresState) (m : Machine) (app now : ℕ) (input : AppIn) (outs : MoveOuts) (written : List Act) (new : Machine)
    → Holds l m → Mirrors c m → Allowed c (App app now input) → AppGoes m app now input outs written new → NodeEndsHold l (state_after l new.trail) new
node_ends_kept_by_inputs l c m app now (app_in.Frame d frame) outs written new h shows allowed goes = node_ends_kept_by_frame l c m app now d frame outs written new h shows allowed goes
node_ends_kept_by_inputs l c m app now (app_in.Connected d) outs written new h shows allowed goes = node_ends_kept_by_input l c m app now (app_in.Connected d) outs written new h shows allowed goes tt
node_ends_kept_by_inputs l c m app now (app_in.NoWay d before later) outs written new h shows allowed goes = node_ends_kept_by_input l c m app now (app_in.NoWay d before later) outs written new h shows allowed goes tt
node_ends_kept_by_inputs l c m app now (app_in.Broken d) outs written new h shows allowed goes = node_ends_kept_by_input l c m app now (app_in.Broken d) outs written new h shows allowed goes tt
node_ends_kept_by_inputs l c m app now (app_in.Join d) outs written new h shows allowed goes = node_ends_kept_by_input l c m app now (app_in.Join d) outs written new h shows allowed goes tt
node_ends_kept_by_inputs l c m app now app_in.Tick outs written new h shows allowed goes = node_ends_kept_by_input l c m app now app_in.Tick outs written new h shows allowed goes tt
