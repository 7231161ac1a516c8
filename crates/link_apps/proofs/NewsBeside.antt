-- The part on what is on its way at the other data servers, for a frame by which an end learns of an order.
use Rattle.std.proofs.Common.{◌≡◌, ◌≢◌, inl, inr, ℕ, Bool, true, false, if◌then◌else◌, List, [], ◌∷◌, ◌++◌, option_map, refl, sym, ◌∙◌, ap, subst}
use Rattle.std.specs.List.{list_any}
use Rattle.std.proofs.lemmas.Bool.{ne_eqb}
use Rattle.plain_orders.specs.declared.act.Act.{Act}
use Rattle.plain_orders.specs.declared.act.Act.TheVariants as act
use Rattle.plain_orders.specs.declared.layout.Layout.{Layout}
use Rattle.plain_runs.specs.Plain.{Plain, Server, start}
use Rattle.plain_runs.specs.EndRows.{met_by, told_of}
use Rattle.plain_runs.specs.Run.{IsRun, after_all, state_after}
use Rattle.plain_runs.proofs.RunLemmas.{after_all-append}
use Rattle.ecp_messages.specs.declared.down.Down.{Down}
use Rattle.ecp_messages.specs.declared.down.Down.TheVariants.{Welcome, Reset, Block, Drop, Ack, Grant, Answer, Normal, Bare}
use Rattle.ecp_messages.specs.declared.down.DownFrame.{DownFrame}
use Rattle.app_rules.specs.declared.app_in.AppIn.TheVariants as app_in
use Rattle.app_rules.specs.AppState.{AppState, AppEnd}
use Rattle.app_rules.specs.AppStep.{made}
use Rattle.app_rules.specs.Works.{Sofar, begun, end_at}
use Rattle.app_rules.proofs.StepLaws.{steps_at_one_end}
use Rattle.cluster_runs.specs.CoresState.{CoresState}
use Rattle.cluster_runs.specs.declared.move_outs.MoveOuts.{MoveOuts}
use Rattle.cluster_runs.specs.declared.moves.Move.TheVariants.{App}
use Rattle.cluster_runs.specs.Connections.{is_index}
use Rattle.cluster_runs.specs.Goes.{AppGoes, input_site}
use Rattle.cluster_runs.specs.Lanes.{is_told_new}
use Rattle.cluster_runs.specs.Machine.{Machine, Site, app_state}
use Rattle.cluster_runs.specs.Mirrors.{Mirrors}
use Rattle.cluster_runs.specs.Moves.{Allowed}
use Rattle.cluster_invariant.specs.Holds.{Holds}
use Rattle.cluster_invariant.specs.Link.{LinkHolds}
use Rattle.cluster_steps.proofs.FrameAlone.{taken_silent}
use Rattle.cluster_steps.proofs.InputsBring.{WelcomeTold}
use Rattle.told_kept.proofs.SameSessions.{whose}
use Rattle.link_apps.proofs.EnteredStays.{NoneMet, none_met}
use Rattle.link_apps.proofs.NewsLinks.{told_news}
use Rattle.link_apps.proofs.Rests.{EndRests, Keeps, rests_same}
use Rattle.link_apps.proofs.RestLinks.{rest_at}

-- What a Welcome that tells something new makes besides: nothing at the other data servers.
record ToldAlone (l : Layout) (p : Plain) (app d : ℕ) (cuts : List ℕ) (acts : List Act) : Type 0 where
  none_cut : cuts ≡ []
  server : (k : ℕ) → k ≢ d → (after_all l p acts).server_at k ≡ p.server_at k
  keeps : (k : ℕ) → Keeps app k acts

told_alone : (l : Layout) (p : Plain) (m : Down) (app d now : ℕ) (e : AppEnd) (b c : Sofar) → b.outs.cuts ≡ [] → b.outs.acts ≡ [] → WelcomeTold m d now e b c
    → ToldAlone l p app d c.outs.cuts c.outs.acts
told_alone l p (Welcome session epoch kept front taken) app d now e b c cuts acts (inl x) = record {
  none_cut = x.here.cuts ∙ ap (λ (xs : List ℕ). xs ++ []) cuts;
  server = λ k other.
      ap (λ (ws : List Act). (after_all l p ws).server_at k) (x.here.acts ∙ ap (λ (ws : List Act). ws ++ act.Met b.state.app d session ∷ []) acts)
      ∙ ap (λ (t : Bool). if t then met_by l (p.server_at d) b.state.app session else p.server_at k) (ne_eqb k d other);
  keeps = λ k. subst (Keeps app k) (sym (x.here.acts ∙ ap (λ (ws : List Act). ws ++ act.Met b.state.app d session ∷ []) acts)) (refl, tt);
}
told_alone l p (Welcome session epoch kept front taken) app d now e b c cuts acts (inr x) = record {
  none_cut = x.here.cuts ∙ ap (λ (xs : List ℕ). xs ++ []) cuts;
  server = λ k other.
      ap (λ (ws : List Act). (after_all l p ws).server_at k) (x.here.acts ∙ ap (λ (ws : List Act). ws ++ act.Told b.state.app d session epoch kept ∷ []) acts)
      ∙ ap (λ (t : Bool). if t then told_of l (p.server_at d) b.state.app session epoch kept else p.server_at k) (ne_eqb k d other);
  keeps = λ k. subst (Keeps app k) (sym (x.here.acts ∙ ap (λ (ws : List Act). ws ++ act.Told b.state.app d session epoch kept ∷ []) acts)) (refl, tt);
}
told_alone l p (Reset session at) app d now e b c cuts acts told = absurd told
told_alone l p (Block front block) app d now e b c cuts acts told = absurd told
told_alone l p (Drop front lo hi) app d now e b c cuts acts told = absurd told
told_alone l p (Ack front) app d now e b c cuts acts told = absurd told
told_alone l p (Grant front ticket at) app d now e b c cuts acts told = absurd told
told_alone l p (Answer front about job number at sum) app d now e b c cuts acts told = absurd told
told_alone l p (Normal front) app d now e b c cuts acts told = absurd told
told_alone l p Bare app d now e b c cuts acts told = absurd told

-- The other data servers keep it.
pub links_kept_beside_news : (l : Layout) (c : CoresState) (m : Machine) (app now d : ℕ) (frame : DownFrame) (outs : MoveOuts) (written : List Act) (new : Machine)
    → Holds l m → IsRun l m.trail → Mirrors c m → Allowed c (App app now (app_in.Frame d frame)) → (goes : AppGoes m app now (app_in.Frame d frame) outs written new)
    → is_told_new ((m.site_at d).end_at app).state.session (end_at goes.state d).session ≡ true → (k : ℕ) → k ≢ d
    → LinkHolds ((state_after l new.trail).server_at k) (new.site_at k) new.is_dead_at
links_kept_beside_news l c m app now d frame outs written new h run shows allowed goes news k other =
    subst (λ (n : Machine). LinkHolds ((state_after l n.trail).server_at k) (n.site_at k) n.is_dead_at) (sym goes.after)
    (subst (λ (ws : List Act). LinkHolds ((state_after l (m.trail ++ ws)).server_at k) y m.is_dead_at) (sym goes.acts)
    (subst (λ (q : Plain). LinkHolds (q.server_at k) y m.is_dead_at) (sym (after_all-append l start m.trail goes.app_outs.acts))
    (rest_at l c m app now (app_in.Frame d frame) outs written new h run shows allowed goes k false none (ne_eqb d k apart)
    (taken_silent k d apart (begun a) now frame z goes.steps)
    (ap (list_any (is_index k)) alone.none_cut)
    (subst (λ (t : AppEnd). EndRests (end_at a k) t)
    (sym ((steps_at_one_end a goes.state now (app_in.Frame d frame) goes.app_outs goes.steps).1 k other)) (rests_same (end_at a k)))
    (λ wired. alone.keeps k))))
  where
    a : AppState
    a = app_state m app

    p : Plain
    p = state_after l m.trail

    z : Sofar
    z = made goes.state goes.app_outs

    y : Site
    y = input_site app (app_in.Frame d frame) goes.app_outs goes.state goes.shown k (m.site_at k)

    apart : d ≢ k
    apart same = other (sym same)

    alone : ToldAlone l p app d goes.app_outs.cuts goes.app_outs.acts
    alone =
        told_alone l p frame.message app d now ((m.site_at d).end_at app).state (begun a) z refl refl
        (told_news l c m app now d frame outs written new h run shows allowed goes news)

    none : NoneMet (p.server_at k) ((after_all l p goes.app_outs.acts).server_at k)
    none = none_met (p.server_at k) ((after_all l p goes.app_outs.acts).server_at k) (λ n. ap (λ (s : Server). option_map whose (s.session_at n)) (alone.server k other))
