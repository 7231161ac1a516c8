-- A site after an end took a frame, and went on with its session in the order that it is told of.
use Rattle.std.proofs.Common.{◌≡◌, ◌≢◌, ℕ, Bool, true, false, ◌==◌, if◌then◌else◌, List, [], Option, Some, option_map, refl, sym, ◌∙◌, ap, subst}
use Rattle.std.specs.Prelude.{IfSome, not}
use Rattle.std.specs.List.{list_any}
use Rattle.std.proofs.lemmas.Bool.{eq-eqb, ne_eqb}
use Rattle.plain_runs.specs.Plain.{put}
use Rattle.ecp_messages.specs.declared.up.UpFrame.{UpFrame}
use Rattle.ecp_messages.specs.declared.down.DownFrame.{DownFrame}
use Rattle.end_words.specs.Windows.{sent}
use Rattle.app_rules.specs.declared.app_in.AppIn.{AppIn}
use Rattle.app_rules.specs.declared.app_in.AppIn.TheVariants as app_in
use Rattle.app_rules.specs.declared.app_outs.AppOuts.{AppOuts}
use Rattle.app_rules.specs.AppState.{AppState, AppEnd, Session}
use Rattle.app_rules.specs.Works.{end_at}
use Rattle.app_rules.specs.Looks.{Shown}
use Rattle.cluster_runs.specs.Connections.{at_number, carries_up, down_taken, is_index, leaves_if, ups_to, with_ups}
use Rattle.cluster_runs.specs.Goes.{app_end, app_takes, at_told, input_site, message_from, with_state}
use Rattle.cluster_runs.specs.Lanes.{is_told_new, sent_before, told_by, with_app_step}
use Rattle.cluster_runs.specs.Machine.{Site, End}
use Rattle.cluster_runs.specs.Sent.{Lane, Place, Connection}
use Rattle.cluster_steps.proofs.AppSites.{SameBeside, site_beside, site_ends}
use Rattle.link_apps.proofs.EndStep.{IsElsewhere}
use Rattle.link_apps.proofs.LanesApps.{own_lane, site_lanes}
use Rattle.link_apps.proofs.PutSteps.{own_after}

-- An end that took a frame, and puts these frames: it has its session, in the same epoch.
pub record EndTakes (d : ℕ) (e : AppEnd) (outs : AppOuts) (state : AppState) : Type 0 where
  pub us : List UpFrame
  pub was : Session
  pub session : Session
  pub has : e.session ≡ Some was
  pub now : (end_at state d).session ≡ Some session
  pub dial : (end_at state d).dial ≡ e.dial
  pub epoch : session.epoch ≡ was.epoch
  pub frames : ups_to d outs.frames ≡ us
  pub cuts : outs.cuts ≡ []

module _ (x : Site) (app d : ℕ) (frame : DownFrame) (outs : AppOuts) (state : AppState) (shown : ℕ → Shown) (c : Connection)
    (its : (x.end_at app).connection_at (x.end_at app).state.dial ≡ Some c) (tk : EndTakes d (x.end_at app).state outs state) (k : ℕ)
    (told_of : (x.end_at app).told ≡ Some (record { session = tk.was.number; order = k })) where
  abbrev e : End
  e = x.end_at app

  abbrev t : AppEnd
  t = end_at state d

  abbrev input : AppIn
  input = app_in.Frame d frame

  abbrev y : Site
  y = input_site app input outs state shown d x

  abbrev taking : End
  taking = at_number e.state.dial down_taken e

  abbrev g : End
  g = app_end d outs e.state t (shown d) (message_from d input) (app_takes d input e.state.dial e)

  -- its end after the step
  abbrev pub took_end : End
  took_end = own_after (with_ups tk.us) t (shown d) taking

  nothing : is_told_new e.state.session t.session ≡ false
  nothing =
      ap (λ (o : Option Session). is_told_new o t.session) tk.has
      ∙ ap (is_told_new (Some tk.was)) tk.now
      ∙ ap not (eq-eqb tk.was.epoch tk.session.epoch (sym tk.epoch))

  moved : g ≡ took_end
  moved =
      ap (λ (b : Bool). app_end d outs e.state t (shown d) (message_from d input) (if b then taking else e)) (eq-eqb d d refl)
      ∙ ap (λ (b : Bool). carries_up d t.dial outs.frames outs.cuts (told_by b (message_from d input) e.state.dial (with_state t (shown d) taking))) nothing
      ∙ ap (λ (b : Bool). at_number t.dial (λ z. leaves_if b (with_ups (ups_to d outs.frames) z)) (with_state t (shown d) taking)) (ap (list_any (is_index d)) tk.cuts)
      ∙ ap (λ (us : List UpFrame). at_number t.dial (λ z. with_ups us z) (with_state t (shown d) taking)) tk.frames

  told : g.told ≡ e.told
  told = ap (λ (z : End). z.told) moved

  connection : (n : ℕ) (b : Bool) → (n == e.state.dial) ≡ b → took_end.connection_at n
      ≡ (if b then option_map (with_ups tk.us) (if b then option_map down_taken (e.connection_at n) else e.connection_at n)
      else (if b then option_map down_taken (e.connection_at n) else e.connection_at n))
  connection n b is =
      ap (λ (k : ℕ).
      if n == k then option_map (with_ups tk.us) (if n == e.state.dial then option_map down_taken (e.connection_at n) else e.connection_at n)
      else (if n == e.state.dial then option_map down_taken (e.connection_at n) else e.connection_at n)) tk.dial
      ∙ ap (λ (b : Bool).
      if b then option_map (with_ups tk.us) (if b then option_map down_taken (e.connection_at n) else e.connection_at n)
      else (if b then option_map down_taken (e.connection_at n) else e.connection_at n)) is

  pub conn_is : took_end.connection_at e.state.dial ≡ Some (with_ups tk.us (down_taken c))
  conn_is = connection e.state.dial true (eq-eqb e.state.dial e.state.dial refl) ∙ ap (λ (o : Option Connection). option_map (with_ups tk.us) (option_map down_taken o)) its

  pub others_are : (number : ℕ) → number ≢ e.state.dial → took_end.connection_at number ≡ e.connection_at number
  others_are number other = connection number false (ne_eqb number e.state.dial other)

  pub beside_is : SameBeside x y
  beside_is = site_beside app d outs e.state t (message_from d input) g x

  pub ends_are : y.end_at ≡ put x.end_at app took_end
  ends_are = site_ends app d outs e.state t (message_from d input) g x ∙ ap (put x.end_at app) moved

  -- the lane of the session, and no other

  abbrev stepped : Lane → Lane
  stepped z = with_app_step false (message_from d input) e.state.dial (sent_before e.state.session) t.session (ups_to d outs.frames) z

  pub lane_is : y.lane_at tk.was.number k ≡ with_app_step false (message_from d input) e.state.dial (sent tk.was.window) (Some tk.session) (ups_to d outs.frames) (x.lane_at tk.was.number k)
  lane_is =
      ap (λ (o : Option Place).
      (at_told o (with_app_step (is_told_new e.state.session t.session) (message_from d input) e.state.dial (sent_before e.state.session) t.session (ups_to d outs.frames))
      (record x { end_at = put x.end_at app g })).lane_at tk.was.number k) (told ∙ told_of)
      ∙ own_lane (record { session = tk.was.number; order = k })
      (with_app_step (is_told_new e.state.session t.session) (message_from d input) e.state.dial (sent_before e.state.session) t.session (ups_to d outs.frames))
      (record x { end_at = put x.end_at app g })
      ∙ ap (λ (b : Bool). with_app_step b (message_from d input) e.state.dial (sent_before e.state.session) t.session (ups_to d outs.frames) (x.lane_at tk.was.number k)) nothing
      ∙ ap (λ (o : Option Session). with_app_step false (message_from d input) e.state.dial (sent_before o) t.session (ups_to d outs.frames) (x.lane_at tk.was.number k)) tk.has
      ∙ ap (λ (o : Option Session). with_app_step false (message_from d input) e.state.dial (sent tk.was.window) o (ups_to d outs.frames) (x.lane_at tk.was.number k)) tk.now

  pub elsewhere_is : (s j : ℕ) → IsElsewhere e s j → y.lane_at s j ≡ x.lane_at s j
  elsewhere_is s j none =
      site_lanes (λ z r. r ≡ z) (λ z. refl) app d outs e.state t (message_from d input) g x nothing s j
      (subst (λ (o : Option Place). IfSome o (λ r. (s ≡ r.session) → (j ≡ r.order) → stepped (x.lane_at s j) ≡ x.lane_at s j)) (sym (told ∙ told_of))
      (λ at here.
      absurd
      ((subst (λ (o : Option Place). IfSome o (λ p. (s ≡ tk.was.number) → (j ≡ p.order) → ⊥)) told_of
      (subst (λ (o : Option Session). IfSome o (λ u. IfSome e.told (λ p. (s ≡ u.number) → (j ≡ p.order) → ⊥))) tk.has none)) at here)))
