-- Which commands the requests of application ends are of, over each input of an application server.
use Rattle.std.proofs.Common.{◌≡◌, ◌≢◌, ◌≤◌, ◌<◌, inl, inr, ℕ, true, false, List, [], ◌∷◌, ◌++◌, map, Option, Some, None, is_some, refl, sym, ◌∙◌, ap, subst, arith}
use Rattle.std.specs.Prelude.{IfSome, unwrap_or}
use Rattle.std.specs.List.{AllByRecursion}
use Rattle.std.proofs.lemmas.Bool.{false≢true}
use Rattle.plain_orders.specs.declared.act.Act.{Act}
use Rattle.plain_orders.specs.declared.layout.Layout.{Layout}
use Rattle.plain_runs.specs.Run.{IsRun, state_after}
use Rattle.link_states.specs.declared.app_link.AppLink.TheVariants.{NotConnected}
use Rattle.ecp_messages.specs.declared.down.Down.{Down}
use Rattle.ecp_messages.specs.declared.down.Down.TheVariants.{Welcome, Reset, Block, Drop, Ack, Grant, Answer, Normal, Bare}
use Rattle.ecp_messages.specs.declared.down.DownFrame.{DownFrame}
use Rattle.ecp_messages.specs.declared.front.Front.{Front}
use Rattle.app_rules.specs.declared.app_in.AppIn.{AppIn}
use Rattle.app_rules.specs.declared.app_in.AppIn.TheVariants as app_in
use Rattle.app_rules.specs.declared.app_outs.AppOuts.{AppOuts}
use Rattle.app_rules.specs.declared.session_parts.Asked.{Asked}
use Rattle.app_rules.specs.declared.session_parts.Lost.{Lost}
use Rattle.app_rules.specs.AppState.{AppEnd, AppState, Session, no_session}
use Rattle.app_rules.specs.AppStep.{made}
use Rattle.app_rules.specs.Works.{begun, end_at, session_of}
use Rattle.app_rules.proofs.StepLaws.{steps_at_one_end}
use Rattle.cluster_runs.specs.CoresState.{CoresState, app_of_job}
use Rattle.cluster_runs.specs.declared.move_outs.MoveOuts.{MoveOuts}
use Rattle.cluster_runs.specs.declared.moves.Move.TheVariants.{App}
use Rattle.cluster_runs.specs.Goes.{AppGoes, app_end, app_takes, input_site, message_from}
use Rattle.cluster_runs.specs.Machine.{Machine, End, app_state, end_state}
use Rattle.cluster_runs.specs.Mirrors.{Mirrors}
use Rattle.cluster_runs.specs.Moves.{Allowed}
use Rattle.cluster_invariant.specs.Commands.{CommandsHold, LostIs, WaitsFor}
use Rattle.cluster_invariant.specs.Ends.{has_session}
use Rattle.cluster_invariant.specs.Holds.{Holds}
use Rattle.cluster_invariant.proofs.AllLists.{all_follow, all_joined}
use Rattle.cluster_invariant.proofs.Small.{at_places}
use Rattle.cluster_steps.proofs.AppSites.{app_ends, end_has_state, site_ends}
use Rattle.cluster_steps.proofs.FrameCases.{LineHas}
use Rattle.cluster_steps.proofs.FrameEnds.{MetNew}
use Rattle.cluster_steps.proofs.InputsBring.{WelcomeTold}
use Rattle.ends_kept.proofs.PairTables.{line_has}
use Rattle.ends_kept.proofs.TablesMoves.{app_may}
use Rattle.asks_change.proofs.AskNames.{EndNamed, SessionsNamed, ask_name, end_named, learnt_named, taken_named}
use Rattle.asks_change.proofs.InputAsks.{EndFails, EndLoses, FrameAsks, InputAsks, IsLossOf, StaysOrLoses, input_asks}
use Rattle.commands_kept.proofs.CommandsJobs.{waits_changed}

module _ (m : Machine) (app d : ℕ) where
  -- a request of an end, by its session's number
  abbrev Waits : ℕ → AppEnd → Asked → Type 0
  Waits n e x = WaitsFor app d n e x (app_of_job m.layout x.job) (m.begun_at x.job) (m.job_at x.job)

  -- an end with its requests and losses
  record EndWaits (e : AppEnd) : Type 0 where
    lost : LostIs e
    asks : IfSome e.session (λ s. AllByRecursion (Waits s.number e) s.asks)

  to_name : (n : ℕ) (e : AppEnd) (x : Asked) → Waits n e x → Waits n e (ask_name x)
  to_name n e x is = record { its = is.its; waits = is.waits; used = is.used; untried = is.untried }

  of_name : (n : ℕ) (e : AppEnd) (x : Asked) → Waits n e (ask_name x) → Waits n e x
  of_name n e x is = record { its = is.its; waits = is.waits; used = is.used; untried = is.untried }

  -- requests of the same names, in a session of the same number
  all_named : (n k : ℕ) (e f : AppEnd) (xs ys : List Asked) → k ≡ n → f.failed ≡ e.failed → map ask_name ys ≡ map ask_name xs → AllByRecursion (Waits n e) xs
      → AllByRecursion (Waits k f) ys
  all_named n k e f xs [] same failed names all = tt
  all_named n k e f [] (y ∷ ys) same failed names all = absurd (cc (names))
  all_named n k e f (x ∷ xs) (y ∷ ys) same failed names all = (
    of_name k f y (subst (Waits k f) (sym (heads (ask_name y) (map ask_name ys) (ask_name x) (map ask_name xs) names))
        (waits_changed app d n k e f (ask_name x) (app_of_job m.layout x.job) (m.begun_at x.job) (m.job_at x.job) same failed (to_name n e x all.0))),
    all_named n k e f xs ys same failed (tails (ask_name y) (map ask_name ys) (ask_name x) (map ask_name xs) names) all.1,
  )
    where
      heads : (a : Asked) (xs : List Asked) (b : Asked) (ys : List Asked) → a ∷ xs ≡ b ∷ ys → a ≡ b
      heads a xs b ys is = cc (is)

      tails : (a : Asked) (xs : List Asked) (b : Asked) (ys : List Asked) → a ∷ xs ≡ b ∷ ys → xs ≡ ys
      tails a xs b ys is = cc (is)

  named_asks : (e f : AppEnd) (o q : Option Session) → f.failed ≡ e.failed → SessionsNamed o q → IfSome o (λ s. AllByRecursion (Waits s.number e) s.asks)
      → IfSome q (λ s. AllByRecursion (Waits s.number f) s.asks)
  named_asks e f None None failed x all = tt
  named_asks e f None (Some t) failed x all = absurd x
  named_asks e f (Some s) None failed x all = absurd x
  named_asks e f (Some s) (Some t) failed x all = all_named s.number t.number e f s.asks t.asks x.0 failed x.1 all

  named_below : (o q : Option Session) (lost : List Lost) → SessionsNamed o q → IfSome o (λ s. AllByRecursion (λ (y : Lost). y.session < s.number) lost)
      → IfSome q (λ s. AllByRecursion (λ (y : Lost). y.session < s.number) lost)
  named_below None None lost x is = tt
  named_below None (Some t) lost x is = absurd x
  named_below (Some s) None lost x is = absurd x
  named_below (Some s) (Some t) lost x is = subst (λ (n : ℕ). AllByRecursion (λ (y : Lost). y.session < n) lost) (sym x.0) is

  -- losses by what was told, where no session is below
  lost_told : (n k : ℕ) (ys zs : List Lost) → zs ≡ ys → k ≡ n → AllByRecursion (λ (y : Lost). y.session ≤ n) ys
      → AllByRecursion (λ (y : Lost). y.session ≤ k) zs
  lost_told n k ys zs same told all =
      subst (λ (xs : List Lost). AllByRecursion (λ (y : Lost). y.session ≤ k) xs) (sym same) (subst (λ (i : ℕ). AllByRecursion (λ (y : Lost). y.session ≤ i) ys) (sym told) all)

  named_waits : (e f : AppEnd) → EndNamed e f → EndWaits e → EndWaits f
  named_waits e f x is = record {
    lost = record {
      told = lost_told e.told f.told e.lost f.lost x.lost x.told is.lost.told;
      below =
          subst (λ (ys : List Lost). IfSome f.session (λ s. AllByRecursion (λ (y : Lost). y.session < s.number) ys)) (sym x.lost)
          (named_below e.session f.session e.lost x.session is.lost.below);
    };
    asks = named_asks e f e.session f.session x.failed x.session is.asks;
  }

  -- an end without a session
  none_waits : (f : AppEnd) → f.session ≡ None → AllByRecursion (λ (y : Lost). y.session ≤ f.told) f.lost → EndWaits f
  none_waits f none told = record {
    lost = record { told = told; below = subst (λ (o : Option Session). IfSome o (λ s. AllByRecursion (λ (y : Lost). y.session < s.number) f.lost)) (sym none) tt };
    asks = subst (λ (o : Option Session). IfSome o (λ s. AllByRecursion (Waits s.number f) s.asks)) (sym none) tt;
  }

  loses_waits : (e f : AppEnd) → (session_of e).number ≤ e.told → EndLoses e f → EndWaits e → EndWaits f
  loses_waits e f low x is =
      none_waits f x.none
      (lost_told e.told f.told (e.lost ++ x.more) f.lost x.lost x.told
      (all_joined (λ (y : Lost). y.session ≤ e.told) e.lost x.more is.lost.told (all_follow (IsLossOf e) (λ (y : Lost). y.session ≤ e.told) each x.more x.its)))
    where
      each : (y : Lost) → IsLossOf e y → y.session ≤ e.told
      each y (inl same) = omega (arith, same, low)
      each y (inr none) = omega (arith, none)

  fails_waits : (e f : AppEnd) → (e.link ≡ NotConnected → e.session ≡ None) → EndFails e f → EndWaits e → EndWaits f
  fails_waits e f apart x is = none_waits f (x.session ∙ apart x.apart) (lost_told e.told f.told e.lost f.lost x.lost x.told is.lost.told)

  module _ (c : CoresState) (l : Layout) (now : ℕ) (h : Holds l m) (shows : Mirrors c m) (known : app < c.layout.apps) (alive : m.is_dead_at app ≡ false) (state : AppState)
      (outs : AppOuts) where
    abbrev e : AppEnd
    e = end_at (app_state m app) d

    same_end : e ≡ end_state m app d
    same_end = app_ends c m app d shows known

    before : EndWaits e
    before = subst EndWaits (sym same_end) (record { lost = h.commands.lost app d alive; asks = h.commands.asks app d alive })

    -- the session of an end is none above what it was told
    low : (session_of e).number ≤ e.told
    low = subst (λ (f : AppEnd). (session_of f).number ≤ f.told) (sym same_end) (go (end_state m app d).session ((h.sites d).ends.told app alive).newest)
      where
        go : (o : Option Session) → IfSome o (λ s. s.number ≡ (end_state m app d).told) → (unwrap_or o no_session).number ≤ (end_state m app d).told
        go None is = omega arith
        go (Some s) is = omega (arith, is)

    -- and there is none where it isn't connected
    apart : e.link ≡ NotConnected → e.session ≡ None
    apart =
        subst (λ (f : AppEnd). f.link ≡ NotConnected → f.session ≡ None) (sym same_end)
        (λ link. none (end_state m app d).session (sym ((h.sites d).ends.tables app alive).connected ∙ ap has_session link))
      where
        none : (o : Option Session) → is_some o ≡ false → o ≡ None
        none None is = refl
        none (Some s) is = absurd (false≢true (sym is))

    met_waits : (session epoch : ℕ) (front : Front) → MetNew d now session epoch front e (begun (app_state m app)) (made state outs) → EndWaits (end_at state d)
    met_waits session epoch front x = subst EndWaits (sym x.here.end) (record {
      lost = record {
        told = all_follow (λ (y : Lost). y.session ≤ e.told) (λ (y : Lost). y.session ≤ session) (λ y is. omega (arith, is, x.above)) e.lost before.lost.told;
        below = all_follow (λ (y : Lost). y.session ≤ e.told) (λ (y : Lost). y.session < session) (λ y is. omega (arith, is, x.above)) e.lost before.lost.told;
      };
      asks = tt;
    })

    welcome_waits : (w : Down) → WelcomeTold w d now e (begun (app_state m app)) (made state outs) → EndWaits (end_at state d)
    welcome_waits (Welcome session epoch kept front taken) (inl x) = met_waits session epoch front x
    welcome_waits (Welcome session epoch kept front taken) (inr x) =
        named_waits e (end_at state d) (learnt_named d session epoch kept front (begun (app_state m app)) (made state outs) x) before
    welcome_waits (Reset session at) x = absurd x
    welcome_waits (Block front block) x = absurd x
    welcome_waits (Drop front lo hi) x = absurd x
    welcome_waits (Ack front) x = absurd x
    welcome_waits (Grant front ticket at) x = absurd x
    welcome_waits (Answer front about job number at sum) x = absurd x
    welcome_waits (Normal front) x = absurd x
    welcome_waits Bare x = absurd x

    either_waits : StaysOrLoses e (end_at state d) → EndWaits (end_at state d)
    either_waits (inl x) = named_waits e (end_at state d) (end_named e (end_at state d) x) before
    either_waits (inr x) = loses_waits e (end_at state d) low x before

    frame_waits : (frame : DownFrame) → FrameAsks frame.message d now frame (begun (app_state m app)) (made state outs) → EndWaits (end_at state d)
    frame_waits frame (inl x) = either_waits x
    frame_waits frame (inr (inl x)) = named_waits e (end_at state d) (taken_named frame.message d now frame (begun (app_state m app)) (made state outs) x) before
    frame_waits frame (inr (inr x)) = welcome_waits frame.message x

    frame_at : (k : ℕ) (frame : DownFrame) → d ≡ k → FrameAsks frame.message k now frame (begun (app_state m app)) (made state outs) → EndWaits (end_at state d)
    frame_at k frame same x =
        frame_waits frame (subst (λ (n : ℕ). FrameAsks frame.message n now frame (begun (app_state m app)) (made state outs)) (sym same) x)

    input_waits : (input : AppIn) → InputAsks input d now (begun (app_state m app)) (made state outs) → EndWaits (end_at state d)
    input_waits (app_in.Frame k frame) (inl x) = either_waits (inl x)
    input_waits (app_in.Frame k frame) (inr x) = frame_at k frame x.0 x.1
    input_waits (app_in.Connected k) x = either_waits (inl x)
    input_waits (app_in.NoWay k fails_before fails_after) (inl x) = either_waits (inl x)
    input_waits (app_in.NoWay k fails_before fails_after) (inr x) = fails_waits e (end_at state d) apart x before
    input_waits (app_in.Broken k) x = either_waits (inl x)
    input_waits (app_in.Join k) x = either_waits (inl x)
    input_waits app_in.Tick x = either_waits x

-- Each input of an application server.
pub commands_kept_by_app : (l : Layout) (c : CoresState) (m : Machine) (app now : ℕ) (input : AppIn) (outs : MoveOuts) (written : List Act) (new : Machine)
    → Holds l m → IsRun l m.trail → Mirrors c m → Allowed c (App app now input) → AppGoes m app now input outs written new → CommandsHold new
commands_kept_by_app l c m app now input outs written new h run shows allowed goes = subst CommandsHold (sym goes.after) (record {
  index = h.commands.index;
  lost = λ i d lives. at_app (λ k e. m.is_dead_at k ≡ false → LostIs e) d (λ is. (own d).lost) (λ k other is. h.commands.lost k d is) i lives;
  asks =
      λ i d lives.
      at_app
      (λ k e. m.is_dead_at k ≡ false
      → IfSome e.session (λ s. AllByRecursion (λ x. WaitsFor k d s.number e x (app_of_job m.layout x.job) (m.begun_at x.job) (m.job_at x.job)) s.asks))
      d (λ is. (own d).asks) (λ k other is. h.commands.asks k d is) i lives;
})
  where
    a : AppState
    a = app_state m app

    alive : m.is_dead_at app ≡ false
    alive = sym (shows.dead app) ∙ allowed.alive

    has : (d : ℕ) → LineHas (end_at a d).line (end_at a d).session
    has d =
        subst (λ (e : AppEnd). LineHas e.line e.session) (sym (app_ends c m app d shows allowed.known))
        (line_has (((state_after l m.trail).server_at d).pair_at app) (end_state m app d) ((h.sites d).ends.tables app alive))

    own : (d : ℕ) → EndWaits m app d (end_at goes.state d)
    own d =
        input_waits m app d c l now h shows allowed.known alive goes.state goes.app_outs input
        (input_asks input d now (begun a) (made goes.state goes.app_outs) (app_may c m app input shows allowed.known allowed.may)
        (steps_at_one_end a goes.state now input goes.app_outs goes.steps).1 has goes.steps)

    at_app : (P : ℕ → AppEnd → Type 0) (d : ℕ) → P app (end_at goes.state d) → ((i : ℕ) → i ≢ app → P i (end_state m i d)) → (i : ℕ)
        → P i ((input_site app input goes.app_outs goes.state goes.shown d (m.site_at d)).end_at i).state
    at_app P d here others i =
        subst (λ (f : ℕ → End). P i (f i).state) (sym (site_ends app d goes.app_outs e.state (end_at goes.state d) (message_from d input) moved (m.site_at d)))
        (at_places (λ (k : ℕ) (y : End). P k y.state) (m.site_at d).end_at app moved
        (subst (P app)
        (sym (end_has_state d goes.app_outs e.state (end_at goes.state d) (goes.shown d) (message_from d input) (app_takes d input e.state.dial e))) here) others i)
      where
        e : End
        e = (m.site_at d).end_at app

        moved : End
        moved = app_end d goes.app_outs e.state (end_at goes.state d) (goes.shown d) (message_from d input) (app_takes d input e.state.dial e)
