-- What each session is given in a step of a data server: Normal at most once, and a Block for each Fetch.
use Rattle.std.proofs.Common.{◌≡◌, ◌≤◌, ◌<◌, inl, inr, ℕ, true, false, not, List, [], ◌∷◌, ◌++◌, ◌+◌, length, drop, Option, Some, None, is_some, refl, sym, ◌∙◌, ap, subst, arith}
use Rattle.std.specs.Prelude.{IfSome}
use Rattle.std.specs.List.{list_any}
use Rattle.std.proofs.lemmas.Bool.{false≢true, ltb-true, true≢false}
use Rattle.plain_orders.specs.declared.act.Act.{Act}
use Rattle.plain_orders.specs.declared.layout.Layout.{Layout}
use Rattle.plain_orders.specs.Entries.{live, live_session}
use Rattle.plain_orders.proofs.LiveSessions.{ordered_one_live}
use Rattle.plain_runs.specs.Plain.{Server}
use Rattle.plain_runs.specs.Run.{IsRun, state_after}
use Rattle.ecp_messages.specs.declared.down.Down.{Down}
use Rattle.ecp_messages.specs.declared.up.Up.{Up}
use Rattle.ecp_messages.specs.declared.up.UpFrame.{UpFrame}
use Rattle.recovery_round.specs.RoundWords.{Round}
use Rattle.data_rules.specs.DataState.{DataState}
use Rattle.data_rules.specs.Places.{epoch_place}
use Rattle.data_rules.specs.declared.data_in.DataIn.{DataIn}
use Rattle.data_rules.specs.declared.data_in.DataIn.TheVariants as data_in
use Rattle.data_rules.specs.Puts.{Sofar, begun, window_of, head_of}
use Rattle.data_rules.specs.Step.{DataStep, made}
use Rattle.cluster_runs.specs.declared.move_outs.MoveOuts.{MoveOuts}
use Rattle.cluster_runs.specs.CoresState.{CoresState}
use Rattle.cluster_runs.specs.declared.moves.Move.TheVariants.{Server as ServerMove}
use Rattle.cluster_runs.specs.Goes.{ServerGoes, server_site}
use Rattle.cluster_runs.specs.Machine.{Machine, Site}
use Rattle.cluster_runs.specs.Mirrors.{Mirrors}
use Rattle.cluster_runs.specs.Moves.{Allowed}
use Rattle.cluster_runs.specs.Sent.{Lane, ups_taken}
use Rattle.cluster_invariant.specs.Holds.{Holds, SiteHolds}
use Rattle.cluster_invariant.specs.Link.{LaneCounts, NodeLink}
use Rattle.cluster_invariant.specs.Rounds.{RoundGoes, is_fetch}
use Rattle.cluster_invariant.specs.Words.{is_normal_down, is_opened_in}
use Rattle.cluster_invariant.proofs.PieceKinds.{Piece, makes}
use Rattle.cluster_invariant.proofs.PieceMay.{Coming, PutsNormalMay, TakesMay, begins}
use Rattle.cluster_invariant.proofs.Pieces.{MayMake}
use Rattle.cluster_invariant.proofs.PiecesOfSteps.{StepFrom, synced_state}
use Rattle.cluster_invariant.proofs.Small.{of_some}
use Rattle.data_ends_kept.proofs.NodeEndsServer as ends
use Rattle.data_pieces.proofs.RoundOn.{ends_round}
use Rattle.link_kept.proofs.FitsWell.{may_close}
use Rattle.link_kept.proofs.FramesFit.{FrameAt, taken_next}
use Rattle.link_kept.proofs.ServesServer.{ServesAfter}
use Rattle.link_nodes.proofs.ServedSteps.{AsksLeft, served_by_step}
use Rattle.link_nodes.proofs.ServedSteps as serving
use Rattle.link_nodes.proofs.ServedNow as now_served
use Rattle.rounds_server.proofs.Gave.{GaveTo, gave_first, gave_follows}
use Rattle.rounds_server.proofs.GavePieces.{Keeps, gave_piece}
use Rattle.rounds_server.proofs.GivenTests.{BlocksAnswer, NoNormal, NoneIf, OneNormal, blocks_plain, none_if_plain, none_makes_one, none_plain, normal_no_block, taken_no_fetch}
use Rattle.rounds_server.proofs.MessageKinds.{KindIs, kind_is}
use Rattle.rounds_server.proofs.RoundStays.{is_on, round_stays}
use Rattle.rounds_server.proofs.StepGiven.{NormalsGiven, done_step, fetch_step, saved_step}
use Rattle.ecp_messages.specs.declared.down.Down.TheVariants as down
use Rattle.cluster_runs.specs.Written.{count_of}
use Rattle.cluster_runs.specs.WireDrops.{is_block}
use Rattle.cluster_invariant.specs.Ends.{is_done}
use Rattle.rounds_server.proofs.Counted.{none_pushed}
use Rattle.std.proofs.lemmas.List.{append-nil}

module _ (l : Layout) (c : CoresState) (m : Machine) (server now : ℕ) (input : DataIn) (outs : MoveOuts) (written : List Act) (new : Machine) (h : Holds l m)
    (run : IsRun l m.trail) (shows : Mirrors c m) (allowed : Allowed c (ServerMove server now input))
    (goes : ServerGoes m server now input outs written new) where
  abbrev x : Site
  x = m.site_at server

  abbrev v : Server
  v = (state_after l m.trail).server_at server

  abbrev old : DataState
  old = goes.node

  abbrev next : DataState
  next = goes.state

  abbrev y : Site
  y = server_site old now input goes.data_outs next x

  abbrev t : Coming
  t = record { old = goes.node; now = now; input = input }

  abbrev lane_of : ℕ → Lane
  lane_of s = x.lane_at s x.past

  abbrev Known : Sofar → Type 0
  Known b = serving.Known l c m server now input outs written new h run shows allowed goes b

  its : SiteHolds l server m.is_dead_at v x
  its = h.sites server

  counts : (s : ℕ) → LaneCounts (lane_of s)
  counts s = its.link.lanes s x.past

  node : NodeLink v x m.is_dead_at old
  node = ends.link l c m server now input outs written new h run shows allowed goes

  from : StepFrom old
  from = ends.from l c m server now input outs written new h run shows allowed goes

  at_frame : FrameAt x m.is_dead_at old input
  at_frame = ends.at_frame l c m server now input outs written new h run shows allowed goes

  left : AsksLeft lane_of t
  left = now_served.left l c m server now input outs written new h run shows allowed goes

  pub served : ServesAfter old next x y (may_close input)
  served = (served_by_step l c m server now input outs written new h run shows allowed goes left (λ b. Unit {0}) (λ p b is well known g. tt) tt).0

  pub known_end : Known (made next goes.data_outs)
  known_end = (served_by_step l c m server now input outs written new h run shows allowed goes left (λ b. Unit {0}) (λ p b is well known g. tt) tt).1.0

  -- where the step begins nothing is given

  begins_gave : (s : ℕ) (T : List Down → ℕ → Type 0) (i : DataIn) → GaveTo (lane_of s) s T old
      → GaveTo (lane_of s) s T (begins (record { old = old; now = now; input = i })).state
  begins_gave s T (data_in.Frame conn f) g = g
  begins_gave s T (data_in.Connected conn) g = g
  begins_gave s T (data_in.Broken conn) g = g
  begins_gave s T data_in.Tick g = g
  begins_gave s T (data_in.Saved upto) g = subst (λ (d : DataState). GaveTo (lane_of s) s T d) (sym (synced_state upto (begun old))) g

  was_given : (s : ℕ) (T : List Down → ℕ → Type 0) → T [] (lane_of s).up_taken → GaveTo (lane_of s) s T old
  was_given s T start lives =
      gave_first (lane_of s) T (window_of old s) (lane_of s).down_taken (lane_of s).up_taken (node.windows.each s lives) (counts s).down_taken start

  -- What each small change keeps of a session holds after the step.
  given : (s : ℕ) (T : List Down → ℕ → Type 0) (E : Sofar → Type 0) → ((p : Piece) (b : Sofar) → MayMake t p b → Known b → E b → E (makes now p b))
      → E (begins t) → Keeps lane_of t s T E
      → T [] (lane_of s).up_taken → GaveTo (lane_of s) s T next
  given s T E stays first keeps start = go both
    where
      G : Sofar → Type 0
      G b = E b × GaveTo (lane_of s) s T b.state

      both : ServesAfter old next x y (may_close input) × (Known (made next goes.data_outs) × G (made next goes.data_outs))
      both =
          served_by_step l c m server now input outs written new h run shows allowed goes left G
          (λ p b is well known g. (stays p b is known g.0, gave_piece lane_of t s T (counts s) E keeps p b is well g.0 g.1))
          (first, begins_gave s T input (was_given s T start))

      go : {A K : Type 0} → A × (K × G (made next goes.data_outs)) → GaveTo (lane_of s) s T next
      go all = all.1.1.1

  -- rounds

  -- a round that is on told no session of its end, and its live sessions were there before
  pub goes_on : is_some old.round ≡ true → RoundGoes x old
  goes_on on = go old.round (of_some (λ (n : DataState). IfSome n.round (λ r. RoundGoes x n)) x.node old goes.runs its.rounds.node) on
    where
      go : (o : Option Round) → IfSome o (λ r. RoundGoes x old) → is_some o ≡ true → RoundGoes x old
      go None is some = absurd (false≢true some)
      go (Some r) is some = is

  pub was_live : (app s : ℕ) → live_session old.order app ≡ Some s → live old.order s ≡ true
  was_live app s has = (ordered_one_live old.order from.ordered).lives app s has

  -- Normal isn't put to a session that was opened in this order
  pub opened_given : (s : ℕ) → GaveTo (lane_of s) s (NoneIf (is_opened_in old.order s)) next
  opened_given s =
      given s (NoneIf (is_opened_in old.order s)) (λ b. Unit {0}) (λ p b is known e. tt) tt
      (record {
        plain = none_if_plain (is_opened_in old.order s);
        normal = λ app q b same e put ms n none opened. absurd (before app q b same put opened);
        block = λ q run bytes b same e fetches ms n none opened. none_pushed is_normal_down ms (down.Block (head_of b.state q) bytes) (none opened) refl;
        taken = λ conn q f b same e takes ms none. none;
        new = λ unlearnt opened. refl;
      }) (λ opened. refl)
    where
      before : (app q : ℕ) (b : Sofar) → s ≡ q → PutsNormalMay t app q b → is_opened_in old.order s ≡ true → ⊥
      before app q b same put opened =
          absurd (omega (arith, same, (goes_on put.in_round).before q (was_live app q put.was), ltb-true (epoch_place old.order) s opened))

  -- Where a step ends no round, it puts none.
  quiet_given : (s : ℕ) → ends_round input ≡ false → GaveTo (lane_of s) s NoNormal next
  quiet_given s quiet =
      given s NoNormal StaysOn
      (λ p b is known e on. round_stays t p b is (known.along.ends.on quiet).over ∙ e on) (λ on. begins_on input ∙ on)
      (record {
        plain = none_plain;
        normal = λ app q b same e put ms n none. absurd (false≢true (sym (ap (λ (o : Option Round). is_some o) put.over) ∙ e put.in_round));
        block = λ q run bytes b same e fetches ms n none. none_pushed is_normal_down ms (down.Block (head_of b.state q) bytes) none refl;
        taken = λ conn q f b same e takes ms none. none;
        new = λ unlearnt. refl;
      }) refl
    where
      StaysOn : Sofar → Type 0
      StaysOn b = is_some old.round ≡ true → is_on b ≡ true

      begins_on : (i : DataIn) → is_on (begins (record { old = old; now = now; input = i })) ≡ is_some old.round
      begins_on (data_in.Frame conn f) = refl
      begins_on (data_in.Connected conn) = refl
      begins_on (data_in.Broken conn) = refl
      begins_on data_in.Tick = refl
      begins_on (data_in.Saved upto) = ap (λ (d : DataState). is_some d.round) (synced_state upto (begun old))

  -- Nor does it where none was on.
  none_given : (s : ℕ) → old.round ≡ None → GaveTo (lane_of s) s NoNormal next
  none_given s none =
      given s NoNormal (λ b. Unit {0}) (λ p b is known e. tt) tt
      (record {
        plain = none_plain;
        normal = λ app q b same e put ms n before. absurd (false≢true (sym (ap (λ (o : Option Round). is_some o) none) ∙ put.in_round));
        block = λ q run bytes b same e fetches ms n before. none_pushed is_normal_down ms (down.Block (head_of b.state q) bytes) before refl;
        taken = λ conn q f b same e takes ms before. before;
        new = λ unlearnt. refl;
      }) refl

  -- a session to come was put nothing
  to_come : (s : ℕ) → length old.order < s → (lane_of s).down ≡ []
  to_come s above = (counts s).no_down (serving.to_open l c m server now input outs written new h run shows allowed goes s above)

  -- So it is put at most once.
  pub normals_given : (s : ℕ) → count_of is_normal_down (lane_of s).down ≤ 1 → NormalsGiven (lane_of s) s next
  normals_given s low = by_round old.round refl
    where
      from_none : GaveTo (lane_of s) s NoNormal next → NormalsGiven (lane_of s) s next
      from_none g = record { once = gave_follows (lane_of s) s NoNormal (OneNormal (lane_of s)) next (none_makes_one (lane_of s) low) g; in_round = λ on. g }

      by_kind : (conn : ℕ) (f : UpFrame) → input ≡ data_in.Frame conn f → DataStep old now (data_in.Frame conn f) goes.data_outs next
          → list_any is_normal_down (lane_of s).down ≡ false
          → KindIs f.message → NormalsGiven (lane_of s) s next
      by_kind conn f came steps untold (inl done) =
          done_step x m.is_dead_at old now goes.data_outs next from.ordered s (counts s) (to_come s) untold conn f
          (subst (λ (i : DataIn). FrameAt x m.is_dead_at old i) came at_frame) done steps
          (was_given s NoNormal refl)
      by_kind conn f came steps untold (inr (inl fetch)) = from_none (quiet_given s (ap ends_round came ∙ ap is_done fetch.1))
      by_kind conn f came steps untold (inr (inr other)) = from_none (quiet_given s (ap ends_round came ∙ other.done))

      by_input : (i : DataIn) → input ≡ i → DataStep old now i goes.data_outs next → list_any is_normal_down (lane_of s).down ≡ false
          → NormalsGiven (lane_of s) s next
      by_input (data_in.Frame conn f) came steps untold = by_kind conn f came steps untold (kind_is f.message)
      by_input (data_in.Connected conn) came steps untold = from_none (quiet_given s (ap ends_round came))
      by_input (data_in.Broken conn) came steps untold = from_none (quiet_given s (ap ends_round came))
      by_input data_in.Tick came steps untold = from_none (quiet_given s (ap ends_round came))
      by_input (data_in.Saved upto) came steps untold =
          saved_step x m.is_dead_at old now goes.data_outs next from.ordered s (counts s) (to_come s) untold upto steps (was_given s NoNormal refl)

      by_round : (o : Option Round) → old.round ≡ o → NormalsGiven (lane_of s) s next
      by_round None none = from_none (none_given s none)
      by_round (Some r) on = by_input input refl goes.steps ((goes_on (ap (λ (o : Option Round). is_some o) on)).untold s)

  -- Blocks

  -- where no Fetch comes
  no_fetch_given : (s : ℕ) → ((conn : ℕ) (f : UpFrame) → input ≡ data_in.Frame conn f → is_fetch f.message ≡ false)
      → BlocksAnswer (lane_of s) [] (lane_of s).up_taken
      → GaveTo (lane_of s) s (BlocksAnswer (lane_of s)) next
  no_fetch_given s no_fetch start =
      given s (BlocksAnswer (lane_of s)) (λ b. Unit {0}) (λ p b is known e. tt) tt
      (record {
        plain = blocks_plain (lane_of s);
        normal = λ app q b same e put ms n answer. normal_no_block (lane_of s) (head_of b.state q) ms n answer;
        block =
            λ q run bytes b same e fetches ms n answer.
            absurd (true≢false (sym (ap is_fetch fetches.says) ∙ no_fetch fetches.its.conn fetches.its.up fetches.its.on.came));
        taken = λ conn q f b same e takes ms answer. took conn q f b same takes ms answer;
        new = λ unlearnt. ap (λ (ms : List Down). count_of is_block (ms ++ [])) ((counts s).no_down unlearnt);
      }) start
    where
      took : (conn q : ℕ) (f : UpFrame) (b : Sofar) → s ≡ q → TakesMay t conn q f b → (ms : List Down) → BlocksAnswer (lane_of s) ms (window_of b.state q).taken
          → BlocksAnswer (lane_of s) ms ((window_of b.state q).taken + 1)
      took conn q f b same takes ms answer = go (taken_next x m.is_dead_at t at_frame conn q f b takes)
        where
          go : (rest : List Up) × (drop (window_of b.state q).taken (lane_of q).up ≡ f.message ∷ rest)
              → BlocksAnswer (lane_of s) ms ((window_of b.state q).taken + 1)
          go is =
              taken_no_fetch (lane_of s) ms (window_of b.state q).taken f.message is.0
              (ap (λ (k : ℕ). drop (window_of b.state q).taken (lane_of k).up) same ∙ is.1)
              (no_fetch conn f takes.on.came) answer

  -- Each Block answers a Fetch that was taken.
  pub blocks_given : (s : ℕ) → count_of is_block (lane_of s).down ≡ count_of is_fetch (ups_taken (lane_of s))
      → GaveTo (lane_of s) s (BlocksAnswer (lane_of s)) next
  blocks_given s before = by_input input refl goes.steps
    where
      start : BlocksAnswer (lane_of s) [] (lane_of s).up_taken
      start = ap (count_of is_block) (append-nil (lane_of s).down) ∙ before

      frame_is : (a b : ℕ) (f g : UpFrame) → data_in.Frame a f ≡ data_in.Frame b g → f ≡ g
      frame_is a b f g same = cc

      no_frame : (i : DataIn) → input ≡ i → ((conn : ℕ) (f : UpFrame) → i ≡ data_in.Frame conn f → ⊥) → GaveTo (lane_of s) s (BlocksAnswer (lane_of s)) next
      no_frame i is not = no_fetch_given s (λ conn f came. absurd (not conn f (sym is ∙ came))) start

      by_kind : (conn : ℕ) (f : UpFrame) → input ≡ data_in.Frame conn f → DataStep old now (data_in.Frame conn f) goes.data_outs next → KindIs f.message
          → GaveTo (lane_of s) s (BlocksAnswer (lane_of s)) next
      by_kind conn f came steps (inl done) =
          no_fetch_given s (λ a g is. ap (λ (z : UpFrame). is_fetch z.message) (frame_is a conn g f (sym is ∙ came)) ∙ ap is_fetch done) start
      by_kind conn f came steps (inr (inl fetch)) =
          fetch_step x m.is_dead_at old now goes.data_outs next from.ordered s (counts s) (to_come s) conn f fetch.0
          (subst (λ (i : DataIn). FrameAt x m.is_dead_at old i) came at_frame) fetch.1 steps
          (was_given s (BlocksAnswer (lane_of s)) start)
      by_kind conn f came steps (inr (inr other)) =
          no_fetch_given s (λ a g is. ap (λ (z : UpFrame). is_fetch z.message) (frame_is a conn g f (sym is ∙ came)) ∙ other.fetch) start

      by_input : (i : DataIn) → input ≡ i → DataStep old now i goes.data_outs next → GaveTo (lane_of s) s (BlocksAnswer (lane_of s)) next
      by_input (data_in.Frame conn f) came steps = by_kind conn f came steps (kind_is f.message)
      by_input (data_in.Connected conn) is steps = no_frame (data_in.Connected conn) is (λ a f other. absurd cc)
      by_input (data_in.Broken conn) is steps = no_frame (data_in.Broken conn) is (λ a f other. absurd cc)
      by_input data_in.Tick is steps = no_frame data_in.Tick is (λ a f other. absurd cc)
      by_input (data_in.Saved upto) is steps = no_frame (data_in.Saved upto) is (λ a f other. absurd cc)
