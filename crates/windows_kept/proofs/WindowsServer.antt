-- The windows of live sessions that were told, over each step of a data server.
use Rattle.std.proofs.Common.{◌≡◌, ℕ, Bool, true, false, ◌||◌, List, [], ◌∷◌, Option, refl, sym, ◌∙◌, ap, subst}
use Rattle.std.specs.Prelude.{IfSome, nat_lt}
use Rattle.std.specs.List.{AllByRecursion, list_all, list_any}
use Rattle.std.proofs.lemmas.Bool.{and_parts, false≢true, true≢false}
use Rattle.plain_orders.specs.declared.act.Act.{Act}
use Rattle.plain_orders.specs.declared.layout.Layout.{Layout}
use Rattle.plain_orders.specs.Entries.{live}
use Rattle.plain_runs.specs.Plain.{Server}
use Rattle.plain_runs.specs.Run.{IsRun, state_after}
use Rattle.ecp_messages.specs.declared.down.Down.{Down}
use Rattle.ecp_messages.specs.declared.down.Down.TheVariants.{Welcome, Reset, Block, Drop, Ack, Grant, Answer, Normal, Bare}
use Rattle.end_words.specs.Windows.{Window, fresh}
use Rattle.data_rules.specs.DataState.{DataState}
use Rattle.data_rules.specs.declared.data_in.DataIn.{DataIn}
use Rattle.data_rules.specs.declared.data_in.DataIn.TheVariants as data_in
use Rattle.data_rules.specs.Puts.{Sofar, begun, window_in, window_of}
use Rattle.data_rules.specs.Saving.{writes_synced}
use Rattle.data_rules.specs.Step.{made}
use Rattle.cluster_runs.specs.declared.move_outs.MoveOuts.{MoveOuts}
use Rattle.cluster_runs.specs.declared.moves.Move.TheVariants.{Server as ServerMove}
use Rattle.cluster_runs.specs.CoresState.{CoresState}
use Rattle.cluster_runs.specs.Connections.{hears_downs}
use Rattle.cluster_runs.specs.Goes.{ServerGoes, server_site, server_takes, with_node}
use Rattle.cluster_runs.specs.Machine.{Machine, Site}
use Rattle.cluster_runs.specs.Mirrors.{Mirrors}
use Rattle.cluster_runs.specs.Moves.{Allowed}
use Rattle.cluster_invariant.specs.Holds.{Holds, SiteHolds}
use Rattle.cluster_invariant.specs.Link.{LaneCounts, NodeWindows, is_numbered_down, is_window_of}
use Rattle.cluster_invariant.specs.Windows.{WindowsAre}
use Rattle.cluster_invariant.proofs.OrderKept.{step_site}
use Rattle.cluster_invariant.proofs.OrderMoves.{server_wrote}
use Rattle.cluster_invariant.proofs.PieceMay.{Coming, begins, synced_to}
use Rattle.cluster_invariant.proofs.Pieces.{kept_by_pieces}
use Rattle.cluster_invariant.proofs.PiecesOfSteps.{step_pieces, synced_state}
use Rattle.cluster_invariant.proofs.SiteMoves.{kept_at_one}
use Rattle.cluster_invariant.proofs.Small.{of_some, some_kept}
use Rattle.data_ends_kept.proofs.NodeEndsServer as served
use Rattle.link_kept.proofs.WindowLists.{none_there}
use Rattle.asks_kept.proofs.AsksGo.{none_fewer}
use Rattle.asks_kept.proofs.FewerGrants.{any_dropped}
use Rattle.windows_kept.specs.Laws.{EachHasWindows}
use Rattle.windows_kept.proofs.PlacesHave.{CarriedIn, EndsIn, PlaceIn, hears_have, leaves_have, takes_have}
use Rattle.windows_kept.proofs.WelcomesGo.{FrameHas, HasWindow, is_welcome, welcome_in}
use Rattle.windows_kept.proofs.WelcomesPieces.{Wins, wins_piece, wins_same}

-- a part of the invariant
abbrev pub WindowsPart : (ℕ → Bool) → ℕ → Server → Site → Type 0
WindowsPart dead d v x = WindowsAre x

-- no Welcome has a number
numbered_none : (m : Down) → is_numbered_down m ≡ true → is_welcome m ≡ false
numbered_none (Welcome session epoch kept front taken) is = absurd (false≢true is)
numbered_none (Reset session at) is = refl
numbered_none (Block front block) is = refl
numbered_none (Drop front lo hi) is = refl
numbered_none (Ack front) is = refl
numbered_none (Grant front ticket at) is = refl
numbered_none (Answer front about job number at sum) is = refl
numbered_none (Normal front) is = refl
numbered_none Bare is = refl

none_among : (ms : List Down) → list_all is_numbered_down ms ≡ true → list_any is_welcome ms ≡ false
none_among [] all = refl
none_among (m ∷ ms) all =
    let parts : (is_numbered_down m ≡ true) × (list_all is_numbered_down ms ≡ true) = and_parts (is_numbered_down m) (list_all is_numbered_down ms) all in
    ap (λ (b : Bool). b || list_any is_welcome ms) (numbered_none m parts.0) ∙ none_among ms parts.1

-- What holds where a step has come to, of what held as it began.
record WinsOn (old : DataState) (b : Sofar) : Type 0 where
  pub none : (s : ℕ) → welcome_in b.state.windows s ≡ false
  pub frames : AllByRecursion (FrameHas b.state) b.outs.frames
  pub has : (s : ℕ) → HasWindow old s → HasWindow b.state s

wins_on : (old : DataState) (b c : Sofar) → Wins b c → WinsOn old b → WinsOn old c
wins_on old b c w h = record {
  none = λ s. none_fewer (welcome_in c.state.windows s) (welcome_in b.state.windows s) (w.waiting s) (h.none s);
  frames = w.frames h.frames;
  has = λ s is. w.has s (h.has s is);
}

-- as a step begins
begins_wins : (t : Coming) → Wins (begun t.old) (begins t)
begins_wins t = go t.input
  where
    frames : (upto : ℕ) → (synced_to upto (begun t.old)).outs.frames ≡ []
    frames upto = by (nat_lt t.old.synced upto)
      where
        by : (rises : Bool) → (writes_synced rises upto (begun t.old)).outs.frames ≡ []
        by true = refl
        by false = refl

    go : (i : DataIn) → Wins (begun t.old) (begins (record { old = t.old; now = t.now; input = i }))
    go (data_in.Frame conn f) = wins_same (begun t.old) _ refl refl refl
    go (data_in.Connected conn) = wins_same (begun t.old) _ refl refl refl
    go (data_in.Broken conn) = wins_same (begun t.old) _ refl refl refl
    go data_in.Tick = wins_same (begun t.old) _ refl refl refl
    go (data_in.Saved upto) =
        wins_same (begun t.old) _ (ap (λ (d : DataState). d.order) (synced_state upto (begun t.old))) (ap (λ (d : DataState). d.windows) (synced_state upto (begun t.old)))
        (frames upto)

-- no Welcome waits in a window of a node
none_waits : (x : Site) (old : DataState) → NodeWindows x old → ((s k : ℕ) → LaneCounts (x.lane_at s k)) → (s : ℕ) → welcome_in old.windows s ≡ false
none_waits x old windows counts s = go (live old.order s) refl
  where
    unlived : (b : Bool) → list_any (is_window_of s) old.windows ≡ b → live old.order s ≡ false → window_in old.windows s ≡ fresh
    unlived true there gone = absurd (true≢false (sym (windows.lives s there) ∙ gone))
    unlived false there gone = none_there old.windows s there

    go : (b : Bool) → live old.order s ≡ b → welcome_in old.windows s ≡ false
    go true lives =
        none_fewer (welcome_in old.windows s) (list_any is_welcome (x.lane_at s x.past).down)
        (λ is. any_dropped is_welcome (window_of old s).acked (x.lane_at s x.past).down (sym (ap (list_any is_welcome) (windows.each s lives).waiting) ∙ is))
        (none_among (x.lane_at s x.past).down (counts s x.past).downs)
    go false gone = ap (λ (w : Window Down). list_any is_welcome w.waiting) (unlived (list_any (is_window_of s) old.windows) refl gone)

-- Each step of a data server keeps them.
pub windows_kept_by_server : (l : Layout) (c : CoresState) (m : Machine) (server now : ℕ) (input : DataIn) (outs : MoveOuts) (written : List Act) (new : Machine)
    → Holds l m → IsRun l m.trail → Mirrors c m → Allowed c (ServerMove server now input) → ServerGoes m server now input outs written new → EachHasWindows new
windows_kept_by_server l c m server now input outs written new h run shows allowed goes =
    kept_at_one WindowsPart l m new server (server_site goes.node now input goes.data_outs goes.state) written (λ d. (h.sites d).windows) goes.after
    (server_wrote l c m server now input outs written new h run shows allowed goes).others here
  where
    x : Site
    x = m.site_at server

    y : Site
    y = server_site goes.node now input goes.data_outs goes.state x

    t : Coming
    t = record { old = goes.node; now = now; input = input }

    its : SiteHolds l server m.is_dead_at ((state_after l m.trail).server_at server) x
    its = h.sites server

    wins : WinsOn goes.node (made goes.state goes.data_outs)
    wins =
        kept_by_pieces t (WinsOn goes.node) (λ p b may on. wins_on goes.node b _ (wins_piece t p b on.none may) on) (begins t) (made goes.state goes.data_outs)
        (step_pieces goes.node now input goes.data_outs goes.state (served.from l c m server now input outs written new h run shows allowed goes)
        (served.may l c m server now input outs written new h run shows allowed goes) goes.steps)
        (wins_on goes.node (begun goes.node) (begins t) (begins_wins t) (record {
          none = none_waits x goes.node (served.link l c m server now input outs written new h run shows allowed goes).windows its.link.lanes;
          frames = tt;
          has = λ s is. is;
        }))

    -- what connections carried
    before : EndsIn x.past goes.state x.end_at
    before a k =
        some_kept (CarriedIn x.past goes.node) (CarriedIn x.past goes.state)
        (λ q was. some_kept (PlaceIn x.past goes.node) (PlaceIn x.past goes.state) (λ p has same. wins.has p.session (has same)) q.its was)
        ((x.end_at a).connection_at k) (of_some (λ (n : DataState). EndsIn x.past n x.end_at) x.node goes.node goes.runs its.windows a k)

    -- and carry
    ends : EndsIn x.past goes.state y.end_at
    ends =
        leaves_have x.past goes.state goes.data_outs.cuts (hears_downs goes.data_outs.frames (with_node now goes.state (server_takes input x)))
        (hears_have x.past goes.state goes.data_outs.frames (with_node now goes.state (server_takes input x)) (past input) wins.frames
        (takes_have x.past goes.state input x before))
      where
        past : (i : DataIn) → (server_takes i x).past ≡ x.past
        past (data_in.Frame conn f) = refl
        past (data_in.Connected conn) = refl
        past (data_in.Broken conn) = refl
        past data_in.Tick = refl
        past (data_in.Saved upto) = refl

    here : WindowsAre y
    here =
        subst (λ (o : Option DataState). IfSome o (λ n. EndsIn y.past n y.end_at)) (sym (step_site goes.node now input goes.data_outs goes.state x).node)
        (subst (λ (k : ℕ). EndsIn k goes.state y.end_at) (sym (step_site goes.node now input goes.data_outs goes.state x).past) ends)
