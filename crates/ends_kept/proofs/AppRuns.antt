-- The acts that an application server's step writes may come in the plain machine, one after the other.
use Rattle.std.proofs.Common.{◌≡◌, ◌⊎◌, ◌<◌, ◌≤◌, ℕ, Bool, true, false, List, [], ◌∷◌, ◌++◌, length, Option, Some, None, option_map, is_some, refl, sym, ◌∙◌, ap, subst, inl, inr}
use Rattle.std.specs.Prelude.{nat_le, unwrap_or}
use Rattle.std.specs.List.{range_with_len}
use Rattle.std.proofs.lemmas.Bool.{false≢true, leb-true}
use Rattle.plain_orders.specs.declared.act.Act.{Act}
use Rattle.plain_orders.specs.declared.act.Act.TheVariants as act
use Rattle.plain_orders.specs.declared.causes.Loss.TheVariants as losses
use Rattle.plain_orders.specs.declared.causes.PairEnd.TheVariants as ends
use Rattle.plain_orders.specs.declared.layout.Layout.{Layout}
use Rattle.plain_orders.specs.declared.layout.Times.{Times}
use Rattle.plain_orders.specs.Times.{until}
use Rattle.plain_runs.specs.Plain.{Plain, Pair, start}
use Rattle.plain_runs.specs.EndRows.{MetMay, ToldMay, LoseResetMay}
use Rattle.plain_runs.specs.Run.{IsRun, RunFrom, after_all, state_after}
use Rattle.plain_runs.specs.Step.{MayCome}
use Rattle.plain_runs.proofs.RunLemmas.{run_joined, after_all-append}
use Rattle.link_states.specs.declared.app_link.AppLink.{AppLink}
use Rattle.link_states.specs.declared.app_link.AppLink.TheVariants.{NotConnected, Normal as NormalLink, Trouble, Recovery}
use Rattle.ecp_messages.specs.declared.down.Down.{Down}
use Rattle.ecp_messages.specs.declared.down.Down.TheVariants.{Welcome, Reset, Block, Drop, Ack, Grant, Answer, Normal, Bare}
use Rattle.ecp_messages.specs.declared.down.DownFrame.{DownFrame}
use Rattle.ecp_messages.specs.declared.front.Front.{Front}
use Rattle.app_rules.specs.declared.app_in.AppIn.{AppIn}
use Rattle.app_rules.specs.declared.app_in.AppIn.TheVariants as app_in
use Rattle.app_rules.specs.declared.line.Line.{Line}
use Rattle.app_rules.specs.declared.line.Line.TheVariants.{Apart, Trying, Greeting, Asking, Joined}
use Rattle.app_rules.specs.AppState.{AppState, AppEnd, Session}
use Rattle.app_rules.specs.AppStep.{AppMay, Makes, made}
use Rattle.app_rules.specs.Losing.{ticks, ticks_from}
use Rattle.app_rules.specs.Works.{Sofar, end_at, begun}
use Rattle.cluster_runs.specs.CoresState.{CoresState}
use Rattle.cluster_runs.specs.declared.move_outs.MoveOuts.{MoveOuts}
use Rattle.cluster_runs.specs.declared.moves.Move.TheVariants.{App}
use Rattle.cluster_runs.specs.Moves.{Allowed, AppTakes}
use Rattle.cluster_runs.specs.Mirrors.{Mirrors}
use Rattle.cluster_runs.specs.Machine.{Machine, app_state, end_state}
use Rattle.cluster_runs.specs.Goes.{AppGoes}
use Rattle.cluster_invariant.specs.Ends.{AppTables, stands, has_session, broke_in, number_of}
use Rattle.cluster_invariant.specs.Holds.{Holds}
use Rattle.cluster_steps.proofs.AppSites.{app_ends}
use Rattle.cluster_steps.proofs.EndSteps.{Here}
use Rattle.cluster_steps.proofs.FrameEnds.{FrameCame, NumberedCame, ended_acts}
use Rattle.cluster_steps.proofs.FrameCases.{frame_came}
use Rattle.cluster_steps.proofs.InputEnds.{ConnectedCame, connected_came, failed_acts, failed_came, broken_came, joined_came, lost_if, ticked_from, ticked_acts, ticked_here, trouble_here}
use Rattle.ends_kept.proofs.PairTables.{line_has}
use Rattle.ends_kept.proofs.TablesKept.{TablesAre, by_tick}
use Rattle.ends_kept.proofs.TablesMoves.{app_may, tables_begin}
use Rattle.ends_kept.proofs.TakenDown.{Taken, taken_down}
use Rattle.ends_kept.proofs.MetTold.{met_may, told_may, reset_may}

-- what the tables say of a pair

has_by : (pair : Pair) (e : AppEnd) → AppTables pair e → (link : AppLink) → e.link ≡ link → has_session link ≡ true → is_some pair.session ≡ true
has_by pair e t link same has = ap is_some t.session ∙ number e.session (sym t.connected ∙ ap has_session same ∙ has)
  where
    number : (o : Option Session) → is_some o ≡ true → is_some (option_map number_of o) ≡ true
    number None h = absurd (false≢true h)
    number (Some s) h = refl

-- a session's end that has a connection isn't broke
whole_link : (link : AppLink) (line : Line) → (line ≡ Asking) ⊎ (line ≡ Joined) → stands link line ≡ true → (has_session link ≡ true) × (is_some (broke_in link) ≡ false)
whole_link NotConnected line (inl is) s = absurd (false≢true (ap (stands NotConnected) (sym is) ∙ s))
whole_link NotConnected line (inr is) s = absurd (false≢true (ap (stands NotConnected) (sym is) ∙ s))
whole_link NormalLink line is s = (refl, refl)
whole_link (Trouble broke try_at) line (inl is) s = absurd (false≢true (ap (stands (Trouble broke try_at)) (sym is) ∙ s))
whole_link (Trouble broke try_at) line (inr is) s = absurd (false≢true (ap (stands (Trouble broke try_at)) (sym is) ∙ s))
whole_link Recovery line is s = (refl, refl)

-- where the plain machine stands as an application server's step goes on: it lives, and the moment is the clock's
pub record Lives (p : Plain) (app now : ℕ) : Type 0 where
  pub alive : p.died_at app ≡ false
  pub clock : now ≡ p.clock

breaks_may : (l : Layout) (p : Plain) (app d now : ℕ) (e : AppEnd) → Lives p app now → AppTables ((p.server_at d).pair_at app) e → (e.line ≡ Asking) ⊎ (e.line ≡ Joined) → MayCome l p (act.Broke app d ends.App now)
breaks_may l p app d now e lives t line = go (whole_link e.link e.line line t.stands)
  where
    go : (has_session e.link ≡ true) × (is_some (broke_in e.link) ≡ false) → MayCome l p (act.Broke app d ends.App now)
    go w = record { alive = lives.alive; now = lives.clock; there = has_by ((p.server_at d).pair_at app) e t e.link refl w.0; fresh = ap is_some t.broke ∙ w.1 }

ended_run : (l : Layout) (p : Plain) (app a d now : ℕ) (e : AppEnd) → a ≡ app → Lives p app now → AppTables ((p.server_at d).pair_at app) e → (line : Line) → e.line ≡ line → RunFrom l p (ended_acts line a d now)
ended_run l p app a d now e its lives t Apart line = tt
ended_run l p app a d now e its lives t Trying line = tt
ended_run l p app a d now e its lives t Greeting line = tt
ended_run l p app a d now e its lives t Asking line = (subst (λ n. MayCome l p (act.Broke n d ends.App now)) (sym its) (breaks_may l p app d now e lives t (inl line)), tt)
ended_run l p app a d now e its lives t Joined line = (subst (λ n. MayCome l p (act.Broke n d ends.App now)) (sym its) (breaks_may l p app d now e lives t (inr line)), tt)

-- What a Welcome or a Reset needs, beside the tables.
pub record FrameMays (l : Layout) (p : Plain) (app d : ℕ) (m : Down) (e : AppEnd) : Type 0 where
  pub met : (session epoch kept taken : ℕ) (front : Front) → m ≡ Welcome session epoch kept front taken → e.line ≡ Greeting → MetMay (p.server_at d) app session
  pub told : (s : Session) (session epoch kept taken : ℕ) (front : Front) → m ≡ Welcome session epoch kept front taken → e.line ≡ Asking → e.session ≡ Some s → s.epoch < epoch → ToldMay (p.server_at d) app session epoch kept
  pub reset : (session at : ℕ) → m ≡ Reset session at → e.link ≡ Recovery → LoseResetMay (p.server_at d) app at

-- the acts so far are a run
abbrev RunIs : Layout → Plain → Sofar → Type 0
RunIs l p b = RunFrom l p b.outs.acts

by_acts : (l : Layout) (p : Plain) (ws : List Act) (b c : Sofar) → RunIs l p b → c.outs.acts ≡ b.outs.acts ++ ws → RunFrom l (after_all l p b.outs.acts) ws → RunIs l p c
by_acts l p ws b c run acts more = subst (λ (xs : List Act). RunFrom l p xs) (sym acts) (run_joined l p b.outs.acts ws run more)

numbered_run : (l : Layout) (p : Plain) (app d now seq ack : ℕ) (m : Down) (f : Front) (b c : Sofar) → RunIs l p b → TablesAre l p app b → Lives (after_all l p b.outs.acts) app now
    → NumberedCame d now seq ack m f (end_at b.state d) b c → RunIs l p c
numbered_run l p app d now seq ack m f b c run t lives (inl x) = by_acts l p [] b c run x.here.acts tt
numbered_run l p app d now seq ack m f b c run t lives (inr (inl x)) = by_acts l p [] b c run x.settles.here.acts tt
numbered_run l p app d now seq ack m f b c run t lives (inr (inr x)) =
    by_acts l p (ended_acts (end_at b.state d).line b.state.app d now) b c run x.acts (ended_run l (after_all l p b.outs.acts) app b.state.app d now (end_at b.state d) t.its lives (t.each d) (end_at b.state d).line refl)

frame_run : (m : Down) (l : Layout) (p : Plain) (app d now : ℕ) (frame : DownFrame) (b c : Sofar) → RunIs l p b → TablesAre l p app b → Lives (after_all l p b.outs.acts) app now
    → FrameMays l (after_all l p b.outs.acts) app d m (end_at b.state d) → FrameCame m d now frame (end_at b.state d) b c → RunIs l p c
frame_run (Welcome session epoch kept front taken) l p app d now frame b c run t lives mays (inl x) =
    by_acts l p (act.Met b.state.app d session ∷ []) b c run x.here.acts
    (subst (λ n. RunFrom l (after_all l p b.outs.acts) (act.Met n d session ∷ [])) (sym t.its) ((lives.alive, mays.met session epoch kept taken front refl x.greeting), tt))
frame_run (Welcome session epoch kept front taken) l p app d now frame b c run t lives mays (inr (inl x)) = by_acts l p [] b c run x.here.acts tt
frame_run (Welcome session epoch kept front taken) l p app d now frame b c run t lives mays (inr (inr (inl x))) =
    by_acts l p (act.Told b.state.app d session epoch kept ∷ []) b c run x.here.acts
    (subst (λ n. RunFrom l (after_all l p b.outs.acts) (act.Told n d session epoch kept ∷ [])) (sym t.its) ((lives.alive, mays.told x.session session epoch kept taken front refl x.asking x.its x.later), tt))
frame_run (Welcome session epoch kept front taken) l p app d now frame b c run t lives mays (inr (inr (inr x))) =
    by_acts l p (ended_acts (end_at b.state d).line b.state.app d now) b c run x.acts (ended_run l (after_all l p b.outs.acts) app b.state.app d now (end_at b.state d) t.its lives (t.each d) (end_at b.state d).line refl)
frame_run (Reset session at) l p app d now frame b c run t lives mays (inl x) =
    by_acts l p (act.Lose b.state.app d (losses.Reset at) ∷ []) b c run x.here.acts
    (subst (λ n. RunFrom l (after_all l p b.outs.acts) (act.Lose n d (losses.Reset at) ∷ [])) (sym t.its) ((lives.alive, mays.reset session at refl x.recovering), tt))
frame_run (Reset session at) l p app d now frame b c run t lives mays (inr x) =
    by_acts l p (ended_acts (end_at b.state d).line b.state.app d now) b c run x.acts (ended_run l (after_all l p b.outs.acts) app b.state.app d now (end_at b.state d) t.its lives (t.each d) (end_at b.state d).line refl)
frame_run (Block front block) l p app d now frame b c run t lives mays x = numbered_run l p app d now frame.seq frame.ack (Block front block) front b c run t lives x
frame_run (Drop front lo hi) l p app d now frame b c run t lives mays x = numbered_run l p app d now frame.seq frame.ack (Drop front lo hi) front b c run t lives x
frame_run (Ack front) l p app d now frame b c run t lives mays x = numbered_run l p app d now frame.seq frame.ack (Ack front) front b c run t lives x
frame_run (Grant front ticket at) l p app d now frame b c run t lives mays x = numbered_run l p app d now frame.seq frame.ack (Grant front ticket at) front b c run t lives x
frame_run (Answer front about job number at sum) l p app d now frame b c run t lives mays x = numbered_run l p app d now frame.seq frame.ack (Answer front about job number at sum) front b c run t lives x
frame_run (Normal front) l p app d now frame b c run t lives mays x = numbered_run l p app d now frame.seq frame.ack (Normal front) front b c run t lives x
frame_run Bare l p app d now frame b c run t lives mays (inl x) = by_acts l p [] b c run x.settles.here.acts tt
frame_run Bare l p app d now frame b c run t lives mays (inr (inl x)) = by_acts l p [] b c run x.acts tt
frame_run Bare l p app d now frame b c run t lives mays (inr (inr x)) =
    by_acts l p (ended_acts (end_at b.state d).line b.state.app d now) b c run x.acts (ended_run l (after_all l p b.outs.acts) app b.state.app d now (end_at b.state d) t.its lives (t.each d) (end_at b.state d).line refl)

-- connections

connected_run : (link : AppLink) (l : Layout) (p : Plain) (app d now : ℕ) (b c : Sofar) → RunIs l p b → TablesAre l p app b → Lives (after_all l p b.outs.acts) app now → (end_at b.state d).link ≡ link → ConnectedCame link d now (end_at b.state d) b c → RunIs l p c
connected_run NotConnected l p app d now b c run t lives same x = by_acts l p [] b c run x.acts tt
connected_run NormalLink l p app d now b c run t lives same x = by_acts l p [] b c run x.acts tt
connected_run (Trouble broke try_at) l p app d now b c run t lives same x =
    by_acts l p (act.Mended b.state.app d ∷ []) b c run x.acts
    (subst (λ n. RunFrom l (after_all l p b.outs.acts) (act.Mended n d ∷ [])) (sym t.its) (record { alive = lives.alive; broken = ap is_some ((t.each d).broke ∙ ap broke_in same) }, tt))
connected_run Recovery l p app d now b c run t lives same x = by_acts l p [] b c run x.acts tt

failed_run : (l : Layout) (p : Plain) (app a d before later now : ℕ) (e : AppEnd) → a ≡ app → before < later → Lives p app now → AppTables ((p.server_at d).pair_at app) e → (link : AppLink) → e.link ≡ link → RunFrom l p (failed_acts link a d before later)
failed_run l p app a d before later now e its rose lives t NotConnected same =
    (subst (λ n. MayCome l p (act.Lose n d (losses.NoWay before later))) (sym its) (lives.alive, record { none = ap is_some t.session ∙ none e.session (sym t.connected ∙ ap has_session same); failed = rose }), tt)
  where
    none : (o : Option Session) → is_some o ≡ false → is_some (option_map number_of o) ≡ false
    none None h = refl
    none (Some s) h = absurd (false≢true (sym h))
failed_run l p app a d before later now e its rose lives t NormalLink same = tt
failed_run l p app a d before later now e its rose lives t (Trouble broke try_at) same = tt
failed_run l p app a d before later now e its rose lives t Recovery same = tt

-- a tick

lost_run : (l : Layout) (p : Plain) (app a d now broke try_at : ℕ) (e : AppEnd) → a ≡ app → Lives p app now → AppTables ((p.server_at d).pair_at app) e → e.link ≡ Trouble broke try_at
    → (over : Bool) → nat_le (until broke l.times.recover) now ≡ over → RunFrom l p (lost_if over a d now)
lost_run l p app a d now broke try_at e its lives t same true over = (
  subst (λ n. MayCome l p (act.Lose n d (losses.Expired now))) (sym its) (
    lives.alive,
    record {
      now = lives.clock;
      broken = ap is_some (t.broke ∙ ap broke_in same);
      over = subst (λ (o : Option ℕ). until (unwrap_or o 0) l.times.recover ≤ now) (sym (t.broke ∙ ap broke_in same)) (leb-true (until broke l.times.recover) now over);
    },
  ),
  tt,
)
lost_run l p app a d now broke try_at e its lives t same false over = tt

-- the clock and the lives of application servers stay as an end loses its session
lost_lives : (l : Layout) (p : Plain) (app a d now : ℕ) (over : Bool) → Lives p app now → Lives (after_all l p (lost_if over a d now)) app now
lost_lives l p app a d now true lives = record { alive = lives.alive; clock = lives.clock }
lost_lives l p app a d now false lives = lives

-- what a tick's step has come to
record Ticked (l : Layout) (p : Plain) (app now : ℕ) (b : Sofar) : Type 0 where
  run : RunIs l p b
  tables : TablesAre l p app b
  lives : Lives (after_all l p b.outs.acts) app now
  times : b.state.times ≡ l.times

one_tick : (link : AppLink) (l : Layout) (p : Plain) (app d now : ℕ) (b : Sofar) → Ticked l p app now b → (end_at b.state d).link ≡ link → Ticked l p app now (ticks_from link d now b)
one_tick NotConnected l p app d now b t same = t
one_tick NormalLink l p app d now b t same = t
one_tick (Trouble broke try_at) l p app d now b t same = record {
  run = by_acts l p ws b (ticks_from (Trouble broke try_at) d now b) t.run acts more;
  tables = by_tick (Trouble broke try_at) l p app d now b t.tables same;
  lives = subst (λ (xs : List Act). Lives (after_all l p xs) app now) (sym acts)
      (subst (λ (q : Plain). Lives q app now) (sym (after_all-append l p b.outs.acts ws))
      (lost_lives l (after_all l p b.outs.acts) app b.state.app d now (nat_le (until broke b.state.times.recover) now) t.lives));
  times = h.times ∙ t.times;
}
  where
    ws : List Act
    ws = lost_if (nat_le (until broke b.state.times.recover) now) b.state.app d now

    h : Here d (ticked_from (Trouble broke try_at) b.state.times now (end_at b.state d)) [] [] ws b (ticks_from (Trouble broke try_at) d now b)
    h =
        subst (λ (k : AppLink). Here d (ticked_from k b.state.times now (end_at b.state d)) [] [] (ticked_acts k b.state.times b.state.app d now) b (ticks_from k d now b)) same
        (ticked_here d now b (trouble_here b.state d broke try_at same))

    acts : (ticks_from (Trouble broke try_at) d now b).outs.acts ≡ b.outs.acts ++ ws
    acts = h.acts

    more : RunFrom l (after_all l p b.outs.acts) ws
    more =
        lost_run l (after_all l p b.outs.acts) app b.state.app d now broke try_at (end_at b.state d) t.tables.its t.lives (t.tables.each d) same (nat_le (until broke b.state.times.recover) now)
        (ap (λ (x : Times). nat_le (until broke x.recover) now) (sym t.times))
one_tick Recovery l p app d now b t same = t

all_ticks : (ds : List ℕ) (l : Layout) (p : Plain) (app now : ℕ) (b : Sofar) → Ticked l p app now b → Ticked l p app now (ticks ds now b)
all_ticks [] l p app now b t = t
all_ticks (d ∷ ds) l p app now b t = all_ticks ds l p app now (ticks_from (end_at b.state d).link d now b) (one_tick (end_at b.state d).link l p app d now b t refl)

-- each input

-- what an input needs beside the tables
abbrev InputMays : Layout → Plain → ℕ → AppIn → Sofar → Type 0
InputMays l p app (app_in.Frame d frame) b = FrameMays l p app d frame.message (end_at b.state d)
InputMays l p app (app_in.Connected d) b = Unit {0}
InputMays l p app (app_in.NoWay d before later) b = Unit {0}
InputMays l p app (app_in.Broken d) b = Unit {0}
InputMays l p app (app_in.Join d) b = Unit {0}
InputMays l p app app_in.Tick b = Unit {0}

input_run : (input : AppIn) (l : Layout) (p : Plain) (app now : ℕ) (a : AppState) (c : Sofar) → TablesAre l p app (begun a) → Lives p app now → a.times ≡ l.times → AppMay a input → InputMays l p app input (begun a) → Makes (begun a) now input c → RunIs l p c
input_run (app_in.Frame d frame) l p app now a c t lives times may mays h =
    frame_run frame.message l p app d now frame (begun a) c tt t lives mays
    (frame_came (begun a) now d frame c may.known (line_has ((p.server_at d).pair_at app) (end_at a d) (t.each d)) h)
input_run (app_in.Connected d) l p app now a c t lives times may mays h =
    connected_run (end_at a d).link l p app d now (begun a) c tt t lives refl
    (subst (λ (x : Sofar). ConnectedCame (end_at a d).link d now (end_at a d) (begun a) x) (sym h) (connected_came d now (begun a) may.known))
input_run (app_in.NoWay d before later) l p app now a c t lives times may mays h =
    by_acts l p (failed_acts (end_at a d).link a.app d before later) (begun a) c tt
    (ap (λ (x : Sofar). x.outs.acts) h ∙ (failed_came d before later now (begun a) may.tried.known).acts)
    (failed_run l p app a.app d before later now (end_at a d) t.its may.rose lives (t.each d) (end_at a d).link refl)
input_run (app_in.Broken d) l p app now a c t lives times may mays h =
    by_acts l p (ended_acts (end_at a d).line a.app d now) (begun a) c tt
    (ap (λ (x : Sofar). x.outs.acts) h ∙ (broken_came d now (begun a) may).acts)
    (ended_run l p app a.app d now (end_at a d) t.its lives (t.each d) (end_at a d).line refl)
input_run (app_in.Join d) l p app now a c t lives times may mays h =
    by_acts l p [] (begun a) c tt (ap (λ (x : Sofar). x.outs.acts) h ∙ (joined_came d (begun a) may).acts) tt
input_run app_in.Tick l p app now a c t lives times may mays h =
    subst (λ (x : Sofar). RunIs l p x) (sym h)
    (all_ticks (range_with_len 0 (length a.ends)) l p app now (begun a) (record { run = tt; tables = t; lives = lives; times = times })).run

-- what the invariant says of the Welcome or the Reset that is taken
input_mays : (input : AppIn) (l : Layout) (c : CoresState) (m : Machine) (app : ℕ) → Holds l m → IsRun l m.trail → Mirrors c m → app < c.layout.apps → m.is_dead_at app ≡ false → AppTakes c app input
    → InputMays l (state_after l m.trail) app input (begun (app_state m app))
input_mays (app_in.Frame d frame) l c m app h run shows known alive takes = record {
  met = λ session epoch kept taken front is line. met_may l m app d frame session epoch kept front taken h run alive t is (ap (λ (e : AppEnd). e.line) (sym same) ∙ line);
  told = λ s session epoch kept taken front is line there later.
      told_may l m app d frame s session epoch kept front taken h run alive t is (ap (λ (e : AppEnd). e.line) (sym same) ∙ line) (ap (λ (e : AppEnd). e.session) (sym same) ∙ there) later;
  reset = λ session at is link. reset_may l m app d frame session at h run alive t is (ap (λ (e : AppEnd). e.link) (sym same) ∙ link);
}
  where
    t : Taken ((m.site_at d).end_at app) frame
    t = taken_down c m app d frame shows takes

    same : end_at (app_state m app) d ≡ end_state m app d
    same = app_ends c m app d shows known
input_mays (app_in.Connected d) l c m app h run shows known alive takes = tt
input_mays (app_in.NoWay d before later) l c m app h run shows known alive takes = tt
input_mays (app_in.Broken d) l c m app h run shows known alive takes = tt
input_mays (app_in.Join d) l c m app h run shows known alive takes = tt
input_mays app_in.Tick l c m app h run shows known alive takes = tt

-- Each act that an application server writes as it takes an input may come: the trail stays a run.
pub run_kept_by_app : (l : Layout) (c : CoresState) (m : Machine) (app now : ℕ) (input : AppIn) (outs : MoveOuts) (written : List Act) (new : Machine)
    → Holds l m → IsRun l m.trail → Mirrors c m → Allowed c (App app now input) → AppGoes m app now input outs written new → IsRun l new.trail
run_kept_by_app l c m app now input outs written new h run shows allowed goes =
    subst (λ (n : Machine). IsRun l n.trail) (sym goes.after)
    (run_joined l start m.trail written run
    (subst (λ (ws : List Act). RunFrom l (state_after l m.trail) ws) (sym goes.acts)
    (input_run input l (state_after l m.trail) app now (app_state m app) (made goes.state goes.app_outs) (tables_begin l c m app h shows allowed.known alive)
    (record { alive = h.died app ∙ alive; clock = allowed.now_may.clock ∙ shows.clock ∙ sym h.clock })
    (ap (λ (k : Layout). k.times) h.layout)
    (app_may c m app input shows allowed.known allowed.may) (input_mays input l c m app h run shows allowed.known alive allowed.takes) goes.steps)))
  where
    alive : m.is_dead_at app ≡ false
    alive = sym (shows.dead app) ∙ allowed.alive
