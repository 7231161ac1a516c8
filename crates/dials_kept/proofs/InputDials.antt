-- The part on connections, for an attempt that failed, a line that joined again, and a tick at an application server.
use Rattle.std.proofs.Common.{◌≡◌, ◌<◌, ℕ, Bool, true, false, List, [], ◌∷◌, length, refl, sym, ◌∙◌, ap, subst, inl, inr, eqb}
use Rattle.std.specs.Prelude.{nat_le}
use Rattle.std.specs.List.{range_with_len}
use Rattle.std.proofs.lemmas.Bool.{false≢true, eqb-true, eq-eqb}
use Rattle.plain_orders.specs.declared.act.Act.{Act}
use Rattle.plain_orders.specs.declared.layout.Layout.{Layout}
use Rattle.plain_orders.specs.declared.layout.Times.{Times}
use Rattle.plain_orders.specs.Times.{until}
use Rattle.plain_runs.specs.Run.{IsRun, state_after}
use Rattle.link_states.specs.declared.app_link.AppLink.{AppLink}
use Rattle.link_states.specs.declared.app_link.AppLink.TheVariants.{NotConnected, Normal as NormalLink, Trouble, Recovery}
use Rattle.app_rules.specs.declared.app_in.AppIn.TheVariants as app_in
use Rattle.app_rules.specs.declared.line.Line.{Line}
use Rattle.app_rules.specs.declared.line.Line.TheVariants.{Apart, Trying, Greeting, Asking, Joined}
use Rattle.app_rules.specs.AppState.{AppState, AppEnd}
use Rattle.app_rules.specs.AppStep.{AppMay}
use Rattle.app_rules.specs.Laws.{KeepsOthers}
use Rattle.app_rules.specs.Losing.{failed, failed_from, joins_from, ticks, ticks_from, ticks_trouble, tries_when, line_after_loss}
use Rattle.app_rules.specs.Works.{Sofar, begun, becomes, end_at, with_line, is_apart, tries_if}
use Rattle.app_rules.proofs.OneEnd.{one_ticks_from}
use Rattle.app_rules.proofs.StepLaws.{steps_at_one_end}
use Rattle.cluster_runs.specs.declared.move_outs.MoveOuts.{MoveOuts}
use Rattle.cluster_runs.specs.declared.moves.Move.TheVariants.{App}
use Rattle.cluster_runs.specs.CoresState.{CoresState}
use Rattle.cluster_runs.specs.Moves.{Allowed}
use Rattle.cluster_runs.specs.Mirrors.{Mirrors}
use Rattle.cluster_runs.specs.Machine.{Machine, app_state, end_state}
use Rattle.cluster_runs.specs.Goes.{AppGoes}
use Rattle.cluster_invariant.specs.Ends.{stands}
use Rattle.cluster_invariant.specs.Holds.{Holds}
use Rattle.cluster_invariant.specs.Words.{has_wire}
use Rattle.cluster_steps.proofs.AppSites.{app_ends}
use Rattle.cluster_steps.proofs.InputEnds.{failed_end, failed_came, rejoined, joined_came, ticked_from, ticked_here, tried, tried_if, troubled, trouble_here}
use Rattle.ends_kept.proofs.TablesMoves.{app_may}
use Rattle.dials_kept.proofs.ShortDials.{EachDials}
use Rattle.dials_kept.proofs.QuietMoves.{QuietEnd, quiet_same, quiet_then, dials_kept_by_quiet}

-- what is put and cut

-- nothing more
record PutsNone (b c : Sofar) : Type 0 where
  frames : c.outs.frames ≡ b.outs.frames
  cuts : c.outs.cuts ≡ b.outs.cuts

failed_none : (d before later now : ℕ) (b : Sofar) → PutsNone b (failed d before later now b)
failed_none d before later now b = go (end_at b.state d).link
  where
    go : (k : AppLink) → PutsNone b (failed_from k d before later now (becomes d (with_line Apart) b))
    go NotConnected = record { frames = refl; cuts = refl }
    go NormalLink = record { frames = refl; cuts = refl }
    go (Trouble broke try_at) = record { frames = refl; cuts = refl }
    go Recovery = record { frames = refl; cuts = refl }

tries_none : (t : Bool) (d : ℕ) (b : Sofar) → PutsNone b (tries_if t d b)
tries_none true d b = record { frames = refl; cuts = refl }
tries_none false d b = record { frames = refl; cuts = refl }

joins_none : (k : AppLink) (d : ℕ) (b : Sofar) → PutsNone b (joins_from k d b)
joins_none NotConnected d b = record { frames = refl; cuts = refl }
joins_none NormalLink d b = record { frames = refl; cuts = refl }
joins_none (Trouble broke try_at) d b = tries_none (is_apart (end_at b.state d).line) d b
joins_none Recovery d b = record { frames = refl; cuts = refl }

tick_none : (k : AppLink) (d now : ℕ) (b : Sofar) → PutsNone b (ticks_from k d now b)
tick_none NotConnected d now b = record { frames = refl; cuts = refl }
tick_none NormalLink d now b = record { frames = refl; cuts = refl }
tick_none (Trouble broke try_at) d now b = go (nat_le (until broke b.state.times.recover) now)
  where
    by : (may : Bool) → PutsNone b (tries_when may d b)
    by true = tries_none (is_apart (end_at b.state d).line) d b
    by false = record { frames = refl; cuts = refl }

    go : (over : Bool) → PutsNone b (ticks_trouble over d broke try_at now b)
    go true = record { frames = refl; cuts = refl }
    go false = by (nat_le try_at now)
tick_none Recovery d now b = record { frames = refl; cuts = refl }

ticks_none : (ds : List ℕ) (now : ℕ) (b : Sofar) → PutsNone b (ticks ds now b)
ticks_none [] now b = record { frames = refl; cuts = refl }
ticks_none (d ∷ ds) now b = go (tick_none (end_at b.state d).link d now b) (ticks_none ds now (ticks_from (end_at b.state d).link d now b))
  where
    go : PutsNone b (ticks_from (end_at b.state d).link d now b) → PutsNone (ticks_from (end_at b.state d).link d now b) (ticks (d ∷ ds) now b)
        → PutsNone b (ticks (d ∷ ds) now b)
    go x y = record { frames = y.frames ∙ x.frames; cuts = y.cuts ∙ x.cuts }

-- ends

failed_quiet : (link : AppLink) (times : Times) (before later now : ℕ) (e : AppEnd) → e.line ≡ Trying → QuietEnd e (failed_end link times before later now e)
failed_quiet NotConnected times before later now e is = record { dial = refl; told = refl; session = inl refl; wire = sym (ap has_wire is); line = inr refl }
failed_quiet NormalLink times before later now e is = record { dial = refl; told = refl; session = inl refl; wire = sym (ap has_wire is); line = inr refl }
failed_quiet (Trouble broke try_at) times before later now e is = record { dial = refl; told = refl; session = inl refl; wire = sym (ap has_wire is); line = inr refl }
failed_quiet Recovery times before later now e is = record { dial = refl; told = refl; session = inl refl; wire = sym (ap has_wire is); line = inr refl }

apart_wire : (k : Line) → is_apart k ≡ true → has_wire k ≡ false
apart_wire Apart is = refl
apart_wire Trying is = refl
apart_wire Greeting is = absurd (false≢true is)
apart_wire Asking is = absurd (false≢true is)
apart_wire Joined is = absurd (false≢true is)

tried_quiet : (e : AppEnd) → QuietEnd e (tried e)
tried_quiet e = go (is_apart e.line) refl
  where
    go : (t : Bool) → is_apart e.line ≡ t → QuietEnd e (tried_if t e)
    go true is = record { dial = refl; told = refl; session = inl refl; wire = sym (apart_wire e.line is); line = inr refl }
    go false is = quiet_same e

rejoined_quiet : (link : AppLink) (e : AppEnd) → QuietEnd e (rejoined link e)
rejoined_quiet NotConnected e = quiet_same e
rejoined_quiet NormalLink e = quiet_same e
rejoined_quiet (Trouble broke try_at) e = tried_quiet e
rejoined_quiet Recovery e = quiet_same e

-- an end in trouble has no connection
stands_wireless : (line : Line) (broke try_at : ℕ) → stands (Trouble broke try_at) line ≡ true → has_wire line ≡ false
stands_wireless Apart broke try_at is = refl
stands_wireless Trying broke try_at is = refl
stands_wireless Greeting broke try_at is = absurd (false≢true is)
stands_wireless Asking broke try_at is = absurd (false≢true is)
stands_wireless Joined broke try_at is = absurd (false≢true is)

-- an end that lost its session has none either
lost_wire : (k : Line) → has_wire (line_after_loss k) ≡ false
lost_wire Apart = refl
lost_wire Trying = refl
lost_wire Greeting = refl
lost_wire Asking = refl
lost_wire Joined = refl

ticked_quiet : (link : AppLink) (times : Times) (now : ℕ) (e : AppEnd) → e.link ≡ link → ((broke try_at : ℕ) → e.link ≡ Trouble broke try_at → has_wire e.line ≡ false)
    → QuietEnd e (ticked_from link times now e)
ticked_quiet NotConnected times now e is wireless = quiet_same e
ticked_quiet NormalLink times now e is wireless = quiet_same e
ticked_quiet (Trouble broke try_at) times now e is wireless = go (nat_le (until broke times.recover) now) (nat_le try_at now)
  where
    go : (over may : Bool) → QuietEnd e (troubled over may broke now e)
    go true may = record { dial = refl; told = refl; session = inr refl; wire = lost_wire e.line ∙ sym (wireless broke try_at is); line = inr (lost_wire e.line) }
    go false true = tried_quiet e
    go false false = quiet_same e
ticked_quiet Recovery times now e is wireless = quiet_same e

-- an end in trouble after a tick was in the same trouble before
ticked_link : (link : AppLink) (times : Times) (now : ℕ) (e : AppEnd) (broke try_at : ℕ) → e.link ≡ link → (ticked_from link times now e).link ≡ Trouble broke try_at
    → e.link ≡ Trouble broke try_at
ticked_link NotConnected times now e broke try_at is at = at
ticked_link NormalLink times now e broke try_at is at = at
ticked_link (Trouble b t) times now e broke try_at is at = go (nat_le (until b times.recover) now) (nat_le t now) at
  where
    by : (u : Bool) → (tried_if u e).link ≡ Trouble broke try_at → e.link ≡ Trouble broke try_at
    by true same = same
    by false same = same

    go : (over may : Bool) → (troubled over may b now e).link ≡ Trouble broke try_at → e.link ≡ Trouble broke try_at
    go true may same = absurd (cc (same))
    go false true same = by (is_apart e.line) same
    go false false same = same
ticked_link Recovery times now e broke try_at is at = at

-- each end of an application server
ticks_quiet : (ds : List ℕ) (now : ℕ) (b : Sofar) → ((k broke try_at : ℕ) → (end_at b.state k).link ≡ Trouble broke try_at → has_wire (end_at b.state k).line ≡ false) → (k : ℕ)
    → QuietEnd (end_at b.state k) (end_at (ticks ds now b).state k)
ticks_quiet [] now b wireless k = quiet_same (end_at b.state k)
ticks_quiet (d ∷ ds) now b wireless k =
    quiet_then (end_at b.state k) (end_at c.state k) (end_at (ticks ds now c).state k) (one k).0
    (ticks_quiet ds now c (λ i broke try_at is. (one i).0.wire ∙ wireless i broke try_at ((one i).1 broke try_at is)) k)
  where
    c : Sofar
    c = ticks_from (end_at b.state d).link d now b

    here : (link : AppLink) → (end_at b.state d).link ≡ link → QuietEnd (end_at b.state d) (end_at (ticks_from link d now b).state d)
        × ((broke try_at : ℕ) → (end_at (ticks_from link d now b).state d).link ≡ Trouble broke try_at → (end_at b.state d).link ≡ Trouble broke try_at)
    here NotConnected same = (quiet_same (end_at b.state d), λ broke try_at is. is)
    here NormalLink same = (quiet_same (end_at b.state d), λ broke try_at is. is)
    here (Trouble broke try_at) same =
        subst (λ (t : AppEnd). QuietEnd (end_at b.state d) t × ((b1 t1 : ℕ) → t.link ≡ Trouble b1 t1 → (end_at b.state d).link ≡ Trouble b1 t1)) (sym came) (
          ticked_quiet (Trouble broke try_at) b.state.times now (end_at b.state d) same (wireless d),
          λ b1 t1 is. ticked_link (Trouble broke try_at) b.state.times now (end_at b.state d) b1 t1 same is,
        )
      where
        came : end_at (ticks_from (Trouble broke try_at) d now b).state d ≡ ticked_from (Trouble broke try_at) b.state.times now (end_at b.state d)
        came =
            subst (λ (l : AppLink). end_at (ticks_from l d now b).state d ≡ ticked_from l b.state.times now (end_at b.state d)) same
            (ticked_here d now b (trouble_here b.state d broke try_at same)).end
    here Recovery same = (quiet_same (end_at b.state d), λ broke try_at is. is)

    one : (i : ℕ) → QuietEnd (end_at b.state i) (end_at c.state i)
        × ((broke try_at : ℕ) → (end_at c.state i).link ≡ Trouble broke try_at → (end_at b.state i).link ≡ Trouble broke try_at)
    one i = go (eqb i d) refl
      where
        go : (t : Bool) → eqb i d ≡ t → QuietEnd (end_at b.state i) (end_at c.state i)
            × ((broke try_at : ℕ) → (end_at c.state i).link ≡ Trouble broke try_at → (end_at b.state i).link ≡ Trouble broke try_at)
        go true is =
            subst
            (λ (n : ℕ).
            QuietEnd (end_at b.state n) (end_at c.state n)
            × ((broke try_at : ℕ) → (end_at c.state n).link ≡ Trouble broke try_at → (end_at b.state n).link ≡ Trouble broke try_at)) (sym (eqb-true i d is))
            (here (end_at b.state d).link refl)
        go false is =
            subst
            (λ (t : AppEnd).
            QuietEnd (end_at b.state i) t × ((broke try_at : ℕ) → t.link ≡ Trouble broke try_at → (end_at b.state i).link ≡ Trouble broke try_at))
            (sym ((one_ticks_from (end_at b.state d).link d now b).others i (λ same. false≢true (sym is ∙ eq-eqb i d same))))
            (quiet_same (end_at b.state i), λ broke try_at at. at)

-- the others are as they were
quiet_others : (a b : AppState) (d : ℕ) → KeepsOthers a b d → QuietEnd (end_at a d) (end_at b d) → (k : ℕ) → QuietEnd (end_at a k) (end_at b k)
quiet_others a b d others here k = go (eqb k d) refl
  where
    go : (t : Bool) → eqb k d ≡ t → QuietEnd (end_at a k) (end_at b k)
    go true is = subst (λ (n : ℕ). QuietEnd (end_at a n) (end_at b n)) (sym (eqb-true k d is)) here
    go false is =
        subst (λ (t : AppEnd). QuietEnd (end_at a k) t) (sym (others k (λ same. false≢true (sym is ∙ eq-eqb k d same)))) (quiet_same (end_at a k))

-- an end of the machine
at_end_state : (c : CoresState) (m : Machine) (app d : ℕ) (t : AppEnd) → Mirrors c m → app < c.layout.apps → QuietEnd (end_at (app_state m app) d) t → QuietEnd (end_state m app d) t
at_end_state c m app d t shows known is = subst (λ (e : AppEnd). QuietEnd e t) (app_ends c m app d shows known) is

-- An attempt that failed keeps it.
pub dials_kept_by_no_way : (l : Layout) (c : CoresState) (m : Machine) (app now d before later : ℕ) (outs : MoveOuts) (written : List Act) (new : Machine)
    → Holds l m → IsRun l m.trail → Mirrors c m → Allowed c (App app now (app_in.NoWay d before later)) → AppGoes m app now (app_in.NoWay d before later) outs written new
    → EachDials l (state_after l new.trail) new
dials_kept_by_no_way l c m app now d before later outs written new h run shows allowed goes =
    dials_kept_by_quiet l c m app now (app_in.NoWay d before later) outs written new h run shows allowed goes (λ k n e. refl)
    (ap (λ (x : Sofar). x.outs.frames) goes.steps ∙ (failed_none d before later now (begun a)).frames)
    (ap (λ (x : Sofar). x.outs.cuts) goes.steps ∙ (failed_none d before later now (begun a)).cuts)
    (λ k.
    at_end_state c m app k (end_at goes.state k) shows allowed.known
    (quiet_others a goes.state d (steps_at_one_end a goes.state now (app_in.NoWay d before later) goes.app_outs goes.steps).1 here k))
  where
    a : AppState
    a = app_state m app

    may : AppMay a (app_in.NoWay d before later)
    may = app_may c m app (app_in.NoWay d before later) shows allowed.known allowed.may

    here : QuietEnd (end_at a d) (end_at goes.state d)
    here =
        subst (λ (t : AppEnd). QuietEnd (end_at a d) t)
        (sym (ap (λ (x : Sofar). end_at x.state d) goes.steps ∙ (failed_came d before later now (begun a) may.tried.known).end))
        (failed_quiet (end_at a d).link a.times before later now (end_at a d) may.tried.tried)

-- A line that joined again keeps it.
pub dials_kept_by_join : (l : Layout) (c : CoresState) (m : Machine) (app now d : ℕ) (outs : MoveOuts) (written : List Act) (new : Machine)
    → Holds l m → IsRun l m.trail → Mirrors c m → Allowed c (App app now (app_in.Join d)) → AppGoes m app now (app_in.Join d) outs written new
    → EachDials l (state_after l new.trail) new
dials_kept_by_join l c m app now d outs written new h run shows allowed goes =
    dials_kept_by_quiet l c m app now (app_in.Join d) outs written new h run shows allowed goes (λ k n e. refl)
    (ap (λ (x : Sofar). x.outs.frames) goes.steps ∙ (joins_none (end_at a d).link d (begun a)).frames)
    (ap (λ (x : Sofar). x.outs.cuts) goes.steps ∙ (joins_none (end_at a d).link d (begun a)).cuts)
    (λ k.
    at_end_state c m app k (end_at goes.state k) shows allowed.known
    (quiet_others a goes.state d (steps_at_one_end a goes.state now (app_in.Join d) goes.app_outs goes.steps).1 here k))
  where
    a : AppState
    a = app_state m app

    here : QuietEnd (end_at a d) (end_at goes.state d)
    here =
        subst (λ (t : AppEnd). QuietEnd (end_at a d) t)
        (sym (ap (λ (x : Sofar). end_at x.state d) goes.steps ∙ (joined_came d (begun a) (app_may c m app (app_in.Join d) shows allowed.known allowed.may)).end))
        (rejoined_quiet (end_at a d).link (end_at a d))

-- A tick of an application server keeps it.
pub dials_kept_by_app_tick : (l : Layout) (c : CoresState) (m : Machine) (app now : ℕ) (outs : MoveOuts) (written : List Act) (new : Machine)
    → Holds l m → IsRun l m.trail → Mirrors c m → Allowed c (App app now app_in.Tick) → AppGoes m app now app_in.Tick outs written new
    → EachDials l (state_after l new.trail) new
dials_kept_by_app_tick l c m app now outs written new h run shows allowed goes =
    dials_kept_by_quiet l c m app now app_in.Tick outs written new h run shows allowed goes (λ k n e. refl)
    (ap (λ (x : Sofar). x.outs.frames) goes.steps ∙ (ticks_none (range_with_len 0 (length a.ends)) now (begun a)).frames)
    (ap (λ (x : Sofar). x.outs.cuts) goes.steps ∙ (ticks_none (range_with_len 0 (length a.ends)) now (begun a)).cuts)
    (λ k.
    at_end_state c m app k (end_at goes.state k) shows allowed.known
    (subst (λ (x : Sofar). QuietEnd (end_at a k) (end_at x.state k)) (sym goes.steps) (ticks_quiet (range_with_len 0 (length a.ends)) now (begun a) wireless k)))
  where
    a : AppState
    a = app_state m app

    alive : m.is_dead_at app ≡ false
    alive = sym (shows.dead app) ∙ allowed.alive

    wireless : (k broke try_at : ℕ) → (end_at a k).link ≡ Trouble broke try_at → has_wire (end_at a k).line ≡ false
    wireless k = subst (λ (e : AppEnd). (broke try_at : ℕ) → e.link ≡ Trouble broke try_at → has_wire e.line ≡ false) (sym (app_ends c m app k shows allowed.known))
        (λ broke try_at is. stands_wireless (end_state m app k).line broke try_at (subst (λ (z : AppLink). stands z (end_state m app k).line ≡ true) is ((h.sites k).ends.tables app alive).stands))
