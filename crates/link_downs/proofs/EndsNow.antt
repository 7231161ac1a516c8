-- What is on its way to each living application end after a step of its data server, where what is left to the first frames is: what is put
-- on a connection that carries no session's messages yet, or that a Reset stands on alone.
use Rattle.std.proofs.Common.{◌≡◌, ◌≤◌, ℕ, true, false, List, [], ◌∷◌, Option, Some, None, is_some, refl, sym, ◌∙◌, ap, subst}
use Rattle.std.specs.Prelude.{⊤, IfSome}
use Rattle.std.proofs.lemmas.Bool.{true≢false}
use Rattle.plain_orders.specs.declared.act.Act.{Act}
use Rattle.plain_orders.specs.declared.layout.Layout.{Layout}
use Rattle.plain_runs.specs.Plain.{Server, current}
use Rattle.plain_runs.specs.Run.{IsRun, after_all, state_after}
use Rattle.ecp_messages.specs.declared.down.Down.{Down}
use Rattle.ecp_messages.specs.declared.down.Down.TheVariants.{Welcome, Reset, Block, Drop, Ack, Grant, Answer, Normal, Bare}
use Rattle.ecp_messages.specs.declared.down.DownFrame.{DownFrame}
use Rattle.data_rules.specs.declared.data_in.DataIn.{DataIn}
use Rattle.app_rules.specs.declared.line.Line.{Line}
use Rattle.app_rules.specs.declared.line.Line.TheVariants.{Apart, Trying, Greeting, Asking, Joined}
use Rattle.app_rules.specs.AppState.{AppEnd, Session}
use Rattle.cluster_runs.specs.declared.move_outs.MoveOuts.{MoveOuts}
use Rattle.cluster_runs.specs.declared.moves.Move.TheVariants.{Server as ServerMove}
use Rattle.cluster_runs.specs.CoresState.{CoresState}
use Rattle.cluster_runs.specs.Goes.{ServerGoes, server_site}
use Rattle.cluster_runs.specs.Machine.{End, Machine, Site}
use Rattle.cluster_runs.specs.Mirrors.{Mirrors}
use Rattle.cluster_runs.specs.Moves.{Allowed}
use Rattle.cluster_runs.specs.Sent.{Connection, Place}
use Rattle.cluster_invariant.specs.Dials.{DialsAre, is_made}
use Rattle.cluster_invariant.specs.Holds.{Holds, SiteHolds}
use Rattle.cluster_invariant.specs.Link.{AppWay, AskedFirst, AskedWay, DownBy, GreetedWay, JoinedWay, WithSession}
use Rattle.cluster_invariant.specs.Words.{downs_left}
use Rattle.cluster_invariant.proofs.Small.{of_some}
use Rattle.link_kept.proofs.AppLater.{LaneLater, app_later}
use Rattle.link_kept.proofs.ShortMoves.{told_there}
use Rattle.link_downs.proofs.AnyPuts.{step_puts}
use Rattle.link_downs.proofs.EndWays.{asked_now, joined_now}
use Rattle.link_downs.proofs.StepWays as step
use Rattle.told_kept.proofs.ToldServer.{server_same}

-- What is left to the first frames: an end that greets, and one that asks where nothing is left, or a Reset first.
pub record LeftToFirsts (v w : Server) (x y : Site) (a : ℕ) (e : End) : Type 0 where
  pub greets : e.state.line ≡ Greeting → (c : Connection) → e.connection_at e.state.dial ≡ Some c → GreetedWay v x a e.state.told c (downs_left c)
      → IfSome ((y.end_at a).connection_at e.state.dial) (λ d. GreetedWay w y a e.state.told d (downs_left d))
  pub untold : e.state.line ≡ Asking → (s : Session) (p : Place) → e.state.session ≡ Some s → e.told ≡ Some p → (c : Connection)
      → e.connection_at e.state.dial ≡ Some c
      → downs_left c ≡ [] → c.its ≡ None → IfSome ((y.end_at a).connection_at e.state.dial) (λ d. AskedWay w y s p.order d (downs_left d))
  pub reset : e.state.line ≡ Asking → (s : Session) (p : Place) → e.state.session ≡ Some s → e.told ≡ Some p → (c : Connection)
      → e.connection_at e.state.dial ≡ Some c
      → (f : DownFrame) (fs : List DownFrame) → downs_left c ≡ f ∷ fs → (session at : ℕ) → f.message ≡ Reset session at → AskedWay v x s p.order c (f ∷ fs)
      → IfSome ((y.end_at a).connection_at e.state.dial) (λ d. AskedWay w y s p.order d (downs_left d))

some_if : {X : Type 0} (P : X → Type 0) → ((x : X) → P x) → (o : Option X) → IfSome o P
some_if P each None = tt
some_if P each (Some x) = each x

none_if : {X : Type 0} (P : X → Type 0) (o : Option X) → is_some o ≡ false → IfSome o P
none_if P None none = tt
none_if P (Some x) none = absurd (true≢false none)

module _ (l : Layout) (c0 : CoresState) (m : Machine) (server now : ℕ) (input : DataIn) (outs : MoveOuts) (written : List Act) (new : Machine)
    (h : Holds l m) (run : IsRun l m.trail) (after_run : IsRun l new.trail) (shows : Mirrors c0 m) (allowed : Allowed c0 (ServerMove server now input))
    (goes : ServerGoes m server now input outs written new) where
  abbrev x : Site
  x = m.site_at server

  abbrev v : Server
  v = (state_after l m.trail).server_at server

  abbrev w : Server
  w = (after_all l (state_after l m.trail) written).server_at server

  abbrev y : Site
  y = server_site goes.node now input goes.data_outs goes.state (m.site_at server)

  its : SiteHolds l server m.is_dead_at v x
  its = h.sites server

  lanes : (s k : ℕ) → LaneLater (x.lane_at s k) (y.lane_at s k)
  lanes = step.lanes_later l c0 m server now input outs written new h run after_run shows allowed goes

  after_dials : DialsAre w y m.is_dead_at
  after_dials = step.dials_after l c0 m server now input outs written new h run after_run shows allowed goes

  module _ (a : ℕ) (alive : m.is_dead_at a ≡ false) where
    abbrev e : End
    e = x.end_at a

    way : AppWay v x a e
    way = its.link.apps a alive

    same : ((y.end_at a).state ≡ e.state) × ((y.end_at a).told ≡ e.told)
    same = server_same goes.node now input goes.data_outs goes.state x a

    -- the end has its connection still
    still_there : is_some ((y.end_at a).connection_at e.state.dial) ≡ is_some (e.connection_at e.state.dial)
    still_there =
        (after_dials.pairs a).made e.state.dial ∙ ap (λ (z : AppEnd). is_made z.dial e.state.dial) same.0 ∙ sym ((its.dials.pairs a).made e.state.dial)

    conn_kept : (P : Connection → Type 0) → ((c : Connection) → e.connection_at e.state.dial ≡ Some c → IfSome ((y.end_at a).connection_at e.state.dial) P)
        → IfSome ((y.end_at a).connection_at e.state.dial) P
    conn_kept P each = go (e.connection_at e.state.dial) refl
      where
        go : (o : Option Connection) → e.connection_at e.state.dial ≡ o → IfSome ((y.end_at a).connection_at e.state.dial) P
        go None none = none_if P ((y.end_at a).connection_at e.state.dial) (still_there ∙ ap (λ (o : Option Connection). is_some o) none)
        go (Some c) it = each c it

    down_was : (z : Line) → e.state.line ≡ z → (c : Connection) → e.connection_at e.state.dial ≡ Some c → DownBy z v x a e c
    down_was z line c it =
        subst (λ (u : Line). DownBy u v x a e c) line (of_some (DownBy e.state.line v x a e) (e.connection_at e.state.dial) c it way.down)

    there : (s : Session) (p : Place) → e.state.session ≡ Some s → e.told ≡ Some p → p.order ≤ current v
    there s p has told =
        of_some (λ (q : Place). q.order ≤ current v) e.told p told
        (of_some (λ (z : Session). IfSome e.told (λ q. q.order ≤ current v)) e.state.session s has (told_there v a e (its.ends.told a alive)))

    -- one whose Welcome came
    joined_down : e.state.line ≡ Joined → IfSome ((y.end_at a).connection_at e.state.dial) (DownBy Joined w y a e)
    joined_down line = conn_kept (DownBy Joined w y a e) (λ c it. go e.state.session e.told refl refl c it (down_was Joined line c it))
      where
        go : (o : Option Session) (t : Option Place) → e.state.session ≡ o → e.told ≡ t → (c : Connection) → e.connection_at e.state.dial ≡ Some c
            → WithSession o t (λ s k. JoinedWay v x e.state s k c)
            → IfSome ((y.end_at a).connection_at e.state.dial) (λ d. WithSession o t (λ s k. JoinedWay w y e.state s k d))
        go None t has told c it bad = absurd bad
        go (Some s) None has told c it bad = absurd bad
        go (Some s) (Some p) has told c it j =
            joined_now l c0 m server now input outs written new h run after_run shows allowed goes (step_puts l c0 m server now input outs written new h run after_run shows allowed goes) a alive s p.order has
            p told refl c it line j

    module _ (left : LeftToFirsts v w x y a e) where
      -- one that asked

      module _ (line : e.state.line ≡ Asking) (s : Session) (p : Place) (has : e.state.session ≡ Some s) (told : e.told ≡ Some p)
          (c : Connection) (it : e.connection_at e.state.dial ≡ Some c) where
        by_first : (f : DownFrame) (fs : List DownFrame) (u : Down) → downs_left c ≡ f ∷ fs → f.message ≡ u → f.seq ≡ 0 → AskedFirst v x s p.order c fs u
            → IfSome ((y.end_at a).connection_at e.state.dial) (λ d. AskedWay w y s p.order d (downs_left d))
        by_first f fs (Welcome session epoch kept front taken) some says zeroed is =
            asked_now l c0 m server now input outs written new h run after_run shows allowed goes
            (step_puts l c0 m server now input outs written new h run after_run shows allowed goes) a alive s p.order
            has p told refl c it line f fs some session epoch kept front taken (there s p has told) says zeroed is
        by_first f fs (Reset session at) some says zeroed is =
            left.reset line s p has told c it f fs some session at says (zeroed, subst (λ (u : Down). AskedFirst v x s p.order c fs u) (sym says) is)
        by_first f fs (Block front block) some says zeroed is = absurd is
        by_first f fs (Drop front lo hi) some says zeroed is = absurd is
        by_first f fs (Ack front) some says zeroed is = absurd is
        by_first f fs (Grant front ticket at) some says zeroed is = absurd is
        by_first f fs (Answer front about job number at sum) some says zeroed is = absurd is
        by_first f fs (Normal front) some says zeroed is = absurd is
        by_first f fs Bare some says zeroed is = absurd is

        asked_on : (fs : List DownFrame) → downs_left c ≡ fs → AskedWay v x s p.order c fs
            → IfSome ((y.end_at a).connection_at e.state.dial) (λ d. AskedWay w y s p.order d (downs_left d))
        asked_on [] none is = left.untold line s p has told c it none is
        asked_on (f ∷ fs) some is = by_first f fs f.message some refl is.0 is.1

      asking_down : e.state.line ≡ Asking → IfSome ((y.end_at a).connection_at e.state.dial) (DownBy Asking w y a e)
      asking_down line = conn_kept (DownBy Asking w y a e) (λ c it. go e.state.session e.told refl refl c it (down_was Asking line c it))
        where
          go : (o : Option Session) (t : Option Place) → e.state.session ≡ o → e.told ≡ t → (c : Connection) → e.connection_at e.state.dial ≡ Some c
              → WithSession o t (λ s k. AskedWay v x s k c (downs_left c))
              → IfSome ((y.end_at a).connection_at e.state.dial) (λ d. WithSession o t (λ s k. AskedWay w y s k d (downs_left d)))
          go None t has told c it bad = absurd bad
          go (Some s) None has told c it bad = absurd bad
          go (Some s) (Some p) has told c it is = asked_on line s p has told c it (downs_left c) refl is

      down_now : (z : Line) → e.state.line ≡ z → IfSome ((y.end_at a).connection_at e.state.dial) (DownBy z w y a e)
      down_now Apart line = some_if (λ (c : Connection). ⊤) (λ c. tt) ((y.end_at a).connection_at e.state.dial)
      down_now Trying line = some_if (λ (c : Connection). ⊤) (λ c. tt) ((y.end_at a).connection_at e.state.dial)
      down_now Greeting line = conn_kept (DownBy Greeting w y a e) (λ c it. left.greets line c it (down_was Greeting line c it))
      down_now Asking line = asking_down line
      down_now Joined line = joined_down line

      -- So what is on its way to it is as it should be.
      pub end_now : AppWay w y a (y.end_at a)
      end_now = app_later w v x y lanes a e (y.end_at a) same.0 same.1 (down_now e.state.line refl) way
