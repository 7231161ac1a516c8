-- The first frame on its way downwards on a joined connection, and the lane of its session.
use Rattle.std.proofs.Common.{◌≡◌, ℕ, Bool, false, List, ◌∷◌, Some, subst}
use Rattle.plain_runs.specs.Plain.{Server, order_at}
use Rattle.ecp_messages.specs.declared.down.DownFrame.{DownFrame}
use Rattle.app_rules.specs.declared.line.Line.{Line}
use Rattle.app_rules.specs.declared.line.Line.TheVariants.{Joined}
use Rattle.app_rules.specs.AppState.{Session}
use Rattle.cluster_runs.specs.Sent.{Connection}
use Rattle.cluster_runs.specs.Machine.{Site, End}
use Rattle.cluster_invariant.specs.Ends.{EndsAre}
use Rattle.cluster_invariant.specs.Link.{DownBy, DownWay, JoinedWay, LinkHolds, WholeIf, WithSession, is_in_recovery}
use Rattle.cluster_invariant.specs.Words.{downs_left, is_reset_down, stays_at}
use Rattle.cluster_invariant.proofs.Small.{of_some}
use Rattle.link_apps.proofs.OwnPlace.{OwnPlace, at_place, own_place}
use Rattle.link_apps.proofs.TookDown.{FirstFrame, first_frame}

-- The order that the end is told of, the lane, and what is known of the first frame and those behind it.
pub record JoinedFirst (v : Server) (x : Site) (app : ℕ) (s : Session) (c : Connection) (frame : DownFrame) (rest : List DownFrame) : Type 0 where
  pub place : OwnPlace v x app s
  pub its : c.its ≡ Some (record { session = s.number; order = place.k })
  pub first : FirstFrame (order_at v place.k) (stays_at v place.k) s.number (x.lane_at s.number place.k) (is_in_recovery (x.end_at app).state.link) frame rest
  pub whole : WholeIf x s.number place.k (x.lane_at s.number place.k) c (frame ∷ rest)

pub joined_first : (v : Server) (x : Site) (dead : ℕ → Bool) (app : ℕ) → dead app ≡ false → LinkHolds v x dead → EndsAre v x dead → (s : Session) (c : Connection)
    (frame : DownFrame) (rest : List DownFrame) → (x.end_at app).state.line ≡ Joined → (x.end_at app).state.session ≡ Some s
    → (x.end_at app).connection_at (x.end_at app).state.dial ≡ Some c → downs_left c ≡ frame ∷ rest → is_reset_down frame.message ≡ false
    → JoinedFirst v x app s c frame rest
joined_first v x dead app alive link are s c frame rest line has its left not_reset = go (at_place (λ q k. JoinedWay v x e.state q k c) v x app s has place down)
  where
    e : End
    e = x.end_at app

    place : OwnPlace v x app s
    place = own_place v x dead app alive link are s has

    down : WithSession e.state.session e.told (λ q k. JoinedWay v x e.state q k c)
    down =
        subst (λ (line : Line). DownBy line v x app e c) line
        (of_some (DownBy e.state.line v x app e) (e.connection_at e.state.dial) c its (link.apps app alive).down)

    go : JoinedWay v x e.state s place.k c → JoinedFirst v x app s c frame rest
    go j = record {
      place = place;
      its = j.its;
      first =
          first_frame (order_at v place.k) (stays_at v place.k) s.number (x.lane_at s.number place.k) (is_in_recovery e.state.link) frame rest not_reset
          (subst (λ (fs : List DownFrame). DownWay (order_at v place.k) (stays_at v place.k) s.number (x.lane_at s.number place.k) (is_in_recovery e.state.link) fs) left
          j.way);
      whole = subst (λ (fs : List DownFrame). WholeIf x s.number place.k (x.lane_at s.number place.k) c fs) left j.whole;
    }
