-- A step of an application server that puts more to the session of its end at one data server, and takes nothing: its lanes.
use Rattle.std.proofs.Common.{◌≡◌, ℕ, Bool, true, false, ◌==◌, List, ◌++◌, length, Option, Some, None, is_some, refl, sym, ◌∙◌, ap, subst, arith}
use Rattle.std.specs.Prelude.{IfSome}
use Rattle.std.specs.List.{list_all}
use Rattle.std.proofs.lemmas.Bool.{eqb-true, eq-eqb, false≢true}
use Rattle.plain_runs.specs.Plain.{Server, put}
use Rattle.ecp_messages.specs.declared.up.Up.{Up}
use Rattle.app_rules.specs.AppState.{AppEnd, Session}
use Rattle.app_rules.specs.Looks.{Shown}
use Rattle.app_rules.specs.Works.{is_joined, session_of}
use Rattle.cluster_runs.specs.Sent.{Lane, Place, Connection}
use Rattle.cluster_runs.specs.Machine.{Site, End}
use Rattle.cluster_runs.specs.Connections.{at_number, with_ups}
use Rattle.cluster_runs.specs.Goes.{with_state}
use Rattle.cluster_invariant.specs.Ends.{EndsAre}
use Rattle.cluster_invariant.specs.Link.{LaneCounts, LinkHolds, WindowIs, is_numbered_up}
use Rattle.cluster_invariant.specs.Words.{IsFront}
use Rattle.cluster_invariant.proofs.Small.{of_some}
use Rattle.cluster_steps.proofs.AppSites.{SameBeside}
use Rattle.cluster_steps.proofs.JobEnds.{EndGrows, put_frames}
use Rattle.link_apps.proofs.NodeApps.{LanePut}
use Rattle.link_apps.proofs.EndsApps.{LaneDown}
use Rattle.link_apps.proofs.OwnPlace.{OwnPlace, own_place}
use Rattle.link_apps.proofs.PutsUp.{counts_put}

-- the end after the step, of which the connection that it has is changed
abbrev pub own_after : (Connection → Connection) → AppEnd → Shown → End → End
own_after g t shown e = at_number t.dial g (with_state t shown e)

-- What a step of an application server makes of its end at one data server: it puts these messages, in frames where the connection's Welcome
-- was taken.
pub record Puts (x y : Site) (app : ℕ) (t : AppEnd) (shown : Shown) (ms : List Up) : Type 0 where
  pub beside : SameBeside x y
  pub ends : y.end_at
      ≡ put x.end_at app (own_after (with_ups (put_frames (is_joined (x.end_at app).state.line) (session_of (x.end_at app).state).window ms)) t shown (x.end_at app))
  pub grows : EndGrows ms (x.end_at app).state t
  pub numbered : list_all is_numbered_up ms ≡ true
  pub lanes : (s k : ℕ) → LaneDown (x.lane_at s k) (y.lane_at s k)
  pub fronts : (s k : ℕ) → IsFront (x.lane_at s k).up (y.lane_at s k).up
  -- its lane has them, and no other lane is changed
  pub own : IfSome (x.end_at app).state.session (λ s. IfSome (x.end_at app).told (λ p. (y.lane_at s.number p.order).up ≡ (x.lane_at s.number p.order).up ++ ms))
  pub elsewhere : (s k : ℕ)
      → IfSome (x.end_at app).state.session (λ u. IfSome (x.end_at app).told (λ p. (s ≡ u.number) → (k ≡ p.order) → ⊥)) → y.lane_at s k ≡ x.lane_at s k

put_of : (a b : Lane) → LaneDown a b → IsFront a.up b.up → LanePut a b
put_of a b d front = record { began = d.began; up = front; up_taken = d.up_taken; down = d.down; down_taken = omega (arith, d.down_taken) }

-- Its session, in the order that it is told of, and the lane that has more.
pub record Own (x y : Site) (app : ℕ) (ms : List Up) (s : Session) (k : ℕ) : Type 0 where
  pub its : (x.end_at app).state.session ≡ Some s
  pub told : (x.end_at app).told ≡ Some (record { session = s.number; order = k })
  pub window : WindowIs s.window (x.lane_at s.number k).up (x.lane_at s.number k).up_taken (x.lane_at s.number k).down_taken
  pub begun : is_some (x.lane_at s.number k).began ≡ true
  pub more : (y.lane_at s.number k).up ≡ (x.lane_at s.number k).up ++ ms

module _ (v : Server) (x y : Site) (dead : ℕ → Bool) (app : ℕ) (t : AppEnd) (shown : Shown) (ms : List Up) (alive : dead app ≡ false)
    (link : LinkHolds v x dead) (are : EndsAre v x dead) (puts : Puts x y app t shown ms) where
  abbrev e : End
  e = x.end_at app

  pub lanes_put : (s k : ℕ) → LanePut (x.lane_at s k) (y.lane_at s k)
  lanes_put s k = put_of (x.lane_at s k) (y.lane_at s k) (puts.lanes s k) (puts.fronts s k)

  pub own_of : (s : Session) → e.state.session ≡ Some s → (k : ℕ) × Own x y app ms s k
  own_of s its = go (own_place v x dead app alive link are s its)
    where
      go : OwnPlace v x app s → (k : ℕ) × Own x y app ms s k
      go p = (
        p.k,
        record {
          its = its;
          told = p.told;
          window = p.window;
          begun = p.begun;
          more =
              of_some (λ (z : Place). (y.lane_at s.number z.order).up ≡ (x.lane_at s.number z.order).up ++ ms) e.told (record { session = s.number; order = p.k })
              p.told
              (of_some (λ (q : Session). IfSome e.told (λ z. (y.lane_at q.number z.order).up ≡ (x.lane_at q.number z.order).up ++ ms)) e.state.session s its puts.own);
        },
      )

  -- all lanes count what was put and taken

  pub counts_kept : (s k : ℕ) → LaneCounts (y.lane_at s k)
  counts_kept s k = by e.state.session refl
    where
      same : IfSome e.state.session (λ u. IfSome e.told (λ p. (s ≡ u.number) → (k ≡ p.order) → ⊥)) → LaneCounts (y.lane_at s k)
      same none = subst LaneCounts (sym (puts.elsewhere s k none)) (link.lanes s k)

      here : (u : Session) (j : ℕ) → Own x y app ms u j → (a b : Bool) → (s == u.number) ≡ a → (k == j) ≡ b → LaneCounts (y.lane_at s k)
      here u j o true true at is =
          subst (λ (n : ℕ). LaneCounts (y.lane_at n k)) (sym (eqb-true s u.number at))
          (subst (λ (n : ℕ). LaneCounts (y.lane_at u.number n)) (sym (eqb-true k j is))
          (counts_put (x.lane_at u.number j) (y.lane_at u.number j) ms (lanes_put u.number j) o.more
          (λ none. absurd (false≢true (sym (ap is_some none) ∙ o.begun))) puts.numbered
          (omega (arith, (link.lanes u.number j).down_taken, (puts.lanes u.number j).down_taken, ap (λ ds. length ds) (puts.lanes u.number j).down)) (link.lanes u.number j)))
      here u j o false b other is =
          same
          (subst (λ (z : Option Session). IfSome z (λ r. IfSome e.told (λ p. (s ≡ r.number) → (k ≡ p.order) → ⊥))) (sym o.its)
          (subst (λ (z : Option Place). IfSome z (λ p. (s ≡ u.number) → (k ≡ p.order) → ⊥)) (sym o.told)
          (λ at here. absurd (false≢true (sym other ∙ eq-eqb s u.number at)))))
      here u j o a false at other =
          same
          (subst (λ (z : Option Session). IfSome z (λ r. IfSome e.told (λ p. (s ≡ r.number) → (k ≡ p.order) → ⊥))) (sym o.its)
          (subst (λ (z : Option Place). IfSome z (λ p. (s ≡ u.number) → (k ≡ p.order) → ⊥)) (sym o.told)
          (λ at here. absurd (false≢true (sym other ∙ eq-eqb k j here)))))

      by : (o : Option Session) → e.state.session ≡ o → LaneCounts (y.lane_at s k)
      by None none = same (subst (λ (z : Option Session). IfSome z (λ u. IfSome e.told (λ p. (s ≡ u.number) → (k ≡ p.order) → ⊥))) (sym none) tt)
      by (Some u) its = let o : (j : ℕ) × Own x y app ms u j = own_of u its in here u o.0 o.1 (s == u.number) (k == o.0) refl refl
