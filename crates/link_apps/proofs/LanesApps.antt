-- The lanes after a step of an application server by which its end learns of no order.
use Rattle.std.proofs.Common.{◌≡◌, ◌≢◌, ◌≤◌, ℕ, ◌+◌, ◌-◌, Bool, true, false, ◌&&◌, if◌then◌else◌, List, [], ◌++◌, length, drop, Option, Some, None, refl, sym, ◌∙◌, ap, subst, arith}
use Rattle.std.specs.Prelude.{◌==◌, IfSome}
use Rattle.std.proofs.lemmas.Bool.{and_parts, eq-eqb, eqb-true, ne_eqb}
use Rattle.std.proofs.lemmas.List.{append-nil}
use Rattle.std.proofs.Math.Seq.{drop-append_seam}
use Rattle.ecp_messages.specs.declared.up.Up.{Up}
use Rattle.ecp_messages.specs.declared.up.UpFrame.{UpFrame}
use Rattle.ecp_messages.specs.declared.down.Down.{Down}
use Rattle.end_words.specs.Windows.{Window, sent}
use Rattle.app_rules.specs.declared.app_outs.AppOuts.{AppOuts}
use Rattle.app_rules.specs.AppState.{AppEnd, Session}
use Rattle.cluster_runs.specs.Sent.{Lane, Place}
use Rattle.cluster_runs.specs.Machine.{Site, End}
use Rattle.cluster_runs.specs.Connections.{ups_to}
use Rattle.cluster_runs.specs.Goes.{app_site, at_told}
use Rattle.cluster_runs.specs.Lanes.{with_app_step, given_since, sent_before, is_told_new}
use Rattle.link_apps.proofs.EndsApps.{LaneDown}
use Rattle.link_apps.proofs.NodeApps.{LanePut}
use Rattle.plain_runs.specs.Plain.{put}

-- one lane

pub lane_put : (m : Option Down) (number n : ℕ) (q : Option Session) (frames : List UpFrame) (a : Lane) → IfSome q (λ t. a.down_taken ≤ t.window.taken)
    → LanePut a (with_app_step false m number n q frames a)
lane_put m number n None frames a low = record { began = refl; up = ([], sym (append-nil a.up)); up_taken = refl; down = refl; down_taken = omega arith }
lane_put m number n (Some t) frames a low = record { began = refl; up = (given_since n t.window, refl); up_taken = refl; down = refl; down_taken = low }

pub lane_down : (m : Option Down) (number n : ℕ) (q : Option Session) (frames : List UpFrame) (a : Lane) → IfSome q (λ t. t.window.taken ≡ a.down_taken)
    → LaneDown a (with_app_step false m number n q frames a)
lane_down m number n None frames a same = record { began = refl; up_taken = refl; down = refl; down_taken = refl }
lane_down m number n (Some t) frames a same = record { began = refl; up_taken = refl; down = refl; down_taken = same }

-- what a window was given behind what it had sent
pub given_put : (s t : Window Up) (ms : List Up) → t.acked ≡ s.acked → t.waiting ≡ s.waiting ++ ms → given_since (sent s) t ≡ ms
given_put s t ms acked waiting =
    ap (drop (s.acked + length s.waiting - t.acked)) waiting
    ∙ ap (λ (n : ℕ). drop n (s.waiting ++ ms)) (omega (arith, acked))
    ∙ drop-append_seam s.waiting ms

-- the lane that an end is told of, and others

-- what holds of a lane as it was holds of each that isn't changed
pub told_lane : (R : Lane → Lane → Type 0) → ((a : Lane) → R a a) → (o : Option Place) (f : Lane → Lane) (z : Site) (s k : ℕ)
    → IfSome o (λ p. s ≡ p.session → k ≡ p.order → R (z.lane_at s k) (f (z.lane_at s k))) → R (z.lane_at s k) ((at_told o f z).lane_at s k)
told_lane R same None f z s k each = same (z.lane_at s k)
told_lane R same (Some p) f z s k each = go (s == p.session && k == p.order) refl
  where
    go : (b : Bool) → (s == p.session && k == p.order) ≡ b → R (z.lane_at s k) (if b then f (z.lane_at s k) else z.lane_at s k)
    go true is =
        let parts : ((s == p.session) ≡ true) × ((k == p.order) ≡ true) = and_parts (s == p.session) (k == p.order) is in
        each (eqb-true s p.session parts.0) (eqb-true k p.order parts.1)
    go false is = same (z.lane_at s k)

pub own_lane : (p : Place) (f : Lane → Lane) (z : Site) → (at_told (Some p) f z).lane_at p.session p.order ≡ f (z.lane_at p.session p.order)
own_lane p f z =
    ap (λ (b : Bool). if b && p.order == p.order then f (z.lane_at p.session p.order) else z.lane_at p.session p.order) (eq-eqb p.session p.session refl)
    ∙ ap (λ (b : Bool). if b then f (z.lane_at p.session p.order) else z.lane_at p.session p.order) (eq-eqb p.order p.order refl)

pub lane_elsewhere : (o : Option Place) (f : Lane → Lane) (z : Site) (s k : ℕ) → IfSome o (λ p. s ≢ p.session) → (at_told o f z).lane_at s k ≡ z.lane_at s k
lane_elsewhere None f z s k other = refl
lane_elsewhere (Some p) f z s k other = ap (λ (b : Bool). if b && k == p.order then f (z.lane_at s k) else z.lane_at s k) (ne_eqb s p.session other)

-- A site after a step by which an end learns of no order is one whose lane goes on.
pub site_lanes : (R : Lane → Lane → Type 0) → ((a : Lane) → R a a) → (app d : ℕ) (outs : AppOuts) (old new : AppEnd) (m : Option Down) (e : End) (x : Site)
    → is_told_new old.session new.session ≡ false → (s k : ℕ)
    → IfSome e.told (λ p. s ≡ p.session → k ≡ p.order
    → R (x.lane_at s k) (with_app_step false m old.dial (sent_before old.session) new.session (ups_to d outs.frames) (x.lane_at s k)))
    → R (x.lane_at s k) ((app_site app d outs old new m e x).lane_at s k)
site_lanes R same app d outs old new m e x none s k each =
    told_lane R same e.told (with_app_step (is_told_new old.session new.session) m old.dial (sent_before old.session) new.session (ups_to d outs.frames))
    (record x { end_at = put x.end_at app e }) s k
    (subst
    (λ (b : Bool).
    IfSome e.told (λ p. s ≡ p.session → k ≡ p.order
    → R (x.lane_at s k) (with_app_step b m old.dial (sent_before old.session) new.session (ups_to d outs.frames) (x.lane_at s k)))) (sym none) each)
