-- A site after a step of an application server: its end, and what stays.
use Rattle.std.proofs.Common.{◌≡◌, ◌<◌, ◌≤◌, ℕ, Bool, true, false, length, Option, Some, None, refl, sym, ◌∙◌, ap, subst, arith}
use Rattle.std.specs.Prelude.{nat_lt}
use Rattle.std.proofs.lemmas.Bool.{ltb-true, ltb-false}
use Rattle.std.proofs.lemmas.List.{get_or_past}
use Rattle.std.proofs.lemmas.List.FromFn.{length-map-range_with_len, get_or-map-range_with_len}
use Rattle.ecp_messages.specs.declared.down.Down.{Down}
use Rattle.app_rules.specs.declared.app_outs.AppOuts.{AppOuts}
use Rattle.app_rules.specs.AppState.{AppEnd, no_end}
use Rattle.app_rules.specs.Looks.{Shown}
use Rattle.app_rules.specs.Works.{end_at}
use Rattle.cluster_runs.specs.CoresState.{CoresState, app_at}
use Rattle.cluster_runs.specs.Sent.{Lane, Place}
use Rattle.cluster_runs.specs.Machine.{Machine, Site, End, app_state, end_state}
use Rattle.cluster_runs.specs.Lanes.{told_by, is_told_new}
use Rattle.cluster_runs.specs.Goes.{app_site, app_end, at_told, with_state}
use Rattle.cluster_runs.specs.Mirrors.{Mirrors}
use Rattle.plain_runs.specs.Plain.{put}

-- the lane that an end is told of is no part of the ends, nor of the node
told_ends : (o : Option Place) (f : Lane → Lane) (x : Site) → (at_told o f x).end_at ≡ x.end_at
told_ends None f x = refl
told_ends (Some p) f x = refl

-- what a site has beside the ends and lanes
pub record SameBeside (x y : Site) : Type 0 where
  pub node : y.node ≡ x.node
  pub order : y.order ≡ x.order
  pub past : y.past ≡ x.past
  pub connections : y.connection_at ≡ x.connection_at
  pub hellos : y.hellos_at ≡ x.hellos_at

pub site_beside : (app d : ℕ) (outs : AppOuts) (old new : AppEnd) (m : Option Down) (e : End) (x : Site) → SameBeside x (app_site app d outs old new m e x)
site_beside app d outs old new m e x = go e.told _
  where
    go : (o : Option Place) (f : Lane → Lane) → SameBeside x (at_told o f (record x { end_at = put x.end_at app e }))
    go None f = record { node = refl; order = refl; past = refl; connections = refl; hellos = refl }
    go (Some p) f = record { node = refl; order = refl; past = refl; connections = refl; hellos = refl }

pub site_ends : (app d : ℕ) (outs : AppOuts) (old new : AppEnd) (m : Option Down) (e : End) (x : Site) → (app_site app d outs old new m e x).end_at ≡ put x.end_at app e
site_ends app d outs old new m e x = told_ends e.told _ (record x { end_at = put x.end_at app e })

-- its own end's state, and what is published
told_state : (t : Bool) (m : Option Down) (n : ℕ) (e : End) → (told_by t m n e).state ≡ e.state
told_state true m n e = refl
told_state false m n e = refl

told_shown : (t : Bool) (m : Option Down) (n : ℕ) (e : End) → (told_by t m n e).shown ≡ e.shown
told_shown true m n e = refl
told_shown false m n e = refl

pub end_has_state : (d : ℕ) (outs : AppOuts) (old new : AppEnd) (shown : Shown) (m : Option Down) (e : End) → (app_end d outs old new shown m e).state ≡ new
end_has_state d outs old new shown m e = told_state (is_told_new old.session new.session) m old.dial (with_state new shown e)

pub end_has_shown : (d : ℕ) (outs : AppOuts) (old new : AppEnd) (shown : Shown) (m : Option Down) (e : End) → (app_end d outs old new shown m e).shown ≡ shown
end_has_shown d outs old new shown m e = told_shown (is_told_new old.session new.session) m old.dial (with_state new shown e)

-- An application server of the machine has the ends that its sites have, and beyond them ends that never connected.
pub app_ends : (c : CoresState) (m : Machine) (app d : ℕ) → Mirrors c m → app < c.layout.apps → end_at (app_state m app) d ≡ end_state m app d
app_ends c m app d shows known = go (nat_lt d m.layout.servers) refl
  where
    beyond : m.layout.servers ≤ d → length (app_at c app).ends ≤ d
    beyond past = subst (λ n. n ≤ d) (sym ((shows.apps app known).whole ∙ ap (λ l. l.servers) shows.layout)) past

    go : (b : Bool) → nat_lt d m.layout.servers ≡ b → end_at (app_state m app) d ≡ end_state m app d
    go true low = get_or-map-range_with_len (end_state m app) 0 m.layout.servers d d no_end (ltb-true d m.layout.servers low) (omega arith)
    go false past =
        get_or_past (app_state m app).ends d no_end (subst (λ n. n ≤ d) (sym (length-map-range_with_len (end_state m app) 0 m.layout.servers)) (ltb-false d m.layout.servers past))
        ∙ sym (get_or_past (app_at c app).ends d no_end (beyond (ltb-false d m.layout.servers past))) ∙ shows.ends app d
