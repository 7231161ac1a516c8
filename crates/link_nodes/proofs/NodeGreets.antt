-- Sessions that were entered for application servers that greet, after a step of a data server.
use Rattle.std.proofs.Common.{◌≡◌, ◌≤◌, ◌<◌, ◌⊎◌, inl, inr, ℕ, true, false, List, [], length, drop, Option, Some, None, is_some, refl, sym, ◌∙◌, ap, subst, arith}
use Rattle.std.specs.Prelude.{IsSomeAnd}
use Rattle.std.proofs.lemmas.Bool.{false≢true}
use Rattle.plain_orders.specs.declared.entry.Entry.{Entry}
use Rattle.plain_orders.specs.declared.entry.Entry.TheVariants.{Opened}
use Rattle.plain_orders.specs.Entries.{count, entry_at}
use Rattle.plain_orders.specs.Sessions.{app_in}
use Rattle.plain_orders.proofs.Places.{entry_append, entry_low}
use Rattle.plain_runs.specs.Plain.{Server, current, order_at}
use Rattle.link_states.specs.declared.app_link.AppLink.{AppLink}
use Rattle.link_states.specs.declared.app_link.AppLink.TheVariants as client
use Rattle.app_rules.specs.declared.line.Line.{Line}
use Rattle.app_rules.specs.declared.line.Line.TheVariants.{Apart, Trying, Greeting, Asking, Joined}
use Rattle.app_rules.specs.AppState.{Session}
use Rattle.data_rules.specs.Places.{epoch_place}
use Rattle.cluster_runs.specs.Connections.{knows_of}
use Rattle.cluster_runs.specs.Machine.{End, Site}
use Rattle.cluster_runs.specs.Sent.{Connection, Knew, Place}
use Rattle.cluster_invariant.specs.Dials.{KnowsStill}
use Rattle.cluster_invariant.specs.Ends.{has_session, stands}
use Rattle.cluster_invariant.specs.Link.{GreetsOn, Unmet}
use Rattle.cluster_invariant.proofs.PastOrders.{order_now}
use Rattle.link_nodes.proofs.EnteredGo.{GoesBy, opened_in}

-- only an end that greets counts
pub greets_line : (w : Server) (y : Site) (s app : ℕ) (e : End) (number : ℕ) (line : Line) → (line ≡ Greeting → number ≡ e.state.dial → Unmet w y app e.state.told s y.past)
    → GreetsOn w y s app e number line
greets_line w y s app e number Apart so = tt
greets_line w y s app e number Trying so = tt
greets_line w y s app e number Greeting so = λ at. so refl at
greets_line w y s app e number Asking so = tt
greets_line w y s app e number Joined so = tt

-- and the other way
pub line_greets : (v : Server) (x : Site) (s app : ℕ) (e : End) (number : ℕ) (line : Line) → line ≡ Greeting → GreetsOn v x s app e number line → number ≡ e.state.dial
    → Unmet v x app e.state.told s x.past
line_greets v x s app e number Apart is on at = absurd cc
line_greets v x s app e number Trying is on at = absurd cc
line_greets v x s app e number Greeting is on at = on at
line_greets v x s app e number Asking is on at = absurd cc
line_greets v x s app e number Joined is on at = absurd cc

-- an end that greets knows of no session, and so its connection has no mark
greets_alone : (link : AppLink) → stands link Greeting ≡ true → has_session link ≡ false
greets_alone client.NotConnected is = refl
greets_alone client.Normal is = absurd (false≢true is)
greets_alone (client.Trouble broke try_at) is = absurd (false≢true is)
greets_alone client.Recovery is = absurd (false≢true is)

pub record GreetsAlone (c : Option Connection) : Type 0 where
  pub on : Connection
  pub there : c ≡ Some on
  pub mark : on.knew.mark ≡ None

pub greets_known : (link : AppLink) (line : Line) (o : Option Session) (told : Option Place) (greatest : ℕ) (c : Option Connection) → line ≡ Greeting → stands link line ≡ true
    → has_session link ≡ is_some o → KnowsStill line (knows_of o told greatest) c → GreetsAlone c
greets_known link line o told greatest c is stood has still =
    go o c (greets_alone link (subst (λ (i : Line). stands link i ≡ true) is stood)) has (subst (λ (i : Line). KnowsStill i (knows_of o told greatest) c) is still)
  where
    go : (q : Option Session) (d : Option Connection) → has_session link ≡ false → has_session link ≡ is_some q → IsSomeAnd d (λ y. (y.knew ≡ knows_of q told greatest) × (drop 1 y.ups ≡ []))
        → GreetsAlone d
    go None None free is k = absurd k
    go None (Some on) free is k = record { on = on; there = refl; mark = ap (λ (n : Knew). n.mark) k.0 }
    go (Some s) d free is k = absurd (false≢true (sym free ∙ is))

-- what a step makes of such a session

module _ (v w : Server) (x y : Site) (goes : GoesBy v w) (past : y.past ≡ x.past) (now : x.past ≡ current v) (place : epoch_place w.order ≡ epoch_place v.order) where
  same_now : current w ≡ current v
  same_now = ap (λ (xs : List (List Entry)). length xs) goes.past

  order_v : order_at v x.past ≡ v.order
  order_v = ap (order_at v) now ∙ order_now v

  order_w : order_at w y.past ≡ w.order
  order_w = ap (order_at w) (past ∙ now ∙ sym same_now) ∙ order_now w

  there_w : y.past ≤ current w
  there_w = omega (arith, past, now, same_now)

  -- one that wasn't met
  pub unmet_goes : (app told s : ℕ) → (y.lane_at s y.past).began ≡ (x.lane_at s x.past).began → Unmet v x app told s x.past → Unmet w y app told s y.past
  unmet_goes app told s began u = record {
    there = there_w;
    above = u.above;
    unmet = goes.unmet s u.unmet;
    entered = goes.low s (entry_low v.order (Opened s app) s opened) ∙ u.entered ∙ ap (λ (k : ℕ). Some (record { app = app; in_order = k; lost_since = false })) (sym past);
    opened = subst (λ (es : List Entry). entry_at es s ≡ Some (Opened s app)) (sym (order_w ∙ goes.goes.1)) (entry_append v.order goes.goes.0 (Opened s app) s opened);
    behind = subst (λ (n : ℕ). n < s) (ap epoch_place order_v ∙ sym place ∙ sym (ap epoch_place order_w)) u.behind;
    unused = ap (λ (es : List Entry). count es s) order_w ∙ goes.counts s u.unmet ∙ sym (ap (λ (es : List Entry). count es s) order_v) ∙ u.unused;
    unlearnt = began ∙ u.unlearnt;
  }
    where
      opened : entry_at v.order s ≡ Some (Opened s app)
      opened = ap (λ (es : List Entry). entry_at es s) (sym order_v) ∙ u.opened

  -- one that is opened in the step
  pub unmet_new : (app told s : ℕ) → length v.order < s → told ≤ length v.order → app_in v.order s ≡ None → v.session_at s ≡ None → count v.order s ≡ 0 → app_in w.order s ≡ Some app → epoch_place w.order < s
      → (y.lane_at s y.past).began ≡ None → Unmet w y app told s y.past
  unmet_new app told s above low unopened unmet unused opened behind unlearnt = go (goes.fresh s app opened)
    where
      go : (app_in v.order s ≡ Some app) ⊎ ((w.entered_at s ≡ opened_in v app) × (entry_at w.order s ≡ Some (Opened s app))) → Unmet w y app told s y.past
      go (inl was) = absurd (let both : ◌≡◌ {A = Option ℕ} None (Some app) = sym unopened ∙ was in cc)
      go (inr new) = record {
        there = there_w;
        above = omega (arith, above, low);
        unmet = goes.unmet s unmet;
        entered = new.0 ∙ ap (λ (k : ℕ). Some (record { app = app; in_order = k; lost_since = false })) (sym (past ∙ now));
        opened = ap (λ (es : List Entry). entry_at es s) order_w ∙ new.1;
        behind = subst (λ (n : ℕ). n < s) (sym (ap epoch_place order_w)) behind;
        unused = ap (λ (es : List Entry). count es s) order_w ∙ goes.counts s unmet ∙ unused;
        unlearnt = unlearnt;
      }
