-- A site after an end learnt of an order of its session: what is changed there, and what its new lane has on its way.
use Rattle.std.proofs.Common.{◌≡◌, ◌≢◌, ◌<◌, ◌≤◌, ◌⊎◌, inl, inr, zero, suc, max, ℕ, Bool, true, false, List, [], ◌++◌, length, Some, None, is_some, refl, sym, ◌∙◌, ap, subst, arith}
use Rattle.std.specs.Prelude.{IfSome}
use Rattle.std.specs.List.{AllByRecursion}
use Rattle.std.proofs.lemmas.Bool.{false≢true}
use Rattle.std.proofs.lemmas.List.{append-nil}
use Rattle.plain_orders.specs.declared.entry.Entry.{Entry}
use Rattle.plain_runs.specs.Plain.{Server, current, order_at, put}
use Rattle.ecp_messages.specs.declared.up.Up.{Up}
use Rattle.ecp_messages.specs.declared.up.UpFrame.{UpFrame}
use Rattle.end_words.specs.Windows.{numbered_from}
use Rattle.app_rules.specs.declared.line.Line.TheVariants.{Joined}
use Rattle.app_rules.specs.AppState.{Session}
use Rattle.data_rules.specs.Places.{epoch_place}
use Rattle.cluster_runs.specs.Connections.{down_taken, with_ups}
use Rattle.cluster_runs.specs.Machine.{Site, End}
use Rattle.cluster_runs.specs.Sent.{Lane, Connection}
use Rattle.cluster_invariant.specs.Link.{LaneCounts, UpWay}
use Rattle.cluster_invariant.specs.Orders.{synced_first}
use Rattle.cluster_invariant.specs.Words.{numbered_behind, numbered_ups, stays_at}
use Rattle.cluster_invariant.proofs.AllLists.{all_follow}
use Rattle.cluster_steps.proofs.AppSites.{SameBeside}
use Rattle.link_apps.proofs.Learns.{Begins}

-- A site after an end learnt of an order of its session: its end and one lane alone are changed.
pub record LearntSite (v : Server) (x y : Site) (app : ℕ) (f : End) (c : Connection) (us : List UpFrame) : Type 0 where
  pub beside : SameBeside x y
  pub ends : y.end_at ≡ put x.end_at app f
  pub its : (x.end_at app).connection_at (x.end_at app).state.dial ≡ Some c
  pub conn : f.connection_at (x.end_at app).state.dial ≡ Some (with_ups us (down_taken c))
  pub others : (number : ℕ) → number ≢ (x.end_at app).state.dial → f.connection_at number ≡ (x.end_at app).connection_at number
  pub line_now : f.state.line ≡ Joined
  pub dial : f.state.dial ≡ (x.end_at app).state.dial
  pub session : Session
  pub k : ℕ
  pub now : f.state.session ≡ Some session
  pub carried : c.its ≡ Some (record { session = session.number; order = k })
  pub unlearnt : (x.lane_at session.number k).began ≡ None
  pub begins : Begins session.window.waiting (x.lane_at session.number k) (y.lane_at session.number k)
  pub elsewhere : (s j : ℕ) → ((s ≡ session.number) → (j ≡ k) → ⊥) → y.lane_at s j ≡ x.lane_at s j
  pub frames : numbered_ups us ≡ numbered_from 0 session.window.waiting
  pub acks : AllByRecursion (λ (g : UpFrame). g.ack ≤ 0) us
  pub mine : IfSome (v.session_at session.number) (λ t. t.app ≡ app)
  pub synced : k ≡ current v → session.number ≤ v.synced
  pub stays : epoch_place (order_at v k) ≤ stays_at v k
  pub place : (epoch_place (order_at v k) < session.number) ⊎ (0 < k)

-- what an end without it puts on its way
pub way_lost : (lane : Lane) (left : List UpFrame) (whole : Bool) → UpWay lane left whole → UpWay lane left false
way_lost lane left whole way = record { none = way.none; next = way.next; whole = λ is. absurd (false≢true is); acks = way.acks }

-- nothing is on its way in a lane that begins
pub way_begun : (waiting : List Up) (a b : Lane) (left : List UpFrame) (whole : Bool) → a.began ≡ None → Begins waiting a b → UpWay a left whole
    → UpWay b left false
way_begun waiting a b left whole none begins way =
    subst (λ (fs : List UpFrame). UpWay b fs false) (sym (way.none none)) (record {
      none = λ _. refl;
      next = (numbered_behind b.up_taken b.up, refl);
      whole = λ is. absurd (false≢true is);
      acks = tt;
    })

-- but what the end puts as it learns
pub way_puts : (waiting : List Up) (a b : Lane) (left us : List UpFrame) (whole : Bool) → a.began ≡ None → LaneCounts a → Begins waiting a b
    → numbered_ups us ≡ numbered_from 0 waiting
    → AllByRecursion (λ (g : UpFrame). g.ack ≤ 0) us → UpWay a left whole → UpWay b (left ++ us) true
way_puts waiting a b left us whole none counts begins frames acks way =
    subst (λ (fs : List UpFrame). UpWay b (fs ++ us) true) (sym (way.none none)) (record {
      none = λ gone. absurd (false≢true (sym (ap is_some gone) ∙ begins.began));
      next = ([], sym all ∙ sym (append-nil (numbered_ups us)));
      whole = λ is. all;
      acks = all_follow (λ (g : UpFrame). g.ack ≤ 0) (λ (g : UpFrame). g.ack ≤ b.down_taken) (λ g is. omega (arith, is)) us acks;
    })
  where
    none_taken : b.up_taken ≡ 0
    none_taken = omega (arith, begins.up_taken, counts.up_taken, ap (λ (ms : List Up). length ms) (counts.no_up none))

    all : numbered_ups us ≡ numbered_behind b.up_taken b.up
    all = frames ∙ ap (λ (ms : List Up). numbered_from 0 ms) (sym begins.up) ∙ ap (λ (n : ℕ). numbered_behind n b.up) (sym none_taken)

-- what is synced of an order that is there, but for its first Epoch
pub synced_past : (past n m e s : ℕ) (es : List Entry) → s ≡ max n (synced_first past es) → epoch_place es ≡ e → m ≤ s → (e < m) ⊎ (0 < past) → m ≤ n
synced_past zero n m e s es is place low (inl above) = omega (arith, is, place, low, above)
synced_past zero n m e s es is place low (inr some) = absurd (omega (arith, some))
synced_past (suc past) n m e s es is place low why = omega (arith, is, low)
