-- The half of a running node as one of its sessions learns of the current order.
use Rattle.std.proofs.Common.{◌≡◌, ◌⊎◌, inl, inr, ◌≤◌, ℕ, ◌+◌, Bool, true, false, Option, Some, None, is_some, drop, refl, sym, ◌∙◌, ap, subst, arith}
use Rattle.std.specs.Prelude.{IfSome}
use Rattle.std.specs.List.{list_any}
use Rattle.std.proofs.lemmas.Bool.{false≢true}
use Rattle.plain_orders.specs.Entries.{live}
use Rattle.plain_runs.specs.Plain.{Server, current}
use Rattle.data_rules.specs.DataState.{DataState}
use Rattle.data_rules.specs.declared.rows.Reply.{Reply}
use Rattle.data_rules.specs.declared.rows.Role.TheVariants.{Bound}
use Rattle.data_rules.specs.declared.rows.Says.{Says}
use Rattle.data_rules.specs.declared.rows.Says.TheVariants.{NewWelcome, EpochWelcome, ResetOf, GrantOf, AnswerOf}
use Rattle.data_rules.specs.Conns.{role_of}
use Rattle.data_rules.specs.Places.{epoch_place}
use Rattle.data_rules.specs.Puts.{window_of}
use Rattle.block_holders.specs.declared.noted.Noted.{Noted}
use Rattle.lock_table.specs.declared.rows.Hold.{Hold}
use Rattle.lock_table.specs.declared.rows.Request.{Request}
use Rattle.cluster_runs.specs.CoresState.{Linked}
use Rattle.cluster_runs.specs.Sent.{Connection, Lane}
use Rattle.cluster_runs.specs.Machine.{Site, DataConnection}
use Rattle.cluster_runs.specs.Connections.{link_in, link_of}
use Rattle.cluster_invariant.specs.Link.{NodeLink, NodeWindows, WindowIs, UpWayBy, GreetsBy, is_window_of}
use Rattle.cluster_invariant.specs.Served.{IsServed, HasLearnt, NodeServes}
use Rattle.cluster_invariant.specs.Waiting.{OnLinked, WaitsNewOn, WaitsEpochOn, WaitsResetOn, WaitsFor, ReplyWaits}
use Rattle.cluster_invariant.specs.Words.{is_begun}
use Rattle.cluster_invariant.proofs.AllLists.{all_follow}
use Rattle.cluster_steps.proofs.AppSites.{SameBeside}
use Rattle.link_kept.proofs.Later.{Later}
use Rattle.link_apps.proofs.NodeApps.{DownsSame, DownsStay, NoNew, epoch_same, new_same, reset_same, some_stays}

-- Of a session that learns of the order: where it is live it has a window, and what its Welcome rested on is synced.
pub record Hears (n : DataState) (s : ℕ) : Type 0 where
  pub window : live n.order s ≡ true → list_any (is_window_of s) n.windows ≡ true
  pub synced : s ≤ n.synced
  pub epoch : epoch_place n.order ≤ n.synced

-- What comes down of a lane is as it was, and it begins at most where its session learns of the order.
pub record LaneHears (n : DataState) (s : ℕ) (a b : Lane) : Type 0 where
  pub up_taken : b.up_taken ≡ a.up_taken
  pub down : b.down ≡ a.down
  pub down_taken : b.down_taken ≡ a.down_taken
  pub learnt : is_begun a ≡ true → is_begun b ≡ true
  pub kept : (b.began ≡ a.began) ⊎ Hears n s

-- one that didn't begin didn't before
pub unheard : (n : DataState) (s : ℕ) (a b : Lane) → LaneHears n s a b → b.began ≡ None → a.began ≡ None
unheard n s a b h none = go a.began refl
  where
    go : (o : Option ℕ) → a.began ≡ o → o ≡ None
    go None is = refl
    go (Some k) is = absurd (false≢true (sym (ap is_some none) ∙ h.learnt (ap is_some is)))

module _ (v w : Server) (x y : Site) (dead : ℕ → Bool) (n : DataState) (later : Later x v w) (now : current w ≡ current v) (beside : SameBeside x y)
    (lanes : (s : ℕ) → LaneHears n s (x.lane_at s x.past) (y.lane_at s x.past))
    (stay : (app number : ℕ) → DownsStay ((x.end_at app).connection_at number) ((y.end_at app).connection_at number))
    (old : (conn : ℕ) → IfSome (link_of x conn) (λ l. NoNew ((x.end_at l.app).connection_at l.dial) ((y.end_at l.app).connection_at l.dial))) where
  same_link : (conn : ℕ) → link_of y conn ≡ link_of x conn
  same_link conn = ap (λ (f : ℕ → Option DataConnection). link_in (f conn)) beside.connections

  -- a lane of the current order
  here : (s : ℕ) → LaneHears n s (x.lane_at s x.past) (y.lane_at s y.past)
  here s = subst (λ (k : ℕ). LaneHears n s (x.lane_at s x.past) (y.lane_at s k)) (sym beside.past) (lanes s)

  window_heard : (s : ℕ) → WindowIs (window_of n s) (x.lane_at s x.past).down (x.lane_at s x.past).down_taken (x.lane_at s x.past).up_taken
      → WindowIs (window_of n s) (y.lane_at s y.past).down (y.lane_at s y.past).down_taken (y.lane_at s y.past).up_taken
  window_heard s is = record {
    waiting = is.waiting ∙ ap (drop (window_of n s).acked) (sym (here s).down);
    acked = omega (arith, is.acked, (here s).down_taken);
    taken = is.taken ∙ sym (here s).up_taken;
  }

  windows_heard : NodeWindows x n → NodeWindows y n
  windows_heard is = record {
    differ = is.differ;
    lives = is.lives;
    each = λ s lives. window_heard s (is.each s lives);
    none = λ s lives gone. none s lives gone (here s).kept;
  }
    where
      none : (s : ℕ) → live n.order s ≡ true → list_any (is_window_of s) n.windows ≡ false
          → ((y.lane_at s y.past).began ≡ (x.lane_at s x.past).began) ⊎ Hears n s
          → (y.lane_at s y.past).began ≡ None
      none s lives gone (inl same) = same ∙ is.none s lives gone
      none s lives gone (inr h) = absurd (false≢true (sym gone ∙ h.window lives))

  -- replies

  on_linked : (P Q : Connection → Type 0) → ((c d : Connection) → DownsSame c d → P c → Q d) → (conn : ℕ) → OnLinked x conn P → OnLinked y conn Q
  on_linked P Q f conn is =
      subst (λ (o : Option Linked). IfSome o (λ l. IfSome ((y.end_at l.app).connection_at l.dial) Q)) (sym (same_link conn)) (go (link_of x conn) (old conn) is)
    where
      go : (o : Option Linked) → IfSome o (λ l. NoNew ((x.end_at l.app).connection_at l.dial) ((y.end_at l.app).connection_at l.dial))
          → IfSome o (λ l. IfSome ((x.end_at l.app).connection_at l.dial) P) → IfSome o (λ l. IfSome ((y.end_at l.app).connection_at l.dial) Q)
      go None there at = tt
      go (Some l) there at =
          some_stays P Q f ((x.end_at l.app).connection_at l.dial) ((y.end_at l.app).connection_at l.dial) (stay l.app l.dial) there at

  learnt : (s : ℕ) → HasLearnt x s → HasLearnt y s
  learnt s is = (here s).learnt is

  served : (s : ℕ) → IsServed x n s → IsServed y n s
  served s is = record { lives = is.lives; learnt = learnt s is.learnt }

  -- a Welcome waits for a session that didn't learn
  unlearnt : (s at : ℕ) → n.synced + 1 ≤ at → (at ≡ s) ⊎ (at ≡ epoch_place n.order) → (x.lane_at s x.past).began ≡ None → (y.lane_at s y.past).began ≡ None
  unlearnt s at above place none = go (here s).kept
    where
      late : (at ≡ s) ⊎ (at ≡ epoch_place n.order) → Hears n s → ⊥
      late (inl same) h = omega (arith, above, same, h.synced)
      late (inr same) h = omega (arith, above, same, h.epoch)

      go : ((y.lane_at s y.past).began ≡ (x.lane_at s x.past).began) ⊎ Hears n s → (y.lane_at s y.past).began ≡ None
      go (inl same) = same ∙ none
      go (inr h) = absurd (late place h)

  waits_for : (at : ℕ) (says : Says) → n.synced + 1 ≤ at → WaitsFor v x n at says → WaitsFor w y n at says
  waits_for at (NewWelcome conn s) above is = record {
    place = is.place;
    bound = is.bound;
    unlearnt = unlearnt s at above (inl is.place) is.unlearnt;
    untold = on_linked WaitsNewOn WaitsNewOn new_same conn is.untold;
  }
  waits_for at (EpochWelcome conn s kept) above is = record {
    place = is.place;
    bound = is.bound;
    unlearnt = unlearnt s at above (inr is.place) is.unlearnt;
    says = on_linked (WaitsEpochOn v n s kept) (WaitsEpochOn w n s kept) (epoch_same x v w n s kept later now) conn is.says;
  }
  waits_for at (ResetOf conn s place) above is = record {
    until = is.until;
    closing = is.closing;
    closed = is.closed;
    follows =
        on_linked (WaitsResetOn n.order s (x.lane_at s x.past)) (WaitsResetOn n.order s (y.lane_at s y.past))
        (reset_same n s (x.lane_at s x.past) (y.lane_at s y.past) (here s).down) conn is.follows;
  }
  waits_for at (GrantOf s ticket number) above is = served s is
  waits_for at (AnswerOf s about job number place sum) above is = served s is

  reply_waits : (r : Reply) → ReplyWaits v x n r → ReplyWaits w y n r
  reply_waits r is = record { unsynced = is.unsynced; says = waits_for r.at r.says (omega (arith, is.unsynced)) is.says }

  serves : NodeServes x n → NodeServes y n
  serves s = record {
    noted = all_follow (λ (z : Noted). IsServed x n z.session) (λ (z : Noted). IsServed y n z.session) (λ z is. served z.session is) n.noted s.noted;
    requests =
        all_follow (λ (r : Request). IsServed x n r.who.session) (λ (r : Request). IsServed y n r.who.session) (λ r is. served r.who.session is)
        n.locks.requests s.requests;
    wait = s.wait;
    one_each = s.one_each;
    granted =
        all_follow (λ (r : Request). HasLearnt x r.who.session) (λ (r : Request). HasLearnt y r.who.session) (λ r is. learnt r.who.session is)
        n.locks.granted s.granted;
    holds =
        all_follow (λ (h : Hold). HasLearnt x h.who.session) (λ (h : Hold). HasLearnt y h.who.session) (λ h is. learnt h.who.session is)
        n.locks.holds s.holds;
    items = λ s0 none. s.items s0 (unheard n s0 (x.lane_at s0 x.past) (y.lane_at s0 y.past) (here s0) none);
  }

  -- The half of a running node, by what is on its way upwards and by the ends that greet.
  pub node_heard : ((s conn : ℕ) (l : Linked) → role_of n conn ≡ Some (Bound s) → link_of x conn ≡ Some l → UpWayBy x dead s l → UpWayBy y dead s l)
      → ((s conn : ℕ) (l : Linked) → role_of n conn ≡ Some (Bound s) → link_of x conn ≡ Some l → GreetsBy v x dead s l → GreetsBy w y dead s l)
      → NodeLink v x dead n → NodeLink w y dead n
  node_heard ups greets is = record {
    windows = windows_heard is.windows;
    ups =
        λ s conn role.
        subst (λ (o : Option Linked). IfSome o (UpWayBy y dead s)) (sym (same_link conn))
        (by (UpWayBy x dead s) (UpWayBy y dead s) (link_of x conn) (λ l its. ups s conn l role its) (is.ups s conn role));
    greets =
        λ s conn role.
        subst (λ (o : Option Linked). IfSome o (GreetsBy w y dead s)) (sym (same_link conn))
        (by (GreetsBy v x dead s) (GreetsBy w y dead s) (link_of x conn) (λ l its. greets s conn l role its) (is.greets s conn role));
    replies = all_follow (ReplyWaits v x n) (ReplyWaits w y n) reply_waits n.replies is.replies;
    one_each = is.one_each;
    serves = serves is.serves;
  }
    where
      by : (P Q : Linked → Type 0) (o : Option Linked) → ((l : Linked) → o ≡ Some l → P l → Q l) → IfSome o P → IfSome o Q
      by P Q None f at = tt
      by P Q (Some l) f at = f l refl at
