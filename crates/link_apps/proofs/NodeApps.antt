-- The half of a running node over a step of an application server, which leaves the node, its connections and what was put downwards.
use Rattle.std.proofs.Common.{◌≡◌, ◌≤◌, ℕ, Bool, List, Option, Some, None, is_some, drop, refl, sym, ◌∙◌, ap, subst, arith}
use Rattle.std.specs.Prelude.{⊤, IfSome, IsSomeAnd}
use Rattle.std.specs.List.{list_any}
use Rattle.plain_orders.specs.Sessions.{place_of_epoch}
use Rattle.plain_runs.specs.Plain.{Server, current}
use Rattle.ecp_messages.specs.declared.down.Down.{Down}
use Rattle.ecp_messages.specs.declared.down.DownFrame.{DownFrame}
use Rattle.data_rules.specs.DataState.{DataState}
use Rattle.data_rules.specs.declared.rows.Reply.{Reply}
use Rattle.data_rules.specs.declared.rows.Role.TheVariants.{Bound}
use Rattle.data_rules.specs.declared.rows.Says.{Says}
use Rattle.data_rules.specs.declared.rows.Says.TheVariants.{NewWelcome, EpochWelcome, ResetOf, GrantOf, AnswerOf}
use Rattle.data_rules.specs.Conns.{role_of}
use Rattle.data_rules.specs.Puts.{window_of}
use Rattle.block_holders.specs.declared.noted.Noted.{Noted}
use Rattle.lock_table.specs.declared.rows.Hold.{Hold}
use Rattle.lock_table.specs.declared.rows.Request.{Request}
use Rattle.cluster_runs.specs.CoresState.{Linked}
use Rattle.cluster_runs.specs.Sent.{Connection, Knew, Lane, Mark, Place}
use Rattle.cluster_runs.specs.Machine.{Site, DataConnection}
use Rattle.cluster_runs.specs.Connections.{link_in, link_of}
use Rattle.cluster_invariant.specs.Link.{NodeLink, NodeWindows, WindowIs, UpWayBy, GreetsBy}
use Rattle.cluster_invariant.specs.Served.{IsServed, HasLearnt, NodeServes}
use Rattle.cluster_invariant.specs.Waiting.{OnLinked, IsUntold, WaitsNewOn, WaitsEpoch, WaitsEpochOn, IsUnended, WaitsResetOn, WaitsFor, ReplyWaits}
use Rattle.cluster_invariant.specs.Words.{IsFront, is_normal_down, is_reset_frame}
use Rattle.cluster_invariant.proofs.AllLists.{all_follow}
use Rattle.cluster_invariant.proofs.Small.{some_kept}
use Rattle.cluster_steps.proofs.AppSites.{SameBeside}
use Rattle.link_kept.proofs.Later.{Later}

-- What a step of an application server leaves of a lane: it puts more, and takes no less.
pub record LanePut (a b : Lane) : Type 0 where
  pub began : b.began ≡ a.began
  pub up : IsFront a.up b.up
  pub up_taken : b.up_taken ≡ a.up_taken
  pub down : b.down ≡ a.down
  pub down_taken : a.down_taken ≤ b.down_taken

-- and of a connection: what the data server put on it, and what was known as it was made
pub record DownsSame (c d : Connection) : Type 0 where
  pub downs : d.downs ≡ c.downs
  pub its : d.its ≡ c.its
  pub knew : d.knew ≡ c.knew

-- likewise where there is one
abbrev pub DownsStay : Option Connection → Option Connection → Type 0
DownsStay None o = ⊤
DownsStay (Some c) None = ⊤
DownsStay (Some c) (Some d) = DownsSame c d

-- there is none that wasn't there
abbrev pub NoNew : Option Connection → Option Connection → Type 0
NoNew None None = ⊤
NoNew None (Some d) = ⊥
NoNew (Some c) o = ⊤

pub some_stays : (P Q : Connection → Type 0) → ((c d : Connection) → DownsSame c d → P c → Q d) → (o p : Option Connection) → DownsStay o p → NoNew o p
    → IfSome o P → IfSome p Q
some_stays P Q f o None same old is = tt
some_stays P Q f None (Some d) same old is = absurd old
some_stays P Q f (Some c) (Some d) same old is = f c d same is

-- what waits on a connection

untold_same : (c d : Connection) → DownsSame c d → IsUntold c → IsUntold d
untold_same c d q u = record { its = q.its ∙ u.its; silent = q.downs ∙ u.silent }

pub new_same : (c d : Connection) → DownsSame c d → WaitsNewOn c → WaitsNewOn d
new_same c d q n = record { greeted = ap (λ (k : Knew). k.mark) q.knew ∙ n.greeted; untold = untold_same c d q n.untold }

mark_same : (x : Site) (v w : Server) (n : DataState) (s kept : ℕ) (m : Mark) → Later x v w → current w ≡ current v → WaitsEpoch v n s kept m → WaitsEpoch w n s kept m
mark_same x v w n s kept m later same e = record {
  later = omega (arith, e.later, same);
  place = ap (λ (k : ℕ). place_of_epoch k 0 n.order) (later.last m.order (omega (arith, e.later))) ∙ e.place;
  kept_more = subst (λ k. k ≤ kept) (sym (later.left m.order e.later)) e.kept_more;
}

pub epoch_same : (x : Site) (v w : Server) (n : DataState) (s kept : ℕ) → Later x v w → current w ≡ current v → (c d : Connection) → DownsSame c d
    → WaitsEpochOn v n s kept c → WaitsEpochOn w n s kept d
epoch_same x v w n s kept later same c d q e = record {
  its = ap (λ (k : Knew). k.session) q.knew ∙ e.its;
  says = subst (λ (k : Knew). IsSomeAnd k.mark (WaitsEpoch w n s kept)) (sym q.knew) (go c.knew.mark e.says);
  untold = untold_same c d q e.untold;
}
  where
    go : (o : Option Mark) → IsSomeAnd o (WaitsEpoch v n s kept) → IsSomeAnd o (WaitsEpoch w n s kept)
    go None is = is
    go (Some m) is = mark_same x v w n s kept m later same is

pub reset_same : (n : DataState) (s : ℕ) (a b : Lane) → b.down ≡ a.down → (c d : Connection) → DownsSame c d → WaitsResetOn n.order s a c → WaitsResetOn n.order s b d
reset_same n s a b down c d q r = record {
  first = ap (λ (fs : List DownFrame). list_any is_reset_frame fs) q.downs ∙ r.first;
  silent = λ none. q.downs ∙ r.silent (sym q.its ∙ none);
  in_round =
      subst (λ (o : Option Place). IfSome o (λ p. IsUnended n.order s b)) (sym q.its)
      (some_kept (λ (p : Place). IsUnended n.order s a) (λ (p : Place). IsUnended n.order s b)
      (λ p u. record { before = u.before; untold = ap (λ (ms : List Down). list_any is_normal_down ms) down ∙ u.untold }) c.its r.in_round);
}

module _ (v w : Server) (x y : Site) (dead : ℕ → Bool) (n : DataState) (later : Later x v w) (now : current w ≡ current v) (beside : SameBeside x y)
    (lanes : (s k : ℕ) → LanePut (x.lane_at s k) (y.lane_at s k))
    (stay : (app number : ℕ) → DownsStay ((x.end_at app).connection_at number) ((y.end_at app).connection_at number))
    (old : (conn : ℕ) → IfSome (link_of x conn) (λ l. NoNew ((x.end_at l.app).connection_at l.dial) ((y.end_at l.app).connection_at l.dial))) where
  same_link : (conn : ℕ) → link_of y conn ≡ link_of x conn
  same_link conn = ap (λ (f : ℕ → Option DataConnection). link_in (f conn)) beside.connections

  -- a lane of the current order
  here : (s : ℕ) → LanePut (x.lane_at s x.past) (y.lane_at s y.past)
  here s = subst (λ (k : ℕ). LanePut (x.lane_at s x.past) (y.lane_at s k)) (sym beside.past) (lanes s x.past)

  window_same : (s : ℕ) → WindowIs (window_of n s) (x.lane_at s x.past).down (x.lane_at s x.past).down_taken (x.lane_at s x.past).up_taken
      → WindowIs (window_of n s) (y.lane_at s y.past).down (y.lane_at s y.past).down_taken (y.lane_at s y.past).up_taken
  window_same s is = go (here s)
    where
      go : LanePut (x.lane_at s x.past) (y.lane_at s y.past)
          → WindowIs (window_of n s) (y.lane_at s y.past).down (y.lane_at s y.past).down_taken (y.lane_at s y.past).up_taken
      go l = record {
        waiting = is.waiting ∙ ap (drop (window_of n s).acked) (sym l.down);
        acked = omega (arith, is.acked, l.down_taken);
        taken = is.taken ∙ sym l.up_taken;
      }

  windows_same : NodeWindows x n → NodeWindows y n
  windows_same is = record {
    differ = is.differ;
    lives = is.lives;
    each = λ s lives. window_same s (is.each s lives);
    none = λ s lives gone. (here s).began ∙ is.none s lives gone;
  }

  -- replies

  on_linked : (P Q : Connection → Type 0) → ((c d : Connection) → DownsSame c d → P c → Q d) → (conn : ℕ) → OnLinked x conn P → OnLinked y conn Q
  on_linked P Q f conn is =
      subst (λ (o : Option Linked). IfSome o (λ l. IfSome ((y.end_at l.app).connection_at l.dial) Q)) (sym (same_link conn)) (go (link_of x conn) (old conn) is)
    where
      go : (o : Option Linked) → IfSome o (λ l. NoNew ((x.end_at l.app).connection_at l.dial) ((y.end_at l.app).connection_at l.dial))
          → IfSome o (λ l. IfSome ((x.end_at l.app).connection_at l.dial) P) → IfSome o (λ l. IfSome ((y.end_at l.app).connection_at l.dial) Q)
      go None there at = tt
      go (Some l) there at =
          some_stays P Q f ((x.end_at l.app).connection_at l.dial) ((y.end_at l.app).connection_at l.dial) (stay l.app l.dial) there at

  served : (s : ℕ) → IsServed x n s → IsServed y n s
  served s is = record { lives = is.lives; learnt = ap is_some (here s).began ∙ is.learnt }

  learnt : (s : ℕ) → HasLearnt x s → HasLearnt y s
  learnt s is = ap is_some (here s).began ∙ is

  waits_for : (at : ℕ) (says : Says) → WaitsFor v x n at says → WaitsFor w y n at says
  waits_for at (NewWelcome conn s) is = record {
    place = is.place;
    bound = is.bound;
    unlearnt = (here s).began ∙ is.unlearnt;
    untold = on_linked WaitsNewOn WaitsNewOn new_same conn is.untold;
  }
  waits_for at (EpochWelcome conn s kept) is = record {
    place = is.place;
    bound = is.bound;
    unlearnt = (here s).began ∙ is.unlearnt;
    says = on_linked (WaitsEpochOn v n s kept) (WaitsEpochOn w n s kept) (epoch_same x v w n s kept later now) conn is.says;
  }
  waits_for at (ResetOf conn s place) is = record {
    until = is.until;
    closing = is.closing;
    closed = is.closed;
    follows =
        on_linked (WaitsResetOn n.order s (x.lane_at s x.past)) (WaitsResetOn n.order s (y.lane_at s y.past))
        (reset_same n s (x.lane_at s x.past) (y.lane_at s y.past) (here s).down) conn is.follows;
  }
  waits_for at (GrantOf s ticket number) is = served s is
  waits_for at (AnswerOf s about job number place sum) is = served s is

  reply_waits : (r : Reply) → ReplyWaits v x n r → ReplyWaits w y n r
  reply_waits r is = record { unsynced = is.unsynced; says = waits_for r.at r.says is.says }

  serves : NodeServes x n → NodeServes y n
  serves s = record {
    noted = all_follow (λ (z : Noted). IsServed x n z.session) (λ (z : Noted). IsServed y n z.session) (λ z is. served z.session is) n.noted s.noted;
    requests =
        all_follow (λ (r : Request). IsServed x n r.who.session) (λ (r : Request). IsServed y n r.who.session) (λ r is. served r.who.session is)
        n.locks.requests s.requests;
    wait = s.wait;
    one_each = s.one_each;
    granted =
        all_follow (λ (r : Request). HasLearnt x r.who.session) (λ (r : Request). HasLearnt y r.who.session) (λ r is. learnt r.who.session is)
        n.locks.granted s.granted;
    holds =
        all_follow (λ (h : Hold). HasLearnt x h.who.session) (λ (h : Hold). HasLearnt y h.who.session) (λ h is. learnt h.who.session is)
        n.locks.holds s.holds;
    items = λ s0 unlearnt. s.items s0 (sym (here s0).began ∙ unlearnt);
  }

  -- The half of a running node, by what is on its way upwards and by the ends that greet.
  pub node_kept_by_app : ((s conn : ℕ) (l : Linked) → role_of n conn ≡ Some (Bound s) → link_of x conn ≡ Some l → UpWayBy x dead s l → UpWayBy y dead s l)
      → ((s conn : ℕ) (l : Linked) → role_of n conn ≡ Some (Bound s) → link_of x conn ≡ Some l → GreetsBy v x dead s l → GreetsBy w y dead s l)
      → NodeLink v x dead n → NodeLink w y dead n
  node_kept_by_app ups greets is = record {
    windows = windows_same is.windows;
    ups =
        λ s conn role.
        subst (λ (o : Option Linked). IfSome o (UpWayBy y dead s)) (sym (same_link conn))
        (by (UpWayBy x dead s) (UpWayBy y dead s) (link_of x conn) (λ l its. ups s conn l role its) (is.ups s conn role));
    greets =
        λ s conn role.
        subst (λ (o : Option Linked). IfSome o (GreetsBy w y dead s)) (sym (same_link conn))
        (by (GreetsBy v x dead s) (GreetsBy w y dead s) (link_of x conn) (λ l its. greets s conn l role its) (is.greets s conn role));
    replies = all_follow (ReplyWaits v x n) (ReplyWaits w y n) reply_waits n.replies is.replies;
    one_each = is.one_each;
    serves = serves is.serves;
  }
    where
      by : (P Q : Linked → Type 0) (o : Option Linked) → ((l : Linked) → o ≡ Some l → P l → Q l) → IfSome o P → IfSome o Q
      by P Q None f at = tt
      by P Q (Some l) f at = f l refl at
