-- The half of a running node that a move leaves as it is, with the lanes and the data connections, where the orders go on.
use Rattle.std.proofs.Common.{◌≡◌, ◌≤◌, inr, ℕ, Bool, true, false, List, Option, Some, None, refl, sym, ◌∙◌, ap, subst, arith, drop}
use Rattle.std.specs.Prelude.{⊤, IfSome, IsSomeAnd}
use Rattle.std.specs.List.{list_any}
use Rattle.std.proofs.lemmas.Bool.{false≢true}
use Rattle.plain_orders.specs.Sessions.{place_of_epoch}
use Rattle.plain_runs.specs.Plain.{Server, current}
use Rattle.ecp_messages.specs.declared.up.UpFrame.{UpFrame}
use Rattle.ecp_messages.specs.declared.down.DownFrame.{DownFrame}
use Rattle.app_rules.specs.declared.line.Line.{Line}
use Rattle.app_rules.specs.declared.line.Line.TheVariants.{Apart, Trying, Greeting, Asking, Joined}
use Rattle.app_rules.specs.AppState.{AppEnd}
use Rattle.data_rules.specs.DataState.{DataState}
use Rattle.data_rules.specs.declared.rows.Reply.{Reply}
use Rattle.data_rules.specs.declared.rows.Says.{Says}
use Rattle.data_rules.specs.declared.rows.Says.TheVariants.{NewWelcome, EpochWelcome, ResetOf, GrantOf, AnswerOf}
use Rattle.block_holders.specs.declared.noted.Noted.{Noted}
use Rattle.lock_table.specs.declared.rows.Request.{Request}
use Rattle.cluster_runs.specs.CoresState.{Linked}
use Rattle.cluster_runs.specs.Sent.{Connection, Knew, Lane, Mark, Place}
use Rattle.cluster_runs.specs.Machine.{Site, End}
use Rattle.cluster_runs.specs.Connections.{link_of}
use Rattle.cluster_invariant.specs.Link.{NodeLink, UpWay, UpWayOn, UpWayBy, Unmet, GreetsOn, GreetsBy, is_joined_on}
use Rattle.cluster_invariant.specs.Served.{IsServed, NodeServes}
use Rattle.cluster_invariant.specs.Waiting.{OnLinked, IsUntold, WaitsNewOn, WaitsEpoch, WaitsEpochOn, IsUnended, WaitsResetOn, WaitsFor, ReplyWaits}
use Rattle.cluster_invariant.specs.Words.{ups_left, is_reset_frame}
use Rattle.cluster_invariant.proofs.AllLists.{all_follow}
use Rattle.cluster_invariant.proofs.Small.{some_kept}
use Rattle.link_kept.proofs.Later.{EnteredStays, Later}
use Rattle.link_kept.proofs.AppLater.{Untold, unmet_later}

-- A connection as it was, but for which end left it.
pub record Quiet (c d : Connection) : Type 0 where
  pub ups : d.ups ≡ c.ups
  pub ups_taken : d.ups_taken ≡ c.ups_taken
  pub downs : d.downs ≡ c.downs
  pub downs_taken : d.downs_taken ≡ c.downs_taken
  pub its : d.its ≡ c.its
  pub knew : d.knew ≡ c.knew
  pub first : d.first ≡ c.first
  pub data_left : d.data_left ≡ false → c.data_left ≡ false

pub quiet_untold : (c d : Connection) → Quiet c d → Untold c d
quiet_untold c d q = record {
  its = q.its;
  left = ap (λ (n : ℕ). drop n d.downs) q.downs_taken ∙ ap (λ (fs : List DownFrame). drop c.downs_taken fs) q.downs;
  first = q.first;
}

-- likewise where there is one
abbrev pub Quietly : Option Connection → Option Connection → Type 0
Quietly None None = ⊤
Quietly None (Some d) = ⊥
Quietly (Some c) None = ⊥
Quietly (Some c) (Some d) = Quiet c d

pub some_quiet : (P Q : Connection → Type 0) → ((c d : Connection) → Quiet c d → P c → Q d) → (o p : Option Connection) → Quietly o p → IfSome o P → IfSome p Q
some_quiet P Q f None None q is = tt
some_quiet P Q f None (Some d) q is = absurd q
some_quiet P Q f (Some c) None q is = tt
some_quiet P Q f (Some c) (Some d) q is = f c d q is

-- a site of which only ends are changed
abbrev pub with_ends : (ℕ → End) → Site → Site
with_ends ends x = record x { end_at = ends }

-- what waits on a connection

untold_quiet : (c d : Connection) → Quiet c d → IsUntold c → IsUntold d
untold_quiet c d q u = record { its = q.its ∙ u.its; silent = q.downs ∙ u.silent }

new_quiet : (c d : Connection) → Quiet c d → WaitsNewOn c → WaitsNewOn d
new_quiet c d q n = record { greeted = ap (λ (k : Knew). k.mark) q.knew ∙ n.greeted; untold = untold_quiet c d q n.untold }

-- the order that the Welcome tells of is as it was
mark_later : (x : Site) (v w : Server) (n : DataState) (s kept : ℕ) (m : Mark) → Later x v w → current w ≡ current v → WaitsEpoch v n s kept m → WaitsEpoch w n s kept m
mark_later x v w n s kept m later same e = record {
  later = omega (arith, e.later, same);
  place = ap (λ (k : ℕ). place_of_epoch k 0 n.order) (later.last m.order (omega (arith, e.later))) ∙ e.place;
  kept_more = subst (λ k. k ≤ kept) (sym (later.left m.order e.later)) e.kept_more;
}

epoch_quiet : (x : Site) (v w : Server) (n : DataState) (s kept : ℕ) → Later x v w → current w ≡ current v → (c d : Connection) → Quiet c d
    → WaitsEpochOn v n s kept c → WaitsEpochOn w n s kept d
epoch_quiet x v w n s kept later same c d q e = record {
  its = ap (λ (k : Knew). k.session) q.knew ∙ e.its;
  says = subst (λ (k : Knew). IsSomeAnd k.mark (WaitsEpoch w n s kept)) (sym q.knew) (go c.knew.mark e.says);
  untold = untold_quiet c d q e.untold;
}
  where
    go : (o : Option Mark) → IsSomeAnd o (WaitsEpoch v n s kept) → IsSomeAnd o (WaitsEpoch w n s kept)
    go None is = is
    go (Some m) is = mark_later x v w n s kept m later same is

reset_quiet : (n : DataState) (s : ℕ) (lane : Lane) (c d : Connection) → Quiet c d → WaitsResetOn n.order s lane c → WaitsResetOn n.order s lane d
reset_quiet n s lane c d q r = record {
  first = ap (λ (fs : List DownFrame). list_any is_reset_frame fs) q.downs ∙ r.first;
  silent = λ none. q.downs ∙ r.silent (sym q.its ∙ none);
  in_round = subst (λ (o : Option Place). IfSome o (λ p. IsUnended n.order s lane)) (sym q.its) r.in_round;
}

-- upwards

not_joined : (e : AppEnd) (number s : ℕ) → is_joined_on true e number s ≡ false
not_joined e number s = refl

module _ (v w : Server) (x : Site) (ends : ℕ → End) (dead gone : ℕ → Bool) (n : DataState) (later : Later x v w) (still : (a : ℕ) → EnteredStays a v w)
    (same : current w ≡ current v)
    (quiet : (app number : ℕ) → Quietly ((x.end_at app).connection_at number) ((ends app).connection_at number))
    (states : (app : ℕ) → (ends app).state ≡ (x.end_at app).state) (more : (app : ℕ) → gone app ≡ false → dead app ≡ false) where
  up_way : (lane : Lane) (app number s : ℕ) (c d : Connection) → Quiet c d → UpWayOn lane (dead app) (x.end_at app).state number s c
      → UpWayOn lane (gone app) (ends app).state number s d
  up_way lane app number s c d q u =
      subst (λ (fs : List UpFrame). UpWay lane fs (is_joined_on (gone app) (ends app).state number s)) (sym left)
      (record { none = u.none; next = u.next; whole = λ is. u.whole (go (gone app) refl is); acks = u.acks })
    where
      left : ups_left d ≡ ups_left c
      left = ap (λ (k : ℕ). drop k d.ups) q.ups_taken ∙ ap (λ (fs : List UpFrame). drop c.ups_taken fs) q.ups

      go : (b : Bool) → gone app ≡ b → is_joined_on b (ends app).state number s ≡ true → is_joined_on (dead app) (x.end_at app).state number s ≡ true
      go true at is = absurd (false≢true is)
      go false at is =
          ap (λ (b : Bool). is_joined_on b (x.end_at app).state number s) (more app at)
          ∙ ap (λ (e : AppEnd). is_joined_on false e number s) (sym (states app)) ∙ is

  ups_by : (s : ℕ) (l : Linked) → UpWayBy x dead s l → UpWayBy (with_ends ends x) gone s l
  ups_by s l is =
      some_quiet (UpWayOn (x.lane_at s x.past) (dead l.app) (x.end_at l.app).state l.dial s) (UpWayOn (x.lane_at s x.past) (gone l.app) (ends l.app).state l.dial s)
      (up_way (x.lane_at s x.past) l.app l.dial s) ((x.end_at l.app).connection_at l.dial) ((ends l.app).connection_at l.dial) (quiet l.app l.dial) is

  -- a session that was entered for an end that greets
  unmet_beside : (app told s k : ℕ) → k ≡ current v → Unmet v x app told s k → Unmet w (with_ends ends x) app told s k
  unmet_beside app told s k here u = go (unmet_later v w x (with_ends ends x) later (λ q j. refl) app told s k (still app) (inr here) u)
    where
      go : Unmet w (with_ends ends x) app told s k → Unmet w (with_ends ends x) app told s k
      go is = is

  greets_on : x.past ≡ current v → (s app number : ℕ) (line : Line) → GreetsOn v x s app (x.end_at app) number line
      → GreetsOn w (with_ends ends x) s app (ends app) number line
  greets_on here s app number Apart is = tt
  greets_on here s app number Trying is = tt
  greets_on here s app number Greeting is =
      subst (λ (e : AppEnd). number ≡ e.dial → Unmet w (with_ends ends x) app e.told s x.past) (sym (states app))
      (λ at. unmet_beside app (x.end_at app).state.told s x.past here (is at))
  greets_on here s app number Asking is = tt
  greets_on here s app number Joined is = tt

  greets_by : x.past ≡ current v → (s : ℕ) (l : Linked) → GreetsBy v x dead s l → GreetsBy w (with_ends ends x) gone s l
  greets_by here s l is alive =
      subst (λ (e : AppEnd). GreetsOn w (with_ends ends x) s l.app (ends l.app) l.dial e.line) (sym (states l.app))
      (greets_on here s l.app l.dial (x.end_at l.app).state.line (is (more l.app alive)))

  -- replies

  on_linked : (P Q : Connection → Type 0) → ((c d : Connection) → Quiet c d → P c → Q d) → (conn : ℕ) → OnLinked x conn P → OnLinked (with_ends ends x) conn Q
  on_linked P Q f conn is =
      some_kept (λ (l : Linked). IfSome ((x.end_at l.app).connection_at l.dial) P) (λ (l : Linked). IfSome ((ends l.app).connection_at l.dial) Q)
      (λ (l : Linked) at. some_quiet P Q f ((x.end_at l.app).connection_at l.dial) ((ends l.app).connection_at l.dial) (quiet l.app l.dial) at) (link_of x conn) is

  served : (s : ℕ) → IsServed x n s → IsServed (with_ends ends x) n s
  served s is = record { lives = is.lives; learnt = is.learnt }

  waits_for : (at : ℕ) (says : Says) → WaitsFor v x n at says → WaitsFor w (with_ends ends x) n at says
  waits_for at (NewWelcome conn s) is = record {
    place = is.place;
    bound = is.bound;
    unlearnt = is.unlearnt;
    untold = on_linked WaitsNewOn WaitsNewOn new_quiet conn is.untold;
  }
  waits_for at (EpochWelcome conn s kept) is = record {
    place = is.place;
    bound = is.bound;
    unlearnt = is.unlearnt;
    says = on_linked (WaitsEpochOn v n s kept) (WaitsEpochOn w n s kept) (epoch_quiet x v w n s kept later same) conn is.says;
  }
  waits_for at (ResetOf conn s place) is = record {
    until = is.until;
    closing = is.closing;
    closed = is.closed;
    follows =
        on_linked (WaitsResetOn n.order s (x.lane_at s x.past)) (WaitsResetOn n.order s (x.lane_at s x.past)) (reset_quiet n s (x.lane_at s x.past)) conn
        is.follows;
  }
  waits_for at (GrantOf s ticket number) is = served s is
  waits_for at (AnswerOf s about job number place sum) is = served s is

  reply_waits : (r : Reply) → ReplyWaits v x n r → ReplyWaits w (with_ends ends x) n r
  reply_waits r is = record { unsynced = is.unsynced; says = waits_for r.at r.says is.says }

  serves : NodeServes x n → NodeServes (with_ends ends x) n
  serves s = record {
    noted = all_follow (λ (y : Noted). IsServed x n y.session) (λ (y : Noted). IsServed (with_ends ends x) n y.session) (λ y is. served y.session is) n.noted s.noted;
    requests =
        all_follow (λ (r : Request). IsServed x n r.who.session) (λ (r : Request). IsServed (with_ends ends x) n r.who.session) (λ r is. served r.who.session is)
        n.locks.requests s.requests;
    wait = s.wait;
    one_each = s.one_each;
    granted = s.granted;
    holds = s.holds;
    items = s.items;
  }

  -- The half of a running node, of which nothing is changed.
  pub node_beside : x.past ≡ current v → NodeLink v x dead n → NodeLink w (with_ends ends x) gone n
  node_beside here l = record {
    windows = record { differ = l.windows.differ; lives = l.windows.lives; each = l.windows.each; none = l.windows.none };
    ups =
        λ s conn role.
        some_kept (UpWayBy x dead s) (UpWayBy (with_ends ends x) gone s) (ups_by s) (link_of x conn) (l.ups s conn role);
    greets =
        λ s conn role.
        some_kept (GreetsBy v x dead s) (GreetsBy w (with_ends ends x) gone s) (greets_by here s) (link_of x conn) (l.greets s conn role);
    replies = all_follow (ReplyWaits v x n) (ReplyWaits w (with_ends ends x) n) reply_waits n.replies l.replies;
    one_each = l.one_each;
    serves = serves l.serves;
  }
