-- The half of an application end on whose connection a move puts nothing: it stays while the data server's orders and lanes go on.
use Rattle.std.proofs.Common.{◌≡◌, ◌≤◌, ◌<◌, ◌⊎◌, inl, inr, ℕ, ◌+◌, Bool, true, false, List, [], ◌∷◌, ◌++◌, length, drop, Option, Some, None, refl, sym, ◌∙◌, ap, subst, arith}
use Rattle.std.specs.Prelude.{⊤, IfSome, IsSomeAnd, nat_lt, is_some}
use Rattle.std.proofs.lemmas.List.{drop-append-le, length-append}
use Rattle.std.proofs.lemmas.Bool.{ltb-true, ltb-false}
use Rattle.plain_orders.specs.declared.entry.Entry.{Entry}
use Rattle.plain_orders.specs.declared.entry.Entry.TheVariants.{Opened, Closed}
use Rattle.plain_orders.specs.Entries.{entry_at, last_epoch}
use Rattle.plain_orders.proofs.Places.{entry_append, entry_low}
use Rattle.plain_orders.specs.Sessions.{place_of_epoch}
use Rattle.plain_runs.specs.Plain.{Server, current, order_at}
use Rattle.ecp_messages.specs.declared.down.Down.{Down}
use Rattle.ecp_messages.specs.declared.down.Down.TheVariants.{Welcome, Reset, Block, Drop, Ack, Grant, Answer, Normal, Bare}
use Rattle.ecp_messages.specs.declared.down.DownFrame.{DownFrame}
use Rattle.ecp_messages.specs.declared.front.Front.{Front}
use Rattle.end_words.specs.Windows.{Window, numbered_from}
use Rattle.app_rules.specs.declared.line.Line.{Line}
use Rattle.app_rules.specs.declared.line.Line.TheVariants.{Apart, Trying, Greeting, Asking, Joined}
use Rattle.app_rules.specs.AppState.{AppEnd, Session}
use Rattle.cluster_runs.specs.Sent.{Lane, Place, Connection, FirstTaken}
use Rattle.cluster_runs.specs.Machine.{Site, End}
use Rattle.cluster_invariant.specs.Link.{LaneCounts, WindowIs, DownWay, EndsWith, ResetIs, WholeIf, JoinedWay, SameWelcome, SaysEpoch, EpochWelcomeOn, ResetOn, AskedFirst, AskedWay, Unmet, NewWelcomeOn, GreetedFirst, GreetedWay, WithSession, DownBy, AppWay, is_in_recovery}
use Rattle.cluster_invariant.specs.Words.{IsFront, numbered_behind, downs_left, stays_at}
use Rattle.cluster_invariant.proofs.AllLists.{all_follow}
use Rattle.cluster_invariant.proofs.Small.{some_kept}
use Rattle.link_kept.proofs.Later.{EnteredStays, Later, front_same, front_then, counts_front, header_later, place_later}

-- lanes

-- what comes downwards of a lane goes on
pub record LaneGoes (a b : Lane) : Type 0 where
  pub began : b.began ≡ a.began
  pub up_taken : a.up_taken ≤ b.up_taken
  pub down : IsFront a.down b.down
  pub down_taken : b.down_taken ≡ a.down_taken

-- a lane that a data server's move lets go on
pub record LaneLater (a b : Lane) : Type 0 where
  pub began : b.began ≡ a.began
  pub up : b.up ≡ a.up
  pub up_taken : a.up_taken ≤ b.up_taken
  pub down : IsFront a.down b.down
  pub down_taken : b.down_taken ≡ a.down_taken

pub same_lane : (a : Lane) → LaneLater a a
same_lane a = record { began = refl; up = refl; up_taken = omega arith; down = front_same a.down; down_taken = refl }

pub lane_goes_on : (a b : Lane) → LaneLater a b → LaneGoes a b
lane_goes_on a b l = record { began = l.began; up_taken = l.up_taken; down = l.down; down_taken = l.down_taken }

numbered_append : {M : Type 0} (n : ℕ) (xs ys : List M) → (k : ℕ) × (numbered_from n (xs ++ ys) ≡ numbered_from n xs ++ numbered_from k ys)
numbered_append n [] ys = (n, refl)
numbered_append n (x ∷ xs) ys =
    let more : (k : ℕ) × (numbered_from (n + 1) (xs ++ ys) ≡ numbered_from (n + 1) xs ++ numbered_from k ys) = numbered_append (n + 1) xs ys in
    (more.0, ap (λ (l : List (ℕ × _)). (n + 1, x) ∷ l) more.1)

-- what is behind a place goes on with the whole
pub behind_front : {M : Type 0} (n : ℕ) (a b : List M) → n ≤ length a → IsFront a b → IsFront (numbered_behind n a) (numbered_behind n b)
behind_front n a b low front =
    let parts : (k : ℕ) × (numbered_from n (drop n a ++ front.0) ≡ numbered_from n (drop n a) ++ numbered_from k front.0) = numbered_append n (drop n a) front.0 in (
      numbered_from parts.0 front.0,
      ap (numbered_behind n) front.1 ∙ ap (numbered_from n) (drop-append-le n a front.0 low) ∙ parts.1,
    )

-- the next messages of a lane are so when it goes on
pub next_later : (a b : Lane) (xs : List (ℕ × Down)) → a.down_taken ≤ length a.down → LaneGoes a b → IsFront xs (numbered_behind a.down_taken a.down)
    → IsFront xs (numbered_behind b.down_taken b.down)
next_later a b xs low goes front =
    front_then xs (numbered_behind a.down_taken a.down) (numbered_behind b.down_taken b.down) front
    (subst (λ n. IsFront (numbered_behind a.down_taken a.down) (numbered_behind n b.down)) (sym goes.down_taken)
    (behind_front a.down_taken a.down b.down low goes.down))

-- frames

pub reset_later : (es fs : List Entry) (a b s : ℕ) (m : Down) → IsFront es fs → a ≤ b → ResetIs es a s m → ResetIs fs b s m
reset_later es fs a b s (Welcome session epoch kept front taken) goes low is = is
reset_later es fs a b s (Reset session at) goes low is = (
  is.0,
  omega (arith, is.1, low),
  subst (λ (xs : List Entry). entry_at xs at ≡ Some (Closed s)) (sym goes.1) (entry_append es goes.0 (Closed s) at is.2),
)
reset_later es fs a b s (Block front block) goes low is = is
reset_later es fs a b s (Drop front lo hi) goes low is = is
reset_later es fs a b s (Ack front) goes low is = is
reset_later es fs a b s (Grant front ticket at) goes low is = is
reset_later es fs a b s (Answer front about job number at sum) goes low is = is
reset_later es fs a b s (Normal front) goes low is = is
reset_later es fs a b s Bare goes low is = is

ends_later : (may : Bool) (es fs : List Entry) (a b s : ℕ) (left : List DownFrame) → IsFront es fs → a ≤ b → EndsWith may es a s left → EndsWith may fs b s left
ends_later may es fs a b s [] goes low is = tt
ends_later may es fs a b s (f ∷ []) goes low is = (is.0, reset_later es fs a b s f.message goes low is.1)
ends_later may es fs a b s (f ∷ g ∷ left) goes low is = is

pub way_later : (es fs : List Entry) (a b s : ℕ) (lane later : Lane) (may : Bool) (left : List DownFrame) → IsFront es fs → a ≤ b
    → lane.down_taken ≤ length lane.down → LaneGoes lane later → DownWay es a s lane may left → DownWay fs b s later may left
way_later es fs a b s lane later may left goes low counts g way = record {
  its = way.its;
  ends = way.ends;
  all = way.all;
  kinds = way.kinds;
  next = next_later lane later _ counts g way.next;
  acks = all_follow (λ (f : DownFrame). f.ack ≤ lane.up_taken) (λ (f : DownFrame). f.ack ≤ later.up_taken) (λ f is. omega (arith, is, g.up_taken)) way.its way.acks;
  reset = ends_later may es fs a b s way.ends goes low way.reset;
  no_normal = way.no_normal;
}

-- what an application end has of its session, by its lane
pub window_later : {M : Type 0} (w : Window M) (put : List M) (a b came : ℕ) → a ≤ b → WindowIs w put a came → WindowIs w put b came
window_later w put a b came low is = record { waiting = is.waiting; acked = omega (arith, is.acked, low); taken = is.taken }

-- the connection is as it was, but for what is known of the data end
pub record Untold (c d : Connection) : Type 0 where
  pub its : d.its ≡ c.its
  pub left : downs_left d ≡ downs_left c
  pub first : d.first ≡ c.first

-- what was put and all of which is on its way is so still
abbrev pub WholeStays : Site → Site → Connection → Connection → Type 0
WholeStays x y c d =
    (s k : ℕ) (left : List DownFrame) → c.its ≡ Some (record { session = s; order = k }) → WholeIf x s k (x.lane_at s k) c left
    → WholeIf y s k (y.lane_at s k) d left

-- the messages of a session that it has in an order
abbrev at_place : ℕ → ℕ → Option Place
at_place k s = Some (record { session = s; order = k })

-- the count of an end that asks is as it was
abbrev pub CountStays : Site → Site → Line → Option Session → Option Place → Type 0
CountStays x y Apart o p = ⊤
CountStays x y Trying o p = ⊤
CountStays x y Greeting o p = ⊤
CountStays x y Asking o p = IfSome o (λ s. IfSome p (λ q. (y.lane_at s.number q.order).up_taken ≡ (x.lane_at s.number q.order).up_taken))
CountStays x y Joined o p = ⊤

le_or_above : (n m : ℕ) → (n ≤ m) ⊎ (m < n)
le_or_above n m = go (nat_lt m n) refl
  where
    go : (b : Bool) → nat_lt m n ≡ b → (n ≤ m) ⊎ (m < n)
    go true is = inr (ltb-true m n is)
    go false is = inl (ltb-false m n is)

-- a session that was entered and not met, in an order that goes on
pub unmet_later : (v w : Server) (x y : Site) → Later x v w → ((s k : ℕ) → (y.lane_at s k).began ≡ (x.lane_at s k).began) → (app told s k : ℕ) → EnteredStays app v w → (s ≤ stays_at v k) ⊎ (k ≡ current v) → Unmet v x app told s k → Unmet w y app told s k
unmet_later v w x y later lanes app told s k still why u = record {
  there = omega (arith, u.there, later.there);
  above = u.above;
  unmet = still.met s k u.entered u.unmet;
  entered = still.known s k k u.there (known why) u.entered;
  opened =
      subst (λ (xs : List Entry). entry_at xs s ≡ Some (Opened s app)) (sym (later.goes_on k u.there).1)
      (entry_append (order_at v k) (later.goes_on k u.there).0 (Opened s app) s u.opened);
  behind = subst (λ n. n < s) (sym (later.place k u.there)) u.behind;
  unused = later.counts s k u.there u.unlearnt ∙ u.unused;
  unlearnt = lanes s k ∙ u.unlearnt;
}
  where
    low : k ≡ current v → s ≤ length (order_at v (current v))
    low same = subst (λ n. s ≤ length (order_at v n)) same (entry_low (order_at v k) (Opened s app) s u.opened)

    known : (s ≤ stays_at v k) ⊎ (k ≡ current v) → (s ≤ stays_at v k) ⊎ (s ≤ length (order_at v (current v)))
    known (inl stays) = inl stays
    known (inr same) = inr (low same)

module _ (v w : Server) (x y : Site) (later : Later x v w) (lanes : (s k : ℕ) → LaneGoes (x.lane_at s k) (y.lane_at s k))
    (counts : (s k : ℕ) → LaneCounts (x.lane_at s k)) where
  module _ (c d : Connection) (untold : Untold c d) (whole : WholeStays x y c d) where
    joined_later : (e : AppEnd) (s : Session) (k : ℕ) → k ≤ current v → JoinedWay v x e s k c → JoinedWay w y e s k d
    joined_later e s k there j = record {
      its = untold.its ∙ j.its;
      way =
          subst (λ (l : List DownFrame). DownWay (order_at w k) (stays_at w k) s.number (y.lane_at s.number k) (is_in_recovery e.link) l) (sym untold.left)
          (way_later (order_at v k) (order_at w k) (stays_at v k) (stays_at w k) s.number (x.lane_at s.number k) (y.lane_at s.number k) (is_in_recovery e.link)
          (downs_left c) (later.goes_on k there) (later.stays k there) (counts s.number k).down_taken (lanes s.number k) j.way);
      whole = subst (λ (l : List DownFrame). WholeIf y s.number k (y.lane_at s.number k) d l) (sym untold.left) (whole s.number k (downs_left c) j.its j.whole);
    }

    new_later : (app : ℕ) → EnteredStays app v w → (told s epoch kept : ℕ) (front : Front) (taken : ℕ) → NewWelcomeOn v x app told c s epoch kept front taken
        → NewWelcomeOn w y app told d s epoch kept front taken
    new_later app still told s epoch kept front taken n = record {
      order = n.order;
      its = untold.its ∙ n.its;
      unmet = unmet_later v w x y later (λ q k. (lanes q k).began) app told s n.order still (inl n.synced) n.unmet;
      synced = omega (arith, n.synced, later.stays n.order n.unmet.there);
      its_epoch = n.its_epoch ∙ sym (later.last n.order n.unmet.there);
      stays = omega (arith, n.stays, later.place n.order n.unmet.there, later.stays n.order n.unmet.there);
      from_open = n.from_open;
      within = within;
      kept_all = n.kept_all;
      none_counted = n.none_counted;
      none_synced = n.none_synced;
      none_taken = n.none_taken;
      whole = whole s n.order [] n.its n.whole;
    }
      where
        within : front.n ≤ length (order_at w n.order)
        within =
            subst (λ (l : List Entry). front.n ≤ length l) (sym (later.goes_on n.order n.unmet.there).1)
            (omega (arith, n.within, length-append (order_at v n.order) (later.goes_on n.order n.unmet.there).0))

    says_later : (s k j epoch kept : ℕ) (front : Front) → (x.lane_at s j).began ≡ None → SaysEpoch v s k j epoch kept front → SaysEpoch w s k j epoch kept front
    says_later s k j epoch kept front unlearnt says = record {
      later = says.later;
      there = omega (arith, says.there, later.there);
      its_epoch = says.its_epoch ∙ sym (later.last j says.there);
      stays = omega (arith, says.stays, later.place j says.there, later.stays j says.there);
      only = only;
      place =
          ap (λ (n : ℕ). place_of_epoch n 0 (order_at w j)) (later.last k before)
          ∙ place_later (last_epoch (order_at v k)) (order_at v j) (order_at w j) kept (later.goes_on j says.there) says.place;
      kept_more = subst (λ n. n ≤ kept) (sym (later.left k under)) says.kept_more;
      kept_less = says.kept_less;
      header =
          header_later (order_at v j) (order_at w j) (stays_at v j) (stays_at w j) s front (later.goes_on j says.there) (later.within j says.there)
          (later.stays j says.there) says.header;
      counted = says.counted ∙ sym (later.counts s j says.there unlearnt);
    }
      where
        before : k ≤ current v
        before = omega (arith, says.later, says.there)

        under : k < current v
        under = omega (arith, says.later, says.there)

        only : (i : ℕ) → j < i → i ≤ current w → epoch < last_epoch (order_at w i)
        only i above low = go (le_or_above i (current v))
          where
            go : (i ≤ current v) ⊎ (current v < i) → epoch < last_epoch (order_at w i)
            go (inl there) = subst (λ n. epoch < n) (sym (later.last i there)) (says.only i above there)
            go (inr past) = subst (λ n. n < last_epoch (order_at w i)) (sym says.its_epoch) (later.newer i j says.there past low says.stays)

    epoch_later : (s : Session) (k session epoch kept : ℕ) (front : Front) (taken : ℕ) (behind : List DownFrame)
        → EpochWelcomeOn v x s k c session epoch kept front taken behind → EpochWelcomeOn w y s k d session epoch kept front taken behind
    epoch_later s k session epoch kept front taken behind e = record {
      order = e.order;
      its = untold.its ∙ e.its;
      number = e.number;
      told_before = e.told_before;
      says = says_later session k e.order epoch kept front e.unlearnt e.says;
      none_taken = e.none_taken;
      unlearnt = (lanes session e.order).began ∙ e.unlearnt;
      way =
          way_later (order_at v e.order) (order_at w e.order) (stays_at v e.order) (stays_at w e.order) session (x.lane_at session e.order) (y.lane_at session e.order) true
          behind (later.goes_on e.order e.says.there) (later.stays e.order e.says.there) (counts session e.order).down_taken (lanes session e.order) e.way;
      whole = whole session e.order behind (e.its ∙ ap (at_place e.order) (sym e.number)) e.whole;
    }

    module _ (s : Session) (k : ℕ) (there : k ≤ current v) (same : (y.lane_at s.number k).up_taken ≡ (x.lane_at s.number k).up_taken) where
      same_later : (session epoch : ℕ) (front : Front) (taken : ℕ) (behind : List DownFrame)
          → SameWelcome v x s k c session epoch front taken behind → SameWelcome w y s k d session epoch front taken behind
      same_later session epoch front taken behind e = record {
        its = untold.its ∙ e.its;
        number = e.number;
        epoch_told = e.epoch_told;
        counted = e.counted ∙ subst (λ n. (x.lane_at n k).up_taken ≡ (y.lane_at n k).up_taken) (sym e.number) (sym same);
        synced =
            omega (
              arith,
              e.synced,
              counts_front (order_at v k) (order_at w k) (stays_at v k) (stays_at w k) session (later.goes_on k there)
                  (later.within k there) (later.stays k there),
            );
        way =
            way_later (order_at v k) (order_at w k) (stays_at v k) (stays_at w k) session (x.lane_at session k) (y.lane_at session k) s.normal_due
            behind (later.goes_on k there) (later.stays k there) (counts session k).down_taken (lanes session k) e.way;
        whole = whole session k behind (e.its ∙ ap (at_place k) (sym e.number)) e.whole;
        awaited = e.awaited;
      }

      module _ (firsts : IfSome c.first (λ f. f.order ≤ current v)) where
        reset_on : (m : Down) → ResetOn v s.number c m → ResetOn w s.number d m
        reset_on m is = subst (λ (o : Option FirstTaken). IsSomeAnd o (λ f. ResetIs (order_at w f.order) (stays_at w f.order) s.number m)) (sym untold.first) (go c.first firsts is)
          where
            go : (o : Option FirstTaken) → IfSome o (λ f. f.order ≤ current v) → IsSomeAnd o (λ f. ResetIs (order_at v f.order) (stays_at v f.order) s.number m)
                → IsSomeAnd o (λ f. ResetIs (order_at w f.order) (stays_at w f.order) s.number m)
            go None low at = at
            go (Some f) low at = reset_later (order_at v f.order) (order_at w f.order) (stays_at v f.order) (stays_at w f.order) s.number m (later.goes_on f.order low) (later.stays f.order low) at

        asked_first : (m : Down) (behind : List DownFrame) → AskedFirst v x s k c behind m → AskedFirst w y s k d behind m
        asked_first (Welcome session epoch kept front taken) behind (inl e) = inl (same_later session epoch front taken behind e)
        asked_first (Welcome session epoch kept front taken) behind (inr e) = inr (epoch_later s k session epoch kept front taken behind e)
        asked_first (Reset session at) behind is = (reset_on (Reset session at) is.0, is.1)
        asked_first (Block front block) behind is = is
        asked_first (Drop front lo hi) behind is = is
        asked_first (Ack front) behind is = is
        asked_first (Grant front ticket at) behind is = is
        asked_first (Answer front about job number at sum) behind is = is
        asked_first (Normal front) behind is = is
        asked_first Bare behind is = is

        asked_later : (left : List DownFrame) → AskedWay v x s k c left → AskedWay w y s k d left
        asked_later [] is = untold.its ∙ is
        asked_later (f ∷ fs) is = (is.0, asked_first f.message fs is.1)

    greeted_first : (app : ℕ) → EnteredStays app v w → (told : ℕ) (m : Down) → GreetedFirst v x app told c m → GreetedFirst w y app told d m
    greeted_first app still told (Welcome session epoch kept front taken) n = new_later app still told session epoch kept front taken n
    greeted_first app still told (Reset session at) is = is
    greeted_first app still told (Block front block) is = is
    greeted_first app still told (Drop front lo hi) is = is
    greeted_first app still told (Ack front) is = is
    greeted_first app still told (Grant front ticket at) is = is
    greeted_first app still told (Answer front about job number at sum) is = is
    greeted_first app still told (Normal front) is = is
    greeted_first app still told Bare is = is

    greeted_later : (app : ℕ) → EnteredStays app v w → (told : ℕ) (left : List DownFrame) → GreetedWay v x app told c left → GreetedWay w y app told d left
    greeted_later app still told [] is = untold.its ∙ is
    greeted_later app still told (f ∷ fs) is = (is.0, greeted_first app still told f.message is.1, is.2)

    -- what is on its way on the connection of an end
    pub down_later : (line : Line) (app : ℕ) (e : End) → EnteredStays app v w → IfSome e.state.session (λ s. IfSome e.told (λ p. p.order ≤ current v)) → IfSome c.first (λ f. f.order ≤ current v)
        → CountStays x y line e.state.session e.told → DownBy line v x app e c → DownBy line w y app e d
    down_later Apart app e still there firsts same is = tt
    down_later Trying app e still there firsts same is = tt
    down_later Greeting app e still there firsts same is =
        subst (λ (l : List DownFrame). GreetedWay w y app e.state.told d l) (sym untold.left) (greeted_later app still e.state.told (downs_left c) is)
    down_later Asking app e still there firsts same is = go e.state.session e.told there same is
      where
        go : (o : Option Session) (p : Option Place) → IfSome o (λ s. IfSome p (λ q. q.order ≤ current v)) → CountStays x y Asking o p
            → WithSession o p (λ s k. AskedWay v x s k c (downs_left c)) → WithSession o p (λ s k. AskedWay w y s k d (downs_left d))
        go None p low same at = at
        go (Some s) None low same at = at
        go (Some s) (Some p) low same at =
            subst (λ (l : List DownFrame). AskedWay w y s p.order d l) (sym untold.left) (asked_later s p.order low same firsts (downs_left c) at)
    down_later Joined app e still there firsts same is = go e.state.session e.told there is
      where
        go : (o : Option Session) (p : Option Place) → IfSome o (λ s. IfSome p (λ q. q.order ≤ current v))
            → WithSession o p (λ s k. JoinedWay v x e.state s k c) → WithSession o p (λ s k. JoinedWay w y e.state s k d)
        go None p low at = at
        go (Some s) None low at = at
        go (Some s) (Some p) low at = joined_later e.state s p.order low at

-- what an end has of its session, by the lane of its order
abbrev WindowBy : Site → Option Session → Option Place → Type 0
WindowBy x o p = IfSome o (λ s. IfSome p (λ q. WindowIs s.window (x.lane_at s.number q.order).up (x.lane_at s.number q.order).up_taken (x.lane_at s.number q.order).down_taken))

-- and that it learnt of it
abbrev BegunBy : Site → Option Session → Option Place → Type 0
BegunBy x o p = IfSome o (λ s. IfSome p (λ q. is_some (x.lane_at s.number q.order).began ≡ true))

windows_later : (x y : Site) → ((s k : ℕ) → LaneLater (x.lane_at s k) (y.lane_at s k)) → (o : Option Session) (p : Option Place) → WindowBy x o p → WindowBy y o p
windows_later x y lanes None p is = tt
windows_later x y lanes (Some s) None is = tt
windows_later x y lanes (Some s) (Some q) is = go (lanes s.number q.order)
  where
    go : LaneLater (x.lane_at s.number q.order) (y.lane_at s.number q.order) → WindowBy y (Some s) (Some q)
    go l = record {
      waiting = is.waiting ∙ ap (drop s.window.acked) (sym l.up);
      acked = omega (arith, is.acked, l.up_taken);
      taken = is.taken ∙ sym l.down_taken;
    }

begun_later : (x y : Site) → ((s k : ℕ) → LaneLater (x.lane_at s k) (y.lane_at s k)) → (o : Option Session) (p : Option Place) → BegunBy x o p → BegunBy y o p
begun_later x y lanes None p is = tt
begun_later x y lanes (Some s) None is = tt
begun_later x y lanes (Some s) (Some q) is = ap is_some (lanes s.number q.order).began ∙ is

-- only the state of an end and what it is told of count
down_end : (line : Line) (w : Server) (y : Site) (app : ℕ) (e f : End) → f.state ≡ e.state → f.told ≡ e.told → (c : Connection)
    → DownBy line w y app e c → DownBy line w y app f c
down_end Apart w y app e f state told c is = tt
down_end Trying w y app e f state told c is = tt
down_end Greeting w y app e f state told c is = subst (λ (z : AppEnd). GreetedWay w y app z.told c (downs_left c)) (sym state) is
down_end Asking w y app e f state told c is =
    subst (λ (z : AppEnd). WithSession z.session f.told (λ s k. AskedWay w y s k c (downs_left c))) (sym state)
    (subst (λ (p : Option Place). WithSession e.state.session p (λ s k. AskedWay w y s k c (downs_left c))) (sym told) is)
down_end Joined w y app e f state told c is =
    subst (λ (z : AppEnd). WithSession z.session f.told (λ s k. JoinedWay w y z s k c)) (sym state)
    (subst (λ (p : Option Place). WithSession e.state.session p (λ s k. JoinedWay w y e.state s k c)) (sym told) is)

-- The half of a living application end whose state is as it was, by what is on its way on its connection.
pub app_later : (w : Server) (v : Server) (x y : Site) → ((s k : ℕ) → LaneLater (x.lane_at s k) (y.lane_at s k)) → (app : ℕ) (e f : End)
    → f.state ≡ e.state → f.told ≡ e.told → IfSome (f.connection_at e.state.dial) (DownBy e.state.line w y app e) → AppWay v x app e → AppWay w y app f
app_later w v x y lanes app e f state told down way = record {
  window =
      subst (λ (z : AppEnd). WindowBy y z.session f.told) (sym state)
      (subst (λ (p : Option Place). WindowBy y e.state.session p) (sym told) (windows_later x y lanes e.state.session e.told way.window));
  begun =
      subst (λ (z : AppEnd). BegunBy y z.session f.told) (sym state)
      (subst (λ (p : Option Place). BegunBy y e.state.session p) (sym told) (begun_later x y lanes e.state.session e.told way.begun));
  down =
      subst (λ (z : AppEnd). IfSome (f.connection_at z.dial) (DownBy z.line w y app f)) (sym state)
      (some_kept (DownBy e.state.line w y app e) (DownBy e.state.line w y app f) (down_end e.state.line w y app e f state told)
      (f.connection_at e.state.dial) down);
}
