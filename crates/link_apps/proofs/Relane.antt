-- The half of an application end where other lanes than those that it goes by are changed.
use Rattle.std.proofs.Common.{◌≡◌, inl, inr, ℕ, true, List, [], ◌∷◌, Option, Some, None, is_some, sym, ◌∙◌, ap, subst}
use Rattle.std.specs.Prelude.{IfSome}
use Rattle.plain_runs.specs.Plain.{Server, order_at}
use Rattle.ecp_messages.specs.declared.down.Down.{Down}
use Rattle.ecp_messages.specs.declared.down.Down.TheVariants.{Welcome, Reset, Block, Drop, Ack, Grant, Answer, Normal, Bare}
use Rattle.ecp_messages.specs.declared.down.DownFrame.{DownFrame}
use Rattle.ecp_messages.specs.declared.front.Front.{Front}
use Rattle.app_rules.specs.declared.line.Line.{Line}
use Rattle.app_rules.specs.declared.line.Line.TheVariants.{Apart, Trying, Greeting, Asking, Joined}
use Rattle.app_rules.specs.AppState.{AppEnd, Session}
use Rattle.cluster_runs.specs.Sent.{Lane, Place, Connection}
use Rattle.cluster_runs.specs.Machine.{Site, End}
use Rattle.cluster_invariant.specs.Link.{AppWay, DownWay, WholeIf, WindowIs, JoinedWay, SameWelcome, EpochWelcomeOn, AskedFirst, AskedWay, NewWelcomeOn, GreetedFirst, GreetedWay, WithSession, DownBy, is_in_recovery, Unmet}
use Rattle.cluster_invariant.specs.Words.{downs_left, stays_at}
use Rattle.cluster_invariant.proofs.Small.{some_kept}

-- a site with these lanes
abbrev pub with_lanes_at : (ℕ → ℕ → Lane) → Site → Site
with_lanes_at lanes y = record y { lane_at = lanes }

module _ (w : Server) (y : Site) (lanes : ℕ → ℕ → Lane) (app : ℕ)
    (fresh : (told s k : ℕ) → Unmet w (with_lanes_at lanes y) app told s k → y.lane_at s k ≡ lanes s k) where
  abbrev z : Site
  z = with_lanes_at lanes y

  module _ (c : Connection) where
    module _ (s : Session) (k : ℕ) (mine : (j : ℕ) → y.lane_at s.number j ≡ lanes s.number j) where
      joined_relaned : (e : AppEnd) → JoinedWay w z e s k c → JoinedWay w y e s k c
      joined_relaned e j = record {
        its = j.its;
        way = subst (λ (l : Lane). DownWay (order_at w k) (stays_at w k) s.number l (is_in_recovery e.link) (downs_left c)) (sym (mine k)) j.way;
        whole = subst (λ (l : Lane). WholeIf y s.number k l c (downs_left c)) (sym (mine k)) j.whole;
      }

      same_relaned : (session epoch : ℕ) (front : Front) (taken : ℕ) (behind : List DownFrame) → SameWelcome w z s k c session epoch front taken behind
          → SameWelcome w y s k c session epoch front taken behind
      same_relaned session epoch front taken behind e = record {
        its = e.its;
        number = e.number;
        epoch_told = e.epoch_told;
        counted = e.counted ∙ ap (λ (l : Lane). l.up_taken) (sym its_lane);
        synced = e.synced;
        way = subst (λ (l : Lane). DownWay (order_at w k) (stays_at w k) session l s.normal_due behind) (sym its_lane) e.way;
        whole = subst (λ (l : Lane). WholeIf y session k l c behind) (sym its_lane) e.whole;
        awaited = e.awaited;
      }
        where
          its_lane : y.lane_at session k ≡ lanes session k
          its_lane = subst (λ (n : ℕ). y.lane_at n k ≡ lanes n k) (sym e.number) (mine k)

      epoch_relaned : (session epoch kept : ℕ) (front : Front) (taken : ℕ) (behind : List DownFrame) → EpochWelcomeOn w z s k c session epoch kept front taken behind
          → EpochWelcomeOn w y s k c session epoch kept front taken behind
      epoch_relaned session epoch kept front taken behind e = record {
        order = e.order;
        its = e.its;
        number = e.number;
        told_before = e.told_before;
        says = e.says;
        none_taken = e.none_taken;
        unlearnt = ap (λ (l : Lane). l.began) its_lane ∙ e.unlearnt;
        way = subst (λ (l : Lane). DownWay (order_at w e.order) (stays_at w e.order) session l true behind) (sym its_lane) e.way;
        whole = subst (λ (l : Lane). WholeIf y session e.order l c behind) (sym its_lane) e.whole;
      }
        where
          its_lane : y.lane_at session e.order ≡ lanes session e.order
          its_lane = subst (λ (n : ℕ). y.lane_at n e.order ≡ lanes n e.order) (sym e.number) (mine e.order)

      first_relaned : (m : Down) (behind : List DownFrame) → AskedFirst w z s k c behind m → AskedFirst w y s k c behind m
      first_relaned (Welcome session epoch kept front taken) behind (inl e) = inl (same_relaned session epoch front taken behind e)
      first_relaned (Welcome session epoch kept front taken) behind (inr e) = inr (epoch_relaned session epoch kept front taken behind e)
      first_relaned (Reset session at) behind is = is
      first_relaned (Block front block) behind is = is
      first_relaned (Drop front lo hi) behind is = is
      first_relaned (Ack front) behind is = is
      first_relaned (Grant front ticket at) behind is = is
      first_relaned (Answer front about job number at sum) behind is = is
      first_relaned (Normal front) behind is = is
      first_relaned Bare behind is = is

      asked_relaned : (left : List DownFrame) → AskedWay w z s k c left → AskedWay w y s k c left
      asked_relaned [] is = is
      asked_relaned (f ∷ fs) is = (is.0, first_relaned f.message fs is.1)

    new_relaned : (told s epoch kept : ℕ) (front : Front) (taken : ℕ) → NewWelcomeOn w z app told c s epoch kept front taken
        → NewWelcomeOn w y app told c s epoch kept front taken
    new_relaned told s epoch kept front taken n = record {
      order = n.order;
      its = n.its;
      unmet = record {
        there = n.unmet.there;
        above = n.unmet.above;
        unmet = n.unmet.unmet;
        entered = n.unmet.entered;
        opened = n.unmet.opened;
        behind = n.unmet.behind;
        unused = n.unmet.unused;
        unlearnt = ap (λ (l : Lane). l.began) its_lane ∙ n.unmet.unlearnt;
      };
      synced = n.synced;
      its_epoch = n.its_epoch;
      stays = n.stays;
      from_open = n.from_open;
      within = n.within;
      kept_all = n.kept_all;
      none_counted = n.none_counted;
      none_synced = n.none_synced;
      none_taken = n.none_taken;
      whole = subst (λ (l : Lane). WholeIf y s n.order l c []) (sym its_lane) n.whole;
    }
      where
        its_lane : y.lane_at s n.order ≡ lanes s n.order
        its_lane = fresh told s n.order n.unmet

    greeted_first_relaned : (told : ℕ) (m : Down) → GreetedFirst w z app told c m → GreetedFirst w y app told c m
    greeted_first_relaned told (Welcome session epoch kept front taken) n = new_relaned told session epoch kept front taken n
    greeted_first_relaned told (Reset session at) is = is
    greeted_first_relaned told (Block front block) is = is
    greeted_first_relaned told (Drop front lo hi) is = is
    greeted_first_relaned told (Ack front) is = is
    greeted_first_relaned told (Grant front ticket at) is = is
    greeted_first_relaned told (Answer front about job number at sum) is = is
    greeted_first_relaned told (Normal front) is = is
    greeted_first_relaned told Bare is = is

    greeted_relaned : (told : ℕ) (left : List DownFrame) → GreetedWay w z app told c left → GreetedWay w y app told c left
    greeted_relaned told [] is = is
    greeted_relaned told (f ∷ fs) is = (is.0, greeted_first_relaned told f.message is.1, is.2)

  down_relaned : (line : Line) (e : End) → IfSome e.state.session (λ s. (k : ℕ) → y.lane_at s.number k ≡ lanes s.number k) → (c : Connection)
      → DownBy line w z app e c → DownBy line w y app e c
  down_relaned Apart e mine c is = tt
  down_relaned Trying e mine c is = tt
  down_relaned Greeting e mine c is = greeted_relaned c e.state.told (downs_left c) is
  down_relaned Asking e mine c is = go e.state.session e.told mine is
    where
      go : (o : Option Session) (p : Option Place) → IfSome o (λ s. (k : ℕ) → y.lane_at s.number k ≡ lanes s.number k)
          → WithSession o p (λ s k. AskedWay w z s k c (downs_left c)) → WithSession o p (λ s k. AskedWay w y s k c (downs_left c))
      go None p m at = at
      go (Some s) None m at = at
      go (Some s) (Some p) m at = asked_relaned c s p.order m (downs_left c) at
  down_relaned Joined e mine c is = go e.state.session e.told mine is
    where
      go : (o : Option Session) (p : Option Place) → IfSome o (λ s. (k : ℕ) → y.lane_at s.number k ≡ lanes s.number k)
          → WithSession o p (λ s k. JoinedWay w z e.state s k c) → WithSession o p (λ s k. JoinedWay w y e.state s k c)
      go None p m at = at
      go (Some s) None m at = at
      go (Some s) (Some p) m at = joined_relaned c s p.order m e.state at

  -- What is on its way to an end goes by the lanes of its session, and by those of a session that it didn't meet.
  pub way_relaned : (e : End) → IfSome e.state.session (λ s. (k : ℕ) → y.lane_at s.number k ≡ lanes s.number k) → AppWay w z app e → AppWay w y app e
  way_relaned e mine is = record {
    window = window e.state.session e.told mine is.window;
    begun = begun e.state.session e.told mine is.begun;
    down = some_kept (DownBy e.state.line w z app e) (DownBy e.state.line w y app e) (λ c at. down_relaned e.state.line e mine c at) (e.connection_at e.state.dial) is.down;
  }
    where
      window : (o : Option Session) (p : Option Place) → IfSome o (λ s. (k : ℕ) → y.lane_at s.number k ≡ lanes s.number k)
          → IfSome o (λ s. IfSome p (λ q. WindowIs s.window (lanes s.number q.order).up (lanes s.number q.order).up_taken (lanes s.number q.order).down_taken))
          → IfSome o (λ s. IfSome p (λ q. WindowIs s.window (y.lane_at s.number q.order).up (y.lane_at s.number q.order).up_taken (y.lane_at s.number q.order).down_taken))
      window None p m at = tt
      window (Some s) None m at = tt
      window (Some s) (Some q) m at = subst (λ (l : Lane). WindowIs s.window l.up l.up_taken l.down_taken) (sym (m q.order)) at

      begun : (o : Option Session) (p : Option Place) → IfSome o (λ s. (k : ℕ) → y.lane_at s.number k ≡ lanes s.number k)
          → IfSome o (λ s. IfSome p (λ q. is_some (lanes s.number q.order).began ≡ true))
          → IfSome o (λ s. IfSome p (λ q. is_some (y.lane_at s.number q.order).began ≡ true))
      begun None p m at = tt
      begun (Some s) None m at = tt
      begun (Some s) (Some q) m at = ap (λ (l : Lane). is_some l.began) (m q.order) ∙ at
