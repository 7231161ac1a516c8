-- The halves of application ends over a step of an application server that takes nothing: what comes to each of them is as it was.
use Rattle.std.proofs.Common.{◌≡◌, ◌≤◌, ◌<◌, inl, inr, ℕ, Bool, true, List, [], ◌∷◌, drop, Option, Some, None, is_some, refl, sym, ◌∙◌, ap, subst, arith}
use Rattle.std.specs.Prelude.{⊤, IfSome, IsSomeAnd}
use Rattle.std.proofs.lemmas.List.{append-nil}
use Rattle.plain_runs.specs.Plain.{Server, current, order_at}
use Rattle.ecp_messages.specs.declared.down.Down.{Down}
use Rattle.ecp_messages.specs.declared.down.Down.TheVariants.{Welcome, Reset, Block, Drop, Ack, Grant, Answer, Normal, Bare}
use Rattle.ecp_messages.specs.declared.down.DownFrame.{DownFrame}
use Rattle.ecp_messages.specs.declared.front.Front.{Front}
use Rattle.link_states.specs.declared.app_link.AppLink.{AppLink}
use Rattle.app_rules.specs.declared.line.Line.{Line}
use Rattle.app_rules.specs.declared.line.Line.TheVariants.{Apart, Trying, Greeting, Asking, Joined}
use Rattle.app_rules.specs.AppState.{AppEnd, Session}
use Rattle.data_rules.specs.DataState.{DataState}
use Rattle.cluster_runs.specs.Sent.{Lane, Place, Connection, FirstTaken}
use Rattle.cluster_runs.specs.Machine.{Site, End}
use Rattle.cluster_invariant.specs.Link.{AppWay, LaneCounts, WindowIs, DownWay, DownWhole, WholeIf, JoinedWay, SameWelcome, EpochWelcomeOn, ResetOn, AskedFirst, AskedWay, GreetedWay, WithSession, DownBy, is_in_recovery}
use Rattle.cluster_invariant.specs.Words.{downs_left, numbered_behind, stays_at}
use Rattle.cluster_invariant.proofs.Small.{some_kept}
use Rattle.cluster_steps.proofs.AppSites.{SameBeside}
use Rattle.link_kept.proofs.Later.{EnteredStays, Later}
use Rattle.link_kept.proofs.AppLater.{LaneGoes, WholeStays, CountStays, down_later}

-- What comes downwards of a lane is as it was.
pub record LaneDown (a b : Lane) : Type 0 where
  pub began : b.began ≡ a.began
  pub up_taken : b.up_taken ≡ a.up_taken
  pub down : b.down ≡ a.down
  pub down_taken : b.down_taken ≡ a.down_taken

pub lane_down_goes : (a b : Lane) → LaneDown a b → LaneGoes a b
lane_down_goes a b l = record {
  began = l.began;
  up_taken = omega (arith, l.up_taken);
  down = ([], l.down ∙ sym (append-nil a.down));
  down_taken = l.down_taken;
}

-- What is on its way downwards on a connection is as it was.
pub record LeftSame (c d : Connection) : Type 0 where
  pub its : d.its ≡ c.its
  pub left : downs_left d ≡ downs_left c
  pub first : d.first ≡ c.first
  pub data_left : d.data_left ≡ c.data_left

-- a session that is told the same
pub record SessionLike (s t : Session) : Type 0 where
  pub number : t.number ≡ s.number
  pub epoch : t.epoch ≡ s.epoch
  pub normal_due : t.normal_due ≡ s.normal_due

-- likewise of an end that may have none
abbrev pub SessionsLike : Option Session → Option Session → Type 0
SessionsLike None None = ⊤
SessionsLike None (Some t) = ⊥
SessionsLike (Some s) None = ⊥
SessionsLike (Some s) (Some t) = SessionLike s t

module _ (v w : Server) (x y : Site) (later : Later x v w) (beside : SameBeside x y) (lanes : (s k : ℕ) → LaneDown (x.lane_at s k) (y.lane_at s k))
    (counts : (s k : ℕ) → LaneCounts (x.lane_at s k)) where
  whole_same : (c d : Connection) → LeftSame c d → WholeStays x y c d
  whole_same c d same s k left its is at here =
      subst (λ (o : Option DataState). IfSome o (λ n. IsSomeAnd d.first (λ f. DownWhole n s f.conn (y.lane_at s k) left))) (sym beside.node)
      (some_kept (λ (n : DataState). IsSomeAnd c.first (λ f. DownWhole n s f.conn (x.lane_at s k) left))
      (λ (n : DataState). IsSomeAnd d.first (λ f. DownWhole n s f.conn (y.lane_at s k) left))
      (λ n got. subst (λ (o : Option FirstTaken). IsSomeAnd o (λ f. DownWhole n s f.conn (y.lane_at s k) left)) (sym same.first) (each n c.first got)) x.node
      (is (sym same.data_left ∙ at) (here ∙ beside.past)))
    where
      one : (n : DataState) (conn : ℕ) → DownWhole n s conn (x.lane_at s k) left → DownWhole n s conn (y.lane_at s k) left
      one n conn g = record {
        bound = g.bound;
        whole = g.whole ∙ sym (ap (numbered_behind (y.lane_at s k).down_taken) (lanes s k).down
            ∙ ap (λ (j : ℕ). numbered_behind j (x.lane_at s k).down) (lanes s k).down_taken);
        closed = g.closed;
      }

      each : (n : DataState) (o : Option FirstTaken) → IsSomeAnd o (λ f. DownWhole n s f.conn (x.lane_at s k) left)
          → IsSomeAnd o (λ f. DownWhole n s f.conn (y.lane_at s k) left)
      each n None got = got
      each n (Some f) got = one n f.conn got

  counts_stay : (line : Line) (o : Option Session) (p : Option Place) → CountStays x y line o p
  counts_stay Apart o p = tt
  counts_stay Trying o p = tt
  counts_stay Greeting o p = tt
  counts_stay Asking None p = tt
  counts_stay Asking (Some s) None = tt
  counts_stay Asking (Some s) (Some q) = (lanes s.number q.order).up_taken
  counts_stay Joined o p = tt

  -- What comes on the connection of an end.
  pub down_same : (line : Line) (app : ℕ) (e : End) (c d : Connection) → LeftSame c d → EnteredStays app v w → IfSome e.state.session (λ s. IfSome e.told (λ p. p.order ≤ current v))
      → IfSome c.first (λ f. f.order ≤ current v) → DownBy line v x app e c → DownBy line w y app e d
  down_same line app e c d same still there firsts is =
      down_later v w x y later (λ s k. lane_down_goes (x.lane_at s k) (y.lane_at s k) (lanes s k)) counts c d
      (record { its = same.its; left = same.left; first = same.first }) (whole_same c d same) line app e still there firsts
      (counts_stay line e.state.session e.told) is

  -- what an end has of its session, where nothing was put in its lane
  window_same : (o : Option Session) (p : Option Place)
      → IfSome o (λ s. IfSome p (λ q. (y.lane_at s.number q.order).up ≡ (x.lane_at s.number q.order).up))
      → IfSome o (λ s. IfSome p (λ q. WindowIs s.window (x.lane_at s.number q.order).up (x.lane_at s.number q.order).up_taken (x.lane_at s.number q.order).down_taken))
      → IfSome o (λ s. IfSome p (λ q. WindowIs s.window (y.lane_at s.number q.order).up (y.lane_at s.number q.order).up_taken (y.lane_at s.number q.order).down_taken))
  window_same None p ups is = tt
  window_same (Some s) None ups is = tt
  window_same (Some s) (Some q) ups is = record {
    waiting = is.waiting ∙ ap (drop s.window.acked) (sym ups);
    acked = omega (arith, is.acked, (lanes s.number q.order).up_taken);
    taken = is.taken ∙ sym (lanes s.number q.order).down_taken;
  }

  begun_same : (o : Option Session) (p : Option Place) → IfSome o (λ s. IfSome p (λ q. is_some (x.lane_at s.number q.order).began ≡ true))
      → IfSome o (λ s. IfSome p (λ q. is_some (y.lane_at s.number q.order).began ≡ true))
  begun_same None p is = tt
  begun_same (Some s) None is = tt
  begun_same (Some s) (Some q) is = ap is_some (lanes s.number q.order).began ∙ is

  -- The half of another application server's end.
  pub other_way : (app : ℕ) (e : End) → EnteredStays app v w → IfSome e.state.session (λ s. IfSome e.told (λ p. p.order ≤ current v))
      → IfSome (e.connection_at e.state.dial) (λ c. IfSome c.first (λ f. f.order ≤ current v))
      → IfSome e.state.session (λ s. IfSome e.told (λ q. (y.lane_at s.number q.order).up ≡ (x.lane_at s.number q.order).up))
      → AppWay v x app e → AppWay w y app e
  other_way app e still there firsts ups is = record {
    window = window_same e.state.session e.told ups is.window;
    begun = begun_same e.state.session e.told is.begun;
    down = go (e.connection_at e.state.dial) firsts is.down;
  }
    where
      go : (o : Option Connection) → IfSome o (λ c. IfSome c.first (λ f. f.order ≤ current v)) → IfSome o (DownBy e.state.line v x app e)
          → IfSome o (DownBy e.state.line w y app e)
      go None low down = tt
      go (Some c) low down = down_same e.state.line app e c c (record { its = refl; left = refl; first = refl; data_left = refl }) still there low down

-- an end whose session is told the same

module _ (v : Server) (x : Site) (s t : Session) (like : SessionLike s t) (k : ℕ) (c : Connection) where
  joined_like : (e f : AppEnd) → f.link ≡ e.link → JoinedWay v x e s k c → JoinedWay v x f t k c
  joined_like e f link j = record {
    its = j.its ∙ ap (λ (n : ℕ). Some (record { session = n; order = k })) (sym like.number);
    way =
        subst (λ (l : AppLink). DownWay (order_at v k) (stays_at v k) t.number (x.lane_at t.number k) (is_in_recovery l) (downs_left c)) (sym link)
        (subst (λ (n : ℕ). DownWay (order_at v k) (stays_at v k) n (x.lane_at n k) (is_in_recovery e.link) (downs_left c)) (sym like.number) j.way);
    whole = subst (λ (n : ℕ). WholeIf x n k (x.lane_at n k) c (downs_left c)) (sym like.number) j.whole;
  }

  same_like : (session epoch : ℕ) (front : Front) (taken : ℕ) (behind : List DownFrame) → SameWelcome v x s k c session epoch front taken behind
      → SameWelcome v x t k c session epoch front taken behind
  same_like session epoch front taken behind e = record {
    its = e.its ∙ ap (λ (n : ℕ). Some (record { session = n; order = k })) (sym like.number);
    number = e.number ∙ sym like.number;
    epoch_told = e.epoch_told ∙ sym like.epoch;
    counted = e.counted;
    synced = e.synced;
    way = subst (λ (b : Bool). DownWay (order_at v k) (stays_at v k) session (x.lane_at session k) b behind) (sym like.normal_due) e.way;
    whole = e.whole;
    awaited = λ none. e.awaited (sym like.normal_due ∙ none);
  }

  epoch_like : (session epoch kept : ℕ) (front : Front) (taken : ℕ) (behind : List DownFrame) → EpochWelcomeOn v x s k c session epoch kept front taken behind
      → EpochWelcomeOn v x t k c session epoch kept front taken behind
  epoch_like session epoch kept front taken behind e = record {
    order = e.order;
    its = e.its ∙ ap (λ (n : ℕ). Some (record { session = n; order = e.order })) (sym like.number);
    number = e.number ∙ sym like.number;
    told_before = subst (λ n. n < epoch) (sym like.epoch) e.told_before;
    says = e.says;
    none_taken = e.none_taken;
    unlearnt = e.unlearnt;
    way = e.way;
    whole = e.whole;
  }

  first_like : (m : Down) (behind : List DownFrame) → AskedFirst v x s k c behind m → AskedFirst v x t k c behind m
  first_like (Welcome session epoch kept front taken) behind (inl e) = inl (same_like session epoch front taken behind e)
  first_like (Welcome session epoch kept front taken) behind (inr e) = inr (epoch_like session epoch kept front taken behind e)
  first_like (Reset session at) behind is = (subst (λ (n : ℕ). ResetOn v n c (Reset session at)) (sym like.number) is.0, is.1)
  first_like (Block front block) behind is = is
  first_like (Drop front lo hi) behind is = is
  first_like (Ack front) behind is = is
  first_like (Grant front ticket at) behind is = is
  first_like (Answer front about job number at sum) behind is = is
  first_like (Normal front) behind is = is
  first_like Bare behind is = is

  asked_like : (left : List DownFrame) → AskedWay v x s k c left → AskedWay v x t k c left
  asked_like [] is = is
  asked_like (f ∷ fs) is = (is.0, first_like f.message fs is.1)

-- What comes is the same for an end that goes on.
pub down_like : (line : Line) (v : Server) (x : Site) (app : ℕ) (e f : End) → SessionsLike e.state.session f.state.session → f.state.link ≡ e.state.link
    → f.state.told ≡ e.state.told → f.told ≡ e.told → (c : Connection) → DownBy line v x app e c → DownBy line v x app f c
down_like Apart v x app e f like link known told c is = tt
down_like Trying v x app e f like link known told c is = tt
down_like Greeting v x app e f like link known told c is = subst (λ (n : ℕ). GreetedWay v x app n c (downs_left c)) (sym known) is
down_like Asking v x app e f like link known told c is =
    subst (λ (p : Option Place). WithSession f.state.session p (λ s k. AskedWay v x s k c (downs_left c))) (sym told)
    (go e.state.session f.state.session e.told like is)
  where
    go : (o q : Option Session) (p : Option Place) → SessionsLike o q → WithSession o p (λ s k. AskedWay v x s k c (downs_left c))
        → WithSession q p (λ s k. AskedWay v x s k c (downs_left c))
    go None q p l at = absurd at
    go (Some s) None p l at = absurd l
    go (Some s) (Some t) None l at = at
    go (Some s) (Some t) (Some z) l at = asked_like v x s t l z.order c (downs_left c) at
down_like Joined v x app e f like link known told c is =
    subst (λ (p : Option Place). WithSession f.state.session p (λ s k. JoinedWay v x f.state s k c)) (sym told)
    (go e.state.session f.state.session e.told like is)
  where
    go : (o q : Option Session) (p : Option Place) → SessionsLike o q → WithSession o p (λ s k. JoinedWay v x e.state s k c)
        → WithSession q p (λ s k. JoinedWay v x f.state s k c)
    go None q p l at = absurd at
    go (Some s) None p l at = absurd l
    go (Some s) (Some t) None l at = at
    go (Some s) (Some t) (Some z) l at = joined_like v x s t l z.order c e.state f.state link at
