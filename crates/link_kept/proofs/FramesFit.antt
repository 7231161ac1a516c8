-- A frame that comes on the connection of a live session is the next one of its lane.
use Rattle.std.proofs.Common.{◌≡◌, ◌≤◌, ◌<◌, ℕ, ◌+◌, Bool, true, false, if◌then◌else◌, List, [], ◌∷◌, ◌++◌, length, drop, Option, Some, None, option_map, refl, sym, ◌∙◌, ap, subst, arith}
use Rattle.std.specs.Prelude.{IfSome, ◌==◌}
use Rattle.std.proofs.lemmas.Bool.{eqb-true}
use Rattle.std.proofs.lemmas.List.{length-drop}
use Rattle.plain_orders.specs.Entries.{live}
use Rattle.ecp_messages.specs.declared.up.Up.{Up}
use Rattle.ecp_messages.specs.declared.up.UpFrame.{UpFrame}
use Rattle.end_words.specs.Windows.{numbered_from}
use Rattle.data_rules.specs.DataState.{DataState}
use Rattle.data_rules.specs.declared.data_in.DataIn.{DataIn}
use Rattle.data_rules.specs.declared.data_in.DataIn.TheVariants as data_in
use Rattle.data_rules.specs.declared.rows.Role.TheVariants.{Bound}
use Rattle.data_rules.specs.Conns.{role_of}
use Rattle.data_rules.specs.Puts.{Sofar, body_of, window_of}
use Rattle.cluster_runs.specs.declared.moves.Move.TheVariants.{Server as ServerMove}
use Rattle.cluster_runs.specs.CoresState.{CoresState, Linked, Accepted, Dial, dial_at}
use Rattle.cluster_runs.specs.Moves.{Allowed, TakenMay, LinkedMay, next_up, first_of}
use Rattle.cluster_runs.specs.Mirrors.{Mirrors, accepted_of}
use Rattle.cluster_runs.specs.Sent.{Connection}
use Rattle.cluster_runs.specs.Machine.{Machine, Site, DataConnection}
use Rattle.cluster_runs.specs.Connections.{link_of, link_in, dial_of}
use Rattle.cluster_invariant.specs.Dials.{NodeDials, RoleIs, BoundIs}
use Rattle.cluster_invariant.specs.Link.{NodeWindows, UpWay, UpWayOn, UpWayBy, is_joined_on}
use Rattle.cluster_invariant.specs.Words.{IsFront, ups_left, numbered_ups}
use Rattle.cluster_invariant.proofs.Small.{of_some}
use Rattle.cluster_invariant.proofs.PieceMay.{Coming, AcknowledgesMay, TakesMay, begins}
use Rattle.link_kept.proofs.Answers.{fresh_above}
use Rattle.link_kept.proofs.WindowPieces.{ComesWell, TakesWell}

-- the next frame

-- the frame is the next one up on the connection that the data connection is linked to
pub record NextIs (x : Site) (l : Linked) (f : UpFrame) : Type 0 where
  pub on : Connection
  pub there : (x.end_at l.app).connection_at l.dial ≡ Some on
  pub rest : List UpFrame
  pub left : ups_left on ≡ f ∷ rest

first_is : (fs : List UpFrame) (f : UpFrame) → first_of fs ≡ Some f → (rest : List UpFrame) × (fs ≡ f ∷ rest)
first_is [] f is = absurd cc
first_is (g ∷ fs) f is = (fs, ap (λ (h : UpFrame). h ∷ fs) (some_same g f is))
  where
    some_same : (a b : UpFrame) → Some a ≡ Some b → a ≡ b
    some_same a b same = cc

on_dial : (x : Site) (server : ℕ) (l : Linked) (f : UpFrame) (o : Option Connection) → (x.end_at l.app).connection_at l.dial ≡ o
    → next_up (option_map (dial_of l.app server l.dial) o) ≡ Some f → NextIs x l f
on_dial x server l f None there is = absurd cc
on_dial x server l f (Some c) there is = go c.data_left is
  where
    go : (b : Bool) → first_of (if b then [] else drop c.ups_taken c.ups) ≡ Some f → NextIs x l f
    go true none = absurd cc
    go false some =
        let next : (rest : List UpFrame) × (ups_left c ≡ f ∷ rest) = first_is (ups_left c) f some in
        record { on = c; there = there; rest = next.0; left = next.1 }

-- What a data server takes on a linked connection is the next frame on it.
pub frame_next : (c : CoresState) (m : Machine) (server now conn : ℕ) (f : UpFrame) (l : Linked) → Mirrors c m → Allowed c (ServerMove server now (data_in.Frame conn f))
    → link_of (m.site_at server) conn ≡ Some l → NextIs (m.site_at server) l f
frame_next c m server now conn f l shows allowed linked =
    taken ((m.site_at server).connection_at conn) linked (subst (λ (o : Option Accepted). TakenMay o c server f) (shows.accepted server conn) allowed.takes)
  where
    linked_may : next_up (dial_at c l.app server l.dial) ≡ Some f → NextIs (m.site_at server) l f
    linked_may is =
        on_dial (m.site_at server) server l f (((m.site_at server).end_at l.app).connection_at l.dial) refl
        (ap (λ (o : Option Dial). next_up o) (sym (shows.dials l.app server l.dial)) ∙ is)

    taken : (o : Option DataConnection) → link_in o ≡ Some l → TakenMay (option_map (accepted_of server conn) o) c server f → NextIs (m.site_at server) l f
    taken None none may = absurd may
    taken (Some d) its may = linked_may (subst (λ (o : Option Linked). LinkedMay o c server f) its may.1)

-- what it says

room : (n k : ℕ) (m : Up) (xs : List (ℕ × Up)) (ups : List Up) → IsFront ((k, m) ∷ xs) (numbered_from n (drop n ups)) → n + 1 ≤ length ups
room n k m xs ups front = go (drop n ups) refl front
  where
    go : (ys : List Up) → drop n ups ≡ ys → IsFront ((k, m) ∷ xs) (numbered_from n ys) → n + 1 ≤ length ups
    go [] none at = absurd (cc (at.1))
    go (y ∷ ys) some at = omega (arith, length-drop n ups, ap (λ (l : List Up). length l) some)

next_is : (n k : ℕ) (m : Up) (xs : List (ℕ × Up)) (ups : List Up) → IsFront ((k, m) ∷ xs) (numbered_from n (drop n ups)) → (rest : List Up) × (drop n ups ≡ m ∷ rest)
next_is n k m xs ups front = go (drop n ups) refl front
  where
    head : (x y : ℕ × Up) (ys zs : List (ℕ × Up)) → ◌≡◌ {A = List (ℕ × Up)} (x ∷ ys) (y ∷ zs) → x ≡ y
    head x y ys zs same = cc

    its : (a b : ℕ) (u : Up) (ys zs : List (ℕ × Up)) → ◌≡◌ {A = List (ℕ × Up)} ((a, u) ∷ ys) ((b, m) ∷ zs) → u ≡ m
    its a b u ys zs same = ap (λ (x : ℕ × Up). x.1) (head (a, u) (b, m) ys zs same)

    go : (ys : List Up) → drop n ups ≡ ys → IsFront ((k, m) ∷ xs) (numbered_from n ys) → (rest : List Up) × (drop n ups ≡ m ∷ rest)
    go [] none at = absurd (cc (at.1))
    go (y ∷ ys) some at = (ys, some ∙ ap (λ (u : Up). u ∷ ys) (its (n + 1) k y (numbered_from (n + 1) ys) (xs ++ at.0) at.1))

-- What a data server has of its sessions as a frame comes.
pub record FrameAt (x : Site) (dead : ℕ → Bool) (old : DataState) (input : DataIn) : Type 0 where
  pub dials : NodeDials x old
  pub windows : NodeWindows x old
  pub ups : (session conn : ℕ) → role_of old conn ≡ Some (Bound session) → IfSome (link_of x conn) (UpWayBy x dead session)
  pub next : (conn : ℕ) (f : UpFrame) (l : Linked) → input ≡ data_in.Frame conn f → link_of x conn ≡ Some l → NextIs x l f

-- a frame's step begins with the state as it was
pub begins_old : (t : Coming) (conn : ℕ) (f : UpFrame) → t.input ≡ data_in.Frame conn f → (begins t).state ≡ t.old
begins_old t conn f came = ap (λ (input : DataIn). (begins (record { old = t.old; now = t.now; input = input })).state) came

module _ (x : Site) (dead : ℕ → Bool) (t : Coming) (h : FrameAt x dead t.old t.input) where
  -- what is on its way on the connection of the session
  pub record OnWay (session : ℕ) (f : UpFrame) : Type 0 where
    pub rest : List UpFrame
    pub lives : live t.old.order session ≡ true
    pub whole : Bool
    pub way : UpWay (x.lane_at session x.past) (f ∷ rest) whole

  pub on_way : (conn session : ℕ) (f : UpFrame) → t.input ≡ data_in.Frame conn f → role_of t.old conn ≡ Some (Bound session) → OnWay session f
  on_way conn session f came role = go (of_some (RoleIs x t.old conn) (role_of t.old conn) (Bound session) role (h.dials.roles conn))
    where
      by : (l : Linked) → link_of x conn ≡ Some l → live t.old.order session ≡ true → NextIs x l f → OnWay session f
      by l linked lives next = record {
        rest = next.rest;
        lives = lives;
        whole = is_joined_on (dead l.app) (x.end_at l.app).state l.dial session;
        way =
            subst (λ (fs : List UpFrame). UpWay (x.lane_at session x.past) fs (is_joined_on (dead l.app) (x.end_at l.app).state l.dial session)) next.left
            (of_some (UpWayOn (x.lane_at session x.past) (dead l.app) (x.end_at l.app).state l.dial session) ((x.end_at l.app).connection_at l.dial) next.on next.there
            (of_some (UpWayBy x dead session) (link_of x conn) l linked (h.ups session conn role)));
      }

      go : BoundIs x t.old conn session → OnWay session f
      go b =
          by (record { app = b.app; dial = b.linked.dial }) b.linked.link b.lives
          (h.next conn f (record { app = b.app; dial = b.linked.dial }) came b.linked.link)

  comes : (session : ℕ) (f : UpFrame) (b : Sofar) → b.state ≡ t.old → OnWay session f → ComesWell (λ s. x.lane_at s x.past) session f.ack b
  comes session f b same o = record { lives = ap (λ (d : DataState). live d.order session) same ∙ o.lives; came = o.way.acks.0 }

  pub acknowledges_well : (conn session : ℕ) (f : UpFrame) (b : Sofar) → AcknowledgesMay t conn session f b → ComesWell (λ s. x.lane_at s x.past) session f.ack b
  acknowledges_well conn session f b may =
      comes session f b same (on_way conn session f may.on.came (sym (ap (λ (d : DataState). role_of d conn) same) ∙ may.on.bound))
    where
      same : b.state ≡ t.old
      same = ap (λ (c : Sofar). c.state) may.first ∙ begins_old t conn f may.on.came

  pub takes_well : (conn session : ℕ) (f : UpFrame) (b : Sofar) → TakesMay t conn session f b → TakesWell (λ s. x.lane_at s x.past) session f.ack b
  takes_well conn session f b may = go (on_way conn session f may.on.came (sym (ap (λ (d : DataState). role_of d conn) same) ∙ may.on.bound))
    where
      same : b.state ≡ t.old
      same = ap (λ (c : Sofar). c.state) may.first ∙ begins_old t conn f may.on.came

      above : (window_of b.state session).taken < f.seq
      above = fresh_above body_of (window_of b.state session) f.seq f.ack may.fresh

      numbered : (n : ℕ) (ups : List Up) (rest : List UpFrame) (c : Bool) → (f.seq == 0) ≡ c
          → IsFront (if c then numbered_ups rest else (f.seq, f.message) ∷ numbered_ups rest) (numbered_from n (drop n ups)) → n + 1 ≤ length ups
      numbered n ups rest true zeroed front = absurd (omega (arith, above, eqb-true f.seq 0 zeroed))
      numbered n ups rest false other front = room n f.seq f.message (numbered_ups rest) ups front

      go : OnWay session f → TakesWell (λ s. x.lane_at s x.past) session f.ack b
      go o = record {
        comes = comes session f b same o;
        room =
            subst (λ (k : ℕ). k + 1 ≤ length (x.lane_at session x.past).up)
            (sym (ap (λ (d : DataState). (window_of d session).taken) same ∙ (h.windows.each session o.lives).taken))
            (numbered (x.lane_at session x.past).up_taken (x.lane_at session x.past).up o.rest (f.seq == 0) refl o.way.next);
      }

  -- the message that comes is the next one that was put
  pub taken_next : (conn session : ℕ) (f : UpFrame) (b : Sofar) → TakesMay t conn session f b
      → (rest : List Up) × (drop (window_of b.state session).taken (x.lane_at session x.past).up ≡ f.message ∷ rest)
  taken_next conn session f b may = go (on_way conn session f may.on.came (sym (ap (λ (d : DataState). role_of d conn) same) ∙ may.on.bound))
    where
      same : b.state ≡ t.old
      same = ap (λ (c : Sofar). c.state) may.first ∙ begins_old t conn f may.on.came

      above : (window_of b.state session).taken < f.seq
      above = fresh_above body_of (window_of b.state session) f.seq f.ack may.fresh

      numbered : (n : ℕ) (ups : List Up) (rest : List UpFrame) (c : Bool) → (f.seq == 0) ≡ c
          → IsFront (if c then numbered_ups rest else (f.seq, f.message) ∷ numbered_ups rest) (numbered_from n (drop n ups)) → (more : List Up) × (drop n ups ≡ f.message ∷ more)
      numbered n ups rest true zeroed front = absurd (omega (arith, above, eqb-true f.seq 0 zeroed))
      numbered n ups rest false other front = next_is n f.seq f.message (numbered_ups rest) ups front

      go : OnWay session f → (rest : List Up) × (drop (window_of b.state session).taken (x.lane_at session x.past).up ≡ f.message ∷ rest)
      go o =
          subst (λ (k : ℕ). (rest : List Up) × (drop k (x.lane_at session x.past).up ≡ f.message ∷ rest))
          (sym (ap (λ (d : DataState). (window_of d session).taken) same ∙ (h.windows.each session o.lives).taken))
          (numbered (x.lane_at session x.past).up_taken (x.lane_at session x.past).up o.rest (f.seq == 0) refl o.way.next)
