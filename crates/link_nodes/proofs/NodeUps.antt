-- What is on its way upwards on the connection of a live session, after a step of its data server.
use Rattle.std.proofs.Common.{◌≡◌, ◌≤◌, ℕ, zero, suc, ◌+◌, ◌==◌, if◌then◌else◌, Bool, true, false, List, [], ◌∷◌, ◌++◌, drop, option_map, Option, Some, None, refl, sym, ◌∙◌, ap, subst, arith}
use Rattle.std.specs.Prelude.{◌&&◌, IfSome}
use Rattle.std.specs.List.{AllByRecursion, list_all}
use Rattle.std.proofs.lemmas.Bool.{and_parts, eqb-true, false≢true}
use Rattle.std.proofs.lemmas.List.{drop-drop}
use Rattle.plain_runs.specs.Plain.{Server}
use Rattle.ecp_messages.specs.declared.up.Up.{Up}
use Rattle.ecp_messages.specs.declared.up.UpFrame.{UpFrame}
use Rattle.end_words.specs.Windows.{numbered_from}
use Rattle.app_rules.specs.declared.line.Line.{Line}
use Rattle.app_rules.specs.declared.line.Line.TheVariants.{Apart, Trying, Greeting, Asking, Joined}
use Rattle.app_rules.specs.AppState.{Session}
use Rattle.app_rules.specs.Works.{is_joined}
use Rattle.data_rules.specs.declared.data_in.DataIn.TheVariants as data_in
use Rattle.data_rules.specs.declared.rows.Kind.{Kind}
use Rattle.data_rules.specs.declared.rows.Kind.TheVariants.{Unnumbered}
use Rattle.data_rules.specs.Frames.{kind_of}
use Rattle.cluster_runs.specs.CoresState.{Linked}
use Rattle.cluster_runs.specs.Connections.{at_conn, is_link, link_of, linked_if, up_taken}
use Rattle.cluster_runs.specs.Goes.{server_takes}
use Rattle.cluster_runs.specs.Machine.{End, Site}
use Rattle.cluster_runs.specs.Moves.{named_dial}
use Rattle.cluster_runs.specs.Sent.{Connection, Lane, Place}
use Rattle.cluster_invariant.specs.Dials.{follows}
use Rattle.cluster_invariant.specs.Link.{DownBy, JoinedWay, UpWay, WithSession, is_joined_on, is_numbered_up}
use Rattle.cluster_invariant.specs.Words.{IsFront, has_wire, is_number, is_wire, numbered_behind, numbered_ups, ups_left}
use Rattle.link_kept.proofs.AppLater.{LaneLater}
use Rattle.link_nodes.proofs.SiteAfter.{SameTo}

-- ways up

-- nothing is left on a connection that the other end hasn't joined
pub way_empty : (lane : Lane) (joined : Bool) → (joined ≡ true → ⊥) → UpWay lane [] joined
way_empty lane joined never = record { none = λ u. refl; next = (numbered_behind lane.up_taken lane.up, refl); whole = λ is. absurd (never is); acks = tt }

-- nothing of it was taken
pub way_same : (a b : Lane) (fs : List UpFrame) (joined : Bool) → LaneLater a b → b.up_taken ≡ a.up_taken → UpWay a fs joined → UpWay b fs joined
way_same a b fs joined l same w = record {
  none = λ u. w.none (sym l.began ∙ u);
  next = subst (λ (xs : List (ℕ × Up)). IsFront (numbered_ups fs) xs) (sym behind) w.next;
  whole = λ is. w.whole is ∙ sym behind;
  acks = subst (λ (k : ℕ). AllByRecursion (λ (f : UpFrame). f.ack ≤ k) fs) (sym l.down_taken) w.acks;
}
  where
    behind : numbered_behind b.up_taken b.up ≡ numbered_behind a.up_taken a.up
    behind = ap (λ (n : ℕ). numbered_behind n b.up) same ∙ ap (numbered_behind a.up_taken) l.up

-- the next message

pub record NextOf (n k : ℕ) (m : Up) (ups : List Up) : Type 0 where
  pub number : k ≡ n + 1
  pub more : List Up
  pub its : drop n ups ≡ m ∷ more
  pub behind : (xs : List (ℕ × Up)) → IsFront ((k, m) ∷ xs) (numbered_from n (drop n ups)) → IsFront xs (numbered_from (n + 1) (drop (n + 1) ups))
  pub whole : (xs : List (ℕ × Up)) → (k, m) ∷ xs ≡ numbered_from n (drop n ups) → xs ≡ numbered_from (n + 1) (drop (n + 1) ups)

heads : (x y : ℕ × Up) (xs ys : List (ℕ × Up)) → ◌≡◌ {A = List (ℕ × Up)} (x ∷ xs) (y ∷ ys) → (x ≡ y) × (xs ≡ ys)
heads x y xs ys same = (cc, cc)

pub next_of : (n k : ℕ) (m : Up) (xs : List (ℕ × Up)) (ups : List Up) → IsFront ((k, m) ∷ xs) (numbered_from n (drop n ups)) → NextOf n k m ups
next_of n k m xs ups front = go (drop n ups) refl front
  where
    go : (ys : List Up) → drop n ups ≡ ys → IsFront ((k, m) ∷ xs) (numbered_from n ys) → NextOf n k m ups
    go [] none at = absurd (cc (at.1))
    go (u ∷ us) some at = record {
      number = sym (ap (λ (p : ℕ × Up). p.0) same.0);
      more = us;
      its = some ∙ ap (λ (w : Up). w ∷ us) (ap (λ (p : ℕ × Up). p.1) same.0);
      behind = λ zs front. (let two : IsFront ((k, m) ∷ zs) (numbered_from n (u ∷ us)) = subst (λ (l : List Up). IsFront ((k, m) ∷ zs) (numbered_from n l)) some front in
          (two.0, ap (numbered_from (n + 1)) rest ∙ (heads (n + 1, u) (k, m) (numbered_from (n + 1) us) (zs ++ two.0) two.1).1));
      whole = λ zs is. (heads (k, m) (n + 1, u) zs (numbered_from (n + 1) us) (is ∙ ap (numbered_from n) some)).1 ∙ sym (ap (numbered_from (n + 1)) rest);
    }
      where
        same : (◌≡◌ {A = ℕ × Up} (n + 1, u) (k, m)) × (numbered_from (n + 1) us ≡ xs ++ at.0)
        same = heads (n + 1, u) (k, m) (numbered_from (n + 1) us) (xs ++ at.0) at.1

        rest : drop (n + 1) ups ≡ us
        rest = sym (drop-drop 1 n ups) ∙ ap (drop 1) some

numbered_drop : (n : ℕ) (ms : List Up) → list_all is_numbered_up ms ≡ true → list_all is_numbered_up (drop n ms) ≡ true
numbered_drop zero ms all = all
numbered_drop (suc n) [] all = all
numbered_drop (suc n) (m ∷ ms) all = numbered_drop n ms (and_parts (is_numbered_up m) (list_all is_numbered_up ms) all).1

pub never_bare : (n k : ℕ) (m : Up) (ups : List Up) → NextOf n k m ups → list_all is_numbered_up ups ≡ true → kind_of m ≡ Unnumbered → ⊥
never_bare n k m ups next all is =
    false≢true (ap (λ (q : Kind). follows q 1) (sym is) ∙ (and_parts (is_numbered_up m) (list_all is_numbered_up next.more) (subst (λ (l : List Up). list_all is_numbered_up l ≡ true) next.its (numbered_drop n ups all))).0)

-- the next frame of it was taken
pub way_next : (a b : Lane) (f : UpFrame) (rest : List UpFrame) (joined : Bool) → LaneLater a b → b.up_taken ≡ (if f.seq == 0 then a.up_taken else a.up_taken + 1) → UpWay a (f ∷ rest) joined → UpWay b rest joined
way_next a b f rest joined l counted w = go (f.seq == 0) counted w.next w.whole
  where
    none : a.began ≡ None → ⊥
    none u = absurd (cc (w.none u))

    acks : AllByRecursion (λ (g : UpFrame). g.ack ≤ b.down_taken) rest
    acks = subst (λ (k : ℕ). AllByRecursion (λ (g : UpFrame). g.ack ≤ k) rest) (sym l.down_taken) w.acks.1

    behind : (n : ℕ) → b.up_taken ≡ n → numbered_behind b.up_taken b.up ≡ numbered_behind n a.up
    behind n same = ap (λ (k : ℕ). numbered_behind k b.up) same ∙ ap (numbered_behind n) l.up

    go : (z : Bool) → b.up_taken ≡ (if z then a.up_taken else a.up_taken + 1) → IsFront (if z then numbered_ups rest else (f.seq, f.message) ∷ numbered_ups rest) (numbered_behind a.up_taken a.up)
        → (joined ≡ true → (if z then numbered_ups rest else (f.seq, f.message) ∷ numbered_ups rest) ≡ numbered_behind a.up_taken a.up) → UpWay b rest joined
    go true same next whole = record {
      none = λ u. absurd (none (sym l.began ∙ u));
      next = subst (λ (xs : List (ℕ × Up)). IsFront (numbered_ups rest) xs) (sym (behind a.up_taken same)) next;
      whole = λ is. whole is ∙ sym (behind a.up_taken same);
      acks = acks;
    }
    go false same next whole = record {
      none = λ u. absurd (none (sym l.began ∙ u));
      next = subst (λ (xs : List (ℕ × Up)). IsFront (numbered_ups rest) xs) (sym (behind (a.up_taken + 1) same)) ((next_of a.up_taken f.seq f.message (numbered_ups rest) a.up next).behind (numbered_ups rest) next);
      whole = λ is. (next_of a.up_taken f.seq f.message (numbered_ups rest) a.up next).whole (numbered_ups rest) (whole is) ∙ sym (behind (a.up_taken + 1) same);
      acks = acks;
    }

-- an end that joined on a connection

joined_carries : (v : Server) (x : Site) (app : ℕ) (e : End) (c : Connection) (line : Line) → is_joined line ≡ true → DownBy line v x app e c → c.its ≡ None → ⊥
joined_carries v x app e c Apart is way none = false≢true is
joined_carries v x app e c Trying is way none = false≢true is
joined_carries v x app e c Greeting is way none = false≢true is
joined_carries v x app e c Asking is way none = false≢true is
joined_carries v x app e c Joined is way none = go e.state.session e.told way
  where
    go : (o : Option Session) (p : Option Place) → WithSession o p (λ s k. JoinedWay v x e.state s k c) → ⊥
    go None p at = at
    go (Some s) None at = at
    go (Some s) (Some p) at = absurd (let both : ◌≡◌ {A = Option Place} None (Some (record { session = s.number; order = p.order })) = sym none ∙ at.its in cc)

-- it carries messages
pub not_joined : (v : Server) (x : Site) (dead : Bool) (app dial s : ℕ) (c : Connection) → (x.end_at app).connection_at dial ≡ Some c
    → (dead ≡ false → IfSome ((x.end_at app).connection_at (x.end_at app).state.dial) (DownBy (x.end_at app).state.line v x app (x.end_at app)))
    → c.its ≡ None → is_joined_on dead (x.end_at app).state dial s ≡ true → ⊥
not_joined v x dead app dial s c there down none is = go dead refl (and_parts (is_wire dead (x.end_at app).state dial) (is_joined (x.end_at app).state.line) both).0
  where
    both : (is_wire dead (x.end_at app).state dial && is_joined (x.end_at app).state.line) ≡ true
    both = (and_parts (is_wire dead (x.end_at app).state dial && is_joined (x.end_at app).state.line) (is_number s (x.end_at app).state.session) is).0

    line : is_joined (x.end_at app).state.line ≡ true
    line = (and_parts (is_wire dead (x.end_at app).state dial) (is_joined (x.end_at app).state.line) both).1

    at_dial : (w : Bool) → (if w then dial == (x.end_at app).state.dial else false) ≡ true → dial ≡ (x.end_at app).state.dial
    at_dial true same = eqb-true dial (x.end_at app).state.dial same
    at_dial false same = absurd (false≢true same)

    on : (o : Option Connection) → o ≡ Some c → IfSome o (DownBy (x.end_at app).state.line v x app (x.end_at app)) → ⊥
    on None its way = absurd cc
    on (Some d) its way = joined_carries v x app (x.end_at app) d (x.end_at app).state.line line way (ap (λ (q : Option Connection). carried q) its ∙ none)
      where
        carried : Option Connection → Option Place
        carried None = None
        carried (Some q) = q.its

    go : (b : Bool) → dead ≡ b → (if b then false else (if has_wire (x.end_at app).state.line then dial == (x.end_at app).state.dial else false)) ≡ true → ⊥
    go true died wire = false≢true wire
    go false lives wire =
        on ((x.end_at app).connection_at (x.end_at app).state.dial) (ap (x.end_at app).connection_at (sym (at_dial (has_wire (x.end_at app).state.line) wire)) ∙ there) (down lives)

-- what an input takes of a connection

-- so many frames more
pub record UpsTook (n : ℕ) (c d : Connection) : Type 0 where
  pub ups : d.ups ≡ c.ups
  pub taken : d.ups_taken ≡ c.ups_taken + n

pub ups_left_took : (n : ℕ) (c d : Connection) → UpsTook n c d → ups_left d ≡ drop n (ups_left c)
ups_left_took n c d t = ap (λ (k : ℕ). drop k d.ups) t.taken ∙ ap (drop (c.ups_taken + n)) t.ups ∙ sym (drop-drop n c.ups_taken c.ups)

pub quiet_took : (o p : Option Connection) (c d : Connection) → SameTo o p → o ≡ Some c → p ≡ Some d → UpsTook 0 c d
quiet_took None p c d same is at = absurd cc
quiet_took (Some a) None c d same is at = absurd cc
quiet_took (Some a) (Some b) c d same is at = record {
  ups = ap (λ (q : Connection). q.ups) (one b d at) ∙ ap (λ (q : Connection). q.ups) same.1 ∙ ap (λ (q : Connection). q.ups) (sym (one a c is));
  taken = omega (arith, ap (λ (q : Connection). q.ups_taken) (one b d at), ap (λ (q : Connection). q.ups_taken) same.1, ap (λ (q : Connection). q.ups_taken) (one a c is));
}
  where
    one : (i j : Connection) → Some i ≡ Some j → j ≡ i
    one i j same = cc

-- by a frame on the data connection that is linked to it, or on another one
pub frame_took : (x : Site) (conn : ℕ) (frame : UpFrame) (a n : ℕ) (c d : Connection) → (x.end_at a).connection_at n ≡ Some c → ((server_takes (data_in.Frame conn frame) x).end_at a).connection_at n ≡ Some d
    → (here : Bool) → is_link a n (link_of (server_takes (data_in.Frame conn frame) x) conn) ≡ here → UpsTook (if here then 1 else 0) c d
frame_took x conn frame a n c d is at here linked = go here (sym at ∙ ap (option_map (λ (k : Connection). if is_link a n l then up_taken x.past conn k else k)) is ∙ ap (λ (b : Bool). Some (if b then up_taken x.past conn c else c)) linked)
  where
    l : Option Linked
    l = link_of (at_conn conn (linked_if (named_dial frame.message)) x) conn

    go : (b : Bool) → Some d ≡ Some (if b then up_taken x.past conn c else c) → UpsTook (if b then 1 else 0) c d
    go true same = record { ups = ap (λ (q : Connection). q.ups) it; taken = ap (λ (q : Connection). q.ups_taken) it }
      where
        it : d ≡ up_taken x.past conn c
        it = cc
    go false same = record { ups = ap (λ (q : Connection). q.ups) it; taken = omega (arith, ap (λ (q : Connection). q.ups_taken) it) }
      where
        it : d ≡ c
        it = cc
