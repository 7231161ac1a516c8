-- What comes first on the connection that an application end has is what the end awaits.
use Rattle.std.proofs.Common.{◌≡◌, ◌≢◌, ◌≤◌, ◌+◌, ◌⊎◌, inl, inr, ℕ, Bool, true, false, if◌then◌else◌, List, [], ◌∷◌, ◌++◌, length, Option, Some, None, refl, sym, ◌∙◌, ap, subst, arith, Result, Err, Ok}
use Rattle.std.specs.Prelude.{IsSomeAnd, nat_lt}
use Rattle.std.specs.List.{list_all}
use Rattle.std.proofs.lemmas.Bool.{false≢true, and_parts, ltb-true}
use Rattle.std.proofs.lemmas.List.{length-drop, length-map}
use Rattle.plain_orders.specs.declared.entry.Entry.{Entry}
use Rattle.plain_runs.specs.Plain.{Server, order_at}
use Rattle.link_states.specs.declared.app_link.AppLink.{AppLink}
use Rattle.link_states.specs.declared.app_link.AppLink.TheVariants.{NotConnected, Normal as NormalLink, Trouble, Recovery}
use Rattle.link_window.specs.declared.window.Taken.{Taken}
use Rattle.link_window.specs.declared.window.Taken.TheVariants.{Fresh, Repeat}
use Rattle.link_window.specs.declared.window.WindowError.{WindowError}
use Rattle.link_window.specs.declared.window.WindowError.TheVariants.{AckPastSent, Gap}
use Rattle.link_window.specs.Numbering.{sent_count}
use Rattle.ecp_messages.specs.declared.down.Down.{Down}
use Rattle.ecp_messages.specs.declared.down.Down.TheVariants.{Welcome, Reset, Block, Drop, Ack, Grant, Answer, Normal, Bare}
use Rattle.ecp_messages.specs.declared.down.DownFrame.{DownFrame}
use Rattle.ecp_messages.specs.declared.up.Up.{Up}
use Rattle.end_words.specs.Windows.{Window, answers, in_bytes, sent}
use Rattle.app_rules.specs.declared.line.Line.{Line}
use Rattle.app_rules.specs.declared.line.Line.TheVariants.{Apart, Trying, Greeting, Asking, Joined}
use Rattle.app_rules.specs.AppState.{Session}
use Rattle.app_rules.specs.Works.{body_of}
use Rattle.cluster_runs.specs.Machine.{Site, End}
use Rattle.cluster_runs.specs.Sent.{Connection, FirstTaken, Lane, Place}
use Rattle.cluster_invariant.specs.Ends.{EndsAre, stands}
use Rattle.cluster_invariant.specs.Link.{AskedFirst, AskedWay, DownBy, DownWay, EndsWith, GreetedFirst, GreetedWay, JoinedWay, LinkHolds, ResetIs, WindowIs, WithSession, fits_down, is_in_recovery, is_of_session}
use Rattle.cluster_invariant.specs.Words.{downs_left, has_wire, is_reset_down, stays_at}
use Rattle.cluster_invariant.proofs.Small.{of_some}
use Rattle.ends_kept.proofs.NextDown.{HasNumber}
use Rattle.link_apps.proofs.JoinedFirst.{JoinedFirst, joined_first}
use Rattle.link_apps.proofs.TookDown.{next_number}
use Rattle.link_apps.proofs.WentOn.{asks_recovering}

-- what a window says

-- the next number, or none, with an acknowledgement of what was sent, is no error
pub no_error : {M : Type 0} (body : M → List ℕ) (w : Window M) (seq ack : ℕ) (why : WindowError) → ack ≤ sent w → seq ≤ w.taken + 1 → answers body w seq ack ≡ Err why → ⊥
no_error {M} body w seq ack why low next is =
    go (AckPastSent (sent_count (in_bytes body w)) ack) (Gap (w.taken + 1) seq) (nat_lt (sent_count (in_bytes body w)) ack) refl (nat_lt (w.taken + 1) seq) refl (nat_lt w.taken seq) is
  where
    fine : (t : Taken) → ◌≡◌ {A = Result Taken WindowError} (Ok t) (Err why) → ⊥
    fine t is = absurd cc

    go : (past gap : WindowError) (a : Bool) → nat_lt (sent_count (in_bytes body w)) ack ≡ a → (b : Bool) → nat_lt (w.taken + 1) seq ≡ b → (d : Bool)
        → (if a then Err past else (if b then Err gap else (if d then Ok Fresh else Ok Repeat))) ≡ Err why → ⊥
    go past gap true at b gapped d is = absurd (omega (arith, ltb-true (sent_count (in_bytes body w)) ack at, low, length-map w.waiting body))
    go past gap false at true gapped d is = absurd (omega (arith, ltb-true (w.taken + 1) seq gapped, next))
    go past gap false at false gapped true is = fine Fresh is
    go past gap false at false gapped false is = fine Repeat is

-- kinds of frames

numbered_kind : (m : Down) (seq : ℕ) → HasNumber m → fits_down m seq ≡ nat_lt 0 seq
numbered_kind (Welcome session epoch kept front taken) seq has = absurd has
numbered_kind (Reset session at) seq has = absurd has
numbered_kind (Block front block) seq has = refl
numbered_kind (Drop front lo hi) seq has = refl
numbered_kind (Ack front) seq has = refl
numbered_kind (Grant front ticket at) seq has = refl
numbered_kind (Answer front about job number at sum) seq has = refl
numbered_kind (Normal front) seq has = refl
numbered_kind Bare seq has = absurd has

no_greeting : (m : Down) → HasNumber m ⊎ (m ≡ Bare) → (v : Server) (x : Site) (app told : ℕ) (c : Connection) → GreetedFirst v x app told c m → ⊥
no_greeting (Welcome session epoch kept front taken) (inl has) v x app told c is = absurd has
no_greeting (Welcome session epoch kept front taken) (inr same) v x app told c is = absurd cc
no_greeting (Reset session at) which v x app told c is = is
no_greeting (Block front block) which v x app told c is = is
no_greeting (Drop front lo hi) which v x app told c is = is
no_greeting (Ack front) which v x app told c is = is
no_greeting (Grant front ticket at) which v x app told c is = is
no_greeting (Answer front about job number at sum) which v x app told c is = is
no_greeting (Normal front) which v x app told c is = is
no_greeting Bare which v x app told c is = is

no_asking : (m : Down) → HasNumber m ⊎ (m ≡ Bare) → (v : Server) (x : Site) (s : Session) (k : ℕ) (c : Connection) (behind : List DownFrame) → AskedFirst v x s k c behind m → ⊥
no_asking (Welcome session epoch kept front taken) (inl has) v x s k c behind is = absurd has
no_asking (Welcome session epoch kept front taken) (inr same) v x s k c behind is = absurd cc
no_asking (Reset session at) (inl has) v x s k c behind is = absurd has
no_asking (Reset session at) (inr same) v x s k c behind is = absurd cc
no_asking (Block front block) which v x s k c behind is = is
no_asking (Drop front lo hi) which v x s k c behind is = is
no_asking (Ack front) which v x s k c behind is = is
no_asking (Grant front ticket at) which v x s k c behind is = is
no_asking (Answer front about job number at sum) which v x s k c behind is = is
no_asking (Normal front) which v x s k c behind is = is
no_asking Bare which v x s k c behind is = is

module _ (v : Server) (x : Site) (dead : ℕ → Bool) (app : ℕ) (frame : DownFrame) (alive : dead app ≡ false) (link : LinkHolds v x dead) (are : EndsAre v x dead)
    (on : Connection) (there : (x.end_at app).connection_at (x.end_at app).state.dial ≡ Some on) (rest : List DownFrame) (left : downs_left on ≡ frame ∷ rest)
    (wired : has_wire (x.end_at app).state.line ≡ true) where
  abbrev e : End
  e = x.end_at app

  way : (line : Line) → e.state.line ≡ line → DownBy line v x app e on
  way line is = subst (λ (y : Line). DownBy y v x app e on) is (of_some (DownBy e.state.line v x app e) (e.connection_at e.state.dial) on there (link.apps app alive).down)

  pub greets : e.state.line ≡ Greeting → GreetedFirst v x app e.state.told on frame.message
  greets is = (subst (GreetedWay v x app e.state.told on) left (way Greeting is)).1

  -- an end that asked, its session and the order that it is told of
  pub record Asks : Type 0 where
    pub session : Session
    pub order : ℕ
    pub its : e.state.session ≡ Some session
    pub first : AskedFirst v x session order on rest frame.message

  pub asks : e.state.line ≡ Asking → Asks
  asks is = go e.state.session refl e.told (way Asking is)
    where
      go : (o : Option Session) → e.state.session ≡ o → (p : Option Place) → WithSession o p (λ s k. AskedWay v x s k on (downs_left on)) → Asks
      go None has p w = absurd w
      go (Some s) has None w = absurd w
      go (Some s) has (Some p) w = record { session = s; order = p.order; its = has; first = (subst (AskedWay v x s p.order on) left w).1 }

  session_there : e.state.line ≡ Joined → (s : Session) × (e.state.session ≡ Some s)
  session_there is = go e.state.session refl e.told (way Joined is)
    where
      go : (o : Option Session) → e.state.session ≡ o → (p : Option Place) → WithSession o p (λ s k. JoinedWay v x e.state s k on) → (s : Session) × (e.state.session ≡ Some s)
      go None has p w = absurd w
      go (Some s) has p w = (s, has)

  -- a joined end, and what comes first
  pub record Has : Type 0 where
    pub session : Session
    pub its : e.state.session ≡ Some session
    pub first : JoinedFirst v x app session on frame rest

  pub joined : e.state.line ≡ Joined → is_reset_down frame.message ≡ false → Has
  joined is no_reset = go (session_there is)
    where
      go : (s : Session) × (e.state.session ≡ Some s) → Has
      go s = record { session = s.0; its = s.1; first = joined_first v x dead app alive link are s.0 on frame rest is s.1 there left no_reset }

  -- a message with a number, or an acknowledgement, comes only to a joined end
  pub joined_by : HasNumber frame.message ⊎ (frame.message ≡ Bare) → e.state.line ≡ Joined
  joined_by which = go e.state.line refl wired
    where
      go : (line : Line) → e.state.line ≡ line → has_wire line ≡ true → line ≡ Joined
      go Apart is w = absurd (false≢true w)
      go Trying is w = absurd (false≢true w)
      go Greeting is w = absurd (no_greeting frame.message which v x app e.state.told on (greets is))
      go Asking is w = by (asks is)
        where
          by : Asks → Asking ≡ Joined
          by a = absurd (no_asking frame.message which v x a.session a.order on rest a.first)
      go Joined is w = refl

  -- and its window takes it
  pub fits_window : (h : Has) (why : WindowError) → answers body_of h.session.window frame.seq frame.ack ≡ Err why → HasNumber frame.message → ⊥
  fits_window h why is has =
      no_error body_of h.session.window frame.seq frame.ack why
      (omega (arith, h.first.first.ack, (link.lanes h.session.number h.first.place.k).up_taken, all_sent h.session.window (x.lane_at h.session.number h.first.place.k).up h.first.place.window))
      (omega (arith, next h.first, h.first.place.window.taken)) is
    where
      -- what an end sent is all that its lane has
      all_sent : {reached came : ℕ} (w : Window Up) (put : List Up) → WindowIs w put reached came → length put ≤ sent w
      all_sent w put i = omega (arith, ap (λ (ms : List Up). length ms) i.waiting, length-drop w.acked put)

      next : (f : JoinedFirst v x app h.session on frame rest) → frame.seq ≡ (x.lane_at h.session.number f.place.k).down_taken + 1
      next f = next_number frame f.first.its (x.lane_at h.session.number f.place.k) (above f) f.first.next
        where
          above : JoinedFirst v x app h.session on frame rest → frame.seq ≢ 0
          above f none = absurd (omega (arith, none, ltb-true 0 frame.seq (sym (numbered_kind frame.message frame.seq has) ∙ f.first.kind)))

  pub bare_fits : (h : Has) (why : WindowError) → answers body_of h.session.window 0 frame.ack ≡ Err why → ⊥
  bare_fits h why is =
      no_error body_of h.session.window 0 frame.ack why
      (omega (arith, h.first.first.ack, (link.lanes h.session.number h.first.place.k).up_taken, all_sent h.session.window (x.lane_at h.session.number h.first.place.k).up h.first.place.window))
      (omega arith) is
    where
      all_sent : {reached came : ℕ} (w : Window Up) (put : List Up) → WindowIs w put reached came → length put ≤ sent w
      all_sent w put i = omega (arith, ap (λ (ms : List Up). length ms) i.waiting, length-drop w.acked put)

  -- a Reset is of the session, and the end awaits it
  pub record Resets (session : ℕ) : Type 0 where
    pub its : Session
    pub has : e.state.session ≡ Some its
    pub same : its.number ≡ session
    pub recovering : e.state.link ≡ Recovery

  reset_first : (es : List Entry) (stays s : ℕ) (lane : Lane) (may : Bool) (session at : ℕ) → frame.message ≡ Reset session at → DownWay es stays s lane may (frame ∷ rest)
      → (may ≡ true) × (session ≡ s)
  reset_first es stays s lane may session at is w = go w.its w.ends w.all w.kinds w.reset
    where
      of_kind : (f : DownFrame) → f ≡ frame → is_of_session f ≡ true → ⊥
      of_kind f same kind =
          absurd (false≢true (sym (ap (λ (m : Down). fits_down m frame.seq) is) ∙ ap is_of_session (sym same) ∙ kind))

      heads : (f : DownFrame) (fs gs : List DownFrame) → frame ∷ gs ≡ f ∷ fs → f ≡ frame
      heads f fs gs same = cc

      ended : (fs : List DownFrame) (f : DownFrame) → f ≡ frame → EndsWith may es stays s (f ∷ fs) → (may ≡ true) × (session ≡ s)
      ended [] f same r = (r.0, (subst (ResetIs es stays s) (ap (λ (g : DownFrame). g.message) same ∙ is) r.1).0)
      ended (g ∷ fs) f same r = absurd r

      go : (xs ys : List DownFrame) → frame ∷ rest ≡ xs ++ ys → list_all is_of_session xs ≡ true → EndsWith may es stays s ys → (may ≡ true) × (session ≡ s)
      go [] [] same kinds r = absurd cc
      go [] (y ∷ ys) same kinds r = ended ys y (heads y ys rest same) r
      go (x ∷ xs) ys same kinds r = absurd (of_kind x (heads x (xs ++ ys) rest same) (and_parts (is_of_session x) (list_all is_of_session xs) kinds).0)

  in_recovery : (l : AppLink) → is_in_recovery l ≡ true → l ≡ Recovery
  in_recovery NotConnected is = absurd (false≢true is)
  in_recovery NormalLink is = absurd (false≢true is)
  in_recovery (Trouble broke try_at) is = absurd (false≢true is)
  in_recovery Recovery is = refl

  pub resets : (session at : ℕ) → frame.message ≡ Reset session at → Resets session
  resets session at says = go e.state.line refl wired
    where
      asked : Asks → e.state.line ≡ Asking → Resets session
      asked a line = record {
        its = a.session;
        has = a.its;
        same = sym (of_first on.first (subst (AskedFirst v x a.session a.order on rest) says a.first).0);
        recovering = asks_recovering e.state.link (ap (stands e.state.link) (sym line) ∙ (are.tables app alive).stands);
      }
        where
          of_first : (o : Option FirstTaken) → IsSomeAnd o (λ f. ResetIs (order_at v f.order) (stays_at v f.order) a.session.number (Reset session at)) → session ≡ a.session.number
          of_first None is = absurd is
          of_first (Some f) is = is.0

      join : e.state.line ≡ Joined → Resets session
      join line = by e.state.session refl e.told (way Joined line)
        where
          by : (o : Option Session) → e.state.session ≡ o → (p : Option Place) → WithSession o p (λ s k. JoinedWay v x e.state s k on) → Resets session
          by None has p w = absurd w
          by (Some s) has None w = absurd w
          by (Some s) has (Some p) w =
              let r : (is_in_recovery e.state.link ≡ true) × (session ≡ s.number) =
              reset_first (order_at v p.order) (stays_at v p.order) s.number (x.lane_at s.number p.order) (is_in_recovery e.state.link) session at says
              (subst (DownWay (order_at v p.order) (stays_at v p.order) s.number (x.lane_at s.number p.order) (is_in_recovery e.state.link)) left w.way) in
              record { its = s; has = has; same = sym r.1; recovering = in_recovery e.state.link r.0 }

      go : (line : Line) → e.state.line ≡ line → has_wire line ≡ true → Resets session
      go Apart is w = absurd (false≢true w)
      go Trying is w = absurd (false≢true w)
      go Greeting is w = absurd (subst (GreetedFirst v x app e.state.told on) says (greets is))
      go Asking is w = asked (asks is) is
      go Joined is w = join is
