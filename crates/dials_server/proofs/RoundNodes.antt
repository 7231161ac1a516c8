-- What the end of a round makes of a data server's connections: sessions that were there go on, and a session opens on each that waited.
use Rattle.std.proofs.Common.{◌≡◌, ◌≢◌, ◌≤◌, ◌<◌, ℕ, ◌+◌, Bool, true, false, not, ◌&&◌, ◌||◌, ◌==◌, if◌then◌else◌, List, [], ◌∷◌, ◌++◌, length, map, Option, Some, None, is_some, option_map, refl, sym, ◌∙◌, ap, subst, arith}
use Rattle.std.specs.List.{AllByRecursion, find, list_any}
use Rattle.std.proofs.lemmas.Bool.{eq-eqb, false≢true, ne_eqb}
use Rattle.std.proofs.lemmas.List.{length-append}
use Rattle.plain_orders.specs.declared.act.Act.TheVariants as act
use Rattle.plain_orders.specs.declared.entry.Entry.{Entry}
use Rattle.plain_orders.specs.declared.entry.Entry.TheVariants.{Opened}
use Rattle.plain_orders.specs.Entries.{live_session}
use Rattle.plain_orders.proofs.EntryLemmas.{live_session-push}
use Rattle.link_states.specs.declared.link_event.LinkEvent.TheVariants as event
use Rattle.ecp_messages.specs.declared.down.Down.{Down}
use Rattle.ecp_messages.specs.declared.down.Down.TheVariants.{Welcome, Reset, Block, Drop, Ack, Grant, Answer, Normal, Bare}
use Rattle.subscript_keys.specs.declared.span.Span.{Span}
use Rattle.block_holders.specs.declared.noted.Noted.{Noted}
use Rattle.block_holders.specs.HolderWords.{is_touched, is_untouched, touched}
use Rattle.data_rules.specs.declared.rows.Caller.{Caller}
use Rattle.data_rules.specs.declared.rows.Conn.{Conn}
use Rattle.data_rules.specs.declared.rows.LiveEnd.{LiveEnd}
use Rattle.data_rules.specs.declared.rows.Reply.{Reply}
use Rattle.data_rules.specs.declared.rows.Role.{Role}
use Rattle.data_rules.specs.declared.rows.Role.TheVariants.{Waiting, Bound, Closing}
use Rattle.data_rules.specs.declared.rows.Says.{Says}
use Rattle.data_rules.specs.declared.rows.Says.TheVariants.{NewWelcome, EpochWelcome, ResetOf, GrantOf, AnswerOf}
use Rattle.data_rules.specs.DataState.{DataState}
use Rattle.data_rules.specs.Conns.{is_conn, role_in, role_of, with_event, with_role_if}
use Rattle.data_rules.specs.Entering.{drops, drops_one, enters, spans_of, with_entry}
use Rattle.data_rules.specs.Opening.{breaks_unless, come_back, comes_back, opens, opens_all}
use Rattle.data_rules.specs.Puts.{Sofar, becomes, conn_of, head_of, puts, writes}
use Rattle.cluster_runs.specs.Machine.{Site}
use Rattle.cluster_runs.specs.Connections.{link_of as site_link}
use Rattle.cluster_invariant.specs.Dials.{NodeDials}
use Rattle.cluster_invariant.specs.Ends.{CallerIs, app_of_caller}
use Rattle.cluster_invariant.specs.Served.{HasLearnt}
use Rattle.cluster_invariant.specs.Words.{all_differ, is_same}
use Rattle.cluster_invariant.proofs.AllLists.{all_both, all_filtered, all_follow}
use Rattle.cluster_invariant.proofs.PiecesOfCloses.{role_given}
use Rattle.cluster_invariant.proofs.PutLaws.{Appended, appends_state, only_puts, with_windows}
use Rattle.dials_server.proofs.TellsNodes.{Tells, all_one_more, puts_tells, tells_of}
use Rattle.dials_server.proofs.ClosedNodes.{other_role, there_still}
use Rattle.dials_server.proofs.FittingFrames.{FitsOn, FrameFits}
use Rattle.dials_server.proofs.FittingNodes.{same_link}
use Rattle.dials_server.proofs.NodeConns.{node_same}
use Rattle.dials_server.proofs.OpenedNodes.{IsFresh, Within, node_opens, within_more}
use Rattle.dials_server.proofs.SaveNodes.{ReplyFits, SaysFit, frames_same, puts_fit, says_same}
use Rattle.dials_server.proofs.PlainFrames.{IsPlain}

-- What holds as sessions open, with these still to open.
pub record OpenInv (x : Site) (n : DataState) (gone : List ℕ) (cs : List Caller) (b : Sofar) : Type 0 where
  pub nodes : NodeDials x b.state
  pub frames : AllByRecursion (FrameFits x b.state) b.outs.frames
  pub cuts : b.outs.cuts ≡ gone
  pub noted : AllByRecursion (λ (y : Noted). HasLearnt x y.session) b.state.noted
  pub replies : AllByRecursion (ReplyFits x b.state) b.state.replies
  pub there : (k : ℕ) → is_some (role_of b.state k) ≡ is_some (role_of n k)
  pub stays : (k : ℕ) (r : Role) → (r ≡ Waiting → ⊥) → role_of n k ≡ Some r → role_of b.state k ≡ Some r
  pub longer : length n.order ≤ length b.state.order
  pub within : Within b.state.order
  pub callers : AllByRecursion (CallerIs b.state x) cs
  pub apart : all_differ (map app_of_caller cs) ≡ true

pub caller_same : (x : Site) (d e : DataState) → e.conns ≡ d.conns → e.order ≡ d.order → (c : Caller) → CallerIs d x c → CallerIs e x c
caller_same x d e conns order c is = record {
  waits = ap (λ (cs : List Conn). option_map role_in (find (is_conn c.conn) cs)) conns ∙ is.waits;
  free = ap (λ (es : List Entry). live_session es c.app) order ∙ is.free;
  linked = is.linked;
}

module _ (x : Site) (n : DataState) (gone : List ℕ) where
  pub open_state : (cs : List Caller) (b c : Sofar) (m : DataState) → m.conns ≡ b.state.conns → m.order ≡ b.state.order → m.dials ≡ b.state.dials → m.noted ≡ b.state.noted
      → AllByRecursion (ReplyFits x b.state) m.replies → c.state ≡ m → AllByRecursion (FrameFits x b.state) c.outs.frames → c.outs.cuts ≡ b.outs.cuts → OpenInv x n gone cs b → OpenInv x n gone cs c
  open_state cs b c m conns order dials noted replies state frames cuts inv = record {
    nodes = subst (λ (d : DataState). NodeDials x d) (sym state) (node_same x b.state m order conns dials inv.nodes);
    frames = subst (λ (d : DataState). AllByRecursion (FrameFits x d) c.outs.frames) (sym state) (frames_same x b.state m conns c.outs.frames frames);
    cuts = cuts ∙ inv.cuts;
    noted = subst (λ (ys : List Noted). AllByRecursion (λ (y : Noted). HasLearnt x y.session) ys) (sym (ap (λ (d : DataState). d.noted) state ∙ noted)) inv.noted;
    replies =
        subst (λ (d : DataState). AllByRecursion (ReplyFits x d) d.replies) (sym state)
        (all_follow (ReplyFits x b.state) (ReplyFits x m) (λ r at. says_same x b.state m conns r.says at) m.replies replies);
    there = λ k. ap (λ (xs : List Conn). is_some (option_map role_in (find (is_conn k) xs))) (ap (λ (d : DataState). d.conns) state ∙ conns) ∙ inv.there k;
    stays =
        λ k r apart role.
        ap (λ (xs : List Conn). option_map role_in (find (is_conn k) xs)) (ap (λ (d : DataState). d.conns) state ∙ conns) ∙ inv.stays k r apart role;
    longer = subst (λ (es : List Entry). length n.order ≤ length es) (sym (ap (λ (d : DataState). d.order) state ∙ order)) inv.longer;
    within = subst Within (sym (ap (λ (d : DataState). d.order) state ∙ order)) inv.within;
    callers =
        all_follow (CallerIs b.state x) (CallerIs c.state x)
        (λ k at. caller_same x b.state c.state (ap (λ (d : DataState). d.conns) state ∙ conns) (ap (λ (d : DataState). d.order) state ∙ order) k at) cs inv.callers;
    apart = inv.apart;
  }

  pub open_puts : (cs : List Caller) (s : ℕ) (m : Down) (b : Sofar) → IsPlain m → HasLearnt x s → OpenInv x n gone cs b → OpenInv x n gone cs (puts s m b)
  open_puts cs s m b plain learnt inv =
      open_state cs b (puts s m b) (with_windows (only_puts s m b).windows b.state) refl refl refl refl inv.replies (only_puts s m b).state
      (puts_fit x b.state s m b plain learnt (tells_of x b.state inv.nodes) inv.frames) (only_puts s m b).cuts inv

  -- a session that was there goes on
  open_back : (cs : List Caller) (app s now : ℕ) (b : Sofar) → HasLearnt x s → OpenInv x n gone cs b → OpenInv x n gone cs (comes_back app s now b)
  open_back cs app s now b learnt inv = open_puts cs s (Normal (head_of b.state s)) _ tt learnt (go (is_some (conn_of b.state s)))
    where
      go : (t : Bool) → OpenInv x n gone cs (breaks_unless t app now (becomes (with_event app now (event.RoundOver (is_some (conn_of b.state s)))) b))
      go true = open_state cs b _ (with_event app now (event.RoundOver (is_some (conn_of b.state s))) b.state) refl refl refl refl inv.replies refl inv.frames refl inv
      go false = open_state cs b _ (with_event app now (event.RoundOver (is_some (conn_of b.state s))) b.state) refl refl refl refl inv.replies refl inv.frames refl inv

  pub open_backs : (cs : List Caller) (es : List LiveEnd) (now : ℕ) (b : Sofar) → AllByRecursion (λ (e : LiveEnd). HasLearnt x e.session) es → OpenInv x n gone cs b
      → OpenInv x n gone cs (come_back es now b)
  open_backs cs [] now b learnt inv = inv
  open_backs cs (e ∷ es) now b learnt inv = open_backs cs es now (comes_back e.app e.session now b) learnt.1 (open_back cs e.app e.session now b learnt.0 inv)

-- a session opens

pub drops_fit : (x : Site) (d : DataState) (before : ℕ) (xs : List Noted) (b : Sofar) → AllByRecursion (λ (y : Noted). HasLearnt x y.session) xs → Tells x b.state
    → AllByRecursion (FrameFits x d) b.outs.frames → AllByRecursion (FrameFits x d) (drops before xs b).outs.frames
drops_fit x d before [] b learnt tells all = all
drops_fit x d before (y ∷ xs) b learnt tells all =
    drops_fit x d before xs (drops_one before y xs b) learnt.1 (puts_tells x y.session _ b tells) (puts_fit x d y.session _ b tt learnt.0 tells all)

module _ (x : Site) (d m : DataState) (conn s : ℕ) (conns : m.conns ≡ map (with_role_if conn (Bound s)) d.conns) (waits : role_of d conn ≡ Some Waiting) where
  pub role_kept : (k : ℕ) → k ≢ conn → role_of m k ≡ role_of d k
  role_kept k apart = ap (λ (cs : List Conn). option_map role_in (find (is_conn k) cs)) conns ∙ other_role conn (Bound s) k d.conns apart

  bound_apart : (k q : ℕ) → role_of d k ≡ Some (Bound q) → k ≢ conn
  bound_apart k q role same = (let both : ◌≡◌ {A = Option Role} (Some Waiting) (Some (Bound q)) = sym waits ∙ ap (role_of d) (sym same) ∙ role in absurd cc)

  closing_apart : (k q : ℕ) → role_of d k ≡ Some (Closing q) → k ≢ conn
  closing_apart k q role same = (let both : ◌≡◌ {A = Option Role} (Some Waiting) (Some (Closing q)) = sym waits ∙ ap (role_of d) (sym same) ∙ role in absurd cc)

  on_opened : (message : Down) (k : ℕ) → FitsOn message x d k → FitsOn message x m k
  on_opened (Welcome session epoch kept front taken) k fits = role_kept k (bound_apart k session fits) ∙ fits
  on_opened (Reset session at) k fits = role_kept k (closing_apart k session fits) ∙ fits
  on_opened (Block front block) k fits = fits
  on_opened (Drop front lo hi) k fits = fits
  on_opened (Ack front) k fits = fits
  on_opened (Grant front ticket at) k fits = fits
  on_opened (Answer front about job number at sum) k fits = fits
  on_opened (Normal front) k fits = fits
  on_opened Bare k fits = fits

  pub says_opened : (says : Says) → SaysFit says x d → SaysFit says x m
  says_opened (NewWelcome k session) fits = role_kept k (bound_apart k session fits) ∙ fits
  says_opened (EpochWelcome k session kept) fits = role_kept k (bound_apart k session fits) ∙ fits
  says_opened (ResetOf k session at) fits = role_kept k (closing_apart k session fits) ∙ fits
  says_opened (GrantOf session ticket at) fits = fits
  says_opened (AnswerOf session about job number at sum) fits = fits

-- the others' application servers are others
differ_parts : (a b : Bool) → (not a && b) ≡ true → (a ≡ false) × (b ≡ true)
differ_parts true b is = absurd (false≢true is)
differ_parts false b is = (refl, is)

all_apart : (app : ℕ) (cs : List Caller) → list_any (is_same app) (map app_of_caller cs) ≡ false → AllByRecursion (λ (c : Caller). c.app ≢ app) cs
all_apart app [] none = tt
all_apart app (c ∷ cs) none = go (app == c.app) refl none (all_apart app cs)
  where
    go : (b : Bool) → (app == c.app) ≡ b → (b || list_any (is_same app) (map app_of_caller cs)) ≡ false
        → (list_any (is_same app) (map app_of_caller cs) ≡ false → AllByRecursion (λ (c : Caller). c.app ≢ app) cs) → AllByRecursion (λ (c : Caller). c.app ≢ app) (c ∷ cs)
    go true same none_there more = absurd (false≢true (sym none_there))
    go false other none_there more = ((λ same. false≢true (sym other ∙ eq-eqb app c.app (sym same))), more none_there)

role_same : (r q : Role) → Some r ≡ Some q → r ≡ q
role_same r q same = cc (same)

pub open_one : (x : Site) (n : DataState) (gone : List ℕ) → ((s : ℕ) → length n.order < s → IsFresh x s) → (c : Caller) (cs : List Caller) (now : ℕ) (b : Sofar) → OpenInv x n gone (c ∷ cs) b
    → OpenInv x n gone cs (opens c.app c.conn now b)
open_one x n gone fresh_at c cs now b inv = go (appends_state (Opened s c.app) (writes (act.Enter b.state.server (Opened s c.app)) b))
  where
    s : ℕ
    s = length b.state.order + 1

    entering : Sofar
    entering = writes (act.Enter b.state.server (Opened s c.app)) b

    spans : List Span
    spans = spans_of entering.state (Opened s c.app)

    after : Sofar
    after = opens c.app c.conn now b

    dropped : AllByRecursion (FrameFits x b.state) (enters (Opened s c.app) b).outs.frames
    dropped =
        drops_fit x b.state (length b.state.order) (touched spans b.state.noted) (becomes (with_entry (Opened s c.app) spans) entering)
        (all_filtered (λ (y : Noted). HasLearnt x y.session) (is_touched spans) b.state.noted inv.noted) (tells_of x b.state inv.nodes) inv.frames

    go : Appended (Opened s c.app) entering (enters (Opened s c.app) b) → OpenInv x n gone cs after
    go a = record {
      nodes = node_opens x b.state after.state c.app c.conn (record { order = order; dials = ap (λ (d : DataState). d.dials) a.state; conns = conns }) inv.within
          inv.callers.0.waits inv.callers.0.linked (fresh_at s (omega (arith, inv.longer))) inv.nodes;
      frames =
          all_follow (FrameFits x b.state) (FrameFits x after.state)
          (λ f at. on_opened x b.state after.state c.conn s conns inv.callers.0.waits f.down.message f.conn at) (enters (Opened s c.app) b).outs.frames dropped;
      cuts = a.cuts ∙ inv.cuts;
      noted =
          subst (λ (ys : List Noted). AllByRecursion (λ (y : Noted). HasLearnt x y.session) ys) (sym (ap (λ (d : DataState). d.noted) a.state))
          (all_filtered (λ (y : Noted). HasLearnt x y.session) (is_untouched spans) b.state.noted inv.noted);
      replies =
          all_one_more (ReplyFits x after.state) (enters (Opened s c.app) b).state.replies _
          (subst (λ (rs : List Reply). AllByRecursion (ReplyFits x after.state) rs) (sym (ap (λ (d : DataState). d.replies) a.state))
          (all_follow (ReplyFits x b.state) (ReplyFits x after.state)
          (λ r at. says_opened x b.state after.state c.conn s conns inv.callers.0.waits r.says at) b.state.replies inv.replies))
          (ap (λ (ks : List Conn). option_map role_in (find (is_conn c.conn) ks)) conns ∙ role_given c.conn (Bound s) b.state.conns (there b.state.conns inv.callers.0.waits));
      there =
          λ k.
          ap (λ (ks : List Conn). is_some (option_map role_in (find (is_conn k) ks))) conns ∙ there_still c.conn (Bound s) k b.state.conns ∙ inv.there k;
      stays =
          λ k r other role.
          role_kept x b.state after.state c.conn s conns inv.callers.0.waits k
          (λ same. other (role_same r Waiting (sym (inv.stays k r other role) ∙ ap (role_of b.state) same ∙ inv.callers.0.waits))) ∙ inv.stays k r other role;
      longer = omega (arith, inv.longer, ap (λ (es : List Entry). length es) order, length-append b.state.order (Opened s c.app ∷ []));
      within = subst Within (sym order) (within_more b.state.order c.app inv.within);
      callers =
          all_follow (λ (k : Caller). (k.app ≢ c.app) × CallerIs b.state x k) (CallerIs after.state x) (λ k both. caller_on k both.0 both.1) cs
          (all_both (λ (k : Caller). k.app ≢ c.app) (CallerIs b.state x) cs (all_apart c.app cs parts.0) inv.callers.1);
      apart = parts.1;
    }
      where
        order : after.state.order ≡ b.state.order ++ Opened s c.app ∷ []
        order = ap (λ (d : DataState). d.order) a.state

        conns : after.state.conns ≡ map (with_role_if c.conn (Bound s)) b.state.conns
        conns = ap (λ (d : DataState). map (with_role_if c.conn (Bound s)) d.conns) a.state

        parts : (list_any (is_same c.app) (map app_of_caller cs) ≡ false) × (all_differ (map app_of_caller cs) ≡ true)
        parts = differ_parts (list_any (is_same c.app) (map app_of_caller cs)) (all_differ (map app_of_caller cs)) inv.apart

        there : (ks : List Conn) → option_map role_in (find (is_conn c.conn) ks) ≡ Some Waiting → is_some (find (is_conn c.conn) ks) ≡ true
        there ks role = by (find (is_conn c.conn) ks) role
          where
            by : (o : Option Conn) → option_map role_in o ≡ Some Waiting → is_some o ≡ true
            by None its = absurd (cc (its))
            by (Some k) its = refl

        -- another Hello is on another connection
        caller_on : (k : Caller) → k.app ≢ c.app → CallerIs b.state x k → CallerIs after.state x k
        caller_on k apart at = record {
          waits = role_kept x b.state after.state c.conn s conns inv.callers.0.waits k.conn (λ same. elsewhere same) ∙ at.waits;
          free =
              ap (λ (es : List Entry). live_session es k.app) order ∙ live_session-push b.state.order (Opened s c.app) k.app
              ∙ ap (λ (t : Bool). if t then Some s else live_session b.state.order k.app) (ne_eqb c.app k.app (λ same. apart (sym same))) ∙ at.free;
          linked = at.linked;
        }
          where
            elsewhere : k.conn ≡ c.conn → ⊥
            elsewhere same =
                apart
                (same_link k.app c.app at.linked.dial inv.callers.0.linked.dial
                (sym at.linked.link ∙ ap (site_link x) same ∙ inv.callers.0.linked.link)).0

pub open_all : (x : Site) (n : DataState) (gone : List ℕ) → ((s : ℕ) → length n.order < s → IsFresh x s) → (cs : List Caller) (now : ℕ) (b : Sofar) → OpenInv x n gone cs b
    → OpenInv x n gone [] (opens_all cs now b)
open_all x n gone fresh_at [] now b inv = inv
open_all x n gone fresh_at (c ∷ cs) now b inv = open_all x n gone fresh_at cs now (opens c.app c.conn now b) (open_one x n gone fresh_at c cs now b inv)
