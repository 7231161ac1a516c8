-- What a command of a job makes of the sessions of its application server, for their rounds.
use Rattle.std.proofs.Common.{◌≡◌, ℕ, Bool, true, false, List, [], ◌∷◌, ◌++◌, length, Option, Some, None, option_map, refl, sym, ◌∙◌, ap, subst, arith}
use Rattle.std.specs.Prelude.{⊤, IfSome, IsSomeAnd, ◌&&◌, ◌||◌, ◌==◌, not, map}
use Rattle.std.specs.List.{list_all, list_any}
use Rattle.std.proofs.lemmas.Bool.{and_parts, false≢true}
use Rattle.std.proofs.lemmas.List.{length-append}
use Rattle.ecp_messages.specs.declared.up.Up.{Up}
use Rattle.ecp_messages.specs.declared.up.Up.TheVariants as up
use Rattle.link_states.specs.declared.app_link.AppLink.{AppLink}
use Rattle.link_states.specs.declared.app_link.AppLink.TheVariants.{NotConnected, Normal as NormalLink, Trouble, Recovery}
use Rattle.end_words.specs.Windows.{with_ack_put, with_sent}
use Rattle.app_rules.specs.declared.line.Line.{Line}
use Rattle.app_rules.specs.declared.session_parts.Asked.{Asked}
use Rattle.app_rules.specs.declared.session_parts.Owed.{Owed}
use Rattle.app_rules.specs.AppState.{AppEnd, Session}
use Rattle.app_rules.specs.Delivering.{is_ask_unput}
use Rattle.app_rules.specs.JobStep.{is_ask_elsewhere, unawaited}
use Rattle.app_rules.specs.Welcoming.{message_of}
use Rattle.app_rules.specs.Works.{Sofar, becomes, end_at, is_apart, is_joined, is_normal, sets, tells_if, tries_if, with_session, with_window, with_line}
use Rattle.app_rules.specs.Locking.{with_ticket}
use Rattle.cluster_steps.proofs.AppPlaces.{at_end}
use Rattle.cluster_steps.proofs.JobEnds.{SessionGrows, SessionsGrow}
use Rattle.cluster_steps.proofs.JobPieces.{GoesOn, IsItem, JobPiece, MayMake, Note, NoteOn, PutOn, is_put_with, kept_by_pieces, link_by, made_by, noted_by}
use Rattle.cluster_steps.proofs.JobPieces.JobPiece.{Writes, Tries, Notes, Tickets, Puts}
use Rattle.cluster_steps.proofs.JobPieces.Note.{Queues, QueuesLate, QueuesOwed, Fetches, Asks, Syncs, Holds, Lowers, Uses, Leaves}
use Rattle.cluster_invariant.specs.Ends.{due_stands}
use Rattle.cluster_invariant.specs.Rounds.{is_item, owed_message}
use Rattle.link_apps.proofs.LanesApps.{given_put}
use Rattle.rounds_apps.proofs.RoundInputs.{SessionsGo}
use Rattle.rounds_apps.proofs.RoundLanes.{SessionGoes}
use Rattle.rounds_apps.proofs.RoundSessions.{all_left, still_due}

-- What a step of a job keeps of a session: its queue and what is owed are items; and while the link isn't Normal and no Ask was put, none is,
-- and nothing else either.
pub record Calm (link : AppLink) (s t : Session) : Type 0 where
  pub due : t.normal_due ≡ s.normal_due
  pub queued : list_all is_item (map message_of s.queue) ≡ true → list_all is_item (map message_of t.queue) ≡ true
  pub owed : list_all is_item (map owed_message s.owed) ≡ true → list_all is_item (map owed_message t.owed) ≡ true
  pub unput : is_normal link ≡ false → list_all is_ask_unput s.asks ≡ true → list_all is_ask_unput t.asks ≡ true
  pub waits : is_normal link ≡ false → list_all is_ask_unput s.asks ≡ true → t.window.waiting ≡ s.window.waiting

abbrev pub AllCalm : AppLink → Option Session → Option Session → Type 0
AllCalm link None q = ⊤
AllCalm link (Some s) None = ⊤
AllCalm link (Some s) (Some t) = Calm link s t

calm_same : (link : AppLink) (s : Session) → Calm link s s
calm_same link s = record { due = refl; queued = λ is. is; owed = λ is. is; unput = λ off is. is; waits = λ off is. refl }

all_same : (link : AppLink) (o : Option Session) → AllCalm link o o
all_same link None = tt
all_same link (Some s) = calm_same link s

calm_then : (link : AppLink) (s t u : Session) → Calm link s t → Calm link t u → Calm link s u
calm_then link s t u x y = record {
  due = y.due ∙ x.due;
  queued = λ is. y.queued (x.queued is);
  owed = λ is. y.owed (x.owed is);
  unput = λ off is. y.unput off (x.unput off is);
  waits = λ off is. y.waits off (x.unput off is) ∙ x.waits off is;
}

-- a change of the session that is calm
calm_mapped : (link : AppLink) (f : Session → Session) (o q : Option Session) → ((t : Session) → q ≡ Some t → Calm link t (f t)) → AllCalm link o q → AllCalm link o (option_map f q)
calm_mapped link f None q each is = tt
calm_mapped link f (Some s) None each is = tt
calm_mapped link f (Some s) (Some t) each is = calm_then link s t (f t) is (each t refl)

-- lists

all_more : {X : Type 0} (p : X → Bool) (xs : List X) (x : X) → p x ≡ true → list_all p xs ≡ true → list_all p (xs ++ x ∷ []) ≡ true
all_more p [] x one is = ap (λ (b : Bool). b && true) one
all_more p (y ∷ ys) x one is =
    let parts : (p y ≡ true) × (list_all p ys ≡ true) = and_parts (p y) (list_all p ys) is in
    ap (λ (b : Bool). b && list_all p (ys ++ x ∷ [])) parts.0 ∙ all_more p ys x one parts.1

mapped_more : {X Y : Type 0} (f : X → Y) (p : Y → Bool) (xs : List X) (x : X) → p (f x) ≡ true → list_all p (map f xs) ≡ true → list_all p (map f (xs ++ x ∷ [])) ≡ true
mapped_more f p [] x one is = ap (λ (b : Bool). b && true) one
mapped_more f p (y ∷ ys) x one is =
    let parts : (p (f y) ≡ true) × (list_all p (map f ys) ≡ true) = and_parts (p (f y)) (list_all p (map f ys)) is in
    ap (λ (b : Bool). b && list_all p (map f (ys ++ x ∷ []))) parts.0 ∙ mapped_more f p ys x one parts.1

all_unawaited : (job : ℕ) (os : List Owed) → list_all is_item (map owed_message (map (unawaited job) os)) ≡ list_all is_item (map owed_message os)
all_unawaited job [] = refl
all_unawaited job (o ∷ os) = ap (λ (b : Bool). is_item o.message && b) (all_unawaited job os)

-- none was put where all were not
none_put : (ticket : ℕ) (xs : List Asked) → list_all is_ask_unput xs ≡ true → list_any (is_put_with ticket) xs ≡ true → ⊥
none_put ticket [] all any = absurd (false≢true any)
none_put ticket (x ∷ xs) all any = go x.put (x.ticket == ticket) (and_parts (is_ask_unput x) (list_all is_ask_unput xs) all).0 any
    (none_put ticket xs (and_parts (is_ask_unput x) (list_all is_ask_unput xs) all).1)
  where
    go : (a b : Bool) → not a ≡ true → (a && b || list_any (is_put_with ticket) xs) ≡ true → (list_any (is_put_with ticket) xs ≡ true → ⊥) → ⊥
    go true b off any more = absurd (false≢true off)
    go false b off any more = more any

-- notes

item_is : (m : Up) → IsItem m → is_item m ≡ true
item_is (up.Hello app dial) is = absurd is
item_is (up.Recover app session epoch taken dial) is = absurd is
item_is (up.Update w job txn op) is = refl
item_is (up.Add w job key amount) is = refl
item_is (up.Fetch key) is = absurd is
item_is (up.Ask ticket job mode key) is = absurd is
item_is (up.Unlock job mode key) is = absurd is
item_is (up.Cancel ticket) is = absurd is
item_is (up.Commit w job txn wanted) is = refl
item_is (up.Rollback w job txn) is = refl
item_is (up.Sync ticket) is = absurd is
item_is up.Done is = absurd is
item_is (up.Claim job mode number at key) is = absurd is
item_is up.Bare is = absurd is

note_calm : (n : Note) (link : AppLink) (s : Session) → NoteOn n link → Calm link s (noted_by n s)
note_calm (Queues w m job) link s on = record {
  due = refl;
  queued = mapped_more message_of is_item s.queue _ (item_is m on);
  owed = λ is. is;
  unput = λ off is. is;
  waits = λ off is. refl;
}
note_calm (QueuesLate w m job op) link s on = record {
  due = refl;
  queued = mapped_more message_of is_item s.queue _ (item_is m on);
  owed = λ is. is;
  unput = λ off is. is;
  waits = λ off is. refl;
}
note_calm (QueuesOwed w m job) link s on = record {
  due = refl;
  queued = mapped_more message_of is_item s.queue _ (item_is m on);
  owed = mapped_more owed_message is_item s.owed _ (item_is m on);
  unput = λ off is. is;
  waits = λ off is. refl;
}
note_calm (Fetches job key) link s on = record { due = refl; queued = λ is. is; owed = λ is. is; unput = λ off is. is; waits = λ off is. refl }
note_calm (Asks ticket job mode key) link s on = record {
  due = refl;
  queued = λ is. is;
  owed = λ is. is;
  unput = λ off is. absurd (false≢true (sym off ∙ on));
  waits = λ off is. refl;
}
note_calm (Syncs ticket job) link s on = record { due = refl; queued = λ is. is; owed = λ is. is; unput = λ off is. is; waits = λ off is. refl }
note_calm (Holds job mode key at) link s on = record { due = refl; queued = λ is. is; owed = λ is. is; unput = λ off is. is; waits = λ off is. refl }
note_calm (Lowers job mode key) link s on = record { due = refl; queued = λ is. is; owed = λ is. is; unput = λ off is. is; waits = λ off is. refl }
note_calm (Uses runs) link s on = record { due = refl; queued = λ is. is; owed = λ is. is; unput = λ off is. is; waits = λ off is. refl }
note_calm (Leaves job) link s on = record {
  due = refl;
  queued = λ is. is;
  owed = λ is. all_unawaited job s.owed ∙ is;
  unput = λ off is. all_left is_ask_unput (is_ask_elsewhere job) s.asks is;
  waits = λ off is. refl;
}

-- puts: not while the link isn't Normal and no Ask was put

put_off : (m : Up) (e : AppEnd) (s : Session) → e.session ≡ Some s → is_normal e.link ≡ false → list_all is_ask_unput s.asks ≡ true → PutOn m e → ⊥
put_off (up.Hello app dial) e s its off unput on = absurd (false≢true (sym off ∙ on))
put_off (up.Recover app session epoch taken dial) e s its off unput on = absurd (false≢true (sym off ∙ on))
put_off (up.Update w job txn op) e s its off unput on = absurd (false≢true (sym off ∙ on))
put_off (up.Add w job key amount) e s its off unput on = absurd (false≢true (sym off ∙ on))
put_off (up.Fetch key) e s its off unput on = absurd (false≢true (sym off ∙ on))
put_off (up.Ask ticket job mode key) e s its off unput on = absurd (false≢true (sym off ∙ on))
put_off (up.Unlock job mode key) e s its off unput on = absurd (false≢true (sym off ∙ on))
put_off (up.Cancel ticket) e s its off unput on =
    none_put ticket s.asks unput (subst (λ (o : Option Session). IsSomeAnd o (λ t. list_any (is_put_with ticket) t.asks ≡ true)) its on)
put_off (up.Commit w job txn wanted) e s its off unput on = absurd (false≢true (sym off ∙ on))
put_off (up.Rollback w job txn) e s its off unput on = absurd (false≢true (sym off ∙ on))
put_off (up.Sync ticket) e s its off unput on = absurd (false≢true (sym off ∙ on))
put_off up.Done e s its off unput on = absurd (false≢true (sym off ∙ on))
put_off (up.Claim job mode number at key) e s its off unput on = absurd (false≢true (sym off ∙ on))
put_off up.Bare e s its off unput on = absurd (false≢true (sym off ∙ on))

-- a message put
sent_calm : (m : Up) (e : AppEnd) (s : Session) → e.session ≡ Some s → PutOn m e → Calm e.link s (with_window (λ w. with_sent w m) s)
sent_calm m e s its on = record {
  due = refl;
  queued = λ is. is;
  owed = λ is. is;
  unput = λ off is. is;
  waits = λ off is. absurd (put_off m e s its off is on);
}

ack_calm : (link : AppLink) (s : Session) → Calm link s (with_window with_ack_put s)
ack_calm link s = record { due = refl; queued = λ is. is; owed = λ is. is; unput = λ off is. is; waits = λ off is. refl }

-- one piece, at one end

module _ (link : AppLink) (o : Option Session) (k : ℕ) where
  abbrev Here : Sofar → Type 0
  Here c = AllCalm link o (end_at c.state k).session

  -- an end changed, of which the session is calm
  changed : (d : ℕ) (f : AppEnd → AppEnd) (b : Sofar) → (k ≡ d → AllCalm link o (f (end_at b.state d)).session) → Here b → Here (becomes d f b)
  changed d f b here is = at_end (λ (e : AppEnd). AllCalm link o e.session) d k (f (end_at b.state d)) b.state here is

  at_d : (d : ℕ) (b : Sofar) → Here b → k ≡ d → AllCalm link o (end_at b.state d).session
  at_d d b is here = subst (λ (n : ℕ). AllCalm link o (end_at b.state n).session) here is

  tells_calm : (t : Bool) (d seq : ℕ) (m : Up) (b : Sofar) → Here b → Here (tells_if t d seq m b)
  tells_calm true d seq m b is =
      changed d (with_session (with_window with_ack_put)) b
      (λ here. calm_mapped link (with_window with_ack_put) o (end_at b.state d).session (λ t its. ack_calm link t) (at_d d b is here)) is
  tells_calm false d seq m b is = is

  tries_calm : (t : Bool) (d : ℕ) (b : Sofar) → Here b → Here (tries_if t d b)
  tries_calm true d b is = changed d (with_line _) b (λ here. at_d d b is here) is
  tries_calm false d b is = is

  piece_calm : (p : JobPiece) (b : Sofar) → MayMake p b → (end_at b.state k).link ≡ link → Here b → Here (made_by p b)
  piece_calm (Writes a) b may same is = is
  piece_calm (Tries d) b may same is = tries_calm (is_apart (end_at b.state d).line) d b is
  piece_calm (Notes d n) b may same is =
      changed d (with_session (noted_by n)) b
      (λ here.
      calm_mapped link (noted_by n) o (end_at b.state d).session
      (λ t its. note_calm n link t (subst (NoteOn n) (ap (λ (j : ℕ). (end_at b.state j).link) (sym here) ∙ same) may.1)) (at_d d b is here)) is
  piece_calm (Tickets d) b may same is = changed d with_ticket b (λ here. at_d d b is here) is
  piece_calm (Puts d m) b may same is =
      tells_calm (is_joined (end_at b.state d).line) d _ m (sets d (with_window (λ w. with_sent w m)) b)
      (changed d (with_session (with_window (λ w. with_sent w m))) b
      (λ here.
      calm_mapped link (with_window (λ w. with_sent w m)) o (end_at b.state d).session
      (λ t its.
      subst (λ (z : AppLink). Calm z t (with_window (λ w. with_sent w m) t)) (ap (λ (j : ℕ). (end_at b.state j).link) (sym here) ∙ same)
      (sent_calm m (end_at b.state d) t its may.2)) (at_d d b is here)) is)

-- Each end after a step that goes on by pieces.
pub calm_by : (b c : Sofar) → GoesOn b c → (k : ℕ) → AllCalm (end_at b.state k).link (end_at b.state k).session (end_at c.state k).session
calm_by b c g k =
    subst (λ (x : Sofar). AllCalm (end_at b.state k).link (end_at b.state k).session (end_at x.state k).session) (sym g.after)
    (kept_by_pieces (λ x. ((end_at x.state k).link ≡ (end_at b.state k).link) × AllCalm (end_at b.state k).link (end_at b.state k).session (end_at x.state k).session)
    (λ p x may holds. (link_by p x k ∙ holds.0, piece_calm (end_at b.state k).link (end_at b.state k).session k p x may holds.0 holds.1)) g.pieces b g.may
    (refl, all_same (end_at b.state k).link (end_at b.state k).session)).1

-- So a session goes on as its round lets it.

due_off : (link : AppLink) (line : Line) (due : Bool) → due_stands link line due ≡ true → due ≡ true → is_normal link ≡ false
due_off NotConnected line due stands is = refl
due_off NormalLink line due stands is = absurd (false≢true (sym (ap not is) ∙ stands))
due_off (Trouble broke try_at) line due stands is = refl
due_off Recovery line due stands is = refl

none_given : {X : Type 0} (xs ys : List X) → xs ++ ys ≡ xs → ys ≡ []
none_given {X} xs ys is = go ys (let same : length ys ≡ 0 = omega (arith, ap (λ (zs : List X). length zs) is, length-append xs ys) in same)
  where
    go : (zs : List X) → length zs ≡ 0 → zs ≡ []
    go [] none = refl
    go (z ∷ zs) none = absurd (omega (arith, none))

grows_goes : (link : AppLink) (line : Line) (s t : Session) (put : List Up) → due_stands link line s.normal_due ≡ true → (s.normal_due ≡ true → list_all is_ask_unput s.asks ≡ true)
    → SessionGrows put s t → Calm link s t → SessionGoes s t None put
grows_goes link line s t put stands unput g calm = record {
  number = g.number;
  epoch = g.epoch;
  given = given_put s.window t.window put g.acked g.waiting;
  taken = omega (arith, g.taken);
  due = g.normal_due ∙ still_due s.normal_due;
  waits = λ none due. none_given s.window.waiting put (sym g.waiting ∙ calm.waits (due_off link line s.normal_due stands due) (unput due));
  asks = λ due is. calm.unput (due_off link line s.normal_due stands (sym g.normal_due ∙ due)) is;
  queued = calm.queued;
  owed = calm.owed;
}

pub grow_go : (link : AppLink) (line : Line) (o q : Option Session) (put : List Up) → IfSome o (λ s. due_stands link line s.normal_due ≡ true)
    → IfSome o (λ s. s.normal_due ≡ true → list_all is_ask_unput s.asks ≡ true) → SessionsGrow put o q → AllCalm link o q → SessionsGo o q None
grow_go link line None None put stands unput g calm = tt
grow_go link line None (Some t) put stands unput g calm = absurd g
grow_go link line (Some s) None put stands unput g calm = tt
grow_go link line (Some s) (Some t) put stands unput g calm = (put, grows_goes link line s t put stands unput g calm)
