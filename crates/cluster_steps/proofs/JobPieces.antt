-- What a step of a job makes of its application server's ends: small changes, each of one end or an act.
use Rattle.std.proofs.Common.{None, Some, option_map, ◌≡◌, ◌⊎◌, ℕ, Bool, true, false, List, [], ◌∷◌, ◌++◌, refl, sym, ◌∙◌, ap, subst, Option}
use Rattle.std.specs.Prelude.{IfSome, IsSomeAnd, ◌&&◌, ◌==◌, is_some}
use Rattle.std.specs.List.{AllByRecursion, list_any}
use Rattle.subscript_keys.specs.declared.run.Run.{Run}
use Rattle.plain_orders.specs.declared.act.Act.{Act}
use Rattle.plain_orders.specs.declared.act.Act.TheVariants as act
use Rattle.plain_orders.specs.declared.mode.Mode.{Mode}
use Rattle.plain_orders.specs.declared.op.Op.{Op}
use Rattle.ecp_messages.specs.declared.up.Up.{Up}
use Rattle.ecp_messages.specs.declared.up.Up.TheVariants as up
use Rattle.link_states.specs.declared.app_link.AppLink.{AppLink}
use Rattle.app_rules.specs.declared.session_parts.Asked.{Asked}
use Rattle.app_rules.specs.AppState.{AppState, AppEnd, Session}
use Rattle.app_rules.specs.Works.{Sofar, writes, tries, tries_if, tells_if, sets, becomes, puts, end_at, with_end, with_session, with_window, is_normal, is_joined, is_apart}
use Rattle.end_words.specs.Windows.{with_sent}
use Rattle.app_rules.specs.Issuing.{is_free, with_item, with_late, with_owed}
use Rattle.app_rules.specs.Reading.{with_fetch, with_cache}
use Rattle.app_rules.specs.Locking.{with_ticket, with_ask, with_held, without_held}
use Rattle.app_rules.specs.Ending.{with_sync}
use Rattle.app_rules.specs.JobStep.{left_by}
use Rattle.cluster_steps.proofs.AppPlaces.{at_end}

-- what a session notes of a command
pub data Note : Type 0 where
  -- an item joins the queue, and its operation is late, or its answer awaited, or neither
  Queues : ℕ → Up → ℕ → Note
  QueuesLate : ℕ → Up → ℕ → Op → Note
  QueuesOwed : ℕ → Up → ℕ → Note
  Fetches : ℕ → List ℕ → Note
  Asks : ℕ → ℕ → Mode → List ℕ → Note
  Syncs : ℕ → ℕ → Note
  Holds : ℕ → Mode → List ℕ → ℕ → Note
  Lowers : ℕ → Mode → List ℕ → Note
  -- the runs as they were used
  Uses : List Run → Note
  -- no command of the job waits for anything any more
  Leaves : ℕ → Note

-- what it makes of the session
abbrev pub noted_by : Note → (Session → Session)
noted_by (Queues w m job) = with_item w m job
noted_by (QueuesLate w m job op) = λ s. with_late w job op (with_item w m job s)
noted_by (QueuesOwed w m job) = λ s. with_owed w m job (with_item w m job s)
noted_by (Fetches job key) = with_fetch job key
noted_by (Asks ticket job mode key) = with_ask ticket job mode key
noted_by (Syncs ticket job) = with_sync ticket job
noted_by (Holds job mode key at) = with_held job mode key at
noted_by (Lowers job mode key) = without_held job mode key
noted_by (Uses runs) = with_cache runs
noted_by (Leaves job) = left_by job

-- a small change
pub data JobPiece : Type 0 where
  Writes : Act → JobPiece
  Tries : ℕ → JobPiece
  Notes : ℕ → Note → JobPiece
  Tickets : ℕ → JobPiece
  Puts : ℕ → Up → JobPiece

-- what it makes
abbrev pub made_by : JobPiece → Sofar → Sofar
made_by (Writes a) b = writes a b
made_by (Tries d) b = tries d b
made_by (Notes d n) b = sets d (noted_by n) b
made_by (Tickets d) b = becomes d with_ticket b
made_by (Puts d m) b = puts d m b

-- one of these runs
abbrev pub IsAmong : Run → List Run → Type 0
IsAmong r [] = ⊥
IsAmong r (x ∷ xs) = (r ≡ x) ⊎ IsAmong r xs

-- runs that were used are those that were there
abbrev pub NoteMay : Note → Session → Type 0
NoteMay (Queues w m job) s = Unit {0}
NoteMay (QueuesLate w m job op) s = Unit {0}
NoteMay (QueuesOwed w m job) s = Unit {0}
NoteMay (Fetches job key) s = Unit {0}
NoteMay (Asks ticket job mode key) s = Unit {0}
NoteMay (Syncs ticket job) s = Unit {0}
NoteMay (Holds job mode key at) s = Unit {0}
NoteMay (Lowers job mode key) s = Unit {0}
NoteMay (Uses runs) s = AllByRecursion (λ r. IsAmong r s.cache) runs
NoteMay (Leaves job) s = Unit {0}

-- an item
abbrev pub IsItem : Up → Type 0
IsItem (up.Hello app dial) = ⊥
IsItem (up.Recover app session epoch taken dial) = ⊥
IsItem (up.Update w job txn op) = Unit {0}
IsItem (up.Add w job key amount) = Unit {0}
IsItem (up.Fetch key) = ⊥
IsItem (up.Ask ticket job mode key) = ⊥
IsItem (up.Unlock job mode key) = ⊥
IsItem (up.Cancel ticket) = ⊥
IsItem (up.Commit w job txn wanted) = Unit {0}
IsItem (up.Rollback w job txn) = Unit {0}
IsItem (up.Sync ticket) = ⊥
IsItem up.Done = ⊥
IsItem (up.Claim job mode number at key) = ⊥
IsItem up.Bare = ⊥

-- a job asks for a lock while the link is Normal, and what is queued is an item
abbrev pub NoteOn : Note → AppLink → Type 0
NoteOn (Queues w m job) link = IsItem m
NoteOn (QueuesLate w m job op) link = IsItem m
NoteOn (QueuesOwed w m job) link = IsItem m
NoteOn (Fetches job key) link = Unit {0}
NoteOn (Asks ticket job mode key) link = is_normal link ≡ true
NoteOn (Syncs ticket job) link = Unit {0}
NoteOn (Holds job mode key at) link = Unit {0}
NoteOn (Lowers job mode key) link = Unit {0}
NoteOn (Uses runs) link = Unit {0}
NoteOn (Leaves job) link = Unit {0}

-- an act that a job's step writes
abbrev pub IsOfJob : Act → Type 0
IsOfJob (act.Opened d entries) = ⊥
IsOfJob (act.Enter d entry) = ⊥
IsOfJob (act.Synced d n) = ⊥
IsOfJob (act.Shut d session cause) = ⊥
IsOfJob (act.Release d session) = ⊥
IsOfJob (act.Met app d session) = ⊥
IsOfJob (act.Told app d session epoch kept) = ⊥
IsOfJob (act.Back d) = ⊥
IsOfJob (act.Crash d kept) = ⊥
IsOfJob (act.Issue job line d w item) = Unit {0}
IsOfJob (act.Read job line d at via question) = Unit {0}
IsOfJob (act.Grant d session job mode key at) = ⊥
IsOfJob (act.Granted job line d at) = Unit {0}
IsOfJob (act.GiveUp job line d mode key) = Unit {0}
IsOfJob (act.Quit job line d mode key) = Unit {0}
IsOfJob (act.Free d session job mode key) = ⊥
IsOfJob (act.Counted job line d at sum) = Unit {0}
IsOfJob (act.NotWhole job line d at) = Unit {0}
IsOfJob (act.Range job line d at) = Unit {0}
IsOfJob (act.Committed job line d at) = Unit {0}
IsOfJob (act.RolledBack job line d at) = Unit {0}
IsOfJob (act.Reached job line d at) = Unit {0}
IsOfJob (act.Level job line level) = Unit {0}
IsOfJob (act.Done job line) = Unit {0}
IsOfJob (act.Refused job line refusal) = Unit {0}
IsOfJob (act.Broke app d end time) = ⊥
IsOfJob (act.Mended app d) = ⊥
IsOfJob (act.Tick time) = ⊥
IsOfJob (act.Lose app d loss) = ⊥
IsOfJob (act.Died app) = ⊥

-- a message that a job's step puts
abbrev pub IsPutByJob : Up → Type 0
IsPutByJob (up.Hello app dial) = ⊥
IsPutByJob (up.Recover app session epoch taken dial) = ⊥
IsPutByJob (up.Update w job txn op) = Unit {0}
IsPutByJob (up.Add w job key amount) = Unit {0}
IsPutByJob (up.Fetch key) = Unit {0}
IsPutByJob (up.Ask ticket job mode key) = Unit {0}
IsPutByJob (up.Unlock job mode key) = Unit {0}
IsPutByJob (up.Cancel ticket) = Unit {0}
IsPutByJob (up.Commit w job txn wanted) = Unit {0}
IsPutByJob (up.Rollback w job txn) = Unit {0}
IsPutByJob (up.Sync ticket) = Unit {0}
IsPutByJob up.Done = ⊥
IsPutByJob (up.Claim job mode number at key) = ⊥
IsPutByJob up.Bare = ⊥

-- a message is put to a pair that is Normal, or that has a session
abbrev pub HasSession : AppEnd → Type 0
HasSession e = (is_normal e.link ≡ true) ⊎ (is_some e.session ≡ true)

-- an Ask of this ticket that was put in this epoch
abbrev pub is_put_with : ℕ → Asked → Bool
is_put_with ticket a = a.put && a.ticket == ticket

-- a message is put while the link is Normal, but for what gives up a request whose Ask was put
abbrev pub PutOn : Up → AppEnd → Type 0
PutOn (up.Hello app dial) e = is_normal e.link ≡ true
PutOn (up.Recover app session epoch taken dial) e = is_normal e.link ≡ true
PutOn (up.Update w job txn op) e = is_normal e.link ≡ true
PutOn (up.Add w job key amount) e = is_normal e.link ≡ true
PutOn (up.Fetch key) e = is_normal e.link ≡ true
PutOn (up.Ask ticket job mode key) e = is_normal e.link ≡ true
PutOn (up.Unlock job mode key) e = is_normal e.link ≡ true
PutOn (up.Cancel ticket) e = IsSomeAnd e.session (λ s. list_any (is_put_with ticket) s.asks ≡ true)
PutOn (up.Commit w job txn wanted) e = is_normal e.link ≡ true
PutOn (up.Rollback w job txn) e = is_normal e.link ≡ true
PutOn (up.Sync ticket) e = is_normal e.link ≡ true
PutOn up.Done e = is_normal e.link ≡ true
PutOn (up.Claim job mode number at key) e = is_normal e.link ≡ true
PutOn up.Bare e = is_normal e.link ≡ true

-- it gives up no request
abbrev pub IsNoCancel : Up → Type 0
IsNoCancel (up.Hello app dial) = Unit {0}
IsNoCancel (up.Recover app session epoch taken dial) = Unit {0}
IsNoCancel (up.Update w job txn op) = Unit {0}
IsNoCancel (up.Add w job key amount) = Unit {0}
IsNoCancel (up.Fetch key) = Unit {0}
IsNoCancel (up.Ask ticket job mode key) = Unit {0}
IsNoCancel (up.Unlock job mode key) = Unit {0}
IsNoCancel (up.Cancel ticket) = ⊥
IsNoCancel (up.Commit w job txn wanted) = Unit {0}
IsNoCancel (up.Rollback w job txn) = Unit {0}
IsNoCancel (up.Sync ticket) = Unit {0}
IsNoCancel up.Done = Unit {0}
IsNoCancel (up.Claim job mode number at key) = Unit {0}
IsNoCancel up.Bare = Unit {0}

pub put_on : (m : Up) (e : AppEnd) → IsNoCancel m → is_normal e.link ≡ true → PutOn m e
put_on (up.Hello app dial) e keeps up = up
put_on (up.Recover app session epoch taken dial) e keeps up = up
put_on (up.Update w job txn op) e keeps up = up
put_on (up.Add w job key amount) e keeps up = up
put_on (up.Fetch key) e keeps up = up
put_on (up.Ask ticket job mode key) e keeps up = up
put_on (up.Unlock job mode key) e keeps up = up
put_on (up.Cancel ticket) e keeps up = absurd keeps
put_on (up.Commit w job txn wanted) e keeps up = up
put_on (up.Rollback w job txn) e keeps up = up
put_on (up.Sync ticket) e keeps up = up
put_on up.Done e keeps up = up
put_on (up.Claim job mode number at key) e keeps up = up
put_on up.Bare e keeps up = up

-- What is known where it is made: a connection is tried for a pair without a session.
abbrev pub MayMake : JobPiece → Sofar → Type 0
MayMake (Writes a) b = IsOfJob a
MayMake (Tries d) b = is_free (end_at b.state d).link ≡ true
MayMake (Notes d n) b = IfSome (end_at b.state d).session (NoteMay n) × NoteOn n (end_at b.state d).link
MayMake (Tickets d) b = Unit {0}
MayMake (Puts d m) b = IsPutByJob m × HasSession (end_at b.state d) × PutOn m (end_at b.state d)

-- several, one after the other
abbrev pub all_made : List JobPiece → Sofar → Sofar
all_made [] b = b
all_made (p ∷ ps) b = all_made ps (made_by p b)

abbrev pub AllMay : List JobPiece → Sofar → Type 0
AllMay [] b = Unit {0}
AllMay (p ∷ ps) b = MayMake p b × AllMay ps (made_by p b)

-- a step goes on by pieces
pub record GoesOn (b c : Sofar) : Type 0 where
  pub pieces : List JobPiece
  pub may : AllMay pieces b
  pub after : c ≡ all_made pieces b

pub goes_same : (b : Sofar) → GoesOn b b
goes_same b = record { pieces = []; may = tt; after = refl }

pub goes_by : (p : JobPiece) (b : Sofar) → MayMake p b → GoesOn b (made_by p b)
goes_by p b may = record { pieces = p ∷ []; may = (may, tt); after = refl }

made_joined : (ps qs : List JobPiece) (b : Sofar) → all_made (ps ++ qs) b ≡ all_made qs (all_made ps b)
made_joined [] qs b = refl
made_joined (p ∷ ps) qs b = made_joined ps qs (made_by p b)

may_joined : (ps qs : List JobPiece) (b : Sofar) → AllMay ps b → AllMay qs (all_made ps b) → AllMay (ps ++ qs) b
may_joined [] qs b first then = then
may_joined (p ∷ ps) qs b first then = (first.0, may_joined ps qs (made_by p b) first.1 then)

pub goes_then : {b c e : Sofar} → GoesOn b c → GoesOn c e → GoesOn b e
goes_then {b} {c} {e} x y = record {
  pieces = x.pieces ++ y.pieces;
  may = may_joined x.pieces y.pieces b x.may (subst (λ s. AllMay y.pieces s) x.after y.may);
  after = y.after ∙ ap (λ s. all_made y.pieces s) x.after ∙ sym (made_joined x.pieces y.pieces b);
}

-- What each piece keeps a step keeps.
pub kept_by_pieces : (I : Sofar → Type 0) → ((p : JobPiece) (b : Sofar) → MayMake p b → I b → I (made_by p b))
    → (ps : List JobPiece) (b : Sofar) → AllMay ps b → I b → I (all_made ps b)
kept_by_pieces I each [] b may holds = holds
kept_by_pieces I each (p ∷ ps) b may holds = kept_by_pieces I each ps (made_by p b) may.1 (each p b may.0 holds)

-- no piece changes the link of an end

link_of_end : (d k : ℕ) (e : AppEnd) (a : AppState) → e.link ≡ (end_at a d).link → (end_at (with_end d e a) k).link ≡ (end_at a k).link
link_of_end d k e a same =
    at_end (λ (x : AppEnd). x.link ≡ (end_at a k).link) d k e a (λ here. same ∙ ap (λ n. (end_at a n).link) (sym here)) refl

link_tells : (t : Bool) (d k seq : ℕ) (m : Up) (b : Sofar) → (end_at (tells_if t d seq m b).state k).link ≡ (end_at b.state k).link
link_tells true d k seq m b = link_of_end d k _ b.state refl
link_tells false d k seq m b = refl

link_tries : (t : Bool) (d k : ℕ) (b : Sofar) → (end_at (tries_if t d b).state k).link ≡ (end_at b.state k).link
link_tries true d k b = link_of_end d k _ b.state refl
link_tries false d k b = refl

pub link_by : (p : JobPiece) (b : Sofar) (k : ℕ) → (end_at (made_by p b).state k).link ≡ (end_at b.state k).link
link_by (Writes a) b k = refl
link_by (Tries d) b k = link_tries (is_apart (end_at b.state d).line) d k b
link_by (Notes d n) b k = link_of_end d k _ b.state refl
link_by (Tickets d) b k = link_of_end d k _ b.state refl
link_by (Puts d m) b k =
    link_tells (is_joined (end_at b.state d).line) d k _ m (sets d (with_window (λ w. with_sent w m)) b)
    ∙ link_of_end d k _ b.state refl

link_by_all : (ps : List JobPiece) (b : Sofar) (k : ℕ) → (end_at (all_made ps b).state k).link ≡ (end_at b.state k).link
link_by_all [] b k = refl
link_by_all (p ∷ ps) b k = link_by_all ps (made_by p b) k ∙ link_by p b k

-- So a connection that is Normal stays so.
pub stays_up : {b c : Sofar} → GoesOn b c → (k : ℕ) → is_normal (end_at b.state k).link ≡ true → is_normal (end_at c.state k).link ≡ true
stays_up {b} {c} g k up =
    subst (λ (s : Sofar). is_normal (end_at s.state k).link ≡ true) (sym g.after) (ap is_normal (link_by_all g.pieces b k) ∙ up)

-- a session that is there stays, whatever is noted in it
pub session_stays : (d : ℕ) (f : Session → Session) (b : Sofar) → is_some (end_at b.state d).session ≡ true → is_some (end_at (sets d f b).state d).session ≡ true
session_stays d f b there =
    at_end (λ (e : AppEnd). is_some e.session ≡ true) d d (with_session f (end_at b.state d)) b.state (λ same. go (end_at b.state d).session there) there
  where
    go : (o : Option Session) → is_some o ≡ true → is_some (option_map f o) ≡ true
    go None has = has
    go (Some s) has = refl
