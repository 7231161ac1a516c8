-- What a job may read without its application server's lock: what that published, and what the job knew after its last step.
use Rattle.std.specs.Prelude.{◌≡◌, ℕ, Bool, true, false, ◌==◌, ◌&&◌, List, [], map, length, nat_lt, Option, Some, None, is_some, get_or}
use Rattle.std.specs.List.{find, filter, range_with_len}
use Rattle.std.specs.Option.{option_map}
use Rattle.subscript_keys.specs.declared.run.Run.{Run}
use Rattle.plain_orders.specs.Own.{touches_own}
use Rattle.ecp_messages.specs.declared.down.Down.{Down}
use Rattle.ecp_messages.specs.declared.down.Down.TheVariants.{Welcome, Reset, Block, Drop, Ack, Grant, Answer, Normal, Bare}
use Rattle.block_bytes.specs.Blocks.{IsBlockOf}
use Rattle.end_words.specs.Runs.{covers}
use Rattle.block_cache.specs.CacheWords.{with_block, without_met}
use Rattle.block_cache.specs.declared.front.Front.{Front}
use Rattle.app_rules.specs.AppState.{AppState, Session}
use Rattle.app_rules.specs.declared.session_parts.Late.{Late}
use Rattle.app_rules.specs.Works.{end_at, session_of, is_late}
use Rattle.app_rules.specs.JobState.{JobState, used_at}
use Rattle.app_rules.specs.Refusing.{loss_of, is_rollback_only}
use Rattle.app_rules.specs.Issuing.{is_late_of, number_in, op_in}
use Rattle.app_rules.specs.Ending.{is_session}

-- what was published of a data server: the front of the last change, and the runs, without uses
pub record Shown : Type 0 where
  pub front : Option Front
  pub runs : List Run

-- what a job knew of a data server: the pair's session, whether it had a loss to be told of, and its own updates that hadn't entered
pub record Known : Type 0 where
  pub session : Option ℕ
  pub has_loss : Bool
  pub late : List Late

-- what a job knew after its last step: whether it had only to roll back, and of each data server
pub record View : Type 0 where
  pub rollback_only : Bool
  pub servers : List Known

-- nothing was published yet
abbrev pub nothing_shown : Shown
nothing_shown = record { front = None; runs = [] }

-- the pair has no session, and the job nothing to be told
abbrev pub nothing_known : Known
nothing_known = record { session = None; has_loss = false; late = [] }

-- the front of a session
abbrev pub shown_front : Session → Front
shown_front s = record { session = s.number; epoch = s.epoch; n = s.n; w = s.w }

-- a session's last front, with a length above all that it told
abbrev pub last_front : Session → ℕ → Front
last_front s n = record { session = s.number; epoch = s.epoch; n = n; w = s.w }

-- what a job knows of a data server after a step
abbrev pub known_of : AppState → JobState → ℕ → Known
known_of a j d =
    record {
      session = option_map number_in (end_at a d).session;
      has_loss = is_some (loss_of (end_at a d).lost (used_at j d));
      late = filter (is_late_of j.index) (session_of (end_at a d)).late;
    }

-- what a job knows after a step
abbrev pub view_of : AppState → JobState → View
view_of a j = record { rollback_only = is_rollback_only a j; servers = map (known_of a j) (range_with_len 0 (length a.ends)) }

-- what it knew of a data server
abbrev pub known_at : View → ℕ → Known
known_at v d = get_or v.servers d nothing_known

-- own updates above the front's number touch the node
abbrev pub has_own_at : Known → ℕ → List ℕ → Bool
has_own_at k w key = touches_own (map op_in (filter (is_late w) k.late)) key

-- A get may be answered from what is shown: the front is of the session that the job knew, no loss is untold, no own update decides.
pub record LookMay (v : View) (x : Shown) (d : ℕ) (key : List ℕ) (front : Front) (run : Run) : Type 0 where
  pub unflagged : v.rollback_only ≡ false
  pub unlost : (known_at v d).has_loss ≡ false
  pub shown : x.front ≡ Some front
  pub covered : find (covers key) x.runs ≡ Some run
  pub its : is_session (known_at v d).session front.session ≡ true
  pub undecided : has_own_at (known_at v d) front.w key ≡ false

-- a Block's run is shown in front of the others
pub record ShowsBlock (old : Shown) (front : Front) (block : List ℕ) (new : Shown) : Type 0 where
  pub run : Run
  pub its : IsBlockOf run block
  pub after : new ≡ record { front = Some front; runs = with_block run old.runs }

-- what is shown after a numbered message, whose front is given
abbrev pub ShowsMessage : Down → Front → Shown → Shown → Type 0
ShowsMessage (Welcome session epoch kept f taken) front old new = new ≡ old
ShowsMessage (Reset session at) front old new = new ≡ old
ShowsMessage (Block f block) front old new = ShowsBlock old front block new
ShowsMessage (Drop f lo hi) front old new = new ≡ record { front = Some front; runs = without_met (record { lo = lo; hi = hi }) old.runs }
ShowsMessage (Ack f) front old new = new ≡ record { front = Some front; runs = old.runs }
ShowsMessage (Grant f ticket at) front old new = new ≡ record { front = Some front; runs = old.runs }
ShowsMessage (Answer f about job number at sum) front old new = new ≡ record { front = Some front; runs = old.runs }
ShowsMessage (Normal f) front old new = new ≡ record { front = Some front; runs = old.runs }
ShowsMessage Bare front old new = new ≡ old

-- a fresh numbered message was taken of the session
abbrev pub took_one : Session → Session → Bool
took_one old new = old.number == new.number && old.epoch == new.epoch && nat_lt old.window.taken new.window.taken

-- a frame that was taken shows a change where it was a fresh numbered one
abbrev pub ShowsFrame : Bool → Down → Session → Shown → Shown → Type 0
ShowsFrame true m s old new = ShowsMessage m (shown_front s) old new
ShowsFrame false m s old new = new ≡ old

-- nothing but this front is shown
abbrev pub cleared : Option Front → Shown
cleared front = record { front = front; runs = [] }

-- in the same epoch a message may show a change; a new epoch clears all
abbrev pub ShowsSession : Bool → Session → Session → Down → Shown → Shown → Type 0
ShowsSession true s t m old new = ShowsFrame (took_one s t) m t old new
ShowsSession false s t m old new = new ≡ cleared (Some (shown_front t))

-- what a frame shows, by what the end had of its session before and after
abbrev pub ShowsEnd : Option Session → Option Session → Down → ℕ → Shown → Shown → Type 0
ShowsEnd None after m greatest old new = new ≡ old
ShowsEnd (Some s) None m greatest old new = new ≡ cleared (Some (last_front s greatest))
ShowsEnd (Some s) (Some t) m greatest old new = ShowsSession (s.epoch == t.epoch) s t m old new
