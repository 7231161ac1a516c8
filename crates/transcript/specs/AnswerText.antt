-- The text of answers.
use Rattle.std.specs.Prelude.{◌≡◌, ℕ, List, [], ◌∷◌, ◌++◌, codes, IfSome}
use Rattle.std.specs.List.{flat_map}
use Rattle.std.specs.Fmt.{decimal, signed_decimal}
use Rattle.subscript_keys.specs.Key.{IsSub}
use Rattle.plain_orders.specs.declared.layout.Names.{Names}
use Rattle.plain_orders.specs.declared.via.Via.{Via}
use Rattle.app_job.specs.declared.place.Place.{Place}
use Rattle.app_job.specs.declared.why.Why.{Why}
use Rattle.app_job.specs.declared.why.Why.TheVariants.{State, Queue, Own, Fetch, Grant, Reply}
use Rattle.app_job.specs.declared.reason.Reason.{Reason}
use Rattle.app_job.specs.declared.reason.Reason.TheVariants.{Reset, Expired, NoWay}
use Rattle.app_job.specs.declared.refusal.Refusal.{Refusal}
use Rattle.app_job.specs.declared.refusal.Refusal.TheVariants.{Network, RollbackOnly, NotWhole, Range, NoTransaction, TooDeep, LockTimeout}
use Rattle.app_job.specs.declared.answer.Answer.{Answer}
use Rattle.app_job.specs.declared.answer.Answer.TheVariants.{Queued, Value, Shape, Next, Counted, Granted, Done, Committed, RolledBack, Waiting, Refused}
use Rattle.transcript.specs.Parts.{field, name_at, via_word, link_word, IsValueText, found_text}

-- the length of the prefix at which an answer holds
abbrev pub at_text : ℕ → List ℕ
at_text at = codes " @" ++ decimal at

-- that length, and where the answer came from
abbrev pub held_text : ℕ → Via → List ℕ
held_text at via = at_text at ++ (32 ∷ via_word via)

-- a space, a data server's name, a mark and a number
abbrev pub place_text : List (List ℕ) → ℕ → Place → List ℕ
place_text servers mark place = 32 ∷ (name_at servers place.server ++ (mark ∷ decimal place.number))

-- the running numbers of what was issued (an update, an increment, a Commit or a Rollback), a colon before each
abbrev pub numbers_text : List (List ℕ) → List Place → List ℕ
numbers_text servers places = flat_map (place_text servers 58) places

-- positions in update lists, an @ before each
abbrev pub positions_text : List (List ℕ) → List Place → List ℕ
positions_text servers places = flat_map (place_text servers 64) places

-- what a command waits for
abbrev pub why_word : Why → List ℕ
why_word State = codes "state"
why_word Queue = codes "queue"
why_word Own = codes "own"
why_word Fetch = codes "fetch"
why_word Grant = codes "grant"
why_word Reply = codes "reply"

-- why a session was lost or no connection could be made
abbrev pub reason_word : Reason → List ℕ
reason_word (Reset at) = codes "reset"
reason_word (Expired broke now) = codes "expired"
reason_word (NoWay before after) = codes "noway"

-- a refusal
abbrev pub refusal_text : List (List ℕ) → Refusal → List ℕ
refusal_text servers (Network server state reason) = codes "network " ++ (name_at servers server ++ (32 ∷ (link_word state ++ (32 ∷ reason_word reason))))
refusal_text servers RollbackOnly = codes "rollbackonly"
refusal_text servers (NotWhole at) = codes "notwhole" ++ at_text at
refusal_text servers (Range at) = codes "range" ++ at_text at
refusal_text servers NoTransaction = codes "notransaction"
refusal_text servers TooDeep = codes "toodeep"
refusal_text servers LockTimeout = codes "locktimeout"

-- an answer
abbrev pub IsAnswerOf : Names → Answer → List ℕ → Type 0
IsAnswerOf names (Queued places) text = text ≡ codes "queued" ++ numbers_text names.servers places
IsAnswerOf names (Value value at via) text = (shown : List ℕ) × IsValueText value shown × (text ≡ codes "value " ++ (shown ++ held_text at via))
IsAnswerOf names (Shape code at via) text = text ≡ codes "data" ++ (field code ++ held_text at via)
IsAnswerOf names (Next sub at via) text = text ≡ codes "next " ++ (found_text sub ++ held_text at via)
IsAnswerOf names (Counted sum at) text = text ≡ codes "counted " ++ (signed_decimal sum ++ at_text at)
IsAnswerOf names (Granted at) text = text ≡ codes "granted" ++ at_text at
IsAnswerOf names Done text = text ≡ codes "done"
IsAnswerOf names (Committed places) text = text ≡ codes "committed" ++ positions_text names.servers places
IsAnswerOf names (RolledBack places) text = text ≡ codes "rolledback" ++ positions_text names.servers places
IsAnswerOf names (Waiting why) text = text ≡ codes "waiting " ++ why_word why
IsAnswerOf names (Refused refusal) text = text ≡ codes "refused " ++ refusal_text names.servers refusal

-- the line of an answer: the job's name, the line's number, the answer
abbrev pub IsAnswerLine : Names → ℕ → ℕ → Answer → List ℕ → Type 0
IsAnswerLine names job line answer text = (shown : List ℕ) × IsAnswerOf names answer shown × (text ≡ name_at names.jobs job ++ (field line ++ (32 ∷ (shown ++ 10 ∷ []))))

-- an answer can be printed where its subscript is one that a node may have, so not the empty text
abbrev pub CanPrintAnswer : Answer → Type 0
CanPrintAnswer (Next sub at via) = IfSome sub IsSub
CanPrintAnswer answer = Unit {0}
