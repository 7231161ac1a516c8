-- An act has at most one text, and so has an answer and a piece.
use Rattle.std.proofs.Common.{◌≡◌, ℕ, List, [], ◌∷◌, ◌++◌, Option, None, Some, sym, ap, ◌∙◌}
use Rattle.std.specs.Prelude.{codes}
use Rattle.subscript_keys.specs.declared.sub.Sub.{Sub}
use Rattle.subscript_keys.proofs.Ties.{one-node}
use Rattle.global_text.specs.Nodes.{node_text}
use Rattle.global_text.specs.Printed.{IsPrinted}
use Rattle.global_text.proofs.PrintedReads.{one-printed}
use Rattle.plain_orders.specs.declared.layout.Names.{Names}
use Rattle.plain_orders.specs.declared.mode.Mode.{Mode}
use Rattle.plain_orders.specs.declared.op.Op.{Op}
use Rattle.plain_orders.specs.declared.op.Op.TheVariants.{Set, Kill, Add}
use Rattle.plain_orders.specs.declared.entry.Entry.{Entry}
use Rattle.plain_orders.specs.declared.entry.Entry.TheVariants.{Epoch, Opened as OpenEntry, Closed, Update, Commit, Rollback}
use Rattle.plain_orders.specs.declared.item.Item.{Item}
use Rattle.plain_orders.specs.declared.item.Item.TheVariants.{Op as OpItem, Commit as CommitItem, Rollback as RollbackItem}
use Rattle.plain_orders.specs.declared.question.Question.{Question}
use Rattle.plain_orders.specs.declared.question.Question.TheVariants.{Get, Shape, Next}
use Rattle.plain_orders.specs.declared.act.Act.{Act}
use Rattle.plain_orders.specs.declared.act.Act.TheVariants.{Opened, Enter, Synced, Shut, Release, Met, Told, Back, Crash, Issue, Read, Grant, Granted, GiveUp, Quit, Free, Counted, NotWhole, Range, Committed, RolledBack, Reached, Level, Done, Refused, Broke, Mended, Tick, Lose, Died}
use Rattle.app_job.specs.declared.answer.Answer.{Answer}
use Rattle.app_job.specs.declared.answer.Answer.TheVariants.{Queued as QueuedAnswer, Value as ValueAnswer, Shape as ShapeAnswer, Next as NextAnswer, Counted as CountedAnswer, Granted as GrantedAnswer, Done as DoneAnswer, Committed as CommittedAnswer, RolledBack as RolledBackAnswer, Waiting as WaitingAnswer, Refused as RefusedAnswer}
use Rattle.transcript.specs.Parts.{field, fields, signed_field, name_at, via_word, mode_word, or_empty, found_text, below, IsValueText, IsKeyText, IsBehindText}
use Rattle.transcript.specs.AnswerText.{held_text, IsAnswerOf, IsAnswerLine}
use Rattle.transcript.specs.declared.piece.Piece.{Piece}
use Rattle.transcript.specs.declared.piece.Piece.TheVariants.{Answered, Pumped, Restarted as RestartedPiece, Halted, Gone}
use Rattle.transcript.specs.PieceText.{IsPieceLine}
use Rattle.transcript.specs.ActText.{IsOpText, IsEntryText, IsItemText, IsQuestionText, IsLockText, IsActText, AreEntryLines, entries_behind, AreActLines}

-- a node by its key
one-key : (key a b : List ℕ) → IsKeyText key a → IsKeyText key b → a ≡ b
one-key key a b p q = p.3 ∙ ap node_text (one-node p.0 q.0 p.1 q.1 (p.2 ∙ sym q.2)) ∙ sym q.3

-- with a subscript more
one-behind : (key : List ℕ) (sub : Option Sub) (a b : List ℕ) → IsBehindText key sub a → IsBehindText key sub b → a ≡ b
one-behind key sub a b p q = p.3 ∙ ap (λ n. node_text (below n (or_empty sub))) (one-node p.0 q.0 p.1 q.1 (p.2 ∙ sym q.2)) ∙ sym q.3

-- a value or none
one-value : (value : Option (List ℕ)) (a b : List ℕ) → IsValueText value a → IsValueText value b → a ≡ b
one-value None a b p q = p ∙ sym q
one-value (Some value) a b p q = one-printed value a b p q

-- a text with one other in it
within : (P : List ℕ → Type 0) (whole : List ℕ → List ℕ) → ((a b : List ℕ) → P a → P b → a ≡ b) → (a b : List ℕ) → ((s : List ℕ) × P s × (a ≡ whole s)) → ((s : List ℕ) × P s × (b ≡ whole s)) → a ≡ b
within P whole one a b p q = p.2 ∙ ap whole (one p.0 q.0 p.1 q.1) ∙ sym q.2

-- a text with two others in it
within-two : (P Q : List ℕ → Type 0) (whole : List ℕ → List ℕ → List ℕ) → ((a b : List ℕ) → P a → P b → a ≡ b) → ((a b : List ℕ) → Q a → Q b → a ≡ b) → (a b : List ℕ)
    → ((s : List ℕ) × (t : List ℕ) × P s × Q t × (a ≡ whole s t)) → ((s : List ℕ) × (t : List ℕ) × P s × Q t × (b ≡ whole s t)) → a ≡ b
within-two P Q whole one other a b p q = p.4 ∙ ap (λ s. whole s p.1) (one p.0 q.0 p.2 q.2) ∙ ap (λ t. whole q.0 t) (other p.1 q.1 p.3 q.3) ∙ sym q.4

one-op : (op : Op) (a b : List ℕ) → IsOpText op a → IsOpText op b → a ≡ b
one-op (Set key value) = within-two (IsKeyText key) (IsPrinted value) (λ node shown. codes "set " ++ (node ++ (32 ∷ shown))) (one-key key) (one-printed value)
one-op (Kill key) = within (IsKeyText key) (λ node. codes "kill " ++ node) (one-key key)
one-op (Add key amount) = within (IsKeyText key) (λ node. codes "add " ++ (node ++ signed_field amount)) (one-key key)

one-entry : (entry : Entry) (a b : List ℕ) → IsEntryText entry a → IsEntryText entry b → a ≡ b
one-entry (Epoch number) a b p q = p ∙ sym q
one-entry (OpenEntry session app) a b p q = p ∙ sym q
one-entry (Closed session) a b p q = p ∙ sym q
one-entry (Update session w job txn op) a b p q = within (IsOpText op) (λ shown. codes "update" ++ (fields (session ∷ w ∷ job ∷ txn ∷ []) ++ (32 ∷ shown))) (one-op op) a b p q
one-entry (Commit session w job txn) a b p q = p ∙ sym q
one-entry (Rollback session w job txn) a b p q = p ∙ sym q

one-item : (item : Item) (a b : List ℕ) → IsItemText item a → IsItemText item b → a ≡ b
one-item (OpItem op) a b p q = one-op op a b p q
one-item (CommitItem txn) a b p q = p ∙ sym q
one-item (RollbackItem txn) a b p q = p ∙ sym q

one-question : (question : Question) (a b : List ℕ) → IsQuestionText question a → IsQuestionText question b → a ≡ b
one-question (Get key value) = within-two (IsKeyText key) (IsValueText value) (λ node shown. codes "get " ++ (node ++ (32 ∷ shown))) (one-key key) (one-value value)
one-question (Shape key code) = within (IsKeyText key) (λ node. codes "data " ++ (node ++ field code)) (one-key key)
one-question (Next parent sub found) = within (IsBehindText parent sub) (λ node. codes "next " ++ (node ++ (32 ∷ found_text found))) (one-behind parent sub)

one-lock : (mode : Mode) (key a b : List ℕ) → IsLockText mode key a → IsLockText mode key b → a ≡ b
unfolding IsLockText
one-lock mode key = within (IsKeyText key) (λ node. mode_word mode ++ (32 ∷ node)) (one-key key)

one-act : (act : Act) (a b : List ℕ) → IsActText act a → IsActText act b → a ≡ b
one-act (Enter server entry) a b p q = within (IsEntryText entry) (λ shown. codes "enter" ++ (field server ++ (32 ∷ shown))) (one-entry entry) a b p q
one-act (Issue job line server w item) a b p q = within (IsItemText item) (λ shown. codes "issue" ++ (fields (job ∷ line ∷ server ∷ w ∷ []) ++ (32 ∷ shown))) (one-item item) a b p q
one-act (Read job line server at via question) a b p q =
    within (IsQuestionText question) (λ shown. codes "read" ++ (fields (job ∷ line ∷ server ∷ at ∷ []) ++ (32 ∷ (via_word via ++ (32 ∷ shown))))) (one-question question) a b p q
one-act (Grant server session job mode key at) a b p q =
    within (IsLockText mode key) (λ shown. codes "grant" ++ (fields (server ∷ session ∷ job ∷ []) ++ (32 ∷ (shown ++ field at)))) (one-lock mode key) a b p q
one-act (GiveUp job line server mode key) a b p q = within (IsLockText mode key) (λ shown. codes "giveup" ++ (fields (job ∷ line ∷ server ∷ []) ++ (32 ∷ shown))) (one-lock mode key) a b p q
one-act (Quit job line server mode key) a b p q = within (IsLockText mode key) (λ shown. codes "quit" ++ (fields (job ∷ line ∷ server ∷ []) ++ (32 ∷ shown))) (one-lock mode key) a b p q
one-act (Free server session job mode key) a b p q = within (IsLockText mode key) (λ shown. codes "free" ++ (fields (server ∷ session ∷ job ∷ []) ++ (32 ∷ shown))) (one-lock mode key) a b p q
one-act (Opened server entries) a b p q = p ∙ sym q
one-act (Synced server length) a b p q = p ∙ sym q
one-act (Shut server session cause) a b p q = p ∙ sym q
one-act (Release server session) a b p q = p ∙ sym q
one-act (Met app server session) a b p q = p ∙ sym q
one-act (Told app server session epoch kept) a b p q = p ∙ sym q
one-act (Back server) a b p q = p ∙ sym q
one-act (Crash server kept) a b p q = p ∙ sym q
one-act (Granted job line server at) a b p q = p ∙ sym q
one-act (Counted job line server at sum) a b p q = p ∙ sym q
one-act (NotWhole job line server at) a b p q = p ∙ sym q
one-act (Range job line server at) a b p q = p ∙ sym q
one-act (Committed job line server at) a b p q = p ∙ sym q
one-act (RolledBack job line server at) a b p q = p ∙ sym q
one-act (Reached job line server at) a b p q = p ∙ sym q
one-act (Level job line level) a b p q = p ∙ sym q
one-act (Done job line) a b p q = p ∙ sym q
one-act (Refused job line refused) a b p q = p ∙ sym q
one-act (Broke app server end time) a b p q = p ∙ sym q
one-act (Mended app server) a b p q = p ∙ sym q
one-act (Tick time) a b p q = p ∙ sym q
one-act (Lose app server loss) a b p q = p ∙ sym q
one-act (Died app) a b p q = p ∙ sym q

one-lines : (entries : List Entry) (a b : List ℕ) → AreEntryLines entries a → AreEntryLines entries b → a ≡ b
one-lines [] a b p q = p ∙ sym q
one-lines (e ∷ entries) a b p q = within-two (IsEntryText e) (AreEntryLines entries) (λ shown rest. codes "entry " ++ (shown ++ (10 ∷ rest))) (one-entry e) (one-lines entries) a b p q

-- an act has at most one text
pub one-act-text : (act : Act) (a b : List ℕ) → AreActLines act a → AreActLines act b → a ≡ b
one-act-text act = within-two (IsActText act) (AreEntryLines (entries_behind act)) (λ line rest. line ++ (10 ∷ rest)) (one-act act) (one-lines (entries_behind act))

one-answer : (names : Names) (answer : Answer) (a b : List ℕ) → IsAnswerOf names answer a → IsAnswerOf names answer b → a ≡ b
one-answer names (ValueAnswer value at via) a b p q = within (IsValueText value) (λ shown. codes "value " ++ (shown ++ held_text at via)) (one-value value) a b p q
one-answer names (QueuedAnswer places) a b p q = p ∙ sym q
one-answer names (ShapeAnswer code at via) a b p q = p ∙ sym q
one-answer names (NextAnswer sub at via) a b p q = p ∙ sym q
one-answer names (CountedAnswer sum at) a b p q = p ∙ sym q
one-answer names (GrantedAnswer at) a b p q = p ∙ sym q
one-answer names (CommittedAnswer places) a b p q = p ∙ sym q
one-answer names (RolledBackAnswer places) a b p q = p ∙ sym q
one-answer names (WaitingAnswer why) a b p q = p ∙ sym q
one-answer names (RefusedAnswer refusal) a b p q = p ∙ sym q
one-answer names DoneAnswer a b p q = p ∙ sym q

-- an answer's line has at most one text
pub one-answer-text : (names : Names) (job line : ℕ) (answer : Answer) (a b : List ℕ) → IsAnswerLine names job line answer a → IsAnswerLine names job line answer b → a ≡ b
one-answer-text names job line answer = within (IsAnswerOf names answer) (λ shown. name_at names.jobs job ++ (field line ++ (32 ∷ (shown ++ 10 ∷ [])))) (one-answer names answer)

-- a piece's line has at most one text
pub one-piece-text : (names : Names) (piece : Piece) (a b : List ℕ) → IsPieceLine names piece a → IsPieceLine names piece b → a ≡ b
one-piece-text names (Answered answered) a b p q = one-answer-text names answered.job answered.line answered.answer a b p q
one-piece-text names (Pumped line left) a b p q = p ∙ sym q
one-piece-text names (RestartedPiece server line outcome) a b p q = p ∙ sym q
one-piece-text names (Halted server line) a b p q = p ∙ sym q
one-piece-text names (Gone job line) a b p q = p ∙ sym q
