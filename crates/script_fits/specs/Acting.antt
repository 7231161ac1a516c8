-- Commands that issue one item, read one node, or wait for what was issued: the acts that each does at its line, and the answer of these.
use Rattle.std.specs.Prelude.{◌≡◌, ◌⊎◌, ℕ, ℤ, List, [], ◌∷◌, Option}
use Rattle.plain_orders.specs.declared.act.Act.{Act}
use Rattle.plain_orders.specs.declared.act.Act.TheVariants.{Issue, Read, Counted, NotWhole, Range, Reached, Done}
use Rattle.plain_orders.specs.declared.item.Item.{Item}
use Rattle.plain_orders.specs.declared.item.Item.TheVariants.{Op as OpItem}
use Rattle.plain_orders.specs.declared.op.Op.TheVariants.{Add as AddOp}
use Rattle.plain_orders.specs.declared.question.Question.TheVariants.{Get as GetQuestion, Shape as ShapeQuestion, Next as NextQuestion}
use Rattle.plain_orders.specs.declared.via.Via.{Via}
use Rattle.subscript_keys.specs.declared.sub.Sub.{Sub}
use Rattle.app_job.specs.declared.answer.Answer.{Answer}
use Rattle.app_job.specs.declared.answer.Answer.TheVariants.{Queued, Value, Shape as ShapeAnswer, Next as NextAnswer, Counted as CountedAnswer, Done as DoneAnswer, Refused as RefusedAnswer}
use Rattle.app_job.specs.declared.refusal.Refusal.TheVariants.{NotWhole as NotWholeRefusal, Range as RangeRefusal}
use Rattle.app_job.specs.Sites.{Site}

-- an item is issued, and its number is the answer
abbrev pub Issues : ℕ → ℕ → ℕ → Item → List Act → Answer → Type 0
Issues job line server item acts answer =
    (w : ℕ) × (acts ≡ Issue job line server w item ∷ []) × (answer ≡ Queued (record { server = server; number = w } ∷ []))

-- a get is read
abbrev pub Gets : ℕ → ℕ → Site → List Act → Answer → Type 0
Gets job line at acts answer =
    (n : ℕ) × (via : Via) × (value : Option (List ℕ))
    × (acts ≡ Read job line at.server n via (GetQuestion at.key value) ∷ []) × (answer ≡ Value value n via)

-- a shape is read
abbrev pub Shapes : ℕ → ℕ → Site → List Act → Answer → Type 0
Shapes job line at acts answer =
    (n : ℕ) × (via : Via) × (code : ℕ)
    × (acts ≡ Read job line at.server n via (ShapeQuestion at.key code) ∷ []) × (answer ≡ ShapeAnswer code n via)

-- a next is read
abbrev pub Nexts : ℕ → ℕ → Site → Option Sub → List Act → Answer → Type 0
Nexts job line parent sub acts answer =
    (n : ℕ) × (via : Via) × (found : Option Sub)
    × (acts ≡ Read job line parent.server n via (NextQuestion parent.key sub found) ∷ []) × (answer ≡ NextAnswer found n via)

-- the end of an increment: its sum, or why it has none
abbrev pub IsSumAct : ℕ → ℕ → ℕ → Act → Answer → Type 0
IsSumAct job line server act answer =
    ((n : ℕ) × (sum : ℤ) × (act ≡ Counted job line server n sum) × (answer ≡ CountedAnswer sum n))
    ⊎ (((n : ℕ) × (act ≡ NotWhole job line server n) × (answer ≡ RefusedAnswer (NotWholeRefusal n)))
    ⊎ ((n : ℕ) × (act ≡ Range job line server n) × (answer ≡ RefusedAnswer (RangeRefusal n))))

-- an increment is issued
abbrev pub IssuesAdd : ℕ → ℕ → Site → ℤ → List Act → Type 0
IssuesAdd job line at amount acts = (w : ℕ) × (acts ≡ Issue job line at.server w (OpItem (AddOp at.key amount)) ∷ [])

-- an increment is issued, and answered
abbrev pub Counts : ℕ → ℕ → Site → ℤ → List Act → Answer → Type 0
Counts job line at amount acts answer =
    (w : ℕ) × (end : Act) × (acts ≡ Issue job line at.server w (OpItem (AddOp at.key amount)) ∷ end ∷ []) × IsSumAct job line at.server end answer

-- all that the job issued at a data server is there
abbrev pub Reaches : ℕ → ℕ → ℕ → List Act → Answer → Type 0
Reaches job line server acts answer = (n : ℕ) × (acts ≡ Reached job line server n ∷ Done job line ∷ []) × (answer ≡ DoneAnswer)
