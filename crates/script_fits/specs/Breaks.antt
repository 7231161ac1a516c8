-- Why connections broke: each end of a pair has at most as many breaks as causes came before; the rest goes with faults of the nets.
use Rattle.std.specs.Prelude.{◌≡◌, ◌⊎◌, ℕ, Bool, true, false, ◌==◌, ◌&&◌, ◌+◌, ◌-◌, ◌*◌, ◌≤◌, ◌^◌, if◌then◌else◌, List, [], ◌∷◌, sum, map}
use Rattle.std.specs.List.{flat_map, list_any, AllByRecursion}
use Rattle.plain_orders.specs.declared.act.Act.{Act}
use Rattle.plain_orders.specs.declared.act.Act.TheVariants.{Broke, Lose}
use Rattle.plain_orders.specs.declared.causes.Loss.{Loss}
use Rattle.plain_orders.specs.declared.causes.Loss.TheVariants.{Reset as ByReset, Expired as ByExpired, NoWay as ByNoWay}
use Rattle.plain_orders.specs.declared.causes.PairEnd.{PairEnd}
use Rattle.plain_orders.specs.declared.causes.PairEnd.TheVariants.{App as AppEnd, Server as ServerEnd}
use Rattle.job_script.specs.declared.script_line.ScriptLine.{ScriptLine}
use Rattle.job_script.specs.declared.todo.Todo.{Todo}
use Rattle.job_script.specs.declared.todo.Todo.TheVariants.{Job, Hold, Flow, Up, Down, Save, Pump, Tick, Break, Mend, Crash, Restart, Die, Await}
use Rattle.script_fits.specs.Pieces.{halt_in}
use Rattle.script_fits.specs.Walk.{Added, is_halted}

-- what a net counts, before and after a call: its faults, and its failed connects
pub record NetCounts : Type 0 where
  pub faults_before : ℕ
  pub faults_after : ℕ
  pub failed_before : ℕ
  pub failed_after : ℕ

-- by application server and data server: how many causes no break has used yet, at each end; and how many breaks had none
pub record Causes : Type 0 where
  pub app_end : ℕ → ℕ → ℕ
  pub server_end : ℕ → ℕ → ℕ
  pub unexplained : ℕ

-- none yet
abbrev pub no_causes : Causes
no_causes = record { app_end = λ app d. 0; server_end = λ app d. 0; unexplained = 0 }

-- a line breaks the pair of this application server and data server
abbrev pub is_cause : ℕ → ℕ → Todo → Bool
is_cause app d (Job job command) = false
is_cause app d Hold = false
is_cause app d Flow = false
is_cause app d (Up a s) = false
is_cause app d (Down a s) = false
is_cause app d (Save s) = false
is_cause app d Pump = false
is_cause app d (Tick count) = false
is_cause app d (Break a s) = a == app && s == d
is_cause app d (Mend a s) = false
is_cause app d (Crash s pick) = s == d
is_cause app d (Restart s) = false
is_cause app d (Die a) = a == app
is_cause app d (Await job) = false

-- one more, where this is so
abbrev pub one_more : Bool → ℕ → ℕ
one_more b n = if b then n + 1 else n

-- the causes that a line gives to a pair: itself, and a halt of the data server at it
abbrev pub causes_at : ScriptLine → Added → ℕ → ℕ → ℕ → ℕ
causes_at line added app d n = one_more (is_cause app d line.todo) (one_more (is_halted d (flat_map halt_in added.pieces)) n)

-- with the causes that a line gives, at both ends
abbrev pub with_causes : Causes → ScriptLine → Added → Causes
with_causes c line added = record c {
  app_end = λ app d. causes_at line added app d (c.app_end app d);
  server_end = λ app d. causes_at line added app d (c.server_end app d);
}

-- one less for this pair
abbrev pub one_less : (ℕ → ℕ → ℕ) → ℕ → ℕ → ℕ → ℕ → ℕ
one_less f app d a s = if a == app && s == d then f a s - 1 else f a s

-- an end breaks: it uses a cause, or has none
abbrev pub broken : Causes → ℕ → ℕ → PairEnd → Causes
broken c app d AppEnd =
    if c.app_end app d == 0 then record c { unexplained = c.unexplained + 1 } else record c { app_end = one_less c.app_end app d }
broken c app d ServerEnd =
    if c.server_end app d == 0 then record c { unexplained = c.unexplained + 1 } else record c { server_end = one_less c.server_end app d }

-- the causes left after an act
abbrev pub after_act : Causes → Act → Causes
after_act c (Broke app d end time) = broken c app d end
after_act c act = c

-- and after several
abbrev pub after_acts : Causes → List Act → Causes
after_acts c [] = c
after_acts c (a ∷ acts) = after_acts (after_act c a) acts

-- the causes left after the lines of a script and what each added
abbrev pub causes_after : Causes → List ScriptLine → List Added → Causes
causes_after c [] added = c
causes_after c (line ∷ lines) [] = c
causes_after c (line ∷ lines) (a ∷ added) = causes_after (after_acts (with_causes c line a) a.acts) lines added

-- how often the nets failed
abbrev pub rises : List NetCounts → ℕ
rises nets = sum (map (λ (n : NetCounts). n.faults_after - n.faults_before) nets)

-- a net's count of faults stands at its type's end
abbrev pub is_full : NetCounts → Bool
is_full n = n.faults_after == 2 ^ 64 - 1

-- the breaks without a cause are at most two for each fault of a net, unless a count stands at its end
abbrev pub BreaksWithin : List NetCounts → ℕ → Type 0
BreaksWithin nets unexplained = (list_any is_full nets ≡ true) ⊎ (unexplained ≤ 2 * rises nets)

-- the counts of failed connects around one that failed
pub record FailedRange : Type 0 where
  pub before : ℕ
  pub after : ℕ

-- of a loss
abbrev pub range_of_loss : Loss → List FailedRange
range_of_loss (ByReset at) = []
range_of_loss (ByExpired time) = []
range_of_loss (ByNoWay before after) = record { before = before; after = after } ∷ []

-- of an act
abbrev pub range_of : Act → List FailedRange
range_of (Lose app d loss) = range_of_loss loss
range_of act = []

-- a range lies within what a net counted
abbrev pub LiesIn : FailedRange → NetCounts → Type 0
LiesIn r n = (n.failed_before ≤ r.before) × (r.after ≤ n.failed_after)

-- two ranges don't overlap
abbrev pub IsApart : FailedRange → FailedRange → Type 0
IsApart r s = (r.after ≤ s.before) ⊎ (s.after ≤ r.before)

-- no two of these overlap
abbrev pub AreApart : List FailedRange → Type 0
AreApart [] = Unit {0}
AreApart (r ∷ rs) = AllByRecursion (IsApart r) rs × AreApart rs
