-- The first words of lines.
use Rattle.std.proofs.Common.{◌≡◌, ◌≢◌, ℕ, ◌+◌, ◌<◌, ◌≤◌, List, [], ◌∷◌, All, take, get_or, lit<, subst, arith}
use Rattle.std.proofs.lemmas.List.Elements.{All-more}
use Rattle.job_script.specs.declared.declared_line.DeclaringWord.{DeclaringWord}
use Rattle.job_script.specs.declared.declared_line.DeclaringWord.TheVariants.{Data, App, Job, Global, Time}
use Rattle.job_script.specs.declared.todo_word.TodoWord.{TodoWord}
use Rattle.job_script.specs.declared.todo_word.TodoWord.TheVariants.{Hold, Flow, Up, Down, Save, Pump, Tick, Break, Mend, Crash, Restart, Die, Await}
use Rattle.job_script.specs.FirstWords.{declaring_text, todo_text}

-- a word that is none of them in this order is no word of a declaration
abbrev pub declaring_words : List DeclaringWord
declaring_words = Data ∷ App ∷ Job ∷ Global ∷ Time ∷ []

none-declaring : (word : List ℕ) → All (λ w. word ≢ declaring_text w) declaring_words → (w : DeclaringWord) → word ≢ declaring_text w
none-declaring word none Data = none 0 Data (lit< tt)
none-declaring word none App = none 1 App (lit< tt)
none-declaring word none Job = none 2 Job (lit< tt)
none-declaring word none Global = none 3 Global (lit< tt)
none-declaring word none Time = none 4 Time (lit< tt)

pub no-declaring_word : (word : List ℕ) (i : ℕ) → 5 ≤ i → i ≤ 5 → All (λ w. word ≢ declaring_text w) (take i declaring_words) → (w : DeclaringWord) → word ≢ declaring_text w
no-declaring_word word i low high none =
    let all : i ≡ 5 = omega arith in
    none-declaring word (subst (λ n. All (λ w. word ≢ declaring_text w) (take n declaring_words)) all none)

-- nor of a line that asks for something
abbrev pub todo_words : List TodoWord
todo_words = Hold ∷ Flow ∷ Up ∷ Down ∷ Save ∷ Pump ∷ Tick ∷ Break ∷ Mend ∷ Crash ∷ Restart ∷ Die ∷ Await ∷ []

none-todo : (word : List ℕ) → All (λ w. word ≢ todo_text w) todo_words → (w : TodoWord) → word ≢ todo_text w
none-todo word none Hold = none 0 Hold (lit< tt)
none-todo word none Flow = none 1 Flow (lit< tt)
none-todo word none Up = none 2 Up (lit< tt)
none-todo word none Down = none 3 Down (lit< tt)
none-todo word none Save = none 4 Save (lit< tt)
none-todo word none Pump = none 5 Pump (lit< tt)
none-todo word none Tick = none 6 Tick (lit< tt)
none-todo word none Break = none 7 Break (lit< tt)
none-todo word none Mend = none 8 Mend (lit< tt)
none-todo word none Crash = none 9 Crash (lit< tt)
none-todo word none Restart = none 10 Restart (lit< tt)
none-todo word none Die = none 11 Die (lit< tt)
none-todo word none Await = none 12 Await (lit< tt)

pub no-todo_word : (word : List ℕ) (i : ℕ) → 13 ≤ i → i ≤ 13 → All (λ w. word ≢ todo_text w) (take i todo_words) → (w : TodoWord) → word ≢ todo_text w
no-todo_word word i low high none =
    let all : i ≡ 13 = omega arith in
    none-todo word (subst (λ n. All (λ w. word ≢ todo_text w) (take n todo_words)) all none)

-- one word more is another
pub one-more-todo_word : (word : List ℕ) (i : ℕ) → i < 13 → All (λ w. word ≢ todo_text w) (take i todo_words) → word ≢ todo_text (get_or todo_words i Hold) → All (λ w. word ≢ todo_text w) (take (i + 1) todo_words)
one-more-todo_word word i low none other = All-more (λ w. word ≢ todo_text w) todo_words i Hold low none other
