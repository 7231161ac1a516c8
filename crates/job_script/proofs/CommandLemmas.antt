-- Commands of a job.
use Rattle.std.proofs.Common.{◌≡◌, ◌≢◌, ℕ, ◌+◌, ◌<◌, ◌≤◌, List, [], ◌∷◌, All, take, get_or, lit<, sym, subst, arith}
use Rattle.std.proofs.lemmas.List.Elements.{All-more}
use Rattle.app_job.specs.Sites.{Site}
use Rattle.app_job.specs.declared.command.Command.TheVariants.{Set, Kill, Get, Shape, Next, Incr, Lock, Unlock, Start, Commit, Rollback, Sync}
use Rattle.job_script.specs.declared.command_word.CommandWord.{CommandWord}
use Rattle.job_script.specs.declared.command_word.CommandWord.TheVariants.{Set as SetWord, Kill as KillWord, Get as GetWord, Shape as ShapeWord, Next as NextWord, Incr as IncrWord, Lock as LockWord, Unlock as UnlockWord, Start as StartWord, Commit as CommitWord, Rollback as RollbackWord, Sync as SyncWord}
use Rattle.job_script.specs.CommandWords.{command_text}
use Rattle.job_script.specs.Rows.{command_row, IsUnknown}

-- a word that is none of them in this order is no command's
abbrev pub command_words : List CommandWord
command_words = SetWord ∷ KillWord ∷ GetWord ∷ ShapeWord ∷ NextWord ∷ IncrWord ∷ LockWord ∷ UnlockWord ∷ StartWord ∷ CommitWord ∷ RollbackWord ∷ SyncWord ∷ []

none-command : (word : List ℕ) → All (λ w. word ≢ command_text w) command_words → (w : CommandWord) → word ≢ command_text w
none-command word none SetWord = none 0 SetWord (lit< tt)
none-command word none KillWord = none 1 KillWord (lit< tt)
none-command word none GetWord = none 2 GetWord (lit< tt)
none-command word none ShapeWord = none 3 ShapeWord (lit< tt)
none-command word none NextWord = none 4 NextWord (lit< tt)
none-command word none IncrWord = none 5 IncrWord (lit< tt)
none-command word none LockWord = none 6 LockWord (lit< tt)
none-command word none UnlockWord = none 7 UnlockWord (lit< tt)
none-command word none StartWord = none 8 StartWord (lit< tt)
none-command word none CommitWord = none 9 CommitWord (lit< tt)
none-command word none RollbackWord = none 10 RollbackWord (lit< tt)
none-command word none SyncWord = none 11 SyncWord (lit< tt)

pub no-command_word : (word : List ℕ) (i : ℕ) → 12 ≤ i → i ≤ 12 → All (λ w. word ≢ command_text w) (take i command_words) → (w : CommandWord) → word ≢ command_text w
no-command_word word i low high none =
    let all : i ≡ 12 = omega arith in
    none-command word (subst (λ n. All (λ w. word ≢ command_text w) (take n command_words)) all none)

-- one word more is another
pub one-more-command_word : (word : List ℕ) (i : ℕ) → i < 12 → All (λ w. word ≢ command_text w) (take i command_words) → word ≢ command_text (get_or command_words i SetWord) → All (λ w. word ≢ command_text w) (take (i + 1) command_words)
one-more-command_word word i low none other = All-more (λ w. word ≢ command_text w) command_words i SetWord low none other

-- where a word is none of them, no command begins with it
pub unknown_command : (word : List ℕ) → ((w : CommandWord) → word ≢ command_text w) → IsUnknown command_row word
unknown_command word none (Set at value) e = none SetWord (sym e)
unknown_command word none (Kill at) e = none KillWord (sym e)
unknown_command word none (Get at) e = none GetWord (sym e)
unknown_command word none (Shape at) e = none ShapeWord (sym e)
unknown_command word none (Next parent sub) e = none NextWord (sym e)
unknown_command word none (Incr at amount) e = none IncrWord (sym e)
unknown_command word none (Lock at mode wait) e = none LockWord (sym e)
unknown_command word none (Unlock at mode now) e = none UnlockWord (sym e)
unknown_command word none Start e = none StartWord (sym e)
unknown_command word none (Commit sync) e = none CommitWord (sym e)
unknown_command word none Rollback e = none RollbackWord (sym e)
unknown_command word none (Sync server) e = none SyncWord (sym e)

-- a place that is no node's
abbrev pub no_site : Site
no_site = record { server = 0; node = record { name = []; subs = [] }; key = [] }
