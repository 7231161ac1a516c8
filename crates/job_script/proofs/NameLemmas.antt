-- Declared names and the words that name them.
use Rattle.std.proofs.Common.{◌≡◌, ◌≢◌, ℕ, ◌||◌, List, ◌++◌, codes, ap, ◌∙◌}
use Rattle.std.specs.List.{list_any}
use Rattle.std.proofs.lemmas.List.Folds.{list_any-append}
use Rattle.job_script.specs.declared.declared.Declared.{Declared}
use Rattle.job_script.specs.declared.setting.Setting.{Setting}
use Rattle.job_script.specs.declared.setting.Setting.TheVariants.{Retry, Trouble, Recover, Round}
use Rattle.job_script.specs.Names.{is_same, has_name, setting_word}

-- a name is declared if it is a server's, an application server's or a job's
pub has_name_of : (d : Declared) (name : List ℕ) → has_name d name ≡ (list_any (λ other. is_same other name) d.servers || (list_any (λ other. is_same other name) d.apps || list_any (λ other. is_same other name) d.jobs))
has_name_of d name =
    list_any-append (λ other. is_same other name) d.servers (d.apps ++ d.jobs)
    ∙ ap (λ t. list_any (λ other. is_same other name) d.servers || t) (list_any-append (λ other. is_same other name) d.apps d.jobs)

-- the settings' words are these
pub no_setting : (word : List ℕ) → word ≢ codes "retry" → word ≢ codes "trouble" → word ≢ codes "recover" → word ≢ codes "round" → (setting : Setting) → word ≢ setting_word setting
no_setting word a b c d Retry e = a e
no_setting word a b c d Trouble e = b e
no_setting word a b c d Recover e = c e
no_setting word a b c d Round e = d e
