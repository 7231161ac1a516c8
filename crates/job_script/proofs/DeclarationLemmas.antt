-- Lines that declare something: what shows that one is refused.
use Rattle.std.proofs.Common.{ℕ, List, [], codes, refl, inl, inr}
use Rattle.job_script.specs.declared.declared.Declared.{Declared}
use Rattle.job_script.specs.declared.declaration.Declaration.TheVariants.{Server as ServerDeclared, App as AppDeclared, Job as JobDeclared, Global as GlobalDeclared, Time as TimeDeclared}
use Rattle.job_script.specs.declared.line_fault.LineFault.{LineFault}
use Rattle.job_script.specs.declared.name_kind.NameKind.TheVariants.{Server, App, Job}
use Rattle.job_script.specs.declared.setting.Setting.{Setting}
use Rattle.job_script.specs.declared.setting.Setting.TheVariants.{Retry}
use Rattle.job_script.specs.Parts.{NewName, NewGlobal, OfKind, ASetting, ANumber, TakesPart}
use Rattle.job_script.specs.Refusals.{RefusesBehind, RefusesEnd, RefusesNewName, RefusesNewGlobal, RefusesOfKind, RefusesSetting, RefusesNumber}
use Rattle.job_script.specs.Rows.{declaration_row}
use Rattle.job_script.proofs.PartLemmas.{over-end}

pub data_first : (d : Declared) (text : List ℕ) (fault : LineFault) → RefusesNewName d Server text fault → RefusesBehind declaration_row d (codes "data") text fault
data_first d text fault r = record { line = ServerDeclared []; word_is = refl; parts = inl r }

pub data_end : (d : Declared) (text : List ℕ) (fault : LineFault) (name : List ℕ) (rest : List ℕ) → TakesPart d (NewName Server name) text rest → RefusesEnd rest fault → RefusesBehind declaration_row d (codes "data") text fault
data_end d text fault name rest t0 over = record { line = ServerDeclared name; word_is = refl; parts = inr (rest, t0, over-end d rest fault over) }

pub ruleset data_rows = (data_first, data_end)

pub app_first : (d : Declared) (text : List ℕ) (fault : LineFault) → RefusesNewName d App text fault → RefusesBehind declaration_row d (codes "app") text fault
app_first d text fault r = record { line = AppDeclared []; word_is = refl; parts = inl r }

pub app_end : (d : Declared) (text : List ℕ) (fault : LineFault) (name : List ℕ) (rest : List ℕ) → TakesPart d (NewName App name) text rest → RefusesEnd rest fault → RefusesBehind declaration_row d (codes "app") text fault
app_end d text fault name rest t0 over = record { line = AppDeclared name; word_is = refl; parts = inr (rest, t0, over-end d rest fault over) }

pub ruleset app_rows = (app_first, app_end)

pub job_first : (d : Declared) (text : List ℕ) (fault : LineFault) → RefusesNewName d Job text fault → RefusesBehind declaration_row d (codes "job") text fault
job_first d text fault r = record { line = JobDeclared [] 0; word_is = refl; parts = inl r }

pub job_second : (d : Declared) (text : List ℕ) (fault : LineFault) (name : List ℕ) (rest : List ℕ) → TakesPart d (NewName Job name) text rest → RefusesOfKind d App rest fault → RefusesBehind declaration_row d (codes "job") text fault
job_second d text fault name rest t0 r = record { line = JobDeclared name 0; word_is = refl; parts = inr (rest, t0, inl r) }

pub job_end : (d : Declared) (text : List ℕ) (fault : LineFault) (name : List ℕ) (between : List ℕ) (app : ℕ) (rest : List ℕ) → TakesPart d (NewName Job name) text between → TakesPart d (OfKind App app) between rest → RefusesEnd rest fault → RefusesBehind declaration_row d (codes "job") text fault
job_end d text fault name between app rest t0 t1 over = record { line = JobDeclared name app; word_is = refl; parts = inr (between, t0, inr (rest, t1, over-end d rest fault over)) }

pub ruleset job_rows = (job_first, job_second, job_end)

pub global_first : (d : Declared) (text : List ℕ) (fault : LineFault) → RefusesNewGlobal d text fault → RefusesBehind declaration_row d (codes "global") text fault
global_first d text fault r = record { line = GlobalDeclared [] 0; word_is = refl; parts = inl r }

pub global_second : (d : Declared) (text : List ℕ) (fault : LineFault) (name : List ℕ) (rest : List ℕ) → TakesPart d (NewGlobal name) text rest → RefusesOfKind d Server rest fault → RefusesBehind declaration_row d (codes "global") text fault
global_second d text fault name rest t0 r = record { line = GlobalDeclared name 0; word_is = refl; parts = inr (rest, t0, inl r) }

pub global_end : (d : Declared) (text : List ℕ) (fault : LineFault) (name : List ℕ) (between : List ℕ) (server : ℕ) (rest : List ℕ) → TakesPart d (NewGlobal name) text between → TakesPart d (OfKind Server server) between rest → RefusesEnd rest fault → RefusesBehind declaration_row d (codes "global") text fault
global_end d text fault name between server rest t0 t1 over = record { line = GlobalDeclared name server; word_is = refl; parts = inr (between, t0, inr (rest, t1, over-end d rest fault over)) }

pub ruleset global_rows = (global_first, global_second, global_end)

pub time_first : (d : Declared) (text : List ℕ) (fault : LineFault) → RefusesSetting text fault → RefusesBehind declaration_row d (codes "time") text fault
time_first d text fault r = record { line = TimeDeclared Retry 0; word_is = refl; parts = inl r }

pub time_second : (d : Declared) (text : List ℕ) (fault : LineFault) (setting : Setting) (rest : List ℕ) → TakesPart d (ASetting setting) text rest → RefusesNumber 1 100000 rest fault → RefusesBehind declaration_row d (codes "time") text fault
time_second d text fault setting rest t0 r = record { line = TimeDeclared setting 0; word_is = refl; parts = inr (rest, t0, inl r) }

pub time_end : (d : Declared) (text : List ℕ) (fault : LineFault) (setting : Setting) (between : List ℕ) (ticks : ℕ) (rest : List ℕ) → TakesPart d (ASetting setting) text between → TakesPart d (ANumber 1 100000 ticks) between rest → RefusesEnd rest fault → RefusesBehind declaration_row d (codes "time") text fault
time_end d text fault setting between ticks rest t0 t1 over = record { line = TimeDeclared setting ticks; word_is = refl; parts = inr (between, t0, inr (rest, t1, over-end d rest fault over)) }

pub ruleset time_rows = (time_first, time_second, time_end)
