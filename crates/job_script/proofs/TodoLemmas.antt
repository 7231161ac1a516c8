-- Lines that ask for something: what shows that one is refused.
use Rattle.std.proofs.Common.{ℕ, List, codes, refl, inl, inr}
use Rattle.job_script.specs.declared.declared.Declared.{Declared}
use Rattle.job_script.specs.declared.line_fault.LineFault.{LineFault}
use Rattle.job_script.specs.declared.name_kind.NameKind.{NameKind}
use Rattle.job_script.specs.declared.name_kind.NameKind.TheVariants.{Server, App, Job}
use Rattle.job_script.specs.declared.todo.Todo.TheVariants.{Hold, Flow, Up, Down, Save, Pump, Tick, Break, Mend, Crash, Restart, Die, Await}
use Rattle.job_script.specs.Parts.{OfKind, ANumber, APick, TakesPart}
use Rattle.job_script.specs.Refusals.{RefusesBehind, RefusesOne, RefusesPair, RefusesEnd, RefusesOfKind, RefusesNumber, RefusesPick}
use Rattle.job_script.specs.Rows.{todo_row}
use Rattle.job_script.proofs.PartLemmas.{over-end}

pub one_first : (d : Declared) (kind : NameKind) (text : List ℕ) (fault : LineFault) → RefusesOfKind d kind text fault → RefusesOne d kind text fault
one_first d kind text fault r = record { index = 0; parts = inl r }

pub one_end : (d : Declared) (kind : NameKind) (text : List ℕ) (fault : LineFault) (index : ℕ) (rest : List ℕ) → TakesPart d (OfKind kind index) text rest → RefusesEnd rest fault → RefusesOne d kind text fault
one_end d kind text fault index rest t over = record { index = index; parts = inr (rest, t, over-end d rest fault over) }

pub ruleset one_rows = (one_first, one_end)

pub pair_first : (d : Declared) (text : List ℕ) (fault : LineFault) → RefusesOfKind d App text fault → RefusesPair d text fault
pair_first d text fault r = record { app = 0; server = 0; parts = inl r }

pub pair_second : (d : Declared) (text : List ℕ) (fault : LineFault) (app : ℕ) (rest : List ℕ) → TakesPart d (OfKind App app) text rest → RefusesOfKind d Server rest fault → RefusesPair d text fault
pair_second d text fault app rest t r = record { app = app; server = 0; parts = inr (rest, t, inl r) }

pub pair_end : (d : Declared) (text : List ℕ) (fault : LineFault) (app : ℕ) (between : List ℕ) (server : ℕ) (rest : List ℕ) → TakesPart d (OfKind App app) text between → TakesPart d (OfKind Server server) between rest → RefusesEnd rest fault → RefusesPair d text fault
pair_end d text fault app between server rest t u over = record { app = app; server = server; parts = inr (between, t, inr (rest, u, over-end d rest fault over)) }

pub ruleset pair_rows = (pair_first, pair_second, pair_end)

pub tick_first : (d : Declared) (text : List ℕ) (fault : LineFault) → RefusesNumber 1 10000 text fault → RefusesBehind todo_row d (codes "tick") text fault
tick_first d text fault r = record { line = Tick 0; word_is = refl; parts = inl r }

pub tick_end : (d : Declared) (text : List ℕ) (fault : LineFault) (count : ℕ) (rest : List ℕ) → TakesPart d (ANumber 1 10000 count) text rest → RefusesEnd rest fault → RefusesBehind todo_row d (codes "tick") text fault
tick_end d text fault count rest t over = record { line = Tick count; word_is = refl; parts = inr (rest, t, over-end d rest fault over) }

pub ruleset tick_rows = (tick_first, tick_end)

pub crash_first : (d : Declared) (text : List ℕ) (fault : LineFault) → RefusesOfKind d Server text fault → RefusesBehind todo_row d (codes "crash") text fault
crash_first d text fault r = record { line = Crash 0 0; word_is = refl; parts = inl r }

pub crash_second : (d : Declared) (text : List ℕ) (fault : LineFault) (server : ℕ) (rest : List ℕ) → TakesPart d (OfKind Server server) text rest → RefusesPick rest fault → RefusesBehind todo_row d (codes "crash") text fault
crash_second d text fault server rest t r = record { line = Crash server 0; word_is = refl; parts = inr (rest, t, inl r) }

pub crash_end : (d : Declared) (text : List ℕ) (fault : LineFault) (server : ℕ) (between : List ℕ) (pick : ℕ) (rest : List ℕ) → TakesPart d (OfKind Server server) text between → TakesPart d (APick pick) between rest → RefusesEnd rest fault → RefusesBehind todo_row d (codes "crash") text fault
crash_end d text fault server between pick rest t u over = record { line = Crash server pick; word_is = refl; parts = inr (between, t, inr (rest, u, over-end d rest fault over)) }

pub ruleset crash_rows = (crash_first, crash_second, crash_end)

pub hold_end : (d : Declared) (text : List ℕ) (fault : LineFault) → RefusesEnd text fault → RefusesBehind todo_row d (codes "hold") text fault
hold_end d text fault over = record { line = Hold; word_is = refl; parts = over-end d text fault over }

pub flow_end : (d : Declared) (text : List ℕ) (fault : LineFault) → RefusesEnd text fault → RefusesBehind todo_row d (codes "flow") text fault
flow_end d text fault over = record { line = Flow; word_is = refl; parts = over-end d text fault over }

pub pump_end : (d : Declared) (text : List ℕ) (fault : LineFault) → RefusesEnd text fault → RefusesBehind todo_row d (codes "pump") text fault
pump_end d text fault over = record { line = Pump; word_is = refl; parts = over-end d text fault over }

pub up_refused : (d : Declared) (text : List ℕ) (fault : LineFault) → RefusesPair d text fault → RefusesBehind todo_row d (codes "up") text fault
up_refused d text fault r = record { line = Up r.app r.server; word_is = refl; parts = r.parts }

pub down_refused : (d : Declared) (text : List ℕ) (fault : LineFault) → RefusesPair d text fault → RefusesBehind todo_row d (codes "down") text fault
down_refused d text fault r = record { line = Down r.app r.server; word_is = refl; parts = r.parts }

pub break_refused : (d : Declared) (text : List ℕ) (fault : LineFault) → RefusesPair d text fault → RefusesBehind todo_row d (codes "break") text fault
break_refused d text fault r = record { line = Break r.app r.server; word_is = refl; parts = r.parts }

pub mend_refused : (d : Declared) (text : List ℕ) (fault : LineFault) → RefusesPair d text fault → RefusesBehind todo_row d (codes "mend") text fault
mend_refused d text fault r = record { line = Mend r.app r.server; word_is = refl; parts = r.parts }

pub save_refused : (d : Declared) (text : List ℕ) (fault : LineFault) → RefusesOne d Server text fault → RefusesBehind todo_row d (codes "save") text fault
save_refused d text fault r = record { line = Save r.index; word_is = refl; parts = r.parts }

pub restart_refused : (d : Declared) (text : List ℕ) (fault : LineFault) → RefusesOne d Server text fault → RefusesBehind todo_row d (codes "restart") text fault
restart_refused d text fault r = record { line = Restart r.index; word_is = refl; parts = r.parts }

pub die_refused : (d : Declared) (text : List ℕ) (fault : LineFault) → RefusesOne d App text fault → RefusesBehind todo_row d (codes "die") text fault
die_refused d text fault r = record { line = Die r.index; word_is = refl; parts = r.parts }

pub await_refused : (d : Declared) (text : List ℕ) (fault : LineFault) → RefusesOne d Job text fault → RefusesBehind todo_row d (codes "await") text fault
await_refused d text fault r = record { line = Await r.index; word_is = refl; parts = r.parts }

pub ruleset todo_rows = (hold_end, flow_end, pump_end, up_refused, down_refused, break_refused, mend_refused, save_refused, restart_refused, die_refused, await_refused)
