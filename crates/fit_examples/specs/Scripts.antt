-- A script that the examples ask about.
use Rattle.std.specs.Prelude.{[], ◌∷◌}
use Rattle.job_script.specs.declared.declared_line.DeclaringWord.TheVariants.{Data, App, Job, Global}
use Rattle.job_script.specs.declared.script.Script.{Script}

-- a data server, an application server, a job and a global are declared, and nothing is asked for
abbrev pub declared : Script
declared = record {
  layout = record { servers = 1; apps = 1; job_apps = 0 ∷ []; times = record { retry = 5; trouble = 60; recover = 100; round = 60 } };
  names = record { servers = (100 ∷ []) ∷ []; apps = (97 ∷ []) ∷ []; jobs = (106 ∷ []) ∷ [] };
  declarations = record { line = 1; word = Data } ∷ record { line = 2; word = App } ∷ record { line = 3; word = Job } ∷ record { line = 4; word = Global } ∷ [];
  lines = [];
}
