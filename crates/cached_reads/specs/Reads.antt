-- The reads that a job writes are such as may come.
use Rattle.std.specs.Prelude.{◌≡◌, ◌⊎◌, ◌≤◌, ℕ, true, List, [], ◌∷◌, ◌++◌, length, Option}
use Rattle.subscript_keys.specs.declared.sub.Sub.{Sub}
use Rattle.plain_orders.specs.declared.act.Act.{Act}
use Rattle.plain_orders.specs.declared.act.Act.TheVariants.{Read}
use Rattle.plain_orders.specs.declared.question.Question.{Question}
use Rattle.plain_orders.specs.declared.via.Via.{Via}
use Rattle.plain_orders.specs.Ordered.{IsOrdered}
use Rattle.plain_runs.specs.JobRows.{ReadMay, has_session, own_behind}
use Rattle.plain_runs.specs.Plain.{Server, told_order}
use Rattle.app_job.specs.Limits.{NextMay}
use Rattle.app_job.specs.Sites.{Site, IsSite}
use Rattle.app_rules.specs.Issuing.{is_up, own_ops}
use Rattle.app_rules.specs.JobState.{Work, Turn}
use Rattle.app_rules.specs.JobStep.{NextsUp}
use Rattle.app_rules.specs.Reading.{cache_of, front_n, get_turn, shape_turn}
use Rattle.cached_reads.specs.Laws.{AreTrueAt}

-- What a job's reads at a data server stand on: the pair has a session, which is told of an ordered list; the front's length is within it and no
-- less than what the job has seen; at that length each cached run is true, and the job's own updates on their way are those behind it.
pub record ReadsStand (v : Server) (app d : ℕ) (w : Work) : Type 0 where
  pub there : has_session v app ≡ true
  pub ordered : IsOrdered (told_order v app)
  pub within : front_n w d ≤ length (told_order v app)
  pub seen : (v.known_at w.job.index).seen ≤ front_n w d
  pub runs : AreTrueAt (told_order v app) (front_n w d) (cache_of w d)
  pub own : own_ops w d ≡ own_behind v app w.job.index (front_n w d)

-- one read more is written, of this job, line and front, and it may come
pub record ReadWritten (v : Server) (app d : ℕ) (w : Work) (acts : List Act) : Type 0 where
  pub via : Via
  pub question : Question
  pub written : acts ≡ w.ends.outs.acts ++ Read w.job.index w.at.line d (front_n w d) via question ∷ []
  pub may : ReadMay v app w.job.index (front_n w d) via question

-- a turn writes nothing, or one read that may come
abbrev pub WritesRead : Server → ℕ → ℕ → Work → Turn → Type 0
WritesRead v app d w t = (t.work.ends.outs.acts ≡ w.ends.outs.acts) ⊎ ReadWritten v app d w t.work.ends.outs.acts

-- The read of a get may come.
abbrev pub GetsMay : Type 0
GetsMay = (v : Server) (app : ℕ) (at : Site) (w : Work) → IsSite at → (is_up w at.server ≡ true → ReadsStand v app at.server w)
    → WritesRead v app at.server w (get_turn at w)

-- So may that of a shape.
abbrev pub ShapesMay : Type 0
ShapesMay = (v : Server) (app : ℕ) (at : Site) (w : Work) → IsSite at → (is_up w at.server ≡ true → ReadsStand v app at.server w)
    → WritesRead v app at.server w (shape_turn at w)

-- And that of a next.
abbrev pub NextsMay : Type 0
NextsMay = (v : Server) (app : ℕ) (parent : Site) (sub : Option Sub) (w : Work) (t : Turn) → IsSite parent → NextMay parent sub
    → (is_up w parent.server ≡ true → ReadsStand v app parent.server w) → NextsUp (is_up w parent.server) parent sub w t
    → WritesRead v app parent.server w t
