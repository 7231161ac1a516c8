use Rattle.trail_laws.proofs.ExampleRuns.{durable_example, increment_example, lock_example, order_example, prefix_example, rollback_example}
use Rattle.trail_laws.proofs.examples.the_laws_speak_of_runs.Goals as goal

pub returns : goal.returns
returns c = record { order = order_example; durable = durable_example; prefixes = prefix_example; increments = increment_example; locks = lock_example; rollback = rollback_example }
