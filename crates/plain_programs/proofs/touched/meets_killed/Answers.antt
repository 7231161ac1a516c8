use Rattle.std.proofs.lemmas.Bool.{false≢true}
use Rattle.plain_programs.proofs.SpanLemmas.{empty_span, span_behind, node_span_meets}
use Rattle.plain_programs.proofs.touched.meets_killed.Goals as goal

pub returns-then-ge : goal.returns-then-ge
returns-then-ge c = (λ t. absurd (false≢true t), λ m. empty_span _ _ _ _ (cc) m)

pub returns-then-ge-2 : goal.returns-then-ge-2
returns-then-ge-2 c = (λ t. absurd (false≢true t), λ m. span_behind _ _ _ _ (cc) m)

pub returns : goal.returns
returns c = node_span_meets _ _ _ _ (cc) (cc) c.is_before_end.ensures
