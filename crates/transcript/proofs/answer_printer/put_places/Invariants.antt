use Rattle.std.proofs.Common.{◌≡◌, ◌++◌, drop}
use Rattle.std.specs.List.{flat_map}
use Rattle.transcript.specs.AnswerText.{place_text}
use Rattle.transcript.proofs.answer_printer.put_places.Given as goal

abbrev pub invariant-loop-place : goal.invariant-loop-place
invariant-loop-place l = l.to ++ flat_map (place_text l.servers l.mark) (drop l.place-index l.places) ≡ l.initial.to ++ flat_map (place_text l.servers l.mark) l.places
