use Rattle.cluster_call.proofs.StatusLemmas.{Answers-refused, Answers-ran, Answers-stopped, Answers-in_part, has_run}
use Rattle.cluster_call.proofs.top_calls.script.Goals as goal

pub returns-in-Err : goal.returns-in-Err
returns-in-Err g c = Answers-refused _ c.in-Err.status c.refuse.result c.refuse.ensures.answer c.in-Err.ensures.err c.refuse.ensures.put c.refuse.ensures.front

pub returns-in-Ok-put_all : goal.returns-in-Ok-put_all
returns-in-Ok-put_all g c =
    let made = c.in-Ok-output_text.ensures in
    Answers-ran _ c.in-Ok.script made.0 c.in-Ok-output_text.text.items c.deref.result.now (has_run _ _ c.in-Ok.script made.0 c.in-Ok.ensures.ok c.in-Ok.ensures.built made.2 made.3 made.4) made.1 c.deref.ensures.value c.in-Ok-put_all.ensures.ok

pub returns-in-Err-Failed : goal.returns-in-Err-Failed
returns-in-Err-Failed g c =
    let made = c.in-Ok-output_text.ensures in
    Answers-stopped _ c.in-Ok.script made.0 c.in-Ok-output_text.text.items c.deref.result.now (has_run _ _ c.in-Ok.script made.0 c.in-Ok.ensures.ok c.in-Ok.ensures.built made.2 made.3 made.4) made.1 c.deref.ensures.value (c.in-Err-Failed.ensures.stopped c.in-Err-Failed.field-0-is)
    c.in-Err-Failed.ensures.front

pub returns : goal.returns
returns g c =
    let made = c.in-Ok-output_text.ensures in
    Answers-in_part _ c.in-Ok.script made.0 c.in-Ok-output_text.text.items c.deref.result.now (has_run _ _ c.in-Ok.script made.0 c.in-Ok.ensures.ok c.in-Ok.ensures.built made.2 made.3 made.4) made.1 c.deref.ensures.value c.in-Err-Memory.ensures.front
