use Rattle.std.proofs.Common.{◌≡◌, ◌∙◌}
use Rattle.std.proofs.lemmas.Result.{on_ok_weaker}
use Rattle.geoarrow_fields.proofs.Ways.{answer_passes, answer_stopped}
use Rattle.geoarrow_fields.proofs.output.write_answer.Goals as goal

pub returns-clause-ok : goal.returns-clause-ok
returns-clause-ok g c =
    on_ok_weaker _
    (answer_passes _ _ _ _ c.in_ok-answer.ensures (c.as_str.ensures.value ∙ c.in_ok-push_str.ensures.bytes) _ _ _ _ c.in_ok-push_str-2.ensures.bytes _) c.write_held.ensures.ok

pub returns-clause-err : goal.returns-clause-err
returns-clause-err g c =
    answer_stopped _ _ _ _ c.in_ok-answer.ensures (c.as_str.ensures.value ∙ c.in_ok-push_str.ensures.bytes) _ _ _ _ c.in_ok-push_str-2.ensures.bytes _ _ c.write_held.ensures.err
