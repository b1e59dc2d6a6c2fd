use Rattle.std.proofs.lemmas.Result.{IfOk-weaker}
use Rattle.geoarrow_fields.proofs.answer.answer_infer.Goals as goal

pub returns : goal.returns
returns c =
    let column = c.in_ok-check_column in
    IfOk-weaker c.inferred_text.result _ _ (λ answer text. (column.field-0, column.ensures, text)) c.inferred_text.ensures
