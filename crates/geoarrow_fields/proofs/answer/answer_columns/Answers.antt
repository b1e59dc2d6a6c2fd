use Rattle.std.proofs.lemmas.Result.{IfOk-weaker}
use Rattle.geoarrow_fields.proofs.answer.answer_columns.Goals as goal

pub returns : goal.returns
returns c =
    let column = c.in_ok-check_column in
    IfOk-weaker c.column_text.result _ _ (λ answer text. (column.field-0, column.ensures, text)) c.column_text.ensures
