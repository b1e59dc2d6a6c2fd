use Rattle.std.proofs.Common.{inl}
use Rattle.std.proofs.lemmas.Result.{IfOk-weaker}
use Rattle.geoarrow_fields.proofs.answer.answer_canon.Goals as goal

pub returns-in-Ok : goal.returns-in-Ok
returns-in-Ok c =
    let reads = rw c.in-Ok-Some.field-0-is at c.in-Ok-Some.ensures.reading in
    IfOk-weaker c.field_line.result _ _ (λ answer text. inl (c.in-Ok.canonical, (c.in-Ok-Some.found, reads, c.in-Ok.ensures.written, c.in-Ok.ensures.reads_back), text)) c.field_line.ensures.text
