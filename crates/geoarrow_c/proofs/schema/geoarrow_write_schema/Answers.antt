use Rattle.std.proofs.Common.{rules, ◌≡◌, inl, inr}
use Rattle.geoarrow_c.proofs.Made.{makes, makes_as, is_stream, is_unwritten}
use Rattle.geoarrow_c.proofs.schema.geoarrow_write_schema.Goals as goal

pub returns-in-Ok-write_schema-clause-done : goal.returns-in-Ok-write_schema-clause-done
returns-in-Ok-write_schema-clause-done c =
    let bytes : c.as_slice.result.now ≡ c.in-Ok-write_schema.stream.items = search rules in
    λ done. makes _ c.fill.ensures.len
    (is_stream c.in-Ok.columns _ c.in-Ok.ensures c.new.ensures.empty c.in-Ok-write_schema.ensures.is bytes)
    (c.fill.ensures.done done)

pub returns-in-Ok-write_schema-clause-short : goal.returns-in-Ok-write_schema-clause-short
returns-in-Ok-write_schema-clause-short c =
    let bytes : c.as_slice.result.now ≡ c.in-Ok-write_schema.stream.items = search rules in
    λ short. makes _ c.fill.ensures.len
    (inl (is_stream c.in-Ok.columns _ c.in-Ok.ensures c.new.ensures.empty c.in-Ok-write_schema.ensures.is bytes))
    (c.fill.ensures.short short)

pub returns-clause-refused : goal.returns-clause-refused
returns-clause-refused c =
    λ refused. makes_as
    (λ line is. inr (is_unwritten c.in-Ok.columns _ c.in-Ok.ensures c.new.ensures.empty c.in-Err-write_schema.ensures.err is))
    (c.refuse_schema.ensures.refused refused)

pub returns-clause-short : goal.returns-clause-short
returns-clause-short c =
    λ short. makes_as
    (λ line is. inr (inr (is_unwritten c.in-Ok.columns _ c.in-Ok.ensures c.new.ensures.empty c.in-Err-write_schema.ensures.err is)))
    (c.refuse_schema.ensures.short short)
