use Rattle.std.proofs.Common.{rules, ◌≡◌, inl, inr}
use Rattle.geoarrow_c.proofs.Made.{makes, makes_as, are_records, are_unrecorded}
use Rattle.geoarrow_c.proofs.records_of_lines.schema_records.Goals as goal

pub returns-in-Ok-write_columns-clause-done : goal.returns-in-Ok-write_columns-clause-done
returns-in-Ok-write_columns-clause-done c =
    let lent : c.as_slice.result.now ≡ c.in-Ok.columns.items = search rules in
    let bytes : c.as_slice-in-Ok-write_columns.result.now ≡ c.in-Ok-write_columns.records.items = search rules in
    λ done. makes _ c.fill.ensures.len
    (are_records c.in-Ok.columns c.in-Ok.ensures lent c.in-Ok-write_columns.ensures.read bytes)
    (c.fill.ensures.done done)

pub returns-in-Ok-write_columns-clause-short : goal.returns-in-Ok-write_columns-clause-short
returns-in-Ok-write_columns-clause-short c =
    let lent : c.as_slice.result.now ≡ c.in-Ok.columns.items = search rules in
    let bytes : c.as_slice-in-Ok-write_columns.result.now ≡ c.in-Ok-write_columns.records.items = search rules in
    λ short. makes _ c.fill.ensures.len
    (inl (are_records c.in-Ok.columns c.in-Ok.ensures lent c.in-Ok-write_columns.ensures.read bytes))
    (c.fill.ensures.short short)

pub returns-clause-refused : goal.returns-clause-refused
returns-clause-refused c =
    let lent : c.as_slice.result.now ≡ c.in-Ok.columns.items = search rules in
    λ refused. makes_as
    (λ line is. inr (are_unrecorded c.in-Err-write_columns.error c.in-Ok.columns c.in-Ok.ensures lent c.in-Err-write_columns.ensures.err is))
    (c.refuse_records.ensures.refused refused)

pub returns-clause-short : goal.returns-clause-short
returns-clause-short c =
    let lent : c.as_slice.result.now ≡ c.in-Ok.columns.items = search rules in
    λ short. makes_as
    (λ line is. inr (inr (are_unrecorded c.in-Err-write_columns.error c.in-Ok.columns c.in-Ok.ensures lent c.in-Err-write_columns.ensures.err is)))
    (c.refuse_records.ensures.short short)
