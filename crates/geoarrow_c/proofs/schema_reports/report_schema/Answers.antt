use Rattle.std.proofs.Common.{rules, ◌≡◌, inl, string_bytes}
use Rattle.geoarrow_c.proofs.Made.{makes}
use Rattle.geoarrow_c.proofs.schema_reports.report_schema.Goals as goal

pub returns-in-Ok-clause-done : goal.returns-in-Ok-clause-done
returns-in-Ok-clause-done c =
    let lines : c.as_bytes.result.now ≡ string_bytes c.in-Ok.lines = search rules in
    λ done. makes _ c.fill.ensures.len (c.in-Ok.lines, c.in-Ok.ensures, lines) (c.fill.ensures.done done)

pub returns-in-Ok-clause-short : goal.returns-in-Ok-clause-short
returns-in-Ok-clause-short c =
    let lines : c.as_bytes.result.now ≡ string_bytes c.in-Ok.lines = search rules in
    λ short. makes _ c.fill.ensures.len (inl (c.in-Ok.lines, c.in-Ok.ensures, lines)) (c.fill.ensures.short short)
