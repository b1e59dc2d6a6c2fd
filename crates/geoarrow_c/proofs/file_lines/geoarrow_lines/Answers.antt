use Rattle.std.proofs.Common.{rules, ◌≡◌, inl, inr, string_bytes}
use Rattle.geoarrow_c.proofs.Made.{makes, makes_as, is_unopened}
use Rattle.geoarrow_c.proofs.Written.{are_file_lines}
use Rattle.geoarrow_c.proofs.file_lines.geoarrow_lines.Goals as goal

pub returns-in-Ok-lines_of_file-clause-done : goal.returns-in-Ok-lines_of_file-clause-done
returns-in-Ok-lines_of_file-clause-done c =
    let lines : c.as_bytes.result.now ≡ string_bytes c.in-Ok-lines_of_file.lines = search rules in
    λ done. makes _ c.fill.ensures.len
    (are_file_lines c.in-Ok.opened c.in-Ok-lines_of_file.lines c.in-Ok.ensures c.in-Ok-lines_of_file.ensures lines)
    (c.fill.ensures.done done)

pub returns-in-Ok-lines_of_file-clause-short : goal.returns-in-Ok-lines_of_file-clause-short
returns-in-Ok-lines_of_file-clause-short c =
    let lines : c.as_bytes.result.now ≡ string_bytes c.in-Ok-lines_of_file.lines = search rules in
    λ short. makes _ c.fill.ensures.len
    (inl (are_file_lines c.in-Ok.opened c.in-Ok-lines_of_file.lines c.in-Ok.ensures c.in-Ok-lines_of_file.ensures lines))
    (c.fill.ensures.short short)

pub returns-in-Err-clause-refused : goal.returns-in-Err-clause-refused
returns-in-Err-clause-refused c =
    λ refused. makes_as
    (λ line is. is_unopened c.form_of.ensures c.in-Err.ensures is)
    (c.refuse_file.ensures.refused refused)

pub returns-in-Err-clause-short : goal.returns-in-Err-clause-short
returns-in-Err-clause-short c =
    λ short. makes_as
    (λ line is. inr (is_unopened c.form_of.ensures c.in-Err.ensures is))
    (c.refuse_file.ensures.short short)
