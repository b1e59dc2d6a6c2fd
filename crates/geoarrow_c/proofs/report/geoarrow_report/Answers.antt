use Rattle.std.proofs.Common.{rules, ◌≡◌, inl, inr, string_bytes}
use Rattle.arrow_values.specs.Texts.{text_of}
use Rattle.geoarrow_c.specs.Reports.{name_if}
use Rattle.geoarrow_c.proofs.Made.{makes, makes_as, is_report, is_refusal}
use Rattle.geoarrow_c.proofs.report.geoarrow_report.Goals as goal

pub returns-in-Ok-report_file-clause-done : goal.returns-in-Ok-report_file-clause-done
returns-in-Ok-report_file-clause-done c =
    let lines : c.as_bytes.result.now ≡ string_bytes c.in-Ok-report_file.report = search rules in
    let named : text_of c.name_if-file.result ≡ name_if c.args.name.now = search rules in
    λ done. makes _ c.fill.ensures.len
    (is_report c.in-Ok-report_file.report c.in-Some.ensures.0 named c.in-Ok-report_file.ensures lines)
    (c.fill.ensures.done done)

pub returns-in-Ok-report_file-clause-short : goal.returns-in-Ok-report_file-clause-short
returns-in-Ok-report_file-clause-short c =
    let lines : c.as_bytes.result.now ≡ string_bytes c.in-Ok-report_file.report = search rules in
    let named : text_of c.name_if-file.result ≡ name_if c.args.name.now = search rules in
    λ short. makes _ c.fill.ensures.len
    (inl (is_report c.in-Ok-report_file.report c.in-Some.ensures.0 named c.in-Ok-report_file.ensures lines))
    (c.fill.ensures.short short)

pub returns-in-Err-clause-refused : goal.returns-in-Err-clause-refused
returns-in-Err-clause-refused c =
    let named : text_of c.name_if-file.result ≡ name_if c.args.name.now = search rules in
    λ refused. makes_as
    (λ line is. is_refusal c.in-Some.ensures.0 named c.form_of.ensures c.in-Err.ensures is)
    (c.refuse_file.ensures.refused refused)

pub returns-in-Err-clause-short : goal.returns-in-Err-clause-short
returns-in-Err-clause-short c =
    let named : text_of c.name_if-file.result ≡ name_if c.args.name.now = search rules in
    λ short. makes_as
    (λ line is. inr (is_refusal c.in-Some.ensures.0 named c.form_of.ensures c.in-Err.ensures is))
    (c.refuse_file.ensures.short short)
