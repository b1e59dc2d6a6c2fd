use Rattle.std.proofs.Common.{rules, ◌≡◌, inl, inr, string_bytes}
use Rattle.arrow_values.specs.Texts.{text_of}
use Rattle.geoarrow_c.specs.Reports.{name_if}
use Rattle.geoarrow_c.proofs.Compared.{are_differences, is_other_refused}
use Rattle.geoarrow_c.proofs.Made.{makes, makes_as, is_unopened}
use Rattle.geoarrow_c.proofs.same.geoarrow_same.Goals as goal

pub returns-in-Ok-same_files-clause-done : goal.returns-in-Ok-same_files-clause-done
returns-in-Ok-same_files-clause-done c =
    let lines : c.as_bytes.result.now ≡ string_bytes c.in-Ok-same_files.lines = search rules in
    let named : text_of c.name_if-file.result ≡ name_if c.args.name.now = search rules in
    λ done. makes _ c.fill.ensures.len
    (are_differences c.in-Ok-same_files.lines c.in-Some.ensures.0 named c.in-Ok-same_files.ensures lines)
    (c.fill.ensures.done done)

pub returns-in-Ok-same_files-clause-short : goal.returns-in-Ok-same_files-clause-short
returns-in-Ok-same_files-clause-short c =
    let lines : c.as_bytes.result.now ≡ string_bytes c.in-Ok-same_files.lines = search rules in
    let named : text_of c.name_if-file.result ≡ name_if c.args.name.now = search rules in
    λ short. makes _ c.fill.ensures.len
    (inl (are_differences c.in-Ok-same_files.lines c.in-Some.ensures.0 named c.in-Ok-same_files.ensures lines))
    (c.fill.ensures.short short)

pub returns-in-Err-First-clause-first_refused : goal.returns-in-Err-First-clause-first_refused
returns-in-Err-First-clause-first_refused c =
    λ refused. makes_as
    (λ line is. is_unopened c.form_of.ensures (rw c.in-Err-First.field-0-is at c.in-Err-First.ensures) is)
    (c.refuse_first.ensures.refused refused)

pub returns-in-Err-First-clause-short : goal.returns-in-Err-First-clause-short
returns-in-Err-First-clause-short c =
    λ short. makes_as
    (λ line is. inr (inl (is_unopened c.form_of.ensures (rw c.in-Err-First.field-0-is at c.in-Err-First.ensures) is)))
    (c.refuse_first.ensures.short short)

pub returns-in-Err-Other-clause-refused : goal.returns-in-Err-Other-clause-refused
returns-in-Err-Other-clause-refused c =
    let named : text_of c.name_if-file.result ≡ name_if c.args.name.now = search rules in
    λ refused. makes_as
    (λ line is. is_other_refused named c.form_of-in-Err-Other.ensures (rw c.in-Err-Other.field-0-is at c.in-Err-Other.ensures) is)
    (c.refuse_file.ensures.refused refused)

pub returns-in-Err-Other-clause-short : goal.returns-in-Err-Other-clause-short
returns-in-Err-Other-clause-short c =
    let named : text_of c.name_if-file.result ≡ name_if c.args.name.now = search rules in
    λ short. makes_as
    (λ line is. inr (inr (is_other_refused named c.form_of-in-Err-Other.ensures (rw c.in-Err-Other.field-0-is at c.in-Err-Other.ensures) is)))
    (c.refuse_file.ensures.short short)
