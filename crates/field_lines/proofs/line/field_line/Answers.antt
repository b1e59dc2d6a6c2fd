use Rattle.std.proofs.Common.{option_and_then, string_bytes, ap, ◌∙◌}
use Rattle.field_lines.proofs.Terms.{IsUtf8-string_bytes, read, field_of_value, value_of_field, printed, reads_back}
use Rattle.field_lines.proofs.Round.{field_read}
use Rattle.field_lines.proofs.Lean.{line_field}
use Rattle.field_lines.proofs.line.field_line.Goals as goal

pub returns-clause-text : goal.returns-clause-text
returns-clause-text c =
    printed (value_of_field c.args.field.now) (c.new-out.ensures.before ∙ c.in_ok-with_capacity.ensures.items) c.new-out.ensures.tokens c.in_ok-print_field.ensures c.text_of.ensures.text

pub returns-clause-reads_back : goal.returns-clause-reads_back
returns-clause-reads_back c form shallow = let v = value_of_field c.args.field.now in
    let s = c.text_of.result in
    let back = reads_back v c.new-out.ensures.tokens c.in_ok-print_field.ensures c.text_of.ensures.reads_back shallow in
    line_field (string_bytes s) (IsUtf8-string_bytes s) ∙ ap (option_and_then field_of_value) (ap read (returns-clause-text c) ∙ back) ∙ field_read _ form
