use Rattle.std.proofs.Common.{arith}
use Rattle.field_lines.proofs.Lean.{line_form, line_field, line_no_text}
use Rattle.field_lines.proofs.line.parse_line_with_scratch.Goals as goal

pub returns-in_default-clause-field : goal.returns-in_default-clause-field
returns-in_default-clause-field c = grind (arith, line_no_text)

pub returns-in-Ok-2-clause-field : goal.returns-in-Ok-2-clause-field
returns-in-Ok-2-clause-field c = grind (arith, line_field)

pub returns-in-Ok-take_field-clause-field : goal.returns-in-Ok-take_field-clause-field
returns-in-Ok-take_field-clause-field c = grind (arith, line_field)

pub returns-in-Ok-take_field-clause-form : goal.returns-in-Ok-take_field-clause-form
returns-in-Ok-take_field-clause-form c = line_form c.args.line.now c.in-Ok-take_field.field (returns-in-Ok-take_field-clause-field c)
