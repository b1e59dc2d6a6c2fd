use Rattle.std.proofs.Common.{arith}
use Rattle.field_lines.proofs.KnownTypes.{line_column, line_no_column}
use Rattle.field_lines.proofs.line.parse_column.Goals as goal

pub returns-in_default : goal.returns-in_default
returns-in_default c = grind (arith, line_no_column)

pub returns-in-Ok-2 : goal.returns-in-Ok-2
returns-in-Ok-2 c = grind (arith, line_column)

pub returns-in-Ok-take_column : goal.returns-in-Ok-take_column
returns-in-Ok-take_column c = grind (arith, line_column)
