use Rattle.field_lines.proofs.KnownTypes.{field_column, column_field}
use Rattle.field_lines.proofs.laws.field_is_column.Goals as goal

pub returns : goal.returns
returns c = λ d f. (field_column d f, column_field d f)
