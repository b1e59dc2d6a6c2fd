use Rattle.field_lines.proofs.ReadBack.{line_held}
use Rattle.field_lines.proofs.laws.read_field_is_held.Goals as goal

pub returns : goal.returns
returns c = line_held
