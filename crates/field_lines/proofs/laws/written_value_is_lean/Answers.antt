use Rattle.field_lines.proofs.Round.{value_is}
use Rattle.field_lines.proofs.laws.written_value_is_lean.Goals as goal

pub returns-clause-lean : goal.returns-clause-lean
returns-clause-lean c = (value_is c.args.field.now).0
