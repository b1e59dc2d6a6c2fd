use Rattle.field_lines.proofs.Terms.{object, column_of_value, column_of_parts}
use Rattle.field_lines.proofs.TokenMembers.{of_parts, column_of_parts_in}
use Rattle.field_lines.proofs.columns.take_members_of_column.Goals as goal

pub returns-clause-ok : goal.returns-clause-ok
returns-clause-ok c = of_parts column_of_parts (λ ms. column_of_value (object ms)) c.args.depth _ column_of_parts_in c.in_ok-parts.ensures.ok c.in_ok-column_of.ensures
