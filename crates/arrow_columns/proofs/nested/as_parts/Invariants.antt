use Rattle.std.proofs.Common.{◌≡◌, map}
use Rattle.arrow_columns.specs.Column.{column_tree}
use Rattle.arrow_columns.proofs.nested.as_parts.Given as goal

abbrev pub invariant-columns : goal.invariant-columns
invariant-columns l = l.parts.items ≡ map column_tree l.yielded
