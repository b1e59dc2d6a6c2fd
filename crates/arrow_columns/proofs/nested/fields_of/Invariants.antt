use Rattle.std.proofs.Common.{◌≡◌, map}
use Rattle.arrow_columns.specs.Column.{column_tree}
use Rattle.arrow_columns.specs.Nested.{known_fields}
use Rattle.arrow_columns.proofs.nested.fields_of.Given as goal

abbrev pub invariant-columns : goal.invariant-columns
invariant-columns l = l.fields.items ≡ known_fields (map column_tree l.yielded)
