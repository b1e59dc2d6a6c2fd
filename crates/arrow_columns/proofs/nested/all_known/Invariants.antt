use Rattle.std.proofs.Common.{◌≡◌, map, drop}
use Rattle.arrow_columns.specs.Column.{column_tree}
use Rattle.arrow_columns.specs.Nested.{all_known}
use Rattle.arrow_columns.proofs.nested.all_known.Given as goal

abbrev pub invariant-loop-column : goal.invariant-loop-column
invariant-loop-column l = all_known (map column_tree l.columns) ≡ all_known (map column_tree (drop l.column-index l.columns))
