use Rattle.std.proofs.Common.{◌≡◌, length, map}
use Rattle.arrow_columns.specs.Column.{column_tree}
use Rattle.parquet_columns.specs.Resolved.{is_among}
use Rattle.parquet_columns.proofs.resolved.is_among.Given as goal

-- the columns that are left decide
abbrev pub invariant-columns : goal.invariant-columns
invariant-columns l = is_among l.name (map column_tree l.columns) ≡ is_among l.name (map column_tree l.left)

abbrev pub decreases-columns : goal.decreases-columns
decreases-columns l = length l.left
