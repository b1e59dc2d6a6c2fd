use Rattle.std.proofs.Common.{◌≡◌, ◌+◌, length, map}
use Rattle.arrow_columns.specs.Column.{column_tree}
use Rattle.parquet_footer.specs.Element.{element}
use Rattle.parquet_columns.specs.Resolved.{is_one_asked}
use Rattle.parquet_columns.proofs.resolved.is_one_asked.Given as goal

-- the columns that are left decide
abbrev pub invariant-columns : goal.invariant-columns
invariant-columns l = record {
  same : is_one_asked l.at (map element l.children) (map column_tree l.compared) (map column_tree l.left) ≡ is_one_asked 0 (map element l.children) (map column_tree l.compared) (map column_tree l.stored);
  small : l.at + length l.left ≡ length l.stored;
}

abbrev pub decreases-columns : goal.decreases-columns
decreases-columns l = length l.left
