use Rattle.std.proofs.Common.{◌≡◌, map, drop}
use Rattle.std.specs.Slice.Iter.{iter_rest}
use Rattle.arrow_columns.specs.Column.{column_tree}
use Rattle.parquet_columns.specs.Findings.{first_other}
use Rattle.parquet_columns.proofs.footer.first_other.Given as goal

abbrev pub invariant-loop-column : goal.invariant-loop-column
invariant-loop-column l = first_other (map column_tree (drop l.column-index l.columns)) (map column_tree (iter_rest l.rest)) ≡ first_other (map column_tree l.columns) (map column_tree l.others)
