use Rattle.std.proofs.Common.{◌≡◌, ◌++◌, map, drop}
use Rattle.std.specs.Slice.Iter.{iter_rest}
use Rattle.arrow_columns.specs.Column.{column_tree}
use Rattle.arrow_ipc.specs.Entries.{entries_in}
use Rattle.parquet_columns.specs.Findings.{finding}
use Rattle.parquet_columns.specs.Entries.{repeated_columns}
use Rattle.parquet_columns.proofs.entries.add_columns.Given as goal

abbrev pub invariant-loop-column : goal.invariant-loop-column
invariant-loop-column l =
    map finding l.findings.items ++ repeated_columns l.part (map column_tree (drop l.column-index l.columns)) (map entries_in (iter_rest l.rest))
    ≡ map finding l.initial.findings.items ++ repeated_columns l.part (map column_tree l.columns) (map entries_in l.entries)
