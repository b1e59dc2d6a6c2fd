use Rattle.std.proofs.Common.{[], map, take}
use Rattle.arrow_columns.specs.Column.{column_tree}
use Rattle.column_reports.specs.ByColumn.{names_of, AreBy}
use Rattle.column_reports.proofs.by_column.names_in.Given as goal

abbrev pub invariant-loop-column : goal.invariant-loop-column
invariant-loop-column l = AreBy (names_of (map column_tree (take l.column-index l.columns))) [] l.named
