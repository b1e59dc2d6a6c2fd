use Rattle.std.proofs.Common.{◌≡◌, map}
use Rattle.arrow_columns.specs.Column.{column_tree}
use Rattle.column_reports.specs.ByColumn.{names_of, of_no_column, AreBy}
use Rattle.column_reports.proofs.by_column.by_columns.Given as goal

abbrev pub invariant-loop-finding : goal.invariant-loop-finding
invariant-loop-finding l = record {
  named : AreBy (names_of (map column_tree l.columns)) l.yielded l.named;
  others : l.others.items ≡ of_no_column (names_of (map column_tree l.columns)) l.yielded;
}
