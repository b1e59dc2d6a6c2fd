use Rattle.std.proofs.Common.{◌≡◌, List, map, take}
use Rattle.arrow_columns.specs.Column.{column_tree}
use Rattle.column_reports.specs.ByColumn.{names_of, by_columns, AreBy}
use Rattle.column_reports.specs.declared.finding.Finding.{Finding}
use Rattle.column_reports.proofs.ByColumn.{AreLeft}
use Rattle.column_reports.proofs.by_column.taken.Given as goal

abbrev pub invariant-loop-column : goal.invariant-loop-column
invariant-loop-column l = (fs : List Finding) → AreBy (names_of (map column_tree l.columns)) fs l.initial.named
    → AreLeft (names_of (map column_tree l.columns)) (names_of (map column_tree (take l.column-index l.columns))) fs l.named
    × (map (λ own. own.items) l.all.items ≡ by_columns (names_of (map column_tree (take l.column-index l.columns))) fs)
