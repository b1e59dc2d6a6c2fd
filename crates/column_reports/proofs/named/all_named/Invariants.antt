use Rattle.std.proofs.Common.{◌≡◌, ◌++◌, length, map}
use Rattle.arrow_columns.specs.Column.{column_tree}
use Rattle.parquet_columns.specs.Layouts.{root_element}
use Rattle.column_reports.specs.Named.{all_named, named_view}
use Rattle.column_reports.proofs.named.all_named.Given as goal

-- the columns so far, and those that are left
abbrev pub invariant-columns : goal.invariant-columns
invariant-columns l =
    map named_view l.all.items ++ all_named (map column_tree l.left) (map root_element l.said)
    ≡ all_named (map column_tree l.columns) (map root_element l.elements)

abbrev pub decreases-columns : goal.decreases-columns
decreases-columns l = length l.left
