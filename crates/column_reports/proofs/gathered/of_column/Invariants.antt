use Rattle.std.proofs.Common.{◌≡◌, flat_map}
use Rattle.arrow_columns.specs.Column.{column_tree}
use Rattle.geoparquet.specs.Facts.{facts_view}
use Rattle.column_reports.specs.Named.{known, named_view}
use Rattle.column_reports.specs.Gathered.{if_before, if_empty, if_behind}
use Rattle.column_reports.proofs.gathered.of_column.Given as goal

-- what is told so far, by the place of its code
abbrev pub invariant-loop-warning : goal.invariant-loop-warning
invariant-loop-warning l = record {
  before : l.parted.before.items ≡ flat_map (if_before (known (facts_view l.facts, named_view l.named)) (column_tree l.column)) l.yielded;
  empty : l.parted.empty.items ≡ flat_map (if_empty (known (facts_view l.facts, named_view l.named)) (column_tree l.column)) l.yielded;
  behind : l.parted.behind.items ≡ flat_map (if_behind (known (facts_view l.facts, named_view l.named)) (column_tree l.column)) l.yielded;
}
