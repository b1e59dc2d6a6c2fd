use Rattle.std.proofs.Common.{◌≡◌, map, option_map, take}
use Rattle.json.specs.Value.{value_view}
use Rattle.arrow_columns.specs.Column.{column_tree}
use Rattle.parquet_footer.specs.Element.{element}
use Rattle.parquet_columns.specs.Resolved.{takes_from}
use Rattle.parquet_columns.proofs.resolved.all_taken.Given as goal

abbrev pub invariant-loop-at : goal.invariant-loop-at
invariant-loop-at l = record {
  so_far : l.takes.items ≡ takes_from (option_map (λ v. value_view v.now) l.geo) (map element l.children) (map column_tree l.stored) 0 (map column_tree (take l.at l.stored));
}
