use Rattle.std.proofs.Common.{◌≡◌, map, flat_map, take}
use Rattle.arrow_columns.specs.Column.{column_tree}
use Rattle.parquet_footer.specs.Element.{element}
use Rattle.parquet_columns.specs.Columns.{fault_tree, column_at, faults_at}
use Rattle.parquet_columns.specs.declared.leaf.LeafTypes.TheVariants.{Meant}
use Rattle.parquet_columns.specs.Places.{child}
use Rattle.parquet_columns.proofs.columns.columns_at.Given as goal

abbrev pub invariant-loop-at : goal.invariant-loop-at
invariant-loop-at l = record {
  columns : map column_tree l.columns.items ≡ map (column_at Meant (map element l.elements)) (map child (take l.at-index l.children));
  faults : map fault_tree l.faults.items ≡ flat_map (faults_at (map element l.elements)) (map child (take l.at-index l.children));
}
