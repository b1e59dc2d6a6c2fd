use Rattle.std.proofs.Common.{◌≡◌, map, take}
use Rattle.arrow_columns.specs.Column.{column_tree}
use Rattle.parquet_footer.specs.Element.{element}
use Rattle.parquet_columns.specs.Columns.{column_at}
use Rattle.parquet_columns.specs.declared.leaf.LeafTypes.TheVariants.{Stored}
use Rattle.parquet_columns.specs.Places.{child}
use Rattle.parquet_columns.proofs.columns.all_compared.Given as goal

abbrev pub invariant-loop-child : goal.invariant-loop-child
invariant-loop-child l = map column_tree l.made.items ≡ map (column_at Stored (map element l.elements)) (map child (take l.child-index l.children))
