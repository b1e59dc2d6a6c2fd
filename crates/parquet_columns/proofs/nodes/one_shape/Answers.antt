use Rattle.std.proofs.Common.{map, sym, ap}
use Rattle.arrow_columns.specs.Column.{column_tree}
use Rattle.parquet_columns.proofs.Shapes.{lone_shape, repeated_shape}
use Rattle.parquet_columns.proofs.nodes.one_shape.Goals as goal

pub returns : goal.returns
returns c = lone_shape c.args.node.repetition _ _ (sym c.if-repeated.ensures) c.in_ok-column.ensures

pub returns-then-repeated : goal.returns-then-repeated
returns-then-repeated c = repeated_shape c.args.node.repetition _ _ _ (sym c.if-repeated.ensures) c.in_ok-column.ensures (ap (map column_tree) c.in_ok-vec.ensures.items)
