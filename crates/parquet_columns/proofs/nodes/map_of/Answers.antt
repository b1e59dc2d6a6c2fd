use Rattle.std.proofs.Common.{sym, refl}
use Rattle.parquet_columns.specs.Nodes.{node_tree}
use Rattle.parquet_columns.proofs.Shapes.{map_is}
use Rattle.parquet_columns.proofs.nodes.map_of.Goals as goal

pub returns : goal.returns
returns c = map_is c.args.at (node_tree c.args.node) _ _ (sym c.if-not-is_repeated.ensures) (sym c.if-not-is_group.ensures) refl c.in_ok-map_type.ensures
