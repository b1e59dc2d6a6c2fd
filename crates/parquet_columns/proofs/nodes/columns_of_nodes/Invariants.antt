use Rattle.std.proofs.Common.{◌≡◌, map}
use Rattle.arrow_columns.specs.Column.{column_tree}
use Rattle.parquet_columns.specs.Nodes.{node_tree, column_of}
use Rattle.parquet_columns.proofs.nodes.columns_of_nodes.Given as goal

abbrev pub invariant-nodes : goal.invariant-nodes
invariant-nodes l = map column_tree l.made.items ≡ map column_of (map node_tree l.yielded)
