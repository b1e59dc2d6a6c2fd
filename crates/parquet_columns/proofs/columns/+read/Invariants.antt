use Rattle.std.proofs.Common.{◌≡◌, ◌+◌, ◌*◌, ◌-◌, map}
use Rattle.parquet_footer.specs.Element.{element}
use Rattle.parquet_columns.specs.Nodes.{node_tree}
use Rattle.parquet_columns.specs.Columns.{nodes_by, node_at}
use Rattle.parquet_columns.proofs.Walks.{with_front}
use Rattle.parquet_columns.proofs.columns.+read.Given as goal

abbrev pub decreases-read_node : goal.decreases-read_node
decreases-read_node l = 2 * l.levels

abbrev pub decreases-read_nodes : goal.decreases-read_nodes
decreases-read_nodes l = 2 * l.levels + 1

-- the elements so far, before those that are left
abbrev pub invariant-read_nodes-nodes : goal.invariant-read_nodes-nodes
invariant-read_nodes-nodes l = with_front (map node_tree l.found.items) (nodes_by (node_at l.types l.levels (map element l.elements)) l.at (l.count - l.i)) ≡ nodes_by (node_at l.types l.levels (map element l.elements)) l.start l.count
