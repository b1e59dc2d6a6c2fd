use Rattle.parquet_columns.proofs.Shapes.{column_more}
use Rattle.parquet_columns.proofs.nodes.columns_of_nodes.Goals as goal

pub nodes-preserved : goal.nodes-preserved
nodes-preserved c = column_more c.nodes.yielded c.in-Some.node c.nodes.made.items _ c.in_ok-column_of.field-0 c.nodes.invariant c.in_ok-push.ensures.items c.in_ok-column_of.ensures
