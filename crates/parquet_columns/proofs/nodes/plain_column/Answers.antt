use Rattle.parquet_columns.proofs.Shapes.{made_plain}
use Rattle.parquet_columns.proofs.nodes.plain_column.Goals as goal

pub returns : goal.returns
returns c = made_plain c.args.name.now _ c.args.nullable _ _ c.in-Ok.ensures.lossy c.new.ensures.empty
