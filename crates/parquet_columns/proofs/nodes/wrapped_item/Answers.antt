use Rattle.std.proofs.Common.{sym, ◌∙◌}
use Rattle.parquet_columns.proofs.Shapes.{kept_item}
use Rattle.parquet_columns.proofs.nodes.wrapped_item.Goals as goal

pub returns-then-not-is_item_name : goal.returns-then-not-is_item_name
returns-then-not-is_item_name c = kept_item c.args.list.now c.args.name.now _ (sym c.is_item_name.ensures ∙ c.if-not-is_item_name.true)
