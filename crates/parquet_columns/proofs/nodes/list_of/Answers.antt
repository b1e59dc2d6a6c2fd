use Rattle.std.proofs.Common.{Err, sym, ap, ◌∙◌}
use Rattle.parquet_columns.specs.declared.fault.ElementFault.{ElementFault}
use Rattle.parquet_columns.specs.Nodes.{node_tree}
use Rattle.parquet_columns.proofs.Shapes.{not_repeated, list_is}
use Rattle.parquet_columns.proofs.nodes.list_of.Goals as goal

pub returns-then-not-is_repeated : goal.returns-then-not-is_repeated
returns-then-not-is_repeated c = not_repeated c.args.at c.args.list.now (node_tree c.args.node) (sym c.if-not-is_repeated.ensures) ∙ ap (λ (e : ElementFault). Err e) (sym c.new.ensures)

pub returns : goal.returns
returns c = list_is c.args.at c.args.list.now (node_tree c.args.node) _ _ (sym c.if-not-is_repeated.ensures) c.in_ok-item.ensures c.in_ok-list_type.ensures
