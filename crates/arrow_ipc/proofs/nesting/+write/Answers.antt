use Rattle.std.proofs.Common.{◌≡◌, ◌<◌, ◌-◌, map, ap, ◌∙◌, arith}
use Rattle.std.proofs.lemmas.Grind.{common_steps}
use Rattle.std.proofs.lemmas.List.{drop_all, drop_more, map_push}
use Rattle.arrow_values.specs.View.{tree, texts_of}
use Rattle.arrow_ipc.proofs.Linked.{items}
use Rattle.arrow_ipc.proofs.Blocks.{made_more, columns_made, lent, data_gives}
use Rattle.arrow_ipc.proofs.nesting.+write.Goals as goal

pub children_block-returns : goal.children_block-returns
children_block-returns t c =
    let none = ap lent (drop_all c.columns.field-index c.args.fields.now c.columns-test.false) in
    columns_made c.args.levels _ (map items c.columns.blocks.items) _ (lent c.args.fields.now) c.columns.invariant none c.vector_block.result (rw c.as_slice.ensures.value at c.vector_block.ensures)

pub data_block-returns : goal.data_block-returns
data_block-returns t c =
    let below : (0 < c.args.levels) × (c.in_ok-below.below ≡ c.args.levels - 1) = grind (arith, common_steps) in
    data_gives c.args.levels (tree c.args.data_type.now) c.args.name.now c.args.nullable (texts_of c.args.texts.now.entries) _ _ _ _ c.in_ok-tag.tag (lent c.as_slice.result.now) below.0 (ap lent c.as_slice.ensures.value ∙ c.in_ok-fields.ensures)
    c.in_ok-name.ensures c.in_ok-texts.ensures (rw below.1 at c.in_ok-children.ensures) c.in_ok-tag.ensures.0 c.in_ok-tag.ensures.1 c.table_block.result c.table_block.ensures

pub children_block-columns-preserved : goal.children_block-columns-preserved
children_block-columns-preserved t c = grind (arith, made_more, drop_more, map_push)
