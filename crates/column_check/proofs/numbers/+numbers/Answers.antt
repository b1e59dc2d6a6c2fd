use Rattle.std.proofs.Common.{◌++◌, [], ◌∷◌, refl, ap, ap₂, ◌∙◌, arith}
use Rattle.arrow_columns.specs.Types.{part_trees, column_depth, parts_depth, type_depth}
use Rattle.column_check.specs.Walk.{names_on, numbers_found, numbers_below, telling, tell_all}
use Rattle.column_check.proofs.Ways.{falls}
use Rattle.column_check.proofs.Telling.{tell_item}
use Rattle.column_check.proofs.numbers.+numbers.Goals as goal

pub push_parts-push_in-requires : goal.push_parts-push_in-requires
push_parts-push_in-requires t c =
    let low = falls column_depth (λ ps. parts_depth (part_trees ps)) (λ x xs. refl) _ _ _ refl c.loop-part-test.true c.part-item.is in
    let same = ap type_depth c.data_type.ensures in
    (omega arith, tt)

pub push_parts-loop-part-preserved : goal.push_parts-loop-part-preserved
push_parts-loop-part-preserved t c =
    let code = c.args.code in
    let way = names_on c.args.way.now in
    let now = telling c.loop-part.warnings.items c.loop-part.rest in
    tell_item code (λ ps. numbers_below code way (part_trees ps)) (λ p. numbers_found code (way ++ p.name ∷ []) p.data_type) (λ x xs. refl) now _ _ _ _
    c.part-item.is c.loop-part-test.true
    (c.in_ok-push_in.ensures ∙ ap₂ (λ n u. tell_all code now (numbers_found code (way ++ n ∷ []) u)) c.name.ensures c.data_type.ensures)
    ∙ c.loop-part.invariant
