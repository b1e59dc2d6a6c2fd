use Rattle.std.proofs.Common.{◌≡◌, refl, ap₂, ◌∙◌}
use Rattle.arrow_columns.specs.Types.{part_trees}
use Rattle.arrow_columns.specs.Below.{ref_tree}
use Rattle.column_check.specs.Walk.{names_on, number_spot, part_spots, telling, tell_all}
use Rattle.column_check.proofs.Telling.{tell_item}
use Rattle.column_check.proofs.numbers.tell_parts.Goals as goal

pub loop-part-preserved : goal.loop-part-preserved
loop-part-preserved c =
    let code = c.args.code in
    let way = names_on c.args.way.now in
    let now = telling c.loop-part.warnings.items c.loop-part.rest in
    let type : ref_tree c.as_ref-found.result ≡ c.part-item.result.data_type = c.as_ref-found.ensures ∙ c.data_type.ensures in
    tell_item code (λ ps. part_spots code way (part_trees ps)) (λ p. number_spot code way p.name p.data_type) (λ x xs. refl) now _ _ _ _
    c.part-item.is c.loop-part-test.true (c.in_ok-tell_number.ensures ∙ ap₂ (λ n u. tell_all code now (number_spot code way n u)) c.name.ensures type)
    ∙ c.loop-part.invariant
