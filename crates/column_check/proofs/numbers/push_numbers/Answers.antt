use Rattle.std.proofs.Common.{[], map, option_map, ap, ◌++◌, ◌∙◌}
use Rattle.arrow_columns.specs.Column.{type_tree}
use Rattle.column_check.specs.Said.{said, at_each}
use Rattle.column_check.specs.Walk.{numbers_found}
use Rattle.column_check.proofs.Ways.{all_numbers}
use Rattle.column_check.proofs.Telling.{all_told}
use Rattle.column_check.proofs.numbers.push_numbers.Goals as goal

pub returns : goal.returns
returns c =
    let code = c.args.code in
    let t = type_tree c.args.column_type.now in
    let before = map said c.args.warnings.now.items in
    all_told code before _ _ _ _ (numbers_found code [] t) c.sixteen-rest.ensures.room (ap (option_map said) c.sixteen-rest.ensures.last) c.in_ok-push_in.ensures c.in_ok-finish.ensures
    ∙ ap (λ spots. before ++ at_each code spots) (all_numbers code t)
