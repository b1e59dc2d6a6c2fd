use Rattle.std.proofs.Common.{[], map, option_map, ap, ◌++◌, ◌∙◌}
use Rattle.arrow_values.specs.View.{tree}
use Rattle.column_check.specs.Said.{said, at_each}
use Rattle.column_check.specs.Walk.{code_of, found}
use Rattle.column_check.proofs.Ways.{all_found}
use Rattle.column_check.proofs.Telling.{all_told}
use Rattle.column_check.proofs.walk.push_sought.Goals as goal

pub returns : goal.returns
returns c =
    let sought = c.args.sought in
    let t = tree c.args.data_type.now in
    let before = map said c.args.warnings.now.items in
    all_told (code_of sought) before _ _ _ _ (found sought [] t) c.sixteen-rest.ensures.room (ap (option_map said) c.sixteen-rest.ensures.last) c.in_ok-push_found.ensures c.in_ok-finish.ensures
    ∙ ap (λ spots. before ++ at_each (code_of sought) spots) (all_found sought t)
