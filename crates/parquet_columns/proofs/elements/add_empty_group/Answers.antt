use Rattle.std.proofs.Common.{◌≡◌, true, [], ◌∷◌, ◌++◌, None, map, codes, sym, ap, ◌∙◌}
use Rattle.std.proofs.lemmas.List.{map-append}
use Rattle.parquet_footer.specs.Element.{element}
use Rattle.parquet_columns.specs.declared.code.FileCode.TheVariants.{EmptyGroup}
use Rattle.parquet_columns.specs.Findings.{finding}
use Rattle.parquet_columns.specs.Levels.{level}
use Rattle.parquet_columns.specs.Elements.{of_element, is_empty_group}
use Rattle.parquet_columns.proofs.Found.{of_group}
use Rattle.parquet_columns.proofs.elements.add_empty_group.Goals as goal

pub returns-in_ok-push : goal.returns-in_ok-push
returns-in_ok-push c =
    let e = element c.args.at.now in
    let is_so : is_empty_group e ≡ true = sym c.is_empty_group.ensures ∙ c.if-is_empty_group.true in
    let is : finding c.in_ok-found.found ≡ of_element EmptyGroup (map level c.args.levels.now) e (codes "0 children") None =
    c.in_ok-found.ensures ∙ ap (λ text. of_element EmptyGroup (map level c.args.levels.now) e text None) c.in_ok-text.ensures.ok in
    ap (map finding) c.in_ok-push.ensures.items ∙ map-append finding c.args.findings.now.items (c.in_ok-found.found ∷ [])
    ∙ ap (λ f. map finding c.args.findings.now.items ++ f ∷ []) is ∙ ap (λ fs. map finding c.args.findings.now.items ++ fs) (sym (of_group (map level c.args.levels.now) e is_so))
