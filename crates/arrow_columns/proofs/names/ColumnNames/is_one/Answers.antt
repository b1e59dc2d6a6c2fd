use Rattle.std.proofs.Common.{◌≡◌, Some, None, map, option_map, ap, ◌∙◌, subst}
use Rattle.arrow_columns.specs.Column.{column_tree}
use Rattle.arrow_columns.specs.Names.{named_in}
use Rattle.arrow_columns.proofs.Named.{of_found, of_none, shown}
use Rattle.arrow_columns.proofs.names.ColumnNames.is_one.Goals as goal

pub returns-in-Some : goal.returns-in-Some
returns-in-Some c =
    let is = ap (option_map shown) c.in-Some.ensures.value ∙ c.self.invariant c.args.name.now in
    of_found (map column_tree c.args.self.now) c.args.name.now (shown c.in-Some.found.now) (subst (λ cs. Some (shown c.in-Some.found.now) ≡ named_in (map column_tree cs) c.args.name.now) c.self.view_is is)

pub returns-in-None : goal.returns-in-None
returns-in-None c =
    let is = ap (option_map shown) c.in-None.ensures.value ∙ c.self.invariant c.args.name.now in
    of_none (map column_tree c.args.self.now) c.args.name.now (subst (λ cs. None ≡ named_in (map column_tree cs) c.args.name.now) c.self.view_is is)
