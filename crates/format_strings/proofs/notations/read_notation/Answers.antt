use Rattle.std.proofs.Common.{sym, ◌∙◌}
use Rattle.format_strings.proofs.Noted.{bare_is, zoned_alone, exact_by}
use Rattle.format_strings.proofs.notations.read_notation.Goals as goal

pub returns-in-Some-clause-exact : goal.returns-in-Some-clause-exact
returns-in-Some-clause-exact c = bare_is c.args.text.now c.in-Some.kind (sym c.in-Some.ensures)

pub returns-clause-exact : goal.returns-clause-exact
returns-clause-exact c =
    let text = c.args.text.now in let r = c.zoned_noted.result in
    exact_by text r
    (zoned_alone text r (sym c.bare_noted.ensures ∙ c.in_default.is) c.zoned_noted.ensures)
