use Rattle.same_columns.proofs.Itself.{none}
use Rattle.same_columns.proofs.laws.nothing_differs_from_itself.Goals as goal

pub returns : goal.returns
returns c = none c.alike_to_itself.ensures c.equal_values_agree.ensures c.json_equality_is_fair.ensures.reflexive
