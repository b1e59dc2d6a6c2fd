use Rattle.crs_identity.proofs.Equals.{json_refl, json_sym}
use Rattle.crs_identity.proofs.laws.json_equality_is_fair.Goals as goal

pub returns-clause-symmetric : goal.returns-clause-symmetric
returns-clause-symmetric c = λ i j. json_sym i j

pub returns-clause-reflexive : goal.returns-clause-reflexive
returns-clause-reflexive c = λ j. json_refl j
