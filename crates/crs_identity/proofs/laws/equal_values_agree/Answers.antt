use Rattle.crs_identity.proofs.Agreement.{values_agree}
use Rattle.crs_identity.proofs.laws.equal_values_agree.Goals as goal

pub returns : goal.returns
returns c = λ i j h. values_agree i j h
