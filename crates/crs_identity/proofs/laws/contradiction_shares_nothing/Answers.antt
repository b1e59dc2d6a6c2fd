use Rattle.crs_identity.proofs.Agreement.{contradict_unshared}
use Rattle.crs_identity.proofs.laws.contradiction_shares_nothing.Goals as goal

pub returns : goal.returns
returns c = λ f g h. contradict_unshared f g h
