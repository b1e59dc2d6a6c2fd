use Rattle.crs_identity.proofs.Agreement.{crs_verdict_sym}
use Rattle.crs_identity.proofs.laws.verdict_is_symmetric.Goals as goal

pub returns : goal.returns
returns c = λ a b. crs_verdict_sym a b
