use Rattle.geoarrow_layout.proofs.KindSteps as law
use Rattle.geoarrow_layout.proofs.laws.one_kind.Goals as goal

pub returns : goal.returns
returns c = λ name t k l h g. law.one_kind name t k l h g
