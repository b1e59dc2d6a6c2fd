use Rattle.geoarrow_layout.proofs.AlikeLaws.{split_and_joined}
use Rattle.geoarrow_layout.proofs.laws.parts_are_alike.Goals as goal

pub returns : goal.returns
returns c = λ ms is js all. split_and_joined ms is js all
