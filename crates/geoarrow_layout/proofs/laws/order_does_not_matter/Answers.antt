use Rattle.geoarrow_layout.proofs.AlikeLaws.{same_members_alike}
use Rattle.geoarrow_layout.proofs.laws.order_does_not_matter.Goals as goal

pub returns : goal.returns
returns c = λ ms ns same. same_members_alike ms ns (λ m. (same m).0) (λ m. (same m).1)
