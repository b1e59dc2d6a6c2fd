use Rattle.geoarrow_layout.proofs.Lemmas.{refl, GeometryFault, root_refused}
use Rattle.geoarrow_layout.proofs.read.geometry.Goals as goal

pub returns-in_err-no_members : goal.returns-in_err-no_members
returns-in_err-no_members c = λ t h. root_refused GeometryFault (λ x t b m. ((refl, refl), (refl, refl))) c.args.summary.now _ _ _ c.from_residual.ensures.1 c.in_err-no_members.ensures t h
