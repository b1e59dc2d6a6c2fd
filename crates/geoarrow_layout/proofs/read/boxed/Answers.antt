use Rattle.geoarrow_layout.proofs.Lemmas.{refl, BoxFault, root_refused}
use Rattle.geoarrow_layout.proofs.read.boxed.Goals as goal

pub returns-in_err-count : goal.returns-in_err-count
returns-in_err-count c = λ t h. root_refused BoxFault (λ x t b m. ((refl, refl), (refl, refl))) c.args.summary.now _ _ _ c.from_residual.ensures.1 c.in_err-count.ensures t h
