use Rattle.geoarrow_layout.proofs.KindSteps.{accepted_ok, kind_exact}
use Rattle.geoarrow_layout.proofs.read.is_kind.Goals as goal

pub returns : goal.returns
returns c = λ t h. accepted_ok _ t _ _ c.is_ok.ensures.value (kind_exact c.args.name t _ (c.kind_under.ensures.told c.requires t h))
