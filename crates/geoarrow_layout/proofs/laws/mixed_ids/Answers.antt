use Rattle.geoarrow_layout.proofs.Lemmas.{take, KINDS, natives_written}
use Rattle.geoarrow_layout.proofs.laws.mixed_ids.Goals as goal

pub returns-clause-own : goal.returns-clause-own
returns-clause-own c = natives_written c.args.coord_type c.args.dimension (take 6 KINDS)
