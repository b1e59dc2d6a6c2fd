use Rattle.geoarrow_layout.proofs.Lemmas.{DIMENSIONS, in_written}
use Rattle.geoarrow_layout.proofs.laws.geometry_ids.Goals as goal

pub returns-clause-own : goal.returns-clause-own
returns-clause-own c = in_written c.args.coord_type DIMENSIONS
