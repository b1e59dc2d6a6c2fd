use Rattle.geoarrow_schema.proofs.Inferring.{taken_once}
use Rattle.geoarrow_schema.proofs.laws.reads_or_infers_as_one.Goals as goal

pub returns : goal.returns
returns c = taken_once c.args.field.now c.reads_as_one.ensures c.infers_as_one.ensures
