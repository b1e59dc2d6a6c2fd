use Rattle.geoarrow_fields.proofs.Limits.{fault_longer}
use Rattle.geoarrow_fields.proofs.laws.past_limit_in_any_chunks.Goals as goal

pub returns : goal.returns
returns c = fault_longer
