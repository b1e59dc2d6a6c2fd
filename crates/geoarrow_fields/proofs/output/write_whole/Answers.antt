use Rattle.geoarrow_fields.proofs.Ways.{write_goes_on}
use Rattle.geoarrow_fields.proofs.output.write_whole.Goals as goal

pub loop-rest-preserved : goal.loop-rest-preserved
loop-rest-preserved g c = write_goes_on _ _ c.in-Ok.n _ _ _ c.loop-rest.invariant c.in-Ok.ensures.bytes
