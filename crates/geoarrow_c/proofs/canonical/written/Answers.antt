use Rattle.geoarrow_c.proofs.canonical.written.Goals as goal

pub returns : goal.returns
returns c = rw c.is_geometry-is_geometry.ensures at c.normal_if.ensures
