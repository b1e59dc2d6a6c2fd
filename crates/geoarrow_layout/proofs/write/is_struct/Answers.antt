use Rattle.geoarrow_layout.proofs.Lemmas.{ap, tree, struct_same}
use Rattle.geoarrow_layout.proofs.write.is_struct.Goals as goal

pub returns : goal.returns
returns c = struct_same _ _ _ _ (ap tree c.in-Struct.is) (rw (← c.as_slice.ensures) c.are_coordinates.ensures)
