use Rattle.geoarrow_layout.proofs.Lemmas.{◌≡◌, rules, w32, to_z, of_z, to_z-of_z, ap, tree, Separated, Interleaved, agrees}
use Rattle.geoarrow_layout.proofs.read.infer_point.Goals as goal

pub returns-in_ok-dimension-in-Struct-clause-agrees : goal.returns-in_ok-dimension-in-Struct-clause-agrees
returns-in_ok-dimension-in-Struct-clause-agrees c =
    agrees _ (Separated, c.in_ok-dimension-in-Struct.dimension) (rw (ap tree c.in-Struct.is, ← c.as_slice.ensures) ((c.struct_dimension.ensures _).0 c.in_ok-dimension-in-Struct.was))

pub returns-in_ok-dimension-in-FixedSizeList-clause-agrees : goal.returns-in_ok-dimension-in-FixedSizeList-clause-agrees
returns-in_ok-dimension-in-FixedSizeList-clause-agrees c =
    let inner : c.in-FixedSizeList.inner.value ≡ c.deref.result.now = search rules in
    let size : to_z w32 (of_z w32 c.in-FixedSizeList.size) ≡ c.in-FixedSizeList.size = search (rules, to_z-of_z) in
    let h = rw size at ((c.sized_dimension.ensures _).0 c.in_ok-dimension-in-FixedSizeList.was) in
    agrees _ (Interleaved, c.in_ok-dimension-in-FixedSizeList.dimension) (rw (ap tree c.in-FixedSizeList.is, inner) h)
