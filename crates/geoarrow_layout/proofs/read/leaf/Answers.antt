use Rattle.geoarrow_layout.proofs.Lemmas.{err_from_is_err_and, struct_no_leaf}
use Rattle.geoarrow_layout.proofs.read.leaf.Goals as goal

pub returns-in_err-separated_dimension-in-Struct : goal.returns-in_err-separated_dimension-in-Struct
returns-in_err-separated_dimension-in-Struct c =
    let p = err_from_is_err_and c.from_residual.result c.from_residual.ensures.1 in
    rw (p.1, p.2, c.in-Struct.is) (struct_no_leaf _ _ _ _ c.in_err-separated_dimension-in-Struct.ensures)
