use Rattle.geoarrow_layout.proofs.Lemmas.{native_exact, told_fault, inner_of}
use Rattle.geoarrow_layout.proofs.read.parse_native.Goals as goal

pub returns : goal.returns
returns c =
    let told = c.native.ensures _ (inner_of _ _ c.summarize.ensures) in
    record { exact = native_exact _ _ _ told; fault = told_fault _ _ _ told }
