use Rattle.geoarrow_layout.proofs.Lemmas.{refl, MixedFault, mixed_exact, at_root, root_mixed, root_refused, told_fault}
use Rattle.geoarrow_layout.proofs.read.parse_mixed.Goals as goal

pub returns : goal.returns
returns c =
    let below = c.in_ok-bottom_below.ensures in
    let told = root_mixed _ _ _ _ c.mixed_bottom.ensures (at_root _ _ _ below.0 below.1 c.summarize-summary.ensures) in
    record { exact = mixed_exact _ _ told; fault = told_fault _ _ _ told }

pub returns-in_err-bottom_below : goal.returns-in_err-bottom_below
returns-in_err-bottom_below c =
    let told = root_refused MixedFault (λ x t b m. ((refl, refl), (refl, refl))) _ _ _ _ c.from_residual.ensures.1 c.in_err-bottom_below.ensures _ c.summarize-summary.ensures in
    record { exact = mixed_exact _ _ told; fault = told_fault _ _ _ told }
