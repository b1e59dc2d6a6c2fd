use Rattle.geoarrow_layout.proofs.Lemmas.{kind_exact, told_fault}
use Rattle.geoarrow_layout.proofs.read.parse_kind.Goals as goal

pub returns-in_default : goal.returns-in_default
returns-in_default c =
    let told = c.kind_under.ensures.told (c.in_default.not-Wkb, c.in_default.not-Wkt) _ c.summarize.ensures in
    record { exact = kind_exact c.args.name _ _ told; fault = told_fault _ _ _ told }
