use Rattle.std.proofs.Common.{map, ap, subst, ◌∙◌}
use Rattle.arrow_columns.specs.Column.{column_tree}
use Rattle.geoparquet.specs.Findings.{finding}
use Rattle.geoparquet.specs.GeoFindings.{AreTextFindings}
use Rattle.geoparquet.specs.Sources.{sourced}
use Rattle.geoparquet.proofs.inspect.json_said.Goals as goal

pub returns-clause-findings : goal.returns-clause-findings
returns-clause-findings c =
    let geo = c.args.geo.now in
    let columns = map column_tree c.args.columns.now in
    let v = c.in_ok-report.report.version in
    let fs = map finding c.in_ok-report.report.findings.items in
    let all = ap (map sourced) c.as_slice.ensures.value ∙ c.in_ok-all.ensures in
    subst (λ xs. AreTextFindings geo columns xs v fs) all c.in_ok-report.ensures
