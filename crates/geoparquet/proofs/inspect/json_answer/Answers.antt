use Rattle.std.proofs.Common.{map, subst}
use Rattle.arrow_columns.specs.Column.{column_tree}
use Rattle.geoparquet.specs.Findings.{finding}
use Rattle.geoparquet.specs.GeoFindings.{AreTextFindings}
use Rattle.geoparquet.specs.Sources.{element_view, with_elements}
use Rattle.geoparquet.proofs.inspect.json_answer.Goals as goal

pub returns-clause-findings : goal.returns-clause-findings
returns-clause-findings c =
    let es = map element_view c.args.elements.now in
    let v = c.in_ok-report.report.version in
    let fs = map finding c.in_ok-report.report.findings.items in
    subst (λ xs. AreTextFindings c.args.geo.now (map column_tree xs) (with_elements (map column_tree xs) es) v fs) c.as_slice.ensures.value c.in_ok-report.ensures.findings
