use Rattle.std.proofs.Common.{codes, option_map}
use Rattle.std.proofs.lemmas.Result.{on_ok_weaker}
use Rattle.geoparquet.specs.Facts.{facts_view}
use Rattle.column_reports.specs.FactMembers.{geometry_types_in}
use Rattle.column_reports.specs.Objects.{member_if}
use Rattle.column_reports.proofs.Adding.{then, for}
use Rattle.column_reports.proofs.line.put_facts.Goals as goal

pub returns : goal.returns
returns c =
    let types = for (λ t. member_if (codes "geometry_types") (geometry_types_in (option_map (λ f. facts_view f.now) c.args.facts) t)) c.in_ok-put_geometry_types.ensures c.type_of_field.ensures in
    let before = then (then c.in_ok-put_orientation.ensures types) c.in_ok-put_bbox.ensures in
    on_ok_weaker c.put_verdicts.result (λ verdicts. then before verdicts) c.put_verdicts.ensures
