use Rattle.std.proofs.Common.{None, map, take}
use Rattle.column_reports.specs.FindingLines.{finding_value}
use Rattle.column_reports.specs.Objects.{AddsValues}
use Rattle.column_reports.proofs.finding_json.put_findings.Given as goal

abbrev pub invariant-loop-finding : goal.invariant-loop-finding
invariant-loop-finding l = AddsValues (map (finding_value None None) (take l.finding-index l.findings)) l.initial.out l.out
