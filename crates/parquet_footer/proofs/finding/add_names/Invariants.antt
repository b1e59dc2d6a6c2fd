use Rattle.std.proofs.Common.{◌≡◌, ◌++◌, map, flat_map, take}
use Rattle.parquet_footer.specs.Element.{element}
use Rattle.parquet_footer.specs.Findings.{finding, name_findings}
use Rattle.parquet_footer.proofs.finding.add_names.Given as goal

abbrev pub invariant-loop-element : goal.invariant-loop-element
invariant-loop-element l = map finding l.findings.items ≡ map finding l.initial.findings.items ++ flat_map name_findings (map element (take l.element-index l.elements))
