use Rattle.std.proofs.Common.{◌≡◌, ◌++◌, map, flat_map, take}
use Rattle.parquet_footer.specs.Footer.{pairing}
use Rattle.parquet_footer.specs.Findings.{finding, pair_findings}
use Rattle.parquet_footer.proofs.finding.add_pairs.Given as goal

abbrev pub invariant-loop-pair : goal.invariant-loop-pair
invariant-loop-pair l = map finding l.findings.items ≡ map finding l.initial.findings.items ++ flat_map pair_findings (map pairing (take l.pair-index l.pairs))
