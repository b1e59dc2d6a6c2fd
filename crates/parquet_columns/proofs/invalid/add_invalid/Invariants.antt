use Rattle.std.proofs.Common.{◌≡◌, ◌++◌, map, take}
use Rattle.parquet_footer.specs.Element.{element}
use Rattle.parquet_columns.specs.Columns.{fault_tree}
use Rattle.parquet_columns.specs.Findings.{finding}
use Rattle.parquet_columns.specs.Invalid.{invalid}
use Rattle.parquet_columns.proofs.invalid.add_invalid.Given as goal

abbrev pub invariant-loop-broken : goal.invariant-loop-broken
invariant-loop-broken l =
    map finding l.findings.items ≡ map finding l.initial.findings.items ++ map (invalid (map element l.elements)) (map fault_tree (take l.broken-index l.faults))
