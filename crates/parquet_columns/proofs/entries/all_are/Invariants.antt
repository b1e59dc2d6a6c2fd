use Rattle.std.proofs.Common.{◌≡◌, map, drop}
use Rattle.parquet_columns.specs.Entries.{all_are}
use Rattle.parquet_columns.proofs.entries.all_are.Given as goal

abbrev pub invariant-loop-other : goal.invariant-loop-other
invariant-loop-other l = all_are l.text (map (λ t. t.now) (drop l.other-index l.others)) ≡ all_are l.text (map (λ t. t.now) l.others)
