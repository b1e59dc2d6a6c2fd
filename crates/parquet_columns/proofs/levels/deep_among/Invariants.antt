use Rattle.std.proofs.Common.{◌≡◌, ◌+◌, [], map, drop}
use Rattle.parquet_footer.specs.Element.{element}
use Rattle.parquet_columns.specs.Levels.{level, deep_from}
use Rattle.parquet_columns.proofs.levels.deep_among.Given as goal

abbrev pub invariant-loop-at : goal.invariant-loop-at
invariant-loop-at l = record {
  so_far : deep_from (l.at + 1) (map level l.levels.items) (map element (drop l.at l.elements)) ≡ deep_from 1 [] (map element l.elements);
}
