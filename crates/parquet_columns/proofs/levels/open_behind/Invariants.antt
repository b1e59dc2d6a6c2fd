use Rattle.std.proofs.Common.{◌≡◌, [], map, drop}
use Rattle.parquet_footer.specs.Element.{element}
use Rattle.parquet_columns.specs.Levels.{level, open_behind}
use Rattle.parquet_columns.proofs.levels.open_behind.Given as goal

abbrev pub invariant-loop-child : goal.invariant-loop-child
invariant-loop-child l = record {
  so_far : open_behind (map level l.levels.items) (map element (drop l.child-index l.elements)) ≡ open_behind [] (map element l.elements);
}
