use Rattle.std.proofs.Common.{◌≡◌, map, length}
use Rattle.parquet_columns.specs.Levels.{level, open_of}
use Rattle.parquet_columns.proofs.levels.close.Given as goal

abbrev pub invariant-levels : goal.invariant-levels
invariant-levels l = record {
  same : open_of (map level l.levels.items) ≡ open_of (map level l.initial.levels.items);
}

abbrev pub decreases-levels : goal.decreases-levels
decreases-levels l = length l.levels.items
