use Rattle.std.proofs.Common.{◌≡◌, map, take}
use Rattle.parquet_columns.specs.Levels.{level}
use Rattle.parquet_columns.proofs.levels.names_of.Given as goal

abbrev pub invariant-loop-group : goal.invariant-loop-group
invariant-loop-group l = record {
  so_far : map (λ n. n.now) l.names.items ≡ map (λ g. g.name) (map level (take l.group-index l.groups));
}
