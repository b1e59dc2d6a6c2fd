use Rattle.std.proofs.Common.{◌≡◌, ◌++◌, map, length, string_bytes}
use Rattle.parquet_columns.specs.Levels.{shown_names}
use Rattle.parquet_columns.proofs.levels.shown_names.Given as goal

abbrev pub invariant-names : goal.invariant-names
invariant-names l = record {
  so_far : map string_bytes l.path.items ++ shown_names l.room (map (λ n. n.now) l.left) ≡ shown_names 8 (map (λ n. n.now) l.names);
}

abbrev pub decreases-names : goal.decreases-names
decreases-names l = length l.left
