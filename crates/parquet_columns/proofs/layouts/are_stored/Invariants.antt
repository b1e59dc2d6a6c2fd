use Rattle.std.proofs.Common.{◌≡◌, ◌+◌, ◌*◌, ◌≤◌, ◌^◌, drop, map}
use Rattle.parquet_footer.specs.Element.{element}
use Rattle.parquet_columns.specs.Layouts.{are_stored}
use Rattle.parquet_columns.proofs.layouts.are_stored.Given as goal

abbrev pub invariant-loop-found : goal.invariant-loop-found
invariant-loop-found l = record {
  so_far : are_stored l.left (map element (drop l.found-index l.elements)) ≡ are_stored 1 (map element l.elements);
  few : l.left ≤ 1 + l.found-index * 2 ^ 32;
}
