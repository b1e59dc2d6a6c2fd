use Rattle.std.proofs.Common.{◌≡◌, ◌+◌, ◌++◌, ◌*◌, ◌≤◌, ◌^◌, map, drop}
use Rattle.parquet_footer.specs.Element.{element}
use Rattle.parquet_columns.specs.Places.{child, children_from, missing_from}
use Rattle.parquet_columns.proofs.places.children_behind.Given as goal

abbrev pub invariant-loop-next : goal.invariant-loop-next
invariant-loop-next l = record {
  so_far : map child l.found.items ++ children_from l.at l.below (map element (drop l.next-index l.elements)) ≡ children_from 1 0 (map element l.elements);
  left : missing_from l.below (map element (drop l.next-index l.elements)) ≡ missing_from 0 (map element l.elements);
  few : l.below ≤ l.next-index * 2 ^ 32;
  place : l.at ≡ l.next-index + 1;
}
