use Rattle.std.proofs.Common.{◌≡◌, ◌++◌, ◌*◌, ◌≤◌, ◌^◌, map, drop}
use Rattle.parquet_footer.specs.Element.{element}
use Rattle.parquet_columns.specs.Geometry.{children_in}
use Rattle.parquet_columns.proofs.marks.children_in.Given as goal

abbrev pub invariant-loop-child : goal.invariant-loop-child
invariant-loop-child l = record {
  so_far : map element l.found.items ++ children_in l.below (map element (drop l.child-index l.elements)) ≡ children_in 0 (map element l.elements);
  few : l.below ≤ l.child-index * 2 ^ 32;
}
