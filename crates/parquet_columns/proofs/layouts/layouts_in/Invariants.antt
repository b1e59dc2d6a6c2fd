use Rattle.std.proofs.Common.{◌≡◌, ◌++◌, ◌*◌, ◌≤◌, ◌^◌, drop, map}
use Rattle.parquet_footer.specs.Element.{element}
use Rattle.parquet_columns.specs.Layouts.{layout, layouts_in}
use Rattle.parquet_columns.proofs.layouts.layouts_in.Given as goal

abbrev pub invariant-loop-at : goal.invariant-loop-at
invariant-loop-at l = record {
  so_far : map layout l.made.items ++ layouts_in l.below (map element (drop l.at l.elements)) ≡ layouts_in 0 (map element l.elements);
  few : l.below ≤ l.at * 2 ^ 32;
}
