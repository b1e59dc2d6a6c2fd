use Rattle.std.proofs.Common.{◌≡◌, ◌+◌, map}
use Rattle.arrow_columns.specs.Column.{column_tree}
use Rattle.parquet_footer.specs.Element.{element}
use Rattle.parquet_columns.specs.Geometry.{marked_columns}
use Rattle.parquet_columns.specs.Claims.{claim, claims, made_bytes}
use Rattle.parquet_columns.proofs.marks.marked_within.Given as goal

abbrev pub invariant-loop-column : goal.invariant-loop-column
invariant-loop-column l = record {
  same : l.values ≡ l.initial.values;
  so_far : map column_tree l.made.items ≡ marked_columns l.initial.values (map element l.children) (map column_tree l.yielded);
  said : map claim l.elements.items ≡ claims l.initial.values (map element l.children) (map column_tree l.yielded);
  paid : made_bytes l.initial.values (map element l.children) (map column_tree l.yielded) + l.left ≡ l.amount;
}
