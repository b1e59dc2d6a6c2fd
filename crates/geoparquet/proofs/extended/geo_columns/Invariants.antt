use Rattle.std.proofs.Common.{◌≡◌, [], map}
use Rattle.json.specs.Value.{value_view}
use Rattle.arrow_values.specs.Tree.{Text}
use Rattle.arrow_columns.specs.Column.{column_tree}
use Rattle.geoparquet.specs.GeoColumns.{AreGeoColumns, left_for, value_in}
use Rattle.geoparquet.specs.Sources.{element_view, with_elements}
use Rattle.geoparquet.proofs.Marking.{IsSplit}
use Rattle.geoparquet.proofs.extended.geo_columns.Given as goal

abbrev pub invariant-loop-column : goal.invariant-loop-column
invariant-loop-column l = record {
  left : (name : Text) → value_in l.members name ≡ left_for (value_view l.value) (map column_tree l.yielded) name;
  split : IsSplit (map element_view l.elements) (map column_tree l.yielded) (map element_view l.said);
  so_far : AreGeoColumns (value_view l.value) [] (with_elements (map column_tree l.yielded) (map element_view l.elements)) (map column_tree l.made.items);
}
