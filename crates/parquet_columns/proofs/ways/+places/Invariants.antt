use Rattle.std.proofs.Common.{◌≡◌, ◌+◌, ◌*◌, drop}
use Rattle.std.specs.Slice.Iter.{iter_rest}
use Rattle.arrow_values.specs.Tree.{depth, fields_depth}
use Rattle.arrow_values.specs.View.{tree, field_trees}
use Rattle.parquet_columns.specs.Ways.{field_places}
use Rattle.parquet_columns.proofs.ways.+places.Given as goal

abbrev pub decreases-add_places : goal.decreases-add_places
decreases-add_places l = 2 * depth (tree l.said.now)

abbrev pub decreases-add_of_item : goal.decreases-add_of_item
decreases-add_of_item l = 2 * depth (tree l.said.now) + 1

abbrev pub decreases-add_of_struct : goal.decreases-add_of_struct
decreases-add_of_struct l = 2 * fields_depth (field_trees l.fields.now) + 1

abbrev pub decreases-add_of_fields : goal.decreases-add_of_fields
decreases-add_of_fields l = 2 * fields_depth (field_trees l.fields.now)

-- the fields that are left, from their place on
abbrev pub invariant-add_of_fields-loop-field : goal.invariant-add_of_fields-loop-field
invariant-add_of_fields-loop-field l = record {
  same : field_places l.at (field_trees (drop l.field-index l.field-items)) (field_trees (iter_rest l.rest)) ≡ field_places 0 (field_trees l.fields) (field_trees l.others);
  place : l.at ≡ l.field-index;
  way : l.way.items ≡ l.initial.way.items;
}
