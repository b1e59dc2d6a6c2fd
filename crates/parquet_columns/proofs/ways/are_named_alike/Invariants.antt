use Rattle.std.proofs.Common.{◌≡◌, drop}
use Rattle.std.specs.Slice.Iter.{iter_rest}
use Rattle.arrow_values.specs.View.{field_trees}
use Rattle.parquet_columns.specs.Ways.{are_named_alike}
use Rattle.parquet_columns.proofs.ways.are_named_alike.Given as goal

abbrev pub invariant-loop-field : goal.invariant-loop-field
invariant-loop-field l = are_named_alike (field_trees (drop l.field-index l.field-items)) (field_trees (iter_rest l.rest)) ≡ are_named_alike (field_trees l.fields) (field_trees l.others)
