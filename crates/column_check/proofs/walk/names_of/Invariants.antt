use Rattle.std.proofs.Common.{◌≡◌, ◌++◌, drop, map}
use Rattle.arrow_values.specs.View.{field_trees}
use Rattle.geoarrow_layout.specs.Shapes.{names_of}
use Rattle.column_check.proofs.walk.names_of.Given as goal

abbrev pub invariant-loop-field : goal.invariant-loop-field
invariant-loop-field l = map (λ name. name.now) l.names.items ++ names_of (field_trees (drop l.field-index l.fields)) ≡ names_of (field_trees l.fields)
