use Rattle.std.proofs.Common.{◌≡◌, ◌+◌, ◌*◌, drop}
use Rattle.std.specs.Slice.Iter.{iter_rest}
use Rattle.arrow_values.specs.Tree.{depth, fields_depth}
use Rattle.arrow_values.specs.View.{tree, field_trees}
use Rattle.parquet_columns.specs.Fits.{fields_fit}
use Rattle.parquet_columns.proofs.fits.+fits.Given as goal

abbrev pub decreases-fits : goal.decreases-fits
decreases-fits l = 2 * depth (tree l.said.now)

abbrev pub decreases-item_fits : goal.decreases-item_fits
decreases-item_fits l = 2 * depth (tree l.said.now) + 1

abbrev pub decreases-fields_fit : goal.decreases-fields_fit
decreases-fields_fit l = 2 * fields_depth (field_trees l.fields.now) + 1

abbrev pub invariant-fields_fit-loop-field : goal.invariant-fields_fit-loop-field
invariant-fields_fit-loop-field l = fields_fit (field_trees (drop l.field-index l.field-items)) (field_trees (iter_rest l.rest)) ≡ fields_fit (field_trees l.fields) (field_trees l.others)
