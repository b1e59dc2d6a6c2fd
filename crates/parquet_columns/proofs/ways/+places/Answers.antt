use Rattle.std.proofs.Common.{◌≡◌, ◌*◌, ◌+◌, ap, arith}
use Rattle.arrow_values.specs.Tree.{depth, fields_depth}
use Rattle.arrow_values.specs.View.{field_trees}
use Rattle.parquet_columns.proofs.Fitting.{field_lower}
use Rattle.parquet_columns.proofs.ways.+places.Goals as goal

pub add_of_fields-add_places-requires : goal.add_of_fields-add_places-requires
add_of_fields-add_places-requires t c =
    let low = field_lower c.as_slice-field-items.result.now c.loop-field.field-index c.field-item.result c.loop-field-test.true c.field-item.is in
    let all = ap (λ fs. fields_depth (field_trees fs)) c.as_slice-field-items.ensures in
    let this = ap depth c.data_type-then-not-fits.ensures in
    let most : 2 * fields_depth (field_trees c.args.fields.now) ≡ t = c.decreases in
    (omega (arith, low, all, this, most), tt)
