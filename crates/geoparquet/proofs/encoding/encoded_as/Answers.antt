use Rattle.std.proofs.Common.{ap}
use Rattle.arrow_values.specs.Texts.{text_of}
use Rattle.arrow_columns.specs.Column.{column_tree}
use Rattle.geoparquet.proofs.Naming.{encoded_as}
use Rattle.geoparquet.proofs.encoding.encoded_as.Goals as goal

pub returns : goal.returns
returns c =
    let there = ap text_of c.in_ok-encoding.was in
    encoded_as (text_of c.args.encoding) c.in_ok-encoding.field-0.now there c.encoding_named.result c.encoding_named.ensures c.in_ok-name.name c.in_ok-name.was (column_tree c.args.column.now) c.is_stored_as.result c.then_some.result c.then_some.ensures c.is_stored_as.ensures
