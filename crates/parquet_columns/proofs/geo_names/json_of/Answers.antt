use Rattle.std.proofs.Common.{ap, sym, ◌∙◌}
use Rattle.json.specs.Value.{value_view}
use Rattle.arrow_values.specs.Texts.{text_of}
use Rattle.parquet_columns.specs.GeoNames.{json_of}
use Rattle.parquet_columns.proofs.Reading.{json_read}
use Rattle.parquet_columns.proofs.geo_names.json_of.Goals as goal

pub returns-in-Ok : goal.returns-in-Ok
returns-in-Ok c =
    json_read c.in-Some.text.now (value_view c.in-Ok.value) c.in-Ok.ensures.tokens c.in-Ok.ensures.readable c.in-Ok.ensures.read ∙ ap (λ t. json_of (text_of t)) (sym c.in-Some.is)
