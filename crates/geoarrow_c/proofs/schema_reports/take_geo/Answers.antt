use Rattle.std.proofs.Common.{ap, ◌∙◌, option_map, string_bytes}
use Rattle.parquet_columns.specs.Findings.{geo_key}
use Rattle.column_files.specs.Geo.{of_schema}
use Rattle.geoarrow_c.proofs.GeoTexts.{text_at-lookup}
use Rattle.geoarrow_c.proofs.schema_reports.take_geo.Goals as goal

pub returns-in-Some : goal.returns-in-Some
returns-in-Some c =
    ap of_schema (ap (option_map (λ t. string_bytes t)) c.in-Some.ensures.value ∙ text_at-lookup geo_key c.args.metadata.now.entries)

pub returns-in-None : goal.returns-in-None
returns-in-None c =
    ap of_schema (ap (option_map (λ t. string_bytes t)) c.in-None.ensures.value ∙ text_at-lookup geo_key c.args.metadata.now.entries)
