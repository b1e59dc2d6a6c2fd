-- What stands at the key `geo` of the metadata of a file.
use Rattle.std.specs.Prelude.{Option, None, Some, string_bytes}
use Rattle.arrow_values.specs.Tree.{Text}
use Rattle.parquet_footer.specs.Spelled.{Spelled, spelled}
use Rattle.column_files.specs.declared.geo.GeoText.{GeoText}
use Rattle.column_files.specs.declared.geo.GeoText.TheVariants.{Absent, Footer, Schema}

-- nothing; the value of the key in a footer, with the byte where it begins; or its text in the metadata of a schema
pub data Geo : Type 0 where
  absent : Geo
  in_footer : Spelled → Geo
  in_schema : Text → Geo

abbrev pub geo_of : GeoText → Geo
geo_of Absent = absent
geo_of (Footer text) = in_footer (spelled text)
geo_of (Schema text) = in_schema (string_bytes text)

-- what there is where a footer has that value of the key, if any
abbrev pub of_footer : Option Spelled → Geo
of_footer None = absent
of_footer (Some value) = in_footer value

-- what there is where the metadata of a schema have that text at the key, if any
abbrev pub of_schema : Option Text → Geo
of_schema None = absent
of_schema (Some text) = in_schema text
