-- A finding as contracts see it, its place and what stands there.
use Rattle.std.specs.Prelude.{ℕ, Option, option_map, string_bytes}
use Rattle.json.specs.Json.{Json}
use Rattle.json.specs.Print.{print}
use Rattle.json.specs.Tree.{json_tokens}
use Rattle.arrow_values.specs.Tree.{Text}
pub use Rattle.column_check.specs.Places.{member_place, item_place}
pub use Rattle.column_check.specs.Shown.{shown, shown_value}
use Rattle.geoparquet.specs.declared.code.GeoCode.{GeoCode}
use Rattle.geoparquet.specs.declared.fact_sources.FactSource.{FactSource}
use Rattle.geoparquet.specs.declared.finding.GeoFinding.{GeoFinding}

pub record Finding : Type 0 where
  pub code : GeoCode
  pub column : Option Text
  pub source : FactSource
  pub pointer : Text
  pub found : Option Text
  pub wanted : Option Text
  pub more : ℕ

abbrev pub finding : GeoFinding → Finding
finding f = record { code = f.code; column = option_map string_bytes f.column; source = f.source; pointer = string_bytes f.pointer; found = option_map string_bytes f.found; wanted = option_map string_bytes f.wanted; more = f.more }

-- a value as it is shown: its text without blanks
abbrev pub value_text : Json → Text
value_text j = print (json_tokens j)
