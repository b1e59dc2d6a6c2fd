-- What a CRS has already in the format that is asked for.
use Rattle.std.specs.Prelude.{◌≡◌, Option, Some, None, IsSome, Result, String, string_bytes, option_map, option_and_then, MatchResult}
use Rattle.std.specs.declared.alloc.Global.{Global}
use Rattle.serde_json.specs.Data.{Data}
use Rattle.serde_json.specs.Find.{as_str}
use Rattle.serde_json.specs.View.{view}
use Rattle.serde_json.specs.declared.value.Value.{Value}
use Rattle.geoarrow_meta.specs.declared.crs.crs_type.CrsType.{CrsType}
use Rattle.geoarrow_meta.specs.declared.crs.crs_type.CrsType.TheVariants.{Projjson, Wkt2_2019}
use Rattle.geoarrow_meta.specs.declared.crs.Crs.{Crs}
use Rattle.arrow_values.specs.declared.error.GeoArrowError.{GeoArrowError}
use Rattle.arrow_values.specs.Errors.{IsGeoMemory}
use Rattle.arrow_values.specs.Tree.{Text}

-- if the type is `Projjson`, the value, which may be missing
abbrev if_projjson : Option CrsType → Option Data → Option (Option Data)
if_projjson (Some Projjson) v = Some v
if_projjson _ v = None

-- if the type is `Wkt2_2019` and the value is a text, that text
abbrev if_wkt : Option CrsType → Option Data → Option Text
if_wkt (Some Wkt2_2019) v = option_and_then as_str v
if_wkt _ v = None

-- the PROJJSON that a CRS has already
abbrev pub own_projjson : Crs → Option (Option Data)
own_projjson c = if_projjson c.crs_type c.value

-- the WKT that a CRS has already
abbrev pub own_wkt : Crs → Option Text
own_wkt c = if_wkt c.crs_type c.value

-- the result is that value; out of memory only if there is one
abbrev pub AnswersValue : Result (Option Value) GeoArrowError → Option Data → Type 0
AnswersValue r v = MatchResult r (λ o. option_map view o ≡ v) (λ e. IsGeoMemory e × IsSome v)

-- the result is that text, or out of memory
abbrev pub AnswersText : Result (Option (String Global)) GeoArrowError → Text → Type 0
AnswersText r s = MatchResult r (λ o. option_map string_bytes o ≡ Some s) IsGeoMemory
