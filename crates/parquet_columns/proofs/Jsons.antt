-- A CRS `projjson:KEY` by what was judged of the value of the key.
use Rattle.std.proofs.Common.{◌≡◌, Bool, true, false, ◌∷◌, [], Option, Some, None, if◌then◌else◌, refl, ap}
use Rattle.json.specs.Token.{null}
use Rattle.json.specs.Lex.{tokens}
use Rattle.json.specs.Print.{print}
use Rattle.serde_json.specs.Data.{Data}
use Rattle.arrow_values.specs.Tree.{Text}
use Rattle.geoarrow_meta.specs.declared.edges.Edges.{Edges}
use Rattle.geoarrow_meta.specs.declared.crs.crs_type.CrsType.TheVariants.{Projjson}
use Rattle.geoarrow_meta.specs.CrsText.{is_projjson_text, IsJson}
use Rattle.geoarrow_meta.specs.MetadataText.{metadata_tokens}
use Rattle.geoarrow_meta.proofs.Compact.{compact_is_same}
use Rattle.parquet_columns.specs.Geometry.{no_crs, keyed_crs, text_with}
use Rattle.parquet_columns.specs.Values.{compact_of}

-- of a value that is PROJJSON it is that PROJJSON
pub of_json : (text : Text) (value : Option Text) (e : Option Edges) → compact_of value ≡ Some text
    → print (metadata_tokens (tokens text) (Some Projjson) e) ≡ text_with (keyed_crs value) e
of_json text None e is = absurd (cc)
of_json text (Some value) e is = json_step (is_projjson_text value) refl is
  where
    json_step : (b : Bool) → is_projjson_text value ≡ b → (if b then Some (print (tokens value)) else None) ≡ Some text
        → print (metadata_tokens (tokens text) (Some Projjson) e) ≡ text_with (if b then (record { tokens = tokens value; crs_type = Some Projjson }) else no_crs) e
    json_step true same found = ap (λ ts. print (metadata_tokens ts (Some Projjson) e)) (compact_is_same value text is).tokens_same
    json_step false other found = absurd (cc)

-- it is JSON
pub is_read : (text : Text) (value : Option Text) → compact_of value ≡ Some text → (d : Data) × IsJson text d
is_read text None is = absurd (cc)
is_read text (Some value) is = (compact_is_same value text is).value

-- of any other it is none
pub of_none : (value : Option Text) (e : Option Edges) → compact_of value ≡ None
    → print (metadata_tokens (null ∷ []) None e) ≡ text_with (keyed_crs value) e
of_none None e is = refl
of_none (Some value) e is = none_step (is_projjson_text value) is
  where
    none_step : (b : Bool) → (if b then Some (print (tokens value)) else None) ≡ None
        → print (metadata_tokens (null ∷ []) None e) ≡ text_with (if b then (record { tokens = tokens value; crs_type = Some Projjson }) else no_crs) e
    none_step true none = absurd (cc)
    none_step false none = refl
