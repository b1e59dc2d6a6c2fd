-- A CRS as it is written, and the JSON value that it is.
use Rattle.std.specs.Prelude.{◌≡◌, Bool, false, List, [], ◌∷◌, Option, None, Some, is_some}
use Rattle.json.specs.Token.{Token}
use Rattle.json.specs.Lex.{tokens}
use Rattle.serde_json.specs.Data.{Data, null, string}
use Rattle.serde_json.specs.Find.{as_object}
use Rattle.value_tokens.specs.Next.{next_value}
use Rattle.arrow_values.specs.Tree.{Text as Bytes}
use Rattle.geoarrow_meta.specs.declared.crs_text.WrittenCrs.{WrittenCrs}
use Rattle.geoarrow_meta.specs.declared.crs_text.WrittenCrs.TheVariants.{Absent, Text, Json}

-- the text is that JSON value, nested at most 126 levels
abbrev pub IsJson : Bytes → Data → Type 0
IsJson s d = next_value 126 (tokens s) ≡ Some (d, [])

-- whether these tokens are a JSON object nested at most 126 levels, and nothing is behind it
abbrev pub is_object_alone : Option (Data × List Token) → Bool
is_object_alone None = false
is_object_alone (Some (d, [])) = is_some (as_object d)
is_object_alone (Some (d, t ∷ ts)) = false

abbrev pub is_alone_object : List Token → Bool
is_alone_object ts = is_object_alone (next_value 126 ts)

abbrev pub is_projjson_text : Bytes → Bool
is_projjson_text s = is_alone_object (tokens s)

-- the JSON value of a CRS that is written so
abbrev pub IsCrs : WrittenCrs → Data → Type 0
IsCrs Absent d = d ≡ null
IsCrs (Text s) d = d ≡ string s.now
IsCrs (Json s) d = IsJson s.now d
