-- The text of extension metadata, by its tokens, and the JSON value that it is (GeoArrow, "Extension metadata").
use Rattle.std.specs.Prelude.{List, [], ◌∷◌, ◌++◌, codes, Option, None, Some, option_map}
use Rattle.json.specs.Token.{Token, begin_object, end_object, key, string, null}
use Rattle.json.specs.Lex.{tokens}
use Rattle.serde_json.specs.Data.{Data}
use Rattle.arrow_values.specs.Tree.{Text as Bytes}
use Rattle.geoarrow_meta.specs.declared.edges.Edges.{Edges}
use Rattle.geoarrow_meta.specs.declared.crs.crs_type.CrsType.{CrsType}
use Rattle.geoarrow_meta.specs.Read.{crs_type_text, edges_text}
use Rattle.geoarrow_meta.specs.Written.{written}
use Rattle.geoarrow_meta.specs.declared.crs_text.WrittenCrs.{WrittenCrs}
use Rattle.geoarrow_meta.specs.declared.crs_text.WrittenCrs.TheVariants.{Absent, Text, Json}

-- the tokens of a CRS: of JSON those of its text
abbrev pub crs_tokens : WrittenCrs → List Token
crs_tokens Absent = null ∷ []
crs_tokens (Text s) = string s.now ∷ []
crs_tokens (Json s) = tokens s.now

-- the tokens of a key and a text, if there is one
abbrev pub string_tokens : Bytes → Option Bytes → List Token
string_tokens k None = []
string_tokens k (Some s) = key k ∷ string s ∷ []

-- the tokens of the metadata: an object with `crs`, with `crs_type` if there is one, and with `edges` if there are any
abbrev pub metadata_tokens : List Token → Option CrsType → Option Edges → List Token
metadata_tokens crs t e =
    (begin_object ∷ key (codes "crs") ∷ [])
    ++ (crs ++ (string_tokens (codes "crs_type") (option_map crs_type_text t) ++ (string_tokens (codes "edges") (option_map edges_text e) ++ end_object ∷ [])))

-- the JSON value that they are
abbrev pub metadata_data : Data → Option CrsType → Option Edges → Data
metadata_data d t e = written (Some d) t e
