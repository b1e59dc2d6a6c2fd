-- The extension metadata that GeoParquet metadata give a column (GeoParquet 1.1, "Column metadata").
use Rattle.std.specs.Prelude.{◌≡◌, [], ◌∷◌, codes, bytes_eq, List, Option, None, Some, option_and_then, if◌then◌else◌}
use Rattle.json.specs.Token.{Token, string, null}
use Rattle.json.specs.Json.{Json}
use Rattle.json.specs.Find as find
use Rattle.json.specs.Lex.{tokens}
use Rattle.json.specs.Print.{print}
use Rattle.json.specs.Tree.{json_tokens}
use Rattle.serde_json.specs.Data.{Data}
use Rattle.serde_json.specs.Read.{of_json, read}
use Rattle.arrow_values.specs.Tree.{Text}
use Rattle.value_tokens.specs.Values.{IsReadable, is_object}
use Rattle.geoarrow_meta.specs.declared.edges.Edges.{Edges}
use Rattle.geoarrow_meta.specs.declared.edges.Edges.TheVariants.{Spherical}
use Rattle.geoarrow_meta.specs.declared.crs.crs_type.CrsType.{CrsType}
use Rattle.geoarrow_meta.specs.declared.crs.crs_type.CrsType.TheVariants.{Projjson, AuthorityCode}
use Rattle.geoarrow_meta.specs.MetadataText.{metadata_tokens}
use Rattle.geoparquet.specs.Identifiers.{default_identifier}

-- the text is that JSON value, each number as it is written and the members in their order, and `serde_json` reads it as that value
pub record IsJson (s : Text) (j : Json) : Type 0 where
  pub value : Data
  pub spelled : tokens s ≡ json_tokens j
  pub reads : read s ≡ Some value
  pub converts : of_json j ≡ Some value

-- the last member with that name of the last member `columns`
abbrev pub named_in : Json → Text → Option Json
named_in j name = option_and_then (find.get name) (find.get (codes "columns") j)

-- a CRS by the tokens that it is written with, and its type
pub record TypedCrs : Type 0 where
  pub tokens : List Token
  pub crs_type : Option CrsType

-- the CRS: where `crs` is absent, the format's default; of an object that object as it is written; of any other value none
abbrev pub crs_of : Option Json → TypedCrs
crs_of None = record { tokens = string default_identifier ∷ []; crs_type = Some AuthorityCode }
crs_of (Some j) = if is_object j then (record { tokens = json_tokens j; crs_type = Some Projjson }) else (record { tokens = null ∷ []; crs_type = None })

-- the edges
abbrev pub edges_of : Option Text → Option Edges
edges_of None = None
edges_of (Some s) = if bytes_eq s (codes "spherical") then Some Spherical else None

-- the text of the extension metadata with that CRS and those edges
abbrev pub text_with : TypedCrs → Option Edges → Text
text_with crs edges = print (metadata_tokens crs.tokens crs.crs_type edges)

-- the text of the last member with that key, if it is one
abbrev pub text_at : Text → Json → Option Text
text_at key j = option_and_then find.as_str (find.get key j)

-- the text of the extension metadata which a column has by its member of `columns`
abbrev pub member_text : Json → Text
member_text j = text_with (crs_of (find.get (codes "crs") j)) (edges_of (text_at (codes "edges") j))

-- ---- for private contracts

-- a value that was read from a text
abbrev pub IsRead : Json → Type 0
IsRead j = IsReadable j × ((d : Data) × (of_json j ≡ Some d))
