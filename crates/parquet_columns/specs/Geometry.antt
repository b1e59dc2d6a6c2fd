-- Which extension metadata the geometry types of Parquet denote (Parquet, "Geospatial Definitions").
use Rattle.std.specs.Prelude.{ℕ, zero, suc, ◌+◌, ◌==◌, ◌&&◌, nat_lt, Bool, true, false, not, List, [], ◌∷◌, length, codes, Option, None, Some, option_map, unwrap_or, if◌then◌else◌}
use Rattle.std.specs.Char.{is_ascii_digit}
use Rattle.std.specs.List.{list_all, position_or_len, before_first, after_first}
use Rattle.std.specs.Str.{bytes_eq}
use Rattle.json.specs.Json as json
use Rattle.json.specs.Token.{Token, string, null}
use Rattle.json.specs.Lex.{tokens}
use Rattle.json.specs.Print.{print}
use Rattle.arrow_values.specs.Tree.{Text}
use Rattle.arrow_values.specs.Texts.{set_extension}
use Rattle.arrow_columns.specs.Column.{name_on}
use Rattle.arrow_columns.specs.Types.{ColumnTree}
use Rattle.crs_identity.specs.FormNames.{form_name}
use Rattle.crs_identity.specs.Forms.{form_of_value}
use Rattle.crs_identity.specs.declared.names.FormName.{FormName}
use Rattle.crs_identity.specs.declared.names.FormName.TheVariants.{Code}
use Rattle.geoarrow_meta.specs.declared.edges.Edges.{Edges}
use Rattle.geoarrow_meta.specs.declared.edges.Edges.TheVariants as edges
use Rattle.geoarrow_meta.specs.declared.crs.crs_type.CrsType.{CrsType}
use Rattle.geoarrow_meta.specs.declared.crs.crs_type.CrsType.TheVariants.{Projjson, AuthorityCode, Srid}
use Rattle.geoarrow_meta.specs.CrsText.{is_projjson_text}
use Rattle.geoarrow_meta.specs.MetadataText.{metadata_tokens}
use Rattle.parquet_footer.specs.declared.element.PhysicalType.{PhysicalType}
use Rattle.parquet_footer.specs.declared.element.PhysicalType.TheVariants.{ByteArray}
use Rattle.parquet_footer.specs.declared.element.Repetition.{Repetition}
use Rattle.parquet_footer.specs.declared.element.Repetition.TheVariants.{Repeated}
use Rattle.parquet_footer.specs.declared.logical.Algorithm.{Algorithm}
use Rattle.parquet_footer.specs.declared.logical.Algorithm.TheVariants.{Spherical, Vincenty, Thomas, Andoyer, Karney, Unknown}
use Rattle.parquet_footer.specs.Element.{Element}
use Rattle.parquet_footer.specs.Footer.{Pairing}
use Rattle.parquet_footer.specs.Logical.{Logical, geometry, geography}
use Rattle.parquet_columns.specs.declared.geometry.EdgesClaim.{EdgesClaim}
use Rattle.parquet_columns.specs.declared.geometry.EdgesClaim.TheVariants as said
use Rattle.parquet_columns.specs.Keys.{text_at}
use Rattle.parquet_columns.specs.Reserved.{is_reserved}
use Rattle.parquet_columns.specs.Unreadable.{is_unreadable}

-- a CRS by the tokens that it is written with, and its type
pub record TypedCrs : Type 0 where
  pub tokens : List Token
  pub crs_type : Option CrsType

-- a text as it is; PROJJSON, where the text is one, and something else where it is none
abbrev pub text_crs : Text → Option CrsType → TypedCrs
text_crs s t = record { tokens = string s ∷ []; crs_type = t }

abbrev pub json_or : Text → TypedCrs → TypedCrs
json_or s other = if is_projjson_text s then (record { tokens = tokens s; crs_type = Some Projjson }) else other

-- what stands before the first colon of a text and behind it
abbrev pub is_colon : ℕ → Bool
is_colon b = b == 58

abbrev pub colon_parts : Text → Option (Text × Text)
colon_parts s = if nat_lt (position_or_len is_colon s) (length s) then Some (before_first is_colon s, after_first is_colon s) else None

-- projjson:KEY is the value of the key, where that is PROJJSON; where it is none, of which `CrsKeyMissing` is found, null, which says no CRS
abbrev pub no_crs : TypedCrs
no_crs = record { tokens = null ∷ []; crs_type = None }

abbrev pub keyed_crs : Option Text → TypedCrs
keyed_crs None = no_crs
keyed_crs (Some value) = json_or value no_crs

-- srid:NUMBER, where that is one digit or more; another text behind `srid:` is of no type
abbrev pub are_digits : Text → Bool
are_digits s = nat_lt 0 (length s) && list_all is_ascii_digit s

abbrev pub srid_crs : Text → Text → TypedCrs
srid_crs s number = if are_digits number then text_crs number (Some Srid) else text_crs s None

-- the type of any other text, by its form (docs/FORMAT.md, 5.3): that of a code, and no other has one
abbrev pub type_of_form : FormName → Option CrsType
type_of_form Code = Some AuthorityCode
type_of_form form = None

abbrev pub code_type : Text → Option CrsType
code_type s = type_of_form (form_name (form_of_value (json.string s)))

-- srid:NUMBER, projjson:KEY and AUTHORITY:CODE; any other text is of no type
abbrev pub coded_crs : List Pairing → Text → Option (Text × Text) → TypedCrs
coded_crs pairs s None = text_crs s None
coded_crs pairs s (Some p) =
    if bytes_eq p.0 (codes "srid") then srid_crs s p.1 else
    if bytes_eq p.0 (codes "projjson") then keyed_crs (text_at p.1 pairs) else
    text_crs s (code_type s)

-- the CRS that is denoted: the format's default where none is named; a text that is PROJJSON itself; or one of those
abbrev pub crs_in : List Pairing → Option Text → TypedCrs
crs_in pairs None = text_crs (codes "OGC:CRS84") (Some AuthorityCode)
crs_in pairs (Some s) = json_or s (coded_crs pairs s (colon_parts s))

-- the edges of a GEOGRAPHY: the format's default is spherical, and counts where the algorithm is not known
abbrev pub edges_of : Option Algorithm → Edges
edges_of None = edges.Spherical
edges_of (Some Spherical) = edges.Spherical
edges_of (Some Vincenty) = edges.Vincenty
edges_of (Some Thomas) = edges.Thomas
edges_of (Some Andoyer) = edges.Andoyer
edges_of (Some Karney) = edges.Karney
edges_of (Some (Unknown number)) = edges.Spherical

-- how the edges of a GEOGRAPHY are said: by its algorithm, where it has one that is known; of one that is not `UnknownAlgorithm` is found
abbrev pub edges_said : Option Algorithm → EdgesClaim
edges_said None = said.Default
edges_said (Some Spherical) = said.Said
edges_said (Some Vincenty) = said.Said
edges_said (Some Thomas) = said.Said
edges_said (Some Andoyer) = said.Said
edges_said (Some Karney) = said.Said
edges_said (Some (Unknown number)) = said.Broken

-- the text of the metadata with that CRS and those edges
abbrev pub text_with : TypedCrs → Option Edges → Text
text_with crs e = print (metadata_tokens crs.tokens crs.crs_type e)

-- what a geometry type says: the CRS that it names, and of a GEOGRAPHY the edges; and how its edges are said
pub record GeometrySays : Type 0 where
  pub crs : Option Text
  pub edges : Option Edges
  pub said : EdgesClaim

abbrev pub geometry_type : Option Logical → Option GeometrySays
geometry_type (Some (geometry crs)) = Some (record { crs = crs; edges = None; said = said.Said })
geometry_type (Some (geography crs algorithm)) = Some (record { crs = crs; edges = Some (edges_of algorithm); said = edges_said algorithm })
geometry_type _ = None

abbrev pub is_geometry_type : Option Logical → Bool
is_geometry_type (Some (geometry crs)) = true
is_geometry_type (Some (geography crs algorithm)) = true
is_geometry_type _ = false

-- whether an element is a leaf of BYTE_ARRAY, and not repeated
abbrev pub is_byte_array : Option PhysicalType → Bool
is_byte_array (Some ByteArray) = true
is_byte_array _ = false

abbrev pub is_repeated : Option Repetition → Bool
is_repeated (Some Repeated) = true
is_repeated _ = false

abbrev pub is_plain_leaf : Element → Bool
is_plain_leaf e = is_byte_array e.storage.physical_type && not (is_repeated e.storage.repetition)

-- what an element says by its geometry type, if it is of one
abbrev pub geometry_of : Element → Option GeometrySays
geometry_of e = if is_plain_leaf e then geometry_type e.logical_type else None

-- the extension metadata that an element denotes, if it is of a geometry type
abbrev pub denoted : List Pairing → GeometrySays → Text
denoted pairs g = text_with (crs_in pairs g.crs) g.edges

abbrev pub extension_text : List Pairing → Element → Option Text
extension_text pairs e = option_map (denoted pairs) (geometry_of e)

-- the extension metadata that a column is given: those that its element denotes, if it is read and has no extension name that GeoArrow or OGC would have
-- to give
abbrev pub given_by : Bool → Option Text → Option Text
given_by true text = None
given_by false text = text

abbrev pub given : List Pairing → Option Element → ColumnTree → Option Text
given pairs None c = None
given pairs (Some e) c = if is_unreadable c.data_type then None else given_by (is_reserved (name_on c)) (extension_text pairs e)

-- with extension metadata that it is given, a column has the name of well-known binary
abbrev pub marked_by : Option Text → ColumnTree → ColumnTree
marked_by None c = c
marked_by (Some text) c = record c { metadata = set_extension (codes "geoarrow.wkb") (Some text) c.metadata }

abbrev pub marked : List Pairing → Option Element → ColumnTree → ColumnTree
marked pairs e c = marked_by (given pairs e c) c

abbrev pub marked_columns : List Pairing → List Element → List ColumnTree → List ColumnTree
marked_columns pairs es [] = []
marked_columns pairs [] (c ∷ cs) = marked pairs None c ∷ marked_columns pairs [] cs
marked_columns pairs (e ∷ es) (c ∷ cs) = marked pairs (Some e) c ∷ marked_columns pairs es cs

-- the children of the root, each with what stands behind it: first the elements below it, of which so many are still to come
abbrev pub count_of : Element → ℕ
count_of e = unwrap_or e.num_children 0

unfoldable pub children_by : {A : Type 0} → (Element → List Element → A) → ℕ → List Element → List A
children_by f below [] = []
children_by f zero (e ∷ es) = f e es ∷ children_by f (count_of e) es
children_by f (suc below) (e ∷ es) = children_by f (below + count_of e) es

abbrev pub children_in : ℕ → List Element → List Element
children_in below es = children_by (λ e behind. e) below es

abbrev pub root_children : List Element → List Element
root_children [] = []
root_children (root ∷ es) = children_in 0 es
