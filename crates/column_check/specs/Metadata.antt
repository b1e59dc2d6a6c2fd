-- Which values a metadata text denotes, whatever numbers its CRS holds, and why a text denotes none (GeoArrow, "Extension metadata").
use Rattle.std.specs.Prelude.{◌≡◌, [], bytes_eq, codes, Bool, false, Option, None, Some, IsSome, option_map, option_and_then, Result, Ok, Err, if◌then◌else◌}
use Rattle.json.specs.Json.{Json, null}
use Rattle.json.specs.Find.{get}
use Rattle.json.specs.Lex.{tokens}
use Rattle.json.specs.Tree.{json_tokens}
use Rattle.serde_json.specs.Data.{Data, string}
use Rattle.serde_json.specs.Find.{as_object}
use Rattle.serde_json.specs.Read.{of_json, read}
use Rattle.arrow_values.specs.Tree.{Text}
use Rattle.geoarrow_meta.specs.declared.edges.Edges.{Edges}
use Rattle.geoarrow_meta.specs.declared.crs.crs_type.CrsType.{CrsType}
use Rattle.geoarrow_meta.specs.Read.{crs_type_data, edges_data, at_key}
use Rattle.geoarrow_meta.specs.KeyValues.{IsNamed}
use Rattle.column_check.specs.declared.metadata.ColumnMetadata.{ColumnMetadata}
use Rattle.column_check.specs.declared.metadata.MetadataFault.{MetadataFault}
use Rattle.column_check.specs.declared.metadata.MetadataFault.TheVariants.{NotJson, NotObject, UnknownCrsType, UnknownEdges, UnknownCrsTypeAndEdges}

-- the values at the three keys, where they are there and not null
pub record Values : Type 0 where
  pub crs : Option Data
  pub crs_type : Option CrsType
  pub edges : Option Edges

abbrev pub values_of : ColumnMetadata → Values
values_of m = record { crs = option_and_then of_json m.crs; crs_type = m.crs_type; edges = m.edges }

abbrev pub no_values : Values
no_values = record { crs = None; crs_type = None; edges = None }

-- the value is the text `planar`
abbrev pub is_planar : Option Data → Bool
is_planar (Some (string s)) = bytes_eq s (codes "planar")
is_planar o = false

-- the value, if it is not `planar`
abbrev pub unless_planar : Option Data → Option Data
unless_planar o = if is_planar o then None else o

-- the value at the key `edges`, if it is there, and neither null nor `planar`, which say what its absence does
abbrev pub edges_in : Data → Option Data
edges_in d = unless_planar (at_key (codes "edges") d)

-- the edges of a JSON value are planar by name
abbrev pub are_planar : Option Data → Bool
are_planar None = false
are_planar (Some d) = is_planar (at_key (codes "edges") d)

-- the text is read as that JSON value, if it is one
abbrev pub IsReadFrom : Text → Option Json → Type 0
IsReadFrom s None = read s ≡ None
IsReadFrom s (Some j) = (d : Data) × (of_json j ≡ Some d) × (read s ≡ Some d)

-- the JSON value denotes these values: it is an object, and they are those at its three keys
pub record DataDenotes (d : Data) (v : Values) : Type 0 where
  pub is_object : IsSome (as_object d)
  pub crs : v.crs ≡ at_key (codes "crs") d
  pub crs_type : option_map crs_type_data v.crs_type ≡ at_key (codes "crs_type") d
  pub edges : option_map edges_data v.edges ≡ edges_in d

-- the text is JSON that denotes these values
abbrev pub JsonDenotes : Text → Values → Type 0
JsonDenotes s v = (d : Data) × (read s ≡ Some d) × DataDenotes d v

-- the metadata text denotes these values; a missing text and an empty one denote none of the three
abbrev pub TextDenotes : Option Text → Values → Type 0
TextDenotes None v = v ≡ no_values
TextDenotes (Some []) v = v ≡ no_values
TextDenotes (Some s) v = JsonDenotes s v

-- the value, if it is there and not null
abbrev pub unless_null : Option Json → Option Json
unless_null None = None
unless_null (Some null) = None
unless_null (Some j) = Some j

-- the text is a JSON value, and this is its last member `crs` as it is written, if there is one that is not null
abbrev pub HasCrs : Text → Option Json → Type 0
HasCrs s crs = (j : Json) × (tokens s ≡ json_tokens j) × (crs ≡ unless_null (get (codes "crs") j))

-- the CRS of a metadata text as it is written; a missing text and an empty one have none
abbrev pub TextHasCrs : Option Text → Option Json → Type 0
TextHasCrs None crs = crs ≡ None
TextHasCrs (Some []) crs = crs ≡ None
TextHasCrs (Some s) crs = HasCrs s crs

-- the object has a CRS type of the format at its key, or none; and so for edges
abbrev pub NamesCrsType : Data → Type 0
NamesCrsType d = (t : Option CrsType) × (option_map crs_type_data t ≡ at_key (codes "crs_type") d)

abbrev pub NamesEdges : Data → Type 0
NamesEdges d = (e : Option Edges) × (option_map edges_data e ≡ edges_in d)

-- the text is JSON, an object, and P holds of it
abbrev pub IsObjectWith : Text → (Data → Type 0) → Type 0
IsObjectWith s P = (d : Data) × (read s ≡ Some d) × IsSome (as_object d) × P d

-- why the text denotes no values
abbrev pub HasTextFault : Text → MetadataFault → Type 0
HasTextFault s NotJson = read s ≡ None
HasTextFault s NotObject = (d : Data) × (read s ≡ Some d) × ¬ IsSome (as_object d)
HasTextFault s UnknownCrsType = IsObjectWith s (λ d. ¬ NamesCrsType d × NamesEdges d)
HasTextFault s UnknownEdges = IsObjectWith s (λ d. NamesCrsType d × ¬ NamesEdges d)
HasTextFault s UnknownCrsTypeAndEdges = IsObjectWith s (λ d. ¬ NamesCrsType d × ¬ NamesEdges d)

-- why the metadata text denotes no values; a missing one and an empty one are without fault
abbrev pub HasMetadataFault : Option Text → MetadataFault → Type 0
HasMetadataFault None f = ⊥
HasMetadataFault (Some []) f = ⊥
HasMetadataFault (Some s) f = HasTextFault s f

-- these were found at the three keys of the value: `Some` says what stands there, or nothing; `None` says that it is something else
pub record AreFound (d : Data) (crs : Option Data) (crs_type : Option (Option CrsType)) (edges : Option (Option Edges)) : Type 0 where
  pub at_crs : crs ≡ at_key (codes "crs") d
  pub at_crs_type : IsNamed crs_type_data crs_type (at_key (codes "crs_type") d)
  pub at_edges : IsNamed edges_data edges (edges_in d)

-- what a text is read as that is not empty: the values that it denotes as JSON, with its CRS as it is written, or why it denotes none
abbrev pub IsJsonRead : Text → Result ColumnMetadata MetadataFault → Type 0
IsJsonRead s (Ok m) = JsonDenotes s (values_of m) × HasCrs s m.crs
IsJsonRead s (Err f) = HasTextFault s f

-- what a metadata text is read as: the values that it denotes, with its CRS as it is written, or why it denotes none
abbrev pub IsMetadataRead : Option Text → Result ColumnMetadata MetadataFault → Type 0
IsMetadataRead t (Ok m) = TextDenotes t (values_of m) × TextHasCrs t m.crs
IsMetadataRead t (Err f) = HasMetadataFault t f
