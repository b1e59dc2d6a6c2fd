-- Which metadata a JSON value or a text denotes (GeoArrow, "Extension metadata"), and with which error one that denotes none
-- is refused.
use Rattle.std.specs.Prelude.{◌≡◌, ◌⊎◌, codes, Bool, true, false, Option, None, Some, IsSome, Result, MatchResult, option_map, ⊤}
use Rattle.arrow_values.specs.Tree.{Text}
use Rattle.arrow_values.specs.Errors.{IsMemory}
use Rattle.arrow_values.specs.declared.error.ArrowError.{ArrowError}
use Rattle.arrow_values.specs.declared.error.ArrowError.TheVariants.{ExternalError', OutOfMemory}
use Rattle.arrow_values.specs.declared.error.GeoArrowError.{GeoArrowError}
use Rattle.arrow_values.specs.declared.error.GeoArrowError.TheVariants.{Arrow, Crs, External}
use Rattle.serde_json.specs.Data.{Data, null, string}
use Rattle.serde_json.specs.Find.{get, as_object}
use Rattle.serde_json.specs.Read.{read}
use Rattle.serde_json.specs.Written.{has_float}
use Rattle.geoarrow_meta.specs.declared.edges.Edges.{Edges}
use Rattle.geoarrow_meta.specs.declared.edges.Edges.TheVariants.{Andoyer, Karney, Spherical, Thomas, Vincenty}
use Rattle.geoarrow_meta.specs.declared.crs.crs_type.CrsType.{CrsType}
use Rattle.geoarrow_meta.specs.declared.crs.crs_type.CrsType.TheVariants.{Projjson, Wkt2_2019, AuthorityCode, Srid}
use Rattle.geoarrow_meta.specs.declared.metadata.Metadata.{Metadata}

-- the text that denotes edges, at `edges`
abbrev pub edges_text : Edges → Text
edges_text Andoyer = codes "andoyer"
edges_text Karney = codes "karney"
edges_text Spherical = codes "spherical"
edges_text Thomas = codes "thomas"
edges_text Vincenty = codes "vincenty"

-- the text that denotes a CRS type, at `crs_type`
abbrev pub crs_type_text : CrsType → Text
crs_type_text Projjson = codes "projjson"
crs_type_text Wkt2_2019 = codes "wkt2:2019"
crs_type_text AuthorityCode = codes "authority_code"
crs_type_text Srid = codes "srid"

-- the JSON value that is written at `crs_type`
abbrev pub crs_type_data : CrsType → Data
crs_type_data t = string (crs_type_text t)

-- the JSON value that is written at `edges`
abbrev pub edges_data : Edges → Data
edges_data e = string (edges_text e)

-- the metadata without a CRS and edges
abbrev pub empty : Metadata
empty = record { crs = record { value = None; crs_type = None }; edges = None }

-- the value, if it is there and not null
abbrev pub present : Option Data → Option Data
present None = None
present (Some null) = None
present (Some d) = Some d

-- the value at a key, if it is there and not null
abbrev pub at_key : Text → Data → Option Data
at_key k d = present (get k d)

-- whether there is a value, and it holds, at any depth, a number that is read as a float: one with a fraction or an exponent, `-0`, or a
-- whole number outside -2^63 to 2^64 - 1; numbers that are no floats are called whole below
abbrev pub some_has_float : Option Data → Bool
some_has_float None = false
some_has_float (Some d) = has_float d

-- the JSON value denotes the metadata: it is an object with whole numbers in `crs`, and the parts are those at the three keys
pub record Denotes (d : Data) (m : Metadata) : Type 0 where
  pub is_object : IsSome (as_object d)
  pub whole : some_has_float (at_key (codes "crs") d) ≡ false
  pub crs : m.crs.value ≡ at_key (codes "crs") d
  pub crs_type : option_map crs_type_data m.crs.crs_type ≡ at_key (codes "crs_type") d
  pub edges : option_map edges_data m.edges ≡ at_key (codes "edges") d

-- the metadata text denotes the metadata; a missing text denotes the empty one
abbrev pub DenotesMetadata : Option Text → Metadata → Type 0
DenotesMetadata None m = m ≡ empty
DenotesMetadata (Some s) m = (d : Data) × (read s ≡ Some d) × Denotes d m

-- what a metadata text, or its absence, is read as: the metadata that it denotes; or an error, where it denotes none or memory
-- runs out
abbrev pub IsTextReading : Option Text → Result Metadata ArrowError → Type 0
IsTextReading t r = MatchResult r (DenotesMetadata t) (λ e. IsMemory e ⊎ ((m : Metadata) → DenotesMetadata t m → ⊥))

-- the value is an object with a number in `crs` that is read as a float
abbrev pub HasFloat : Data → Type 0
HasFloat d = IsSome (as_object d) × (some_has_float (at_key (codes "crs") d) ≡ true)

-- the value is refused with that error: `Crs` if `crs` holds a float, otherwise `External` if it denotes no
-- metadata; or out of memory
abbrev pub RefusedAs : Data → GeoArrowError → Type 0
RefusedAs d (Arrow a) = IsMemory a
RefusedAs d (Crs s) = HasFloat d
RefusedAs d (External s) = ¬ HasFloat d × ((m : Metadata) → ¬ Denotes d m)
RefusedAs d _ = ⊥

-- the text is refused with that error: out of memory; or boxed in an `ExternalError`, `Crs` if `crs` holds a float,
-- and `External` if it otherwise denotes no metadata; a missing text is not refused
abbrev pub TextRefusedAs : Option Text → ArrowError → Type 0
TextRefusedAs None e = ⊥
TextRefusedAs (Some s) OutOfMemory = ⊤
TextRefusedAs (Some s) (ExternalError' p (Crs t)) = (d : Data) × (read s ≡ Some d) × HasFloat d
TextRefusedAs (Some s) (ExternalError' p (External t)) = ((d : Data) → read s ≡ Some d → ¬ HasFloat d) × ((m : Metadata) → ¬ DenotesMetadata (Some s) m)
TextRefusedAs (Some s) _ = ⊥

-- the error is an `External`, or out of memory
abbrev pub IsExternalOrMemory : GeoArrowError → Type 0
IsExternalOrMemory (Arrow a) = IsMemory a
IsExternalOrMemory (External s) = ⊤
IsExternalOrMemory _ = ⊥
