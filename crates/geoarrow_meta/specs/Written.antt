-- Which JSON value a metadata is written as (GeoArrow, "Extension metadata"), and its normal form.
use Rattle.std.specs.Prelude.{◌≡◌, ◌≤◌, ℕ, codes, ◌&&◌, Bool, if◌then◌else◌, Option, None, Some, is_none, option_map, unwrap_or, ⊤}
use Rattle.arrow_values.specs.Tree.{Text}
use Rattle.serde_json.specs.Data.{Data, null, object, Members, no_members, member, depth}
use Rattle.serde_json.specs.Read.{read}
use Rattle.serde_json.specs.Written.{compact_text}
use Rattle.geoarrow_meta.specs.declared.edges.Edges.{Edges}
use Rattle.geoarrow_meta.specs.declared.crs.crs_type.CrsType.{CrsType}
use Rattle.geoarrow_meta.specs.declared.metadata.Metadata.{Metadata}
use Rattle.geoarrow_meta.specs.Read.{crs_type_data, edges_data}

-- the metadata with these three parts
abbrev pub of_parts : Option Data → Option CrsType → Option Edges → Metadata
of_parts v t e = record { crs = record { value = v; crs_type = t }; edges = e }

-- the members, after a new one if there is a value for it
abbrev pub with_some : Text → Option Data → Members → Members
with_some k None ms = ms
with_some k (Some d) ms = member k d ms

-- the object with `crs`, which is null if there is none, with `crs_type` if there is one, and with `edges` if there are any
abbrev pub written : Option Data → Option CrsType → Option Edges → Data
written v t e = object (member (codes "crs") (unwrap_or v null) (with_some (codes "crs_type") (option_map crs_type_data t) (with_some (codes "edges") (option_map edges_data e) no_members)))

-- whether there is neither a CRS value nor edges
abbrev pub is_bare : Option Data → Option Edges → Bool
is_bare v e = is_none v && is_none e

-- the JSON value that the metadata is written as: that object, but nothing if there is neither a CRS value nor edges
abbrev pub meta_value : Metadata → Option Data
meta_value m = if is_bare m.crs.value m.edges then None else Some (written m.crs.value m.crs.crs_type m.edges)

-- the text that the metadata is written as: the compact text of that value
abbrev pub printed : Metadata → Option Text
printed m = option_map compact_text (meta_value m)

-- the CRS type, but none if there is neither a CRS value nor edges
abbrev pub type_unless : Option Data → Option CrsType → Option Edges → Option CrsType
type_unless v t e = if is_bare v e then None else t

-- the normal form: the metadata without its CRS type if there is neither a CRS value nor edges, otherwise the metadata
-- itself
abbrev pub normal : Metadata → Metadata
normal m = of_parts m.crs.value (type_unless m.crs.value m.crs.crs_type m.edges) m.edges

-- `serde_json` reads the printed value back as that value
abbrev pub IsReadBack : Option Data → Type 0
IsReadBack None = ⊤
IsReadBack (Some d) = read (compact_text d) ≡ Some d

-- a value, if there is one, is nested at most n levels
abbrev pub NestsWithin : ℕ → Option Data → Type 0
NestsWithin n None = ⊤
NestsWithin n (Some d) = depth d ≤ n
