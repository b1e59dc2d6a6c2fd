-- The sources that say something of a column: the value at the key `geo`, and what the element says beside the field (docs/FORMAT.md, 4.6 and 5).
use Rattle.std.specs.Prelude.{◌≡◌, List, [], ◌∷◌, bytes_eq, Option, None, Some, option_and_then, option_map, unwrap_or, find, if◌then◌else◌}
use Rattle.std.specs.Borrow.{Bor}
use Rattle.std.specs.BTreeMap.{BTreeMap, get_by}
use Rattle.std.specs.Cmp.Lexicographic.{slice_cmp}
use Rattle.std.specs.Ordering.{nat_cmp}
use Rattle.std.specs.Str.{is_utf8}
use Rattle.json.specs.Json.{Json, null}
use Rattle.arrow_values.specs.Tree.{Text}
use Rattle.arrow_columns.specs.Column.{column_tree}
use Rattle.arrow_columns.specs.Types.{ColumnTree}
use Rattle.crs_identity.specs.Forms.{json_in}
use Rattle.parquet_columns.specs.declared.layouts.RootElement as declared
pub use Rattle.parquet_columns.specs.Claims.{Claim, silent, gives, beside}
pub use Rattle.parquet_columns.specs.Layouts.{RootElement as Element, root_element as element_view}
use Rattle.geoparquet.specs.declared.source.GeoSource.{GeoSource}
use Rattle.geoparquet.specs.declared.source.GeoSource.TheVariants.{Unasked, Missing, Value}
use Rattle.geoparquet.specs.declared.sources.Sourced.{Sourced}

-- what a file has at the key `geo`: nothing, and nothing is missing; nothing; a value, by its bytes
pub data Source : Type 0 where
  unasked : Source
  missing : Source
  value : Text → Source

abbrev pub source : GeoSource → Source
source Unasked = unasked
source Missing = missing
source (Value v) = value v.now

-- the JSON that a file has at the key `geo`; null where there is none
abbrev pub json_at_geo : Source → Option Json
json_at_geo unasked = None
json_at_geo missing = None
json_at_geo (value bytes) = if is_utf8 bytes then json_in bytes else None

abbrev pub geo_json : Source → Json
geo_json s = unwrap_or (json_at_geo s) null

-- the columns, each with what its element says, if one is there
abbrev pub with_elements : List ColumnTree → List Element → List (ColumnTree × Option Element)
with_elements [] es = []
with_elements (c ∷ cs) [] = (c, None) ∷ with_elements cs []
with_elements (c ∷ cs) (e ∷ es) = (c, Some e) ∷ with_elements cs es

-- the first column of a name, with what its element says
abbrev pub source_named : List (ColumnTree × Option Element) → Text → Option (ColumnTree × Option Element)
source_named xs name = find (λ x. bytes_eq x.0.name name) xs

-- what the element of the first column of a name says
abbrev pub element_named : List (ColumnTree × Option Element) → Text → Option Element
element_named xs name = option_and_then (λ x. x.1) (source_named xs name)

-- ---- for private contracts

abbrev pub sourced : Sourced → ColumnTree × Option Element
sourced s = (column_tree s.column.now, option_map (λ e. element_view e.now) s.element)

-- what a map has at a name
abbrev pub element_at : BTreeMap (Bor Text) (Option (Bor declared.RootElement)) → Text → Option (Option Element)
element_at m name = option_map (option_map (λ e. element_view e.now)) (get_by (λ k. slice_cmp nat_cmp name k.now) m)

-- of the first column of a name
abbrev pub element_first : List (ColumnTree × Option Element) → Text → Option (Option Element)
element_first xs name = option_map (λ x. x.1) (source_named xs name)

-- the map has at each name what the element of the first column of that name says
abbrev pub AreElements : List (ColumnTree × Option Element) → BTreeMap (Bor Text) (Option (Bor declared.RootElement)) → Type 0
AreElements xs m = (name : Text) → element_at m name ≡ element_first xs name
