-- The normal form of a column: what GeoArrow writes for the geometries that it holds (docs/FORMAT.md, 2.10).
use Rattle.std.specs.Prelude.{◌≡◌, ◌≤◌, ◌&&◌, codes, Bool, false, Option, None, Some, is_none, option_map, ⊤, if◌then◌else◌}
use Rattle.json.specs.Json.{Json, string, object, Members, no_members, member}
use Rattle.json.specs.Print.{print}
use Rattle.json.specs.Tree.{json_tokens, depth, HasNumbers}
use Rattle.serde_json.specs.Data.{Data}
use Rattle.serde_json.specs.Read.{of_json}
use Rattle.value_tokens.specs.Values.{or_null}
use Rattle.arrow_values.specs.Tree.{Text}
use Rattle.arrow_values.specs.Texts.{set_extension}
use Rattle.arrow_columns.specs.Types.{ColumnTree, known}
use Rattle.geoarrow_layout.specs.Kinds.{name_of}
use Rattle.geoarrow_layout.specs.Layouts.{layout}
use Rattle.geoarrow_meta.specs.Read.{crs_type_text, edges_text}
use Rattle.column_check.specs.Finding.{IsFinding}
use Rattle.column_check.specs.declared.metadata.ColumnMetadata.{ColumnMetadata}
use Rattle.column_check.specs.declared.finding.Geometry.{Geometry as GeometryColumn}
use Rattle.column_check.specs.declared.finding.Finding.{Finding as ColumnFinding}
use Rattle.column_check.specs.declared.finding.Finding.TheVariants.{Geometry}

-- a member with a text, if there is one, and those behind it
abbrev pub with_text : Text → Option Text → Members → Members
with_text key None ms = ms
with_text key (Some s) ms = member key (string s) ms

-- the extension metadata as JSON: an object with `crs` as it is written, or null if there is none; with `crs_type` if there is one; and with
-- `edges` if there are any
abbrev pub metadata_object : ColumnMetadata → Json
metadata_object m =
    object
    (member (codes "crs") (or_null m.crs)
    (with_text (codes "crs_type") (option_map crs_type_text m.crs_type)
    (with_text (codes "edges") (option_map edges_text m.edges) no_members)))

-- there is neither a CRS nor are there edges
abbrev pub is_bare : ColumnMetadata → Bool
is_bare m = is_none m.crs && is_none m.edges

-- the text of the extension metadata: that object without blanks, but no text if there is neither a CRS nor edges
abbrev pub normal_text : ColumnMetadata → Option Text
normal_text m = if is_bare m then None else Some (print (json_tokens (metadata_object m)))

-- the column as it is written for these geometries: the data type and the extension name of their kind, and the text of their metadata; its
-- name, its nullability and its other metadata are as they were
abbrev pub as_written : GeometryColumn → ColumnTree → ColumnTree
as_written g c = record c { data_type = known (layout g.kind); metadata = set_extension (name_of g.kind) (normal_text g.metadata) c.metadata }

-- a column of geometries as it is written for them, and any other column as it is
abbrev pub canonical_by : ColumnFinding → ColumnTree → ColumnTree
canonical_by (Geometry g) c = as_written g c
canonical_by f c = c

-- n is the normal form of c
abbrev pub IsCanonical : ColumnTree → ColumnTree → Type 0
IsCanonical c n = (f : ColumnFinding) × IsFinding false c f × (n ≡ canonical_by f c)

-- ---- for private contracts

-- a CRS, if there is one, can be written where a text of JSON has it
abbrev pub IsWritable : Option Json → Type 0
IsWritable None = ⊤
IsWritable (Some j) = HasNumbers j × (depth j ≤ 126) × ((d : Data) × (of_json j ≡ Some d))
