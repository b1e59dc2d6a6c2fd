-- Columns that hold geometries by their extension name or their element, and have no member of `columns` (docs/FORMAT.md, 5.1).
use Rattle.std.specs.Prelude.{◌&&◌, ◌||◌, Bool, false, not, List, [], codes, bytes_eq, Option, None, Some, is_some, flat_map}
use Rattle.std.specs.List.{list_any}
use Rattle.json.specs.Json.{Json, string}
use Rattle.parquet_columns.specs.GeoNames.{covers}
use Rattle.arrow_values.specs.Tree.{Text}
use Rattle.arrow_columns.specs.Column.{name_on}
use Rattle.arrow_columns.specs.Types.{ColumnTree}
use Rattle.geoparquet.specs.Findings.{Finding}
use Rattle.geoparquet.specs.Rules.{found_at, unless}
use Rattle.geoparquet.specs.Ordered.{has_member}
use Rattle.geoparquet.specs.Contradictions.{own_encoding, element_encoding}
use Rattle.geoparquet.specs.Sources.{Element}
use Rattle.geoparquet.specs.declared.code.GeoCode.TheVariants.{ColumnUndeclared, NoMetadata}

-- an extension name of geometries: each that says an encoding, but for that of boxes
abbrev pub is_geometry_name : Text → Bool
is_geometry_name s = is_some (own_encoding s) && not (bytes_eq s (codes "geoarrow.box"))

abbrev pub is_geometry : Option Text → Bool
is_geometry None = false
is_geometry (Some s) = is_geometry_name s

-- a path of some covering names the column
abbrev pub is_covered : Text → List (Text × Json) → Bool
is_covered name ms = list_any (λ m. covers name m.1) ms

-- a column that holds no geometries by its field and its element, has a member, or is that of a covering
abbrev pub is_declared : List (Text × Json) → ColumnTree × Option Element → Bool
is_declared ms x =
    not (is_geometry (name_on x.0) || is_some (element_encoding x.1)) || (has_member x.0.name ms || is_covered x.0.name ms)

-- the name of the column is what is found
abbrev pub column_undeclared_findings : List (Text × Json) → ColumnTree × Option Element → List Finding
column_undeclared_findings ms x =
    unless (is_declared ms x) (found_at ColumnUndeclared (Some x.0.name) (codes "/columns") (Some (string x.0.name)) None)

abbrev pub undeclared_findings : List (Text × Json) → List (ColumnTree × Option Element) → List Finding
undeclared_findings ms xs = flat_map (column_undeclared_findings ms) xs

-- ---- files without metadata

-- a column that holds geometries by its field, and not by its element
abbrev pub is_bare : ColumnTree × Option Element → Bool
is_bare x = is_geometry (name_on x.0) && not (is_some (element_encoding x.1))

-- there is no value at the key `geo`, and such a column
abbrev pub no_metadata_findings : List (ColumnTree × Option Element) → List Finding
no_metadata_findings xs = unless (not (list_any is_bare xs)) (found_at NoMetadata None [] None None)
