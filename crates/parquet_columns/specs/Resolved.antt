-- Columns of a stored schema, by the elements at their places (docs/FORMAT.md, 4.5).
use Rattle.std.specs.Prelude.{ℕ, suc, ◌+◌, not, Bool, true, false, ◌||◌, ◌&&◌, nat_eq, List, [], ◌∷◌, map, flat_map, take, codes, Option, Some, None, if◌then◌else◌}
use Rattle.std.specs.List.{slice_get, starts_with}
use Rattle.std.specs.Str.{bytes_eq}
use Rattle.arrow_values.specs.Tree.{Text, plain, binary, large_binary, binary_view}
use Rattle.arrow_columns.specs.Column.{name_on}
use Rattle.arrow_columns.specs.Types.{TypeTree, known, ColumnTree}
use Rattle.arrow_columns.specs.Notation.{type_text}
use Rattle.parquet_footer.specs.Element.{Element}
use Rattle.parquet_columns.specs.declared.code.FileCode.TheVariants.{ArrowSchemaContradicts}
use Rattle.parquet_columns.specs.declared.code.FilePart.TheVariants.{StoredMessage}
use Rattle.parquet_columns.specs.Findings.{Finding}
use Rattle.json.specs.Json.{Json}
use Rattle.parquet_columns.specs.Geometry.{is_geometry_type}
use Rattle.parquet_columns.specs.Layouts.{is_bytes}
use Rattle.parquet_columns.specs.GeoNames.{is_named, is_wkb}
use Rattle.parquet_columns.specs.Fits.{type_fits}
use Rattle.parquet_columns.specs.Ways.{type_places, inner, names_to}
use Rattle.parquet_columns.specs.Levels.{shown_names}
use Rattle.parquet_columns.specs.Shown.{shown}
use Rattle.parquet_columns.specs.Reserved.{is_reserved}
use Rattle.parquet_columns.specs.Unreadable.{is_unreadable}

-- a column may hold geometries, or their boxes: its element is of a geometry type, its field has an extension name of GeoArrow or an old one, or the
-- metadata at `geo` name it
abbrev pub is_geometry : Option Element → Bool
is_geometry None = false
is_geometry (Some e) = is_geometry_type e.logical_type

abbrev pub is_geo_name : Option Text → Bool
is_geo_name None = false
is_geo_name (Some name) = starts_with nat_eq name (codes "geoarrow.") || bytes_eq name (codes "ogc.wkb") || bytes_eq name (codes "ogc.wkt")

abbrev pub may_hold : Option Json → Option Element → ColumnTree → Bool
may_hold geo e s = (is_geometry e || is_geo_name (name_on s)) || is_named s.name geo

-- a stored column that does not fit its element is the column of the element, and that is found
abbrev pub bare : ColumnTree → ColumnTree
bare c = record c { metadata = [] }

-- where the first part of its type is that does not fit, and what is wanted there
abbrev pub contradiction_at : List ℕ → ColumnTree → ColumnTree → Finding
contradiction_at way t s = record {
  code = ArrowSchemaContradicts;
  column = Some s.name;
  path = shown_names 8 (names_to s.data_type way);
  place = record { part = StoredMessage; byte = None };
  found = Some (shown (type_text (inner s.data_type way)));
  wanted = Some (shown (type_text (inner t.data_type way)));
}

abbrev pub contradiction : ColumnTree → ColumnTree → Finding
contradiction t s = contradiction_at (type_places t.data_type s.data_type) t s

-- a stored column by its element: the column, what is found, and whether the element refutes a name of GeoArrow
pub record Resolution : Type 0 where
  pub column : ColumnTree
  pub found : Option Finding
  pub refuted : Bool

abbrev pub as_it_is : ColumnTree → Resolution
as_it_is c = record { column = c; found = None; refuted = false }

-- a column of well-known binary has the type of its element, where that is a leaf of bytes and the stored type is of texts or of a dictionary
abbrev pub is_binary : TypeTree → Bool
is_binary (known (plain binary)) = true
is_binary (known (plain large_binary)) = true
is_binary (known (plain binary_view)) = true
is_binary t = false

abbrev pub may_take : Option Element → ColumnTree → Bool
may_take None s = false
may_take (Some e) s = is_bytes e && not (is_binary s.data_type)

-- it is one by the geometry type of its element, or by the member at `geo` of its name, of which it is the first column
abbrev pub is_among : Text → List ColumnTree → Bool
is_among name [] = false
is_among name (c ∷ cs) = bytes_eq c.name name || is_among name cs

abbrev pub holds_wkb : Option Json → List ColumnTree → Option Element → ColumnTree → Bool
holds_wkb geo before e s = is_geometry e || (is_wkb s.name geo && not (is_among s.name before))

-- where its field has no extension name that GeoArrow or OGC would have to give
abbrev pub takes_type : Option Json → List ColumnTree → Option Element → ColumnTree → Bool
takes_type geo before e s = may_take e s && (not (is_reserved (name_on s)) && holds_wkb geo before e s)

-- whether each stored column of those from a place on does
abbrev pub takes_from : Option Json → List Element → List ColumnTree → ℕ → List ColumnTree → List Bool
takes_from geo es all k [] = []
takes_from geo es all k (s ∷ ss) = takes_type geo (take k all) (slice_get es k) s ∷ takes_from geo es all (suc k) ss

-- what there is at the place of a stored column: the element, the column of that, this with the type that the stored one is compared with, and whether the
-- stored column takes the type of its element
pub record Beside : Type 0 where
  pub element : Option Element
  pub column : Option ColumnTree
  pub compared : Option ColumnTree
  pub takes : Bool

abbrev pub is_set : Option Bool → Bool
is_set None = false
is_set (Some b) = b

abbrev pub beside_at : List Element → List ColumnTree → List ColumnTree → List Bool → ℕ → Beside
beside_at es cs ts takes k = record { element = slice_get es k; column = slice_get cs k; compared = slice_get ts k; takes = is_set (slice_get takes k) }

abbrev pub fitted : Bool → ColumnTree → ColumnTree → ColumnTree
fitted takes c s = if takes then record s { data_type = c.data_type } else s

abbrev pub refused : ColumnTree → ColumnTree → ColumnTree → Resolution
refused c t s = record { column = bare c; found = Some (contradiction t s); refuted = is_geo_name (name_on s) }

-- by whether it fits, whether it may hold geometries, and whether it takes the type of the element
abbrev pub resolve_by : Bool → Bool → Bool → ColumnTree → ColumnTree → ColumnTree → Resolution
resolve_by true held takes c t s = as_it_is (fitted takes c s)
resolve_by false true takes c t s = refused c t s
resolve_by false false takes c t s = as_it_is s

-- one whose element's column is not read stays so
abbrev pub resolve_with : Option Json → Beside → Option ColumnTree → Option ColumnTree → ColumnTree → Resolution
resolve_with geo b None t s = as_it_is s
resolve_with geo b (Some c) None s = as_it_is s
resolve_with geo b (Some c) (Some t) s =
    if is_unreadable c.data_type then as_it_is (bare c) else resolve_by (type_fits t.data_type s.data_type) (may_hold geo b.element s) b.takes c t s

abbrev pub resolve : Option Json → Beside → ColumnTree → Resolution
resolve geo b s = resolve_with geo b b.column b.compared s

-- each stored column from a place on
abbrev pub resolved_from : Option Json → (ℕ → Beside) → ℕ → List ColumnTree → List Resolution
resolved_from geo at k [] = []
resolved_from geo at k (s ∷ ss) = resolve geo (at k) s ∷ resolved_from geo at (suc k) ss

-- stored columns, by the children of the root, their columns, and these with the types that the stored ones are compared with
abbrev pub resolved : Option Json → List Element → List ColumnTree → List ColumnTree → List ColumnTree → List Resolution
resolved geo es cs ts ss = resolved_from geo (beside_at es cs ts (takes_from geo es ss 0 ss)) 0 ss

abbrev pub listed : Option Finding → List Finding
listed None = []
listed (Some f) = f ∷ []

abbrev pub resolved_columns : List Resolution → List ColumnTree
resolved_columns rs = map (λ r. r.column) rs

abbrev pub resolved_findings : List Resolution → List Finding
resolved_findings rs = flat_map (λ r. listed r.found) rs

abbrev pub resolved_refuted : List Resolution → List Bool
resolved_refuted rs = map (λ r. r.refuted) rs

-- ---- for private contracts

-- the metadata at `geo` decide of some stored column: one does not fit, or may take the type of its element
abbrev pub is_misfit : Option ColumnTree → ColumnTree → Bool
is_misfit None s = false
is_misfit (Some t) s = not (type_fits t.data_type s.data_type)

abbrev pub is_asked : Option Element → Option ColumnTree → ColumnTree → Bool
is_asked e t s = is_misfit t s || may_take e s

abbrev pub is_one_asked : ℕ → List Element → List ColumnTree → List ColumnTree → Bool
is_one_asked k es ts [] = false
is_one_asked k es ts (s ∷ ss) = is_asked (slice_get es k) (slice_get ts k) s || is_one_asked (k + 1) es ts ss
