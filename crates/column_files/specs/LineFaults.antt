-- Why a line denotes no column.
use Rattle.std.specs.Prelude.{◌≡◌, ◌==◌, ◌&&◌, ◌||◌, ℕ, Bool, true, false, not, List, [], ◌∷◌, bytes_eq, Option, Some, None, option_and_then, is_some, Result, Ok, Err, IsSome, codes, if◌then◌else◌}
use Rattle.std.specs.Str.{IsUtf8}
use Rattle.std.specs.Str.Lossy.{utf8_valid_len}
use Rattle.serde_json.specs.Data.{Data, object, Members}
use Rattle.serde_json.specs.Find.{get, get_member, as_str, as_bool, as_object}
use Rattle.serde_json.specs.Read.{read}
use Rattle.arrow_values.specs.Tree.{Text}
use Rattle.arrow_columns.specs.Column.{column_tree}
use Rattle.arrow_columns.specs.declared.column.SchemaColumn.{SchemaColumn}
use Rattle.field_lines.specs.FieldOfValue.{under, type_in, metadata_of_value}
use Rattle.field_lines.specs.ColumnOfValue.{other_of_value, value_of_line, column_of_line}
use Rattle.column_files.specs.Forms.{behind_blanks}
use Rattle.column_files.specs.Lines.{is_blank}
use Rattle.column_files.specs.declared.line.LineFault.{LineFault}
use Rattle.column_files.specs.declared.line.LineFault.TheVariants.{NotUtf8, NotJson, OpenObject, OpenArray, NotObject, GeoJson, Name, Nullable, Metadata, TypeUnknown}

-- what the members have that a field must have
abbrev pub HasName : Members → Type 0
HasName ms = IsSome (under as_str (codes "name") ms)

abbrev pub HasNullable : Members → Type 0
HasNullable ms = IsSome (under as_bool (codes "nullable") ms)

abbrev pub HasMetadata : Members → Type 0
HasMetadata ms = IsSome (metadata_of_value (get_member (codes "metadata") ms))

abbrev pub HasType : Members → Type 0
HasType ms = IsSome (type_in ms)

-- the types of GeoJSON (RFC 7946, 1.4)
abbrev pub is_geojson_type : Text → Bool
is_geojson_type s =
    bytes_eq s (codes "FeatureCollection") || bytes_eq s (codes "Feature") || bytes_eq s (codes "Point") || bytes_eq s (codes "LineString")
    || bytes_eq s (codes "Polygon") || bytes_eq s (codes "MultiPoint") || bytes_eq s (codes "MultiLineString") || bytes_eq s (codes "MultiPolygon")
    || bytes_eq s (codes "GeometryCollection")

abbrev pub has_geojson_type : Option Text → Bool
has_geojson_type None = false
has_geojson_type (Some s) = is_geojson_type s

-- a value of GeoJSON: one of its types stands at `type`, and nothing at `nullable`
abbrev pub is_geojson : Data → Bool
is_geojson d = has_geojson_type (option_and_then as_str (get (codes "type") d)) && not (is_some (get (codes "nullable") d))

-- the members are those of GeoJSON, with a name or without; or the first of a field's keys that they lack, or at which stands what denotes nothing: its name, its nullability, its
-- metadata and its type
abbrev pub IsKeyFault : Members → LineFault → Type 0
IsKeyFault ms (GeoJson named) = (is_geojson (object ms) ≡ true) × (named ≡ is_some (under as_str (codes "name") ms))
IsKeyFault ms Name = (is_geojson (object ms) ≡ false) × ¬ HasName ms
IsKeyFault ms Nullable = (is_geojson (object ms) ≡ false) × HasName ms × ¬ HasNullable ms
IsKeyFault ms Metadata = HasName ms × HasNullable ms × ¬ HasMetadata ms
IsKeyFault ms TypeUnknown = HasName ms × HasNullable ms × HasMetadata ms × ¬ HasType ms × (under other_of_value (codes "type") ms ≡ None)
IsKeyFault ms fault = ⊥

-- why a line that is not the first of its file: GeoJSON is told of the first alone, and of another the name or the nullability that it lacks
abbrev pub later_fault : LineFault → LineFault
later_fault (GeoJson named) = if named then Nullable else Name
later_fault fault = fault

-- why a value denotes no column: it is no object, or lacks a key
abbrev pub IsValueFault : Data → LineFault → Type 0
IsValueFault d NotObject = as_object d ≡ None
IsValueFault d fault = (ms : Members) × (d ≡ object ms) × IsKeyFault ms fault

-- a line has this byte alone, with blanks around it
abbrev pub is_byte_alone : ℕ → List ℕ → Bool
is_byte_alone byte [] = false
is_byte_alone byte (code ∷ rest) = (code == byte) && is_blank rest

abbrev pub is_lone : ℕ → List ℕ → Bool
is_lone byte line = is_byte_alone byte (behind_blanks line)

-- why a line is no JSON: it is `{` or `[` alone, or neither
abbrev pub IsJsonFault : Text → LineFault → Type 0
IsJsonFault line (OpenObject at) = is_lone 123 line ≡ true
IsJsonFault line (OpenArray at) = is_lone 91 line ≡ true
IsJsonFault line (NotJson at) = (is_lone 123 line ≡ false) × (is_lone 91 line ≡ false)
IsJsonFault line fault = ⊥

-- why a line denotes no column: it is not UTF-8, not JSON, or its value denotes none
abbrev pub IsLineFault : Text → LineFault → Type 0
IsLineFault line (NotUtf8 at) = ¬ IsUtf8 line × (at ≡ utf8_valid_len line)
IsLineFault line (NotJson at) = IsUtf8 line × (read line ≡ None) × IsJsonFault line (NotJson at)
IsLineFault line (OpenObject at) = IsUtf8 line × (read line ≡ None) × IsJsonFault line (OpenObject at)
IsLineFault line (OpenArray at) = IsUtf8 line × (read line ≡ None) × IsJsonFault line (OpenArray at)
IsLineFault line fault = (d : Data) × (value_of_line line ≡ Some d) × IsValueFault d fault

-- what is read of a line: the column that it denotes, or why it denotes none
abbrev pub IsLineRead : Text → Result SchemaColumn LineFault → Type 0
IsLineRead line (Ok column) = column_of_line line ≡ Some (column_tree column)
IsLineRead line (Err fault) = (column_of_line line ≡ None) × IsLineFault line fault
