-- The column that a JSON value denotes, and the column that a line denotes: as a field, but at the key `type` another type may stand.
use Rattle.std.specs.Prelude.{Bool, if◌then◌else◌, Option, Some, None, option_and_then, option_map, codes, bytes_eq}
use Rattle.std.specs.Str.{is_utf8}
use Rattle.serde_json.specs.Data.{Data, object, no_members, member}
use Rattle.serde_json.specs.Find.{get_member, as_str, as_bool}
use Rattle.serde_json.specs.Read.{read}
use Rattle.arrow_values.specs.Tree.{Text, Metadata, Tree}
use Rattle.arrow_columns.specs.Types.{TypeTree, known, leaf, ColumnTree}
use Rattle.field_lines.specs.FieldOfValue.{under, metadata_of_value, type_of_value}

-- another type is an object with the single key `other`, at which its notation stands, a text
abbrev pub other_of_value : Data → Option Text
other_of_value (object (member key d no_members)) = if bytes_eq key (codes "other") then as_str d else None
other_of_value _ = None

-- one of the 26 types, or another by its notation
abbrev pub column_type : Option Tree → Option Text → Option TypeTree
column_type (Some t) notation = Some (known t)
column_type None notation = option_map leaf notation

abbrev pub column_type_of_value : Data → Option TypeTree
column_type_of_value d = column_type (type_of_value d) (other_of_value d)

-- the column of these parts, where each is there
abbrev pub column_from : Option Text → Option Bool → Option TypeTree → Option Metadata → Option ColumnTree
column_from name nullable type metadata =
    option_and_then (λ n. option_and_then (λ b. option_and_then (λ t. option_map (λ m. record { name = n; data_type = t; nullable = b; metadata = m }) metadata) type) nullable) name

-- a column is an object with a name, a nullability, a type or another type, and perhaps metadata; its other keys are ignored
abbrev pub column_of_value : Data → Option ColumnTree
column_of_value (object ms) =
    column_from (under as_str (codes "name") ms) (under as_bool (codes "nullable") ms) (under column_type_of_value (codes "type") ms) (metadata_of_value (get_member (codes "metadata") ms))
column_of_value _ = None

-- the value of a line, which is UTF-8 that reads as one JSON value, and the column that a line denotes
abbrev pub value_of_line : Text → Option Data
value_of_line line = if is_utf8 line then read line else None

abbrev pub column_of_line : Text → Option ColumnTree
column_of_line line = option_and_then column_of_value (value_of_line line)
