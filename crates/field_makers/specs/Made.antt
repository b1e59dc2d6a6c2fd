-- The column that is made, and why none is (docs/FORMAT.md, 1.4, 1.6).
use Rattle.std.specs.Prelude.{◌≡◌, [], Bool, true, false, Option, None, Some, is_some, ⊤}
use Rattle.json.specs.Json.{Json, string}
use Rattle.value_tokens.specs.Values.{json_in}
use Rattle.arrow_values.specs.Texts.{set_extension}
use Rattle.arrow_columns.specs.Column.{column_tree}
use Rattle.arrow_columns.specs.Types.{ColumnTree, known}
use Rattle.arrow_columns.specs.declared.column.SchemaColumn.{SchemaColumn}
use Rattle.geoarrow_layout.specs.Kinds.{name_of}
use Rattle.geoarrow_layout.specs.Layouts.{layout}
use Rattle.geoarrow_meta.specs.CrsText.{is_projjson_text}
use Rattle.geoarrow_meta.specs.declared.crs.crs_type.CrsType.{CrsType}
use Rattle.geoarrow_meta.specs.declared.crs_text.WrittenCrs.{WrittenCrs}
use Rattle.geoarrow_meta.specs.declared.crs_text.WrittenCrs.TheVariants as crs
use Rattle.column_check.specs.declared.metadata.ColumnMetadata.{ColumnMetadata}
use Rattle.canonical_columns.specs.Canonical.{normal_text}
use Rattle.field_makers.specs.declared.new_column.NewColumn.{NewColumn}
use Rattle.field_makers.specs.declared.error.MakeError.{MakeError}
use Rattle.field_makers.specs.declared.error.MakeError.TheVariants.{NotProjjson, TypeWithoutCrs, OutOfMemory}

-- the CRS, as it is written: a text, or the JSON value that a text is
abbrev pub crs_of : WrittenCrs → Option Json
crs_of crs.Absent = None
crs_of (crs.Text s) = Some (string s.now)
crs_of (crs.Json s) = Some (json_in s.now)

-- the values of the extension metadata
abbrev pub metadata_of : NewColumn → ColumnMetadata
metadata_of n = record { crs = crs_of n.crs; crs_type = n.crs_type; edges = n.edges }

-- the column: of that name and nullability, as it is written for that kind and these values
abbrev pub made : NewColumn → ColumnTree
made n = record {
  name = n.name.now;
  data_type = known (layout n.kind);
  nullable = n.nullable;
  metadata = set_extension (name_of n.kind) (normal_text (metadata_of n)) [];
}

-- what is to be PROJJSON is an object of JSON, nested at most 126 levels
abbrev pub is_written : WrittenCrs → Bool
is_written crs.Absent = true
is_written (crs.Text s) = true
is_written (crs.Json s) = is_projjson_text s.now

-- there is a CRS type, and no CRS
abbrev pub is_type_alone : WrittenCrs → Option CrsType → Bool
is_type_alone crs.Absent t = is_some t
is_type_alone (crs.Text s) t = false
is_type_alone (crs.Json s) t = false

-- such a column is made
abbrev pub CanBeMade : NewColumn → Type 0
CanBeMade n = (is_written n.crs ≡ true) × (is_type_alone n.crs n.crs_type ≡ false)

-- the column is the one that is made
abbrev pub IsMade : NewColumn → SchemaColumn → Type 0
IsMade n c = CanBeMade n × (column_tree c ≡ made n)

-- none is made, for this rule
abbrev pub IsRefusedFor : NewColumn → MakeError → Type 0
IsRefusedFor n NotProjjson = is_written n.crs ≡ false
IsRefusedFor n TypeWithoutCrs = is_type_alone n.crs n.crs_type ≡ true
IsRefusedFor n OutOfMemory = ⊤
