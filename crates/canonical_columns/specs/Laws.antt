-- What is said and found of the normal form of a column.
use Rattle.std.specs.Prelude.{◌≡◌, not, bytes_eq, List, map, option_map, Bool, true, false, Option, None, Some, ⊤, if◌then◌else◌}
use Rattle.std.specs.List.{filter}
use Rattle.json.specs.Json.{Json}
use Rattle.serde_json.specs.Data.{Data}
use Rattle.serde_json.specs.Read.{of_json, read}
use Rattle.serde_json.specs.Written.{outline}
use Rattle.arrow_values.specs.Tree.{Text, FieldTree}
use Rattle.arrow_values.specs.Texts.{metadata_key, text_at, extension_metadata}
use Rattle.arrow_columns.specs.Column.{metadata_on, column_of}
use Rattle.arrow_columns.specs.Types.{ColumnTree}
use Rattle.geoarrow_meta.specs.Written.{meta_value, IsReadBack}
use Rattle.geoarrow_schema.specs.declared.types.GeoArrowType.{GeoArrowType}
use Rattle.geoarrow_schema.specs.Types.{meta_of}
use Rattle.geoarrow_schema.specs.Reads.{Reads}
use Rattle.geoarrow_schema.specs.Normal.{IsCanonical as IsCanonicalField}
use Rattle.column_check.specs.Finding.{IsFinding}
use Rattle.column_check.specs.Metadata.{TextHasCrs}
use Rattle.column_check.specs.Said.{Said, said}
use Rattle.column_check.specs.Warnings.{AreWarnings}
use Rattle.column_check.specs.declared.metadata.ColumnMetadata.{ColumnMetadata}
use Rattle.column_check.specs.declared.finding.Finding.{Finding as ColumnFinding}
use Rattle.column_check.specs.declared.finding.Finding.TheVariants.{Geometry}
use Rattle.column_check.specs.declared.warning.Warning.{Warning}
use Rattle.column_check.specs.declared.code.WarningCode.{WarningCode}
use Rattle.column_check.specs.declared.code.WarningCode.TheVariants.{OldExtensionName, CoordinatesNotFloat, CoordinatesNotDouble, AxisOrder, AxisNames, NullableInner, UnionMode, NestedGeometry, MetadataEmpty, MetadataKeyCase, EdgesPlanar}
use Rattle.canonical_columns.specs.Canonical.{is_bare, IsCanonical}

-- the values of extension metadata in normal form: without a CRS type, if there is neither a CRS nor edges
abbrev pub normal_values : ColumnMetadata → ColumnMetadata
normal_values m = record { crs = m.crs; crs_type = if is_bare m then None else m.crs_type; edges = m.edges }

-- what is said of the normal form of a column of which that is said: the same kind, CRS and edges
abbrev pub normal_finding : ColumnFinding → ColumnFinding
normal_finding (Geometry g) = Geometry (record { kind = g.kind; metadata = normal_values g.metadata })
normal_finding f = f

-- a finding of this code is about the form of geometries, which the normal form mends: of the extension name, of the data type, and of how the
-- extension metadata are spelled; the others are about the CRS, or why a column is invalid
abbrev pub is_of_form : WarningCode → Bool
is_of_form OldExtensionName = true
is_of_form CoordinatesNotFloat = true
is_of_form CoordinatesNotDouble = true
is_of_form AxisOrder = true
is_of_form AxisNames = true
is_of_form NullableInner = true
is_of_form UnionMode = true
is_of_form NestedGeometry = true
is_of_form MetadataEmpty = true
is_of_form MetadataKeyCase = true
is_of_form EdgesPlanar = true
is_of_form code = false

-- what is left of the findings of a column in its normal form: of geometries those that are not about the form, of any other column all
abbrev pub left_of : ColumnFinding → List Said → List Said
left_of (Geometry g) ws = filter (λ w. not (is_of_form w.0)) ws
left_of f ws = ws

-- a column has one normal form
abbrev pub HasOneCanonical : Type 0
HasOneCanonical = (c n p : ColumnTree) → IsCanonical c n → IsCanonical c p → n ≡ p

-- the normal form of a column is its own
abbrev pub IsItsOwnCanonical : Type 0
IsItsOwnCanonical = (c n : ColumnTree) → IsCanonical c n → IsCanonical n n

-- of the normal form the same is said
abbrev pub CanonicalIsFoundAlike : Type 0
CanonicalIsFoundAlike = (infer : Bool) (c n : ColumnTree) (f : ColumnFinding) → IsCanonical c n → IsFinding infer c f → IsFinding infer n (normal_finding f)

-- of it what is not about the form is found
abbrev pub CanonicalKeepsWarnings : Type 0
CanonicalKeepsWarnings =
    (infer notes : Bool) (c n : ColumnTree) (f : ColumnFinding) (ws vs : List Warning) → IsCanonical c n → IsFinding infer c f
    → AreWarnings notes c f ws → AreWarnings notes n (normal_finding f) vs → map said vs ≡ left_of f (map said ws)

-- ---- beside the ported normal form of fields

-- the CRS is spelled as the value that `serde_json` reads it as: each object has each key once, and its members in the order of their keys
abbrev pub IsInOrder : Option Json → Type 0
IsInOrder None = ⊤
IsInOrder (Some j) = (d : Data) × (of_json j ≡ Some d) × (j ≡ outline d)

-- where there is a ported normal form of a field, the normal form of its column is the column of that, if the CRS is spelled in order, as any
-- text is
abbrev pub AgreesWithField : Type 0
AgreesWithField =
    (f n : FieldTree) (c : ColumnTree) (crs : Option Json) → IsCanonicalField f n → IsCanonical (column_of f) c
    → TextHasCrs (extension_metadata f) crs → IsInOrder crs → c ≡ column_of n

-- the same but for the text of the extension metadata: both have one, and `serde_json` reads the same value of them, or neither has one
abbrev pub IsSpelledOtherwise : ColumnTree → ColumnTree → Type 0
IsSpelledOtherwise c d =
    (c ≡ record d { metadata = c.metadata })
    × ((key : Text) → bytes_eq metadata_key key ≡ false → text_at key c.metadata ≡ text_at key d.metadata)
    × (option_map read (metadata_on c) ≡ option_map read (metadata_on d))

-- however the CRS is spelled, the two say the same, if `serde_json` reads back what it prints of the metadata of the field
abbrev pub AgreesInValue : Type 0
AgreesInValue =
    (f n : FieldTree) (c : ColumnTree) → IsCanonicalField f n → IsCanonical (column_of f) c
    → ((g : GeoArrowType) → Reads f g → IsReadBack (meta_value (meta_of g))) → IsSpelledOtherwise c (column_of n)

-- the column of the ported normal form is its own normal form, if `serde_json` reads back what it prints of the metadata of the field
abbrev pub AnswerIsItsOwn : Type 0
AnswerIsItsOwn =
    (f n : FieldTree) → IsCanonicalField f n → ((g : GeoArrowType) → Reads f g → IsReadBack (meta_value (meta_of g))) → IsCanonical (column_of n) (column_of n)
