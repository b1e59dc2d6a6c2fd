-- What is found of a column: why it is invalid, if it is; and what is doubtful of it, which leaves it as it is.
use Rattle.std.specs.Prelude.{◌≡◌, ◌==◌, ◌&&◌, not, List, [], ◌∷◌, ◌++◌, length, map, codes, Bool, true, false, Option, None, Some}
use Rattle.std.specs.Cmp.Lexicographic.{pointwise}
use Rattle.std.specs.List.{list_all, list_any}
use Rattle.std.specs.Str.{bytes_eq}
use Rattle.arrow_values.specs.Tree.{Text, Metadata, Tree, plain, float16, float32, float64}
use Rattle.arrow_values.specs.Texts.{text_at, name_key}
use Rattle.arrow_values.specs.declared.tree.UnionMode.{UnionMode}
use Rattle.arrow_values.specs.declared.tree.UnionMode.TheVariants.{Sparse, Dense}
use Rattle.arrow_columns.specs.Types.{TypeTree, known, other, ColumnTree}
use Rattle.arrow_columns.specs.Column.{name_on, metadata_on}
use Rattle.arrow_columns.specs.Outlines.{outline}
use Rattle.arrow_columns.specs.declared.outline.Outline.TheVariants.{Layout, Fields}
use Rattle.geoarrow_layout.specs.declared.dimensions.Dimension.{Dimension}
use Rattle.geoarrow_layout.specs.declared.dimensions.Dimension.TheVariants.{XY, XYZ, XYM, XYZM}
use Rattle.geoarrow_layout.specs.declared.native_kinds.Kind.{Kind}
use Rattle.geoarrow_layout.specs.declared.native_kinds.Kind.TheVariants.{Rect}
use Rattle.geoarrow_layout.specs.Kinds.{name_text}
use Rattle.geoarrow_layout.specs.Shapes.{has_name}
use Rattle.geoarrow_layout.specs.Layouts.{coordinate_names, box_names}
use Rattle.column_check.specs.ExtensionNames.{extensions}
use Rattle.column_check.specs.OldNames.{current_name, has_old_name}
use Rattle.column_check.specs.States.{geometry_in}
use Rattle.column_check.specs.Said.{Said, said, said_if, at_each}
use Rattle.column_check.specs.CrsWarnings.{crs_warnings}
use Rattle.column_check.specs.KeyWarnings.{key_warnings}
use Rattle.column_check.specs.ReasonFindings.{type_reason_in, metadata_reasons_in}
use Rattle.column_check.specs.Parts.{Names, spot_in, spots_of, separated_in, type_numbers, fields_in, nullable_in, unions_in}
use Rattle.column_check.specs.Shown.{names_shown, type_shown}
use Rattle.column_check.specs.declared.finding.Finding.{Finding as ColumnFinding}
use Rattle.column_check.specs.declared.finding.Geometry.{Geometry as GeometryColumn}
use Rattle.column_check.specs.declared.code.WarningCode.{WarningCode}
use Rattle.column_check.specs.declared.code.WarningCode.TheVariants.{OldExtensionName, MetadataEmpty, CoordinatesNotFloat, CoordinatesNotDouble, AxisOrder, AxisNames, NullableInner, NestedGeometry}
use Rattle.column_check.specs.declared.code.WarningCode.TheVariants as codes_of
use Rattle.column_check.specs.declared.warning.Warning.{Warning}

-- ---- of the extension name

-- of an old one, which is shown
abbrev pub name_warnings : Option Text → List Said
name_warnings name = said_if OldExtensionName (has_old_name name) ([], None, name, None)

-- ---- of the metadata text

-- there is a text, and it is empty
abbrev pub is_empty_text : Option Text → Bool
is_empty_text None = false
is_empty_text (Some []) = true
is_empty_text (Some s) = false

-- of an empty text, which is shown as two quotes
abbrev pub text_warnings : Option Text → List Said
text_warnings t = said_if MetadataEmpty (is_empty_text t) (spot_in [] (Some (codes "\"\"")))

-- ---- of the numbers of coordinates

-- the data type is a floating one; a floating one of less than 64 bits
abbrev pub is_float : Tree → Bool
is_float (plain float16) = true
is_float (plain float32) = true
is_float (plain float64) = true
is_float t = false

abbrev pub is_small_float : Tree → Bool
is_small_float (plain float16) = true
is_small_float (plain float32) = true
is_small_float t = false

-- the warning holds of a number of that type
abbrev pub is_doubtful_tree : WarningCode → Tree → Bool
is_doubtful_tree CoordinatesNotFloat t = not (is_float t)
is_doubtful_tree CoordinatesNotDouble t = is_small_float t
is_doubtful_tree code t = false

abbrev pub is_doubtful_other : WarningCode → Bool
is_doubtful_other CoordinatesNotFloat = true
is_doubtful_other code = false

abbrev pub is_doubtful_number : WarningCode → TypeTree → Bool
is_doubtful_number code (known t) = is_doubtful_tree code t
is_doubtful_number code (other s f ids ps) = is_doubtful_other code

-- ---- of the names of coordinates

-- the names of the fields of a separated coordinate, or of a box, in order
abbrev pub axis_names : Kind → Dimension → Names
axis_names (Rect e) d = box_names d
axis_names k d = coordinate_names d

-- the names are those of some dimension, in their order
abbrev pub in_order : Kind → Names → Bool
in_order k ns = list_any (λ d. pointwise bytes_eq ns (axis_names k d)) (XY ∷ XYZ ∷ XYM ∷ XYZM ∷ [])

-- there are as many names as others, and each of the others is among them
abbrev pub have_names : Names → Names → Bool
have_names ns others = length ns == length others && list_all (λ n. has_name n ns) others

-- the names are those of some dimension, in any order
abbrev pub in_some_order : Kind → Names → Bool
in_some_order k ns = list_any (λ d. have_names ns (axis_names k d)) (XY ∷ XYZ ∷ XYM ∷ XYZM ∷ [])

-- the warning holds of a separated coordinate or a box whose fields have these names: they are those of
-- a dimension, in another order; or they are others
abbrev pub are_doubtful : WarningCode → Kind → Names → Bool
are_doubtful AxisOrder k ns = not (in_order k ns) && in_some_order k ns
are_doubtful AxisNames k ns = not (in_some_order k ns)
are_doubtful code k ns = false

-- ---- of fields below a column

-- there is an extension name, and it is one of them, or an old one of them
abbrev pub is_extension_name : Option Text → Bool
is_extension_name None = false
is_extension_name (Some s) = has_name (current_name s) (map name_text extensions)

-- a field has one of the eleven extension names, or an old one of them
abbrev pub has_extension_name : Metadata → Bool
has_extension_name m = is_extension_name (text_at name_key m)

-- its extension name; the empty text if it has none
abbrev pub or_empty : Option Text → Text
or_empty None = []
or_empty (Some s) = s

abbrev pub extension_text : Metadata → Text
extension_text m = or_empty (text_at name_key m)

-- ---- of fields and unions of a kind

-- a field below is nullable; a box has no fields of which it is asked
abbrev pub nullable_warnings : Kind → Tree → List Said
nullable_warnings (Rect e) t = []
nullable_warnings k t = at_each NullableInner (spots_of (λ nullable. nullable) (λ nullable. codes "nullable") (nullable_in t))

-- a union is sparse
abbrev pub is_sparse : UnionMode → Bool
is_sparse Sparse = true
is_sparse Dense = false

abbrev pub union_warnings : Tree → List Said
union_warnings t = at_each codes_of.UnionMode (spots_of is_sparse (λ mode. codes "sparse") (unions_in t))

-- ---- of a column

-- of the numbers of the coordinates in a type, and of the names of their fields, by a code
abbrev pub number_warnings : WarningCode → TypeTree → List Said
number_warnings code t = at_each code (spots_of (is_doubtful_number code) type_shown (type_numbers t))

abbrev pub axis_warnings : WarningCode → Kind → Tree → List Said
axis_warnings code k t = at_each code (spots_of (are_doubtful code k) names_shown (separated_in t))

-- of the outline of a type that is of a kind
abbrev pub layout_warnings : Kind → Tree → List Said
layout_warnings k t =
    axis_warnings AxisOrder k t
    ++ (axis_warnings AxisNames k t ++ (nullable_warnings k t ++ union_warnings t))

-- of a type that is of a kind
abbrev pub type_warnings : Kind → TypeTree → List Said
type_warnings k t =
    number_warnings CoordinatesNotFloat t
    ++ (number_warnings CoordinatesNotDouble t ++ layout_warnings k (outline Layout t))

-- of the fields below a type, whatever it is
abbrev pub nested_warnings : TypeTree → List Said
nested_warnings t =
    at_each NestedGeometry (spots_of has_extension_name extension_text (fields_in (outline Fields t)))

-- what is doubtful of the type of geometries
abbrev pub geometry_type_warnings : ColumnTree → Option GeometryColumn → List Said
geometry_type_warnings c None = []
geometry_type_warnings c (Some g) = type_warnings g.kind c.data_type

-- and of their metadata text and their CRS, with notes or without
abbrev pub geometry_metadata_warnings : Bool → ColumnTree → Option GeometryColumn → List Said
geometry_metadata_warnings notes c None = []
geometry_metadata_warnings notes c (Some g) =
    text_warnings (metadata_on c) ++ (key_warnings (metadata_on c) ++ crs_warnings notes g.metadata)

-- what is found of a column of which that is said: of its extension name and its type, in the order
-- of the codes, since under an old name WrongStorage is the one reason of a type; and of its metadata
abbrev pub type_findings : ColumnTree → ColumnFinding → List Said
type_findings c f =
    name_warnings (name_on c)
    ++ (type_reason_in c f ++ (geometry_type_warnings c (geometry_in f) ++ nested_warnings c.data_type))

abbrev pub metadata_findings : Bool → ColumnTree → ColumnFinding → List Said
metadata_findings notes c f =
    metadata_reasons_in c f ++ geometry_metadata_warnings notes c (geometry_in f)

-- these are the findings of it, in the order of the codes
abbrev pub AreWarnings : Bool → ColumnTree → ColumnFinding → List Warning → Type 0
AreWarnings notes c f ws = map said ws ≡ type_findings c f ++ metadata_findings notes c f
