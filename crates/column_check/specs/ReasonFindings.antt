-- The reasons for which a column is invalid, as findings (docs/FORMAT.md, 2.6).
use Rattle.std.specs.Prelude.{ℕ, List, [], ◌∷◌, ◌++◌, codes, Option, None, Some, option_map, option_and_then}
use Rattle.std.specs.List.{slice_get}
use Rattle.json.specs.Json.{Json}
use Rattle.json.specs.Find.{get}
use Rattle.arrow_values.specs.Tree.{Text, plain, null}
use Rattle.arrow_columns.specs.Types.{TypeTree, known, ColumnTree}
use Rattle.arrow_columns.specs.Column.{name_on, metadata_on}
use Rattle.arrow_columns.specs.Below.{below}
use Rattle.geoarrow_layout.specs.FaultAt.{Path}
use Rattle.crs_identity.specs.Forms.{json_in}
use Rattle.column_check.specs.ExtensionNames.{extension_named}
use Rattle.column_check.specs.Parts.{Names, Spot, spot_in}
use Rattle.column_check.specs.Said.{Said}
use Rattle.column_check.specs.Shown.{shown, shown_value, type_shown}
use Rattle.column_check.specs.declared.code.WarningCode.{WarningCode}
use Rattle.column_check.specs.declared.code.WarningCode.TheVariants as found
use Rattle.column_check.specs.declared.data_type.TypeFault.{TypeFault}
use Rattle.column_check.specs.declared.data_type.TypeFault.TheVariants.{WrongStorage, Layout}
use Rattle.column_check.specs.declared.metadata.MetadataFault.{MetadataFault}
use Rattle.column_check.specs.declared.metadata.MetadataFault.TheVariants.{NotJson, NotObject, UnknownCrsType, UnknownEdges, UnknownCrsTypeAndEdges}
use Rattle.column_check.specs.declared.finding.Reasons.{Reasons}
use Rattle.column_check.specs.declared.finding.Reasons.TheVariants.{UnknownExtension, DataType, Metadata, DataTypeAndMetadata, Unread}
use Rattle.column_check.specs.declared.finding.Finding.{Finding as ColumnFinding}
use Rattle.column_check.specs.declared.finding.Finding.TheVariants.{Invalid}

-- one of that code, at that place
abbrev pub one_at : WarningCode → Spot → List Said
one_at code spot = (code, spot, 0) ∷ []

-- ---- of the extension name

-- a name that GeoArrow or OGC would have to give, which is shown
abbrev pub unknown_name : Option Text → List Said
unknown_name name = one_at found.UnknownExtension ([], None, option_map shown name, None)

-- ---- of the type

-- the child at a place, if there is one, and so the type at the end of a path of child fields
abbrev pub child_of : TypeTree → ℕ → Option ColumnTree
child_of t i = slice_get (below t) i

abbrev pub child_type : Option TypeTree → ℕ → Option TypeTree
child_type None i = None
child_type (Some t) i = option_map (λ c. c.data_type) (child_of t i)

abbrev pub type_along : Option TypeTree → Path → Option TypeTree
type_along o [] = o
type_along o (i ∷ p) = type_along (child_type o i) p

-- the name and the type of a child that there may be; where there is none, no name and a type without
-- children
abbrev pub child_name : Option ColumnTree → Names
child_name None = []
child_name (Some c) = c.name ∷ []

abbrev pub type_there : Option ColumnTree → TypeTree
type_there None = known (plain null)
type_there (Some c) = c.data_type

-- the names of the child fields on the path, as far as there are any
abbrev pub names_along : TypeTree → Path → Names
names_along t [] = []
names_along t (i ∷ p) = child_name (child_of t i) ++ names_along (type_there (child_of t i)) p

-- the code of a fault of a type, and where it is
abbrev pub type_code : TypeFault → WarningCode
type_code WrongStorage = found.WrongStorage
type_code (Layout fault path) = found.Layout fault

abbrev pub type_path : TypeFault → Path
type_path WrongStorage = []
type_path (Layout fault path) = path.items

-- the type at the end of a path, as it is shown
abbrev pub shown_at : TypeTree → Path → Option Text
shown_at t p = option_map type_shown (type_along (Some t) p)

-- a type with a fault: the layout of the extension name is wanted
abbrev pub type_spot : ColumnTree → Path → Spot
type_spot c p = (names_along c.data_type p, None, shown_at c.data_type p, extension_named (name_on c))

abbrev pub type_found : ColumnTree → TypeFault → List Said
type_found c f = one_at (type_code f) (type_spot c (type_path f))

-- ---- of the metadata text

-- the value at a key, which is shown
abbrev pub value_found : WarningCode → Text → Text → Option Json → List Said
value_found code pointer key o = one_at code (spot_in pointer (option_map shown_value (option_and_then (get key) o)))

abbrev pub crs_type_found : Option Json → List Said
crs_type_found o = value_found found.UnknownCrsType (codes "/crs_type") (codes "crs_type") o

abbrev pub edges_found : Option Json → List Said
edges_found o = value_found found.UnknownEdges (codes "/edges") (codes "edges") o

-- of the JSON value that a text is
abbrev pub json_found : Option Json → MetadataFault → List Said
json_found o NotJson = []
json_found o NotObject = one_at found.MetadataNotObject (spot_in [] (option_map shown_value o))
json_found o UnknownCrsType = crs_type_found o
json_found o UnknownEdges = edges_found o
json_found o UnknownCrsTypeAndEdges = crs_type_found o ++ edges_found o

-- of a text, which is shown where it is no JSON
abbrev pub text_found : Text → MetadataFault → List Said
text_found s NotJson = one_at found.MetadataNotJson (spot_in [] (Some (shown s)))
text_found s fault = json_found (json_in s) fault

abbrev pub metadata_found : Option Text → MetadataFault → List Said
metadata_found None fault = []
metadata_found (Some s) fault = text_found s fault

-- ---- of a column

-- the reason of its extension name or of its type; of a column that is not read a finding of the
-- file says why
abbrev pub type_reason : ColumnTree → Reasons → List Said
type_reason c UnknownExtension = unknown_name (name_on c)
type_reason c (DataType f) = type_found c f
type_reason c (Metadata m) = []
type_reason c (DataTypeAndMetadata f m) = type_found c f
type_reason c Unread = []

-- the reasons of its metadata text
abbrev pub metadata_reasons : ColumnTree → Reasons → List Said
metadata_reasons c UnknownExtension = []
metadata_reasons c (DataType f) = []
metadata_reasons c (Metadata m) = metadata_found (metadata_on c) m
metadata_reasons c (DataTypeAndMetadata f m) = metadata_found (metadata_on c) m
metadata_reasons c Unread = []

-- of what is said of it
abbrev pub type_reason_in : ColumnTree → ColumnFinding → List Said
type_reason_in c (Invalid reasons) = type_reason c reasons
type_reason_in c f = []

abbrev pub metadata_reasons_in : ColumnTree → ColumnFinding → List Said
metadata_reasons_in c (Invalid reasons) = metadata_reasons c reasons
metadata_reasons_in c f = []
