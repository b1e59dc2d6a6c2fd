-- What is found of a column (docs/FORMAT.md, 2.6): the codes, how much each weighs, what is wrong or doubtful, what is expected, and what helps.
use Rattle.std.specs.Prelude.{◌==◌, Bool, false, List, [], ◌∷◌, codes, Option, None, Some, if◌then◌else◌}
use Rattle.arrow_values.specs.Tree.{Text}
use Rattle.geoarrow_layout.specs.Faults.{fault_text}
use Rattle.geoarrow_layout.specs.declared.names.ExtensionName.{ExtensionName}
use Rattle.column_check.specs.Meant.{crs_type_names, edges_names, extension_names, meant_or}
use Rattle.column_check.specs.LayoutWords.{fault_code, fault_help, layout_text, storage_help}
use Rattle.column_check.specs.declared.code.Severity.{Severity}
use Rattle.column_check.specs.declared.code.Severity.TheVariants.{Error, Warning, Note}
use Rattle.column_check.specs.declared.code.WarningCode.{WarningCode}
use Rattle.column_check.specs.declared.code.WarningCode.TheVariants as warnings

-- ---- by the code

abbrev pub warning_code : WarningCode → Text
warning_code (warnings.Layout fault) = fault_code fault
warning_code warnings.UnknownExtension = codes "UnknownExtension"
warning_code warnings.OldExtensionName = codes "OldExtensionName"
warning_code warnings.WrongStorage = codes "WrongStorage"
warning_code warnings.CoordinatesNotFloat = codes "CoordinatesNotFloat"
warning_code warnings.CoordinatesNotDouble = codes "CoordinatesNotDouble"
warning_code warnings.AxisOrder = codes "AxisOrder"
warning_code warnings.AxisNames = codes "AxisNames"
warning_code warnings.NullableInner = codes "NullableInner"
warning_code warnings.UnionMode = codes "UnionMode"
warning_code warnings.NestedGeometry = codes "NestedGeometry"
warning_code warnings.MetadataNotJson = codes "MetadataNotJson"
warning_code warnings.MetadataNotObject = codes "MetadataNotObject"
warning_code warnings.MetadataEmpty = codes "MetadataEmpty"
warning_code warnings.MetadataKeyCase = codes "MetadataKeyCase"
warning_code warnings.UnknownCrsType = codes "UnknownCrsType"
warning_code warnings.UnknownEdges = codes "UnknownEdges"
warning_code warnings.EdgesPlanar = codes "EdgesPlanar"
warning_code warnings.CrsMalformed = codes "CrsMalformed"
warning_code warnings.CrsEmpty = codes "CrsEmpty"
warning_code warnings.CrsTypeContradicts = codes "CrsTypeContradicts"
warning_code warnings.CrsWkt1 = codes "CrsWkt1"
warning_code warnings.CrsWithoutType = codes "CrsWithoutType"
warning_code warnings.CrsNumber = codes "CrsNumber"
warning_code warnings.CrsNotWhole = codes "CrsNotWhole"

abbrev pub severity_of : WarningCode → Severity
severity_of (warnings.Layout fault) = Error
severity_of warnings.UnknownExtension = Error
severity_of warnings.OldExtensionName = Warning
severity_of warnings.WrongStorage = Error
severity_of warnings.CoordinatesNotFloat = Error
severity_of warnings.CoordinatesNotDouble = Warning
severity_of warnings.AxisOrder = Error
severity_of warnings.AxisNames = Warning
severity_of warnings.NullableInner = Warning
severity_of warnings.UnionMode = Warning
severity_of warnings.NestedGeometry = Warning
severity_of warnings.MetadataNotJson = Error
severity_of warnings.MetadataNotObject = Error
severity_of warnings.MetadataEmpty = Warning
severity_of warnings.MetadataKeyCase = Warning
severity_of warnings.UnknownCrsType = Error
severity_of warnings.UnknownEdges = Error
severity_of warnings.EdgesPlanar = Warning
severity_of warnings.CrsMalformed = Error
severity_of warnings.CrsEmpty = Warning
severity_of warnings.CrsTypeContradicts = Error
severity_of warnings.CrsWkt1 = Warning
severity_of warnings.CrsWithoutType = Warning
severity_of warnings.CrsNumber = Warning
severity_of warnings.CrsNotWhole = Note

abbrev pub warning_message : WarningCode → Text
warning_message (warnings.Layout fault) = fault_text fault
warning_message warnings.UnknownExtension = codes "GeoArrow has no extension type of this name"
warning_message warnings.OldExtensionName = codes "extension name is an old one"
warning_message warnings.WrongStorage = codes "well-known binary needs a binary type, and well-known text a text type"
warning_message warnings.CoordinatesNotFloat = codes "coordinates are not floating-point numbers"
warning_message warnings.CoordinatesNotDouble = codes "coordinates are not float64"
warning_message warnings.AxisOrder = codes "fields are named after the axes, in another order"
warning_message warnings.AxisNames = codes "fields are not named after the axes"
warning_message warnings.NullableInner = codes "child field is nullable"
warning_message warnings.UnionMode = codes "union is sparse"
warning_message warnings.NestedGeometry = codes "child field has a GeoArrow extension name"
warning_message warnings.MetadataNotJson = codes "metadata is not JSON"
warning_message warnings.MetadataNotObject = codes "metadata is not an object"
warning_message warnings.MetadataEmpty = codes "metadata is an empty text"
warning_message warnings.MetadataKeyCase = codes "metadata key is one of the format's but for its letters"
warning_message warnings.UnknownCrsType = codes "unknown crs_type"
warning_message warnings.UnknownEdges = codes "unknown edges"
warning_message warnings.EdgesPlanar = codes "edges are planar by name"
warning_message warnings.CrsMalformed = codes "CRS is an object that is no PROJJSON"
warning_message warnings.CrsEmpty = codes "CRS is an empty text"
warning_message warnings.CrsTypeContradicts = codes "CRS is not of the form that crs_type says"
warning_message warnings.CrsWkt1 = codes "CRS is WKT 1, and crs_type says WKT 2"
warning_message warnings.CrsWithoutType = codes "CRS of no known form without crs_type"
warning_message warnings.CrsNumber = codes "CRS is neither an object nor a text"
warning_message warnings.CrsNotWhole = codes "CRS has a number that is not whole"

abbrev pub warning_expected : WarningCode → Text
warning_expected (warnings.Layout fault) = codes "the layout of its extension name"
warning_expected warnings.UnknownExtension = codes "geoarrow.point, geoarrow.linestring, geoarrow.polygon, geoarrow.multipoint, geoarrow.multilinestring, geoarrow.multipolygon, geoarrow.geometrycollection, geoarrow.geometry, geoarrow.box, geoarrow.wkb or geoarrow.wkt"
warning_expected warnings.OldExtensionName = codes "geoarrow.wkb or geoarrow.wkt"
warning_expected warnings.WrongStorage = codes "the layout of its extension name"
warning_expected warnings.CoordinatesNotFloat = codes "float64"
warning_expected warnings.CoordinatesNotDouble = codes "float64"
warning_expected warnings.AxisOrder = codes "x, y, z, m in this order; of a box xmin, ymin, zmin, mmin, xmax, ymax, zmax, mmax"
warning_expected warnings.AxisNames = codes "x, y, z, m in this order; of a box xmin, ymin, zmin, mmin, xmax, ymax, zmax, mmax"
warning_expected warnings.NullableInner = codes "not null"
warning_expected warnings.UnionMode = codes "a dense union"
warning_expected warnings.NestedGeometry = codes "the name of a column alone"
warning_expected warnings.MetadataNotJson = codes "JSON"
warning_expected warnings.MetadataNotObject = codes "an object"
warning_expected warnings.MetadataEmpty = codes "no metadata, or {}"
warning_expected warnings.MetadataKeyCase = codes "crs, crs_type or edges"
warning_expected warnings.UnknownCrsType = codes "projjson, wkt2:2019, authority_code or srid"
warning_expected warnings.UnknownEdges = codes "andoyer, karney, spherical, thomas or vincenty"
warning_expected warnings.EdgesPlanar = codes "no edges"
warning_expected warnings.CrsMalformed = codes "PROJJSON"
warning_expected warnings.CrsEmpty = codes "a CRS, or none"
warning_expected warnings.CrsTypeContradicts = codes "a CRS of that form"
warning_expected warnings.CrsWkt1 = codes "WKT 2"
warning_expected warnings.CrsWithoutType = codes "PROJJSON, WKT, a code as EPSG:4326, or a crs_type"
warning_expected warnings.CrsNumber = codes "an object or a text"
warning_expected warnings.CrsNotWhole = codes "whole numbers"

abbrev pub warning_help : WarningCode → Option Text
warning_help (warnings.Layout fault) = Some (fault_help fault)
warning_help warnings.UnknownExtension = Some (codes "Names are compared letter by letter.")
warning_help warnings.OldExtensionName = Some (codes "The column is read under the new name.")
warning_help warnings.WrongStorage = None
warning_help warnings.CoordinatesNotFloat = None
warning_help warnings.CoordinatesNotDouble = None
warning_help warnings.AxisOrder = Some (codes "Readers go by place.")
warning_help warnings.AxisNames = Some (codes "Readers go by place.")
warning_help warnings.NullableInner = None
warning_help warnings.UnionMode = None
warning_help warnings.NestedGeometry = Some (codes "GeoParquet takes columns at the root alone.")
warning_help warnings.MetadataNotJson = Some (codes "Keys and texts stand in double quotes.")
warning_help warnings.MetadataNotObject = None
warning_help warnings.MetadataEmpty = Some (codes "It is read as no metadata.")
warning_help warnings.MetadataKeyCase = Some (codes "The key is passed over.")
warning_help warnings.UnknownCrsType = None
warning_help warnings.UnknownEdges = Some (codes "Leave it out where edges are planar.")
warning_help warnings.EdgesPlanar = Some (codes "Leave it out; planar is the default.")
warning_help warnings.CrsMalformed = Some (codes "projinfo -o PROJJSON prints it, as of EPSG:4326.")
warning_help warnings.CrsEmpty = Some (codes "Of a field it is read as no CRS, of an element as the default.")
warning_help warnings.CrsTypeContradicts = Some (codes "Name the form in crs_type, or leave it out.")
warning_help warnings.CrsWkt1 = Some (codes "projinfo -o WKT2:2019 prints it.")
warning_help warnings.CrsWithoutType = None
warning_help warnings.CrsNumber = None
warning_help warnings.CrsNotWhole = Some (codes "For this alone read and canon of geoarrow_fields refuse the field; other readers do not.")

-- ---- of a finding

-- what is expected in place of what was found: the layout of a name, where one is wanted
abbrev pub expected_at : WarningCode → Option ExtensionName → Text
expected_at code (Some name) = layout_text name
expected_at code None = warning_expected code

-- the names of which one is expected, each with its question
abbrev pub names_of : WarningCode → List (Text × Text)
names_of warnings.UnknownExtension = extension_names
names_of warnings.UnknownCrsType = crs_type_names
names_of warnings.UnknownEdges = edges_names
names_of code = []

-- the type that would be right, where what was found is an object
abbrev pub is_of_object : Text → Bool
is_of_object [] = false
is_of_object (b ∷ rest) = b == 123

abbrev pub type_help : Option Text → Option Text
type_help None = warning_help warnings.CrsTypeContradicts
type_help (Some found) = if is_of_object found then Some (codes "The crs_type of an object is projjson.") else warning_help warnings.CrsTypeContradicts

-- what helps, by what is wanted and what was found
abbrev pub help_at : WarningCode → Option ExtensionName → Option Text → Option Text
help_at warnings.WrongStorage wanted found = storage_help wanted found
help_at warnings.CrsTypeContradicts wanted found = type_help found
help_at code wanted found = meant_or (names_of code) (warning_help code) found
