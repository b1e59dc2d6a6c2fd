-- The layouts of extension names, and the faults of layouts, in words (docs/FORMAT.md, 2.6; the layouts themselves: 1.3 and 1.4).
use Rattle.std.specs.Prelude.{◌||◌, bytes_eq, codes, Bool, Option, None, Some, if◌then◌else◌}
use Rattle.arrow_values.specs.Tree.{Text}
use Rattle.geoarrow_layout.specs.declared.fault.LayoutFault.{LayoutFault}
use Rattle.geoarrow_layout.specs.declared.fault.LayoutFault.TheVariants.{UnexpectedType, BadInterleavedName, BadSize, BadFieldNames, BadFieldCount, MixedWidths, BadTypeId, MemberDimension, EmptyUnion, SeveralCoordTypes, SeveralDimensions}
use Rattle.geoarrow_layout.specs.declared.names.ExtensionName.{ExtensionName}
use Rattle.geoarrow_layout.specs.declared.names.ExtensionName.TheVariants as names
use Rattle.geoarrow_layout.specs.declared.native_kinds.NativeKind.{NativeKind}
use Rattle.geoarrow_layout.specs.declared.native_kinds.NativeKind.TheVariants.{Point, LineString, Polygon, MultiPoint, MultiLineString, MultiPolygon, GeometryCollection}

-- the code of a layout's fault
abbrev pub fault_code : LayoutFault → Text
fault_code UnexpectedType = codes "UnexpectedType"
fault_code BadInterleavedName = codes "BadInterleavedName"
fault_code BadSize = codes "BadSize"
fault_code BadFieldNames = codes "BadFieldNames"
fault_code BadFieldCount = codes "BadFieldCount"
fault_code MixedWidths = codes "MixedWidths"
fault_code BadTypeId = codes "BadTypeId"
fault_code MemberDimension = codes "MemberDimension"
fault_code EmptyUnion = codes "EmptyUnion"
fault_code SeveralCoordTypes = codes "SeveralCoordTypes"
fault_code SeveralDimensions = codes "SeveralDimensions"

-- what helps there
abbrev pub fault_help : LayoutFault → Text
fault_help UnexpectedType = codes "The layout has no such type there."
fault_help BadInterleavedName = codes "The field of the list is named xy, xyz, xym or xyzm, by its dimension."
fault_help BadSize = codes "The size of the list differs from the name of its field."
fault_help BadFieldNames = codes "The names of the fields are those of no dimension."
fault_help BadFieldCount = codes "The number of the fields is that of no dimension."
fault_help MixedWidths = codes "A list and the list in it are of different widths."
fault_help BadTypeId = codes "The layout has no member of that type id."
fault_help MemberDimension = codes "The dimension of the member differs from its type id."
fault_help EmptyUnion = codes "The union has no members."
fault_help SeveralCoordTypes = codes "The members have both interleaved and separated coordinates."
fault_help SeveralDimensions = codes "The members are of several dimensions."

-- the layout of a native kind: lists of coordinates, or of a union
abbrev pub lists_text : NativeKind → Text
lists_text Point = codes "coordinates"
lists_text LineString = codes "list<coordinates>"
lists_text Polygon = codes "list<list<coordinates>>"
lists_text MultiPoint = codes "list<coordinates>"
lists_text MultiLineString = codes "list<list<coordinates>>"
lists_text MultiPolygon = codes "list<list<list<coordinates>>>"
lists_text GeometryCollection = codes "list<union> whose type ids are among 1 to 6, 11 to 16, 21 to 26 or 31 to 36"

-- the layout of an extension name
abbrev pub layout_text : ExtensionName → Text
layout_text (names.Native kind) = lists_text kind
layout_text names.Geometry = codes "union whose type ids are among 1 to 7, 11 to 17, 21 to 27 and 31 to 37"
layout_text names.Rect = codes "struct of xmin, ymin, zmin, mmin, xmax, ymax, zmax, mmax, or without z, m or both"
layout_text names.Wkb = codes "binary, large_binary or binary_view"
layout_text names.Wkt = codes "utf8, large_utf8 or utf8_view"

-- ---- well-known binary and text

-- the notation is that of a text type; of a binary one
abbrev pub is_text_type : Text → Bool
is_text_type s = bytes_eq s (codes "utf8") || (bytes_eq s (codes "large_utf8") || bytes_eq s (codes "utf8_view"))

abbrev pub is_binary_type : Text → Bool
is_binary_type s = bytes_eq s (codes "binary") || (bytes_eq s (codes "large_binary") || bytes_eq s (codes "binary_view"))

-- what helps where a type is no bytes or no text, as that name wants it: the other name, where the type is of that one
abbrev pub storage_help : Option ExtensionName → Option Text → Option Text
storage_help (Some names.Wkb) (Some s) = if is_text_type s then Some (codes "For WKT use geoarrow.wkt.") else None
storage_help (Some names.Wkt) (Some s) = if is_binary_type s then Some (codes "For WKB use geoarrow.wkb.") else None
storage_help name found = None
