-- Tables of dimensions and kinds: sizes, names and type ids, and which names share data types.
use Rattle.std.specs.Prelude.{◌+◌, ◌≡◌, ◌⊎◌, ◌*◌, ◌++◌, ◌∷◌}
use Rattle.geoarrow_layout.specs.Words.{Text, ℕ, List, [], Option, Some, None, codes, string_bytes, decimal, Bool, cond, nat_eq, bytes_eq, Dimensions, GeoArrowError, InvalidGeoArrow, CoordType, Separated, Dimension, NativeKind, Point, LineString, Polygon, MultiPoint, MultiLineString, MultiPolygon, GeometryCollection, ExtensionName, Candidates, Kind, Native, Geometry, Rect, Wkb, Wkt}
use Rattle.arrow_values.specs.declared.coordinates.Dimensions.TheVariants.{Xy, Xyz, Xym, Xyzm, Unknown}
use Rattle.geoarrow_layout.specs.declared.dimensions.Dimension.TheVariants.{XY, XYZ, XYM, XYZM}
use Rattle.geoarrow_layout.specs.declared.names.Candidates.TheVariants as candidates
use Rattle.geoarrow_layout.specs.declared.names.ExtensionName.TheVariants as names

-- how many numbers a coordinate has
abbrev pub size_of : Dimension → ℕ
size_of XY = 2
size_of XYZ = 3
size_of XYM = 3
size_of XYZM = 4

-- the dimension with so many numbers; of the two with three, the one with a measure or the one without
abbrev pub dimension_sized : ℕ → Bool → Dimension
dimension_sized n measured = cond (nat_eq n 2) XY (cond (nat_eq n 3) (cond measured XYM XYZ) XYZM)

-- the text that a dimension prints
abbrev pub dimension_name : Dimension → Text
dimension_name XY = codes "XY"
dimension_name XYZ = codes "XYZ"
dimension_name XYM = codes "XYM"
dimension_name XYZM = codes "XYZM"

-- the name of the inner field of an interleaved coordinate
abbrev pub interleaved_name : Dimension → Text
interleaved_name XY = codes "xy"
interleaved_name XYZ = codes "xyz"
interleaved_name XYM = codes "xym"
interleaved_name XYZM = codes "xyzm"

-- the dimension of an interleaved coordinate with that inner name
abbrev pub dimension_named : Text → Dimension
dimension_named n = cond (bytes_eq n (codes "xy")) XY (cond (bytes_eq n (codes "xyz")) XYZ (cond (bytes_eq n (codes "xym")) XYM XYZM))

-- the field names of a separated coordinate, in order
abbrev pub coordinate_names : Dimension → List Text
coordinate_names XY = codes "x" ∷ codes "y" ∷ []
coordinate_names XYZ = codes "x" ∷ codes "y" ∷ codes "z" ∷ []
coordinate_names XYM = codes "x" ∷ codes "y" ∷ codes "m" ∷ []
coordinate_names XYZM = codes "x" ∷ codes "y" ∷ codes "z" ∷ codes "m" ∷ []

-- the field names of a box: the lower bounds, then the upper ones
abbrev pub box_names : Dimension → List Text
box_names XY = codes "xmin" ∷ codes "ymin" ∷ codes "xmax" ∷ codes "ymax" ∷ []
box_names XYZ = codes "xmin" ∷ codes "ymin" ∷ codes "zmin" ∷ codes "xmax" ∷ codes "ymax" ∷ codes "zmax" ∷ []
box_names XYM = codes "xmin" ∷ codes "ymin" ∷ codes "mmin" ∷ codes "xmax" ∷ codes "ymax" ∷ codes "mmax" ∷ []
box_names XYZM = codes "xmin" ∷ codes "ymin" ∷ codes "zmin" ∷ codes "mmin" ∷ codes "xmax" ∷ codes "ymax" ∷ codes "zmax" ∷ codes "mmax" ∷ []

-- what follows the name of a kind in the name of a union's member, by the dimension
abbrev pub dimension_suffix : Dimension → Text
dimension_suffix XY = []
dimension_suffix XYZ = codes " Z"
dimension_suffix XYM = codes " M"
dimension_suffix XYZM = codes " ZM"

-- all of them, in their order
abbrev pub dimensions : List Dimension
dimensions = XY ∷ XYZ ∷ XYM ∷ XYZM ∷ []

-- the same dimension, as geometry traits name it
abbrev pub dimensions_of : Dimension → Dimensions
dimensions_of XY = Xy
dimensions_of XYZ = Xyz
dimensions_of XYM = Xym
dimensions_of XYZM = Xyzm

-- these dimensions convert to that dimension: they have its name, or are 2, 3 or 4 of no known meaning
abbrev pub IsDimension : Dimensions → Dimension → Type 0
IsDimension Xy d = d ≡ XY
IsDimension Xyz d = d ≡ XYZ
IsDimension Xym d = d ≡ XYM
IsDimension Xyzm d = d ≡ XYZM
IsDimension (Unknown n) XY = n ≡ 2
IsDimension (Unknown n) XYZ = n ≡ 3
IsDimension (Unknown n) XYM = ⊥
IsDimension (Unknown n) XYZM = n ≡ 4

-- the error for dimensions that convert to none: an `InvalidGeoArrow` with their number
abbrev pub RefusesDimensions : Dimensions → GeoArrowError → Type 0
RefusesDimensions (Unknown n) (InvalidGeoArrow message) = string_bytes message ≡ codes "Unsupported dimension Unknown(" ++ decimal n ++ codes ")"
RefusesDimensions _ _ = ⊥

-- the number of a dimension in type ids
abbrev pub order_of : Dimension → ℕ
order_of XY = 0
order_of XYZ = 1
order_of XYM = 2
order_of XYZM = 3

-- the number of a native kind in type ids
abbrev pub offset_of : NativeKind → ℕ
offset_of Point = 1
offset_of LineString = 2
offset_of Polygon = 3
offset_of MultiPoint = 4
offset_of MultiLineString = 5
offset_of MultiPolygon = 6
offset_of GeometryCollection = 7

-- how many lists a native kind has
abbrev pub levels_of : NativeKind → ℕ
levels_of Point = 0
levels_of LineString = 1
levels_of Polygon = 2
levels_of MultiPoint = 1
levels_of MultiLineString = 2
levels_of MultiPolygon = 3
levels_of GeometryCollection = 1

-- the type id of a union's member: ten times the number of its dimension, plus that of its kind
abbrev pub type_id_of : NativeKind → Dimension → ℕ
type_id_of k d = 10 * order_of d + offset_of k

-- the text of an extension name
abbrev pub name_text : ExtensionName → Text
name_text (names.Native Point) = codes "geoarrow.point"
name_text (names.Native LineString) = codes "geoarrow.linestring"
name_text (names.Native Polygon) = codes "geoarrow.polygon"
name_text (names.Native MultiPoint) = codes "geoarrow.multipoint"
name_text (names.Native MultiLineString) = codes "geoarrow.multilinestring"
name_text (names.Native MultiPolygon) = codes "geoarrow.multipolygon"
name_text (names.Native GeometryCollection) = codes "geoarrow.geometrycollection"
name_text names.Geometry = codes "geoarrow.geometry"
name_text names.Rect = codes "geoarrow.box"
name_text names.Wkb = codes "geoarrow.wkb"
name_text names.Wkt = codes "geoarrow.wkt"

-- the second kind with the same data types, if there are two
abbrev pub second_kind : NativeKind → NativeKind
second_kind LineString = MultiPoint
second_kind Polygon = MultiLineString
second_kind k = k

-- the second name of a data type that has the first one, if it may have two
abbrev pub second_of : ExtensionName → ExtensionName
second_of (names.Native Point) = names.Rect
second_of (names.Native k) = names.Native (second_kind k)
second_of a = a

-- the first name of such a data type
abbrev pub first_of : ExtensionName → ExtensionName
first_of (names.Native MultiPoint) = names.Native LineString
first_of (names.Native MultiLineString) = names.Native Polygon
first_of names.Rect = names.Native Point
first_of a = a

-- the name is one of the candidates
abbrev pub Holds : Candidates → Text → Type 0
Holds candidates.None n = ⊥
Holds (candidates.One name) n = n ≡ name.now
Holds candidates.LineStringOrMultiPoint n = (n ≡ name_text (names.Native LineString)) ⊎ (n ≡ name_text (names.Native MultiPoint))
Holds candidates.PolygonOrMultiLineString n = (n ≡ name_text (names.Native Polygon)) ⊎ (n ≡ name_text (names.Native MultiLineString))
Holds candidates.PointOrBox n = (n ≡ name_text (names.Native Point)) ⊎ (n ≡ name_text names.Rect)

-- the extension name under which a kind is written
abbrev pub extension_of : Kind → ExtensionName
extension_of (Native k c d) = names.Native k
extension_of (Geometry c) = names.Geometry
extension_of (Rect d) = names.Rect
extension_of (Wkb w) = names.Wkb
extension_of (Wkt w) = names.Wkt

-- the text of that name
abbrev pub name_of : Kind → Text
name_of k = name_text (extension_of k)

-- the coordinate type of a kind; a box has a field for each bound, so it is separated
abbrev pub coord_type_of : Kind → Option CoordType
coord_type_of (Native k c d) = Some c
coord_type_of (Geometry c) = Some c
coord_type_of (Rect d) = Some Separated
coord_type_of (Wkb w) = None
coord_type_of (Wkt w) = None

-- the dimension of a kind, if all its values have the same one
abbrev pub dimension_of : Kind → Option Dimension
dimension_of (Native k c d) = Some d
dimension_of (Geometry c) = None
dimension_of (Rect d) = Some d
dimension_of (Wkb w) = None
dimension_of (Wkt w) = None
