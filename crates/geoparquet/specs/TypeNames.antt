-- The names of geometry types (GeoParquet, "geometry_types").
use Rattle.std.specs.Prelude.{Bool, true, false, [], ◌++◌, codes, bytes_eq, Option, None, Some, if◌then◌else◌}
use Rattle.arrow_values.specs.Tree.{Text}
use Rattle.geoarrow_layout.specs.declared.dimensions.Dimension.{Dimension}
use Rattle.geoarrow_layout.specs.declared.dimensions.Dimension.TheVariants.{XY, XYZ, XYM, XYZM}
use Rattle.geoarrow_layout.specs.declared.native_kinds.NativeKind.{NativeKind}
use Rattle.geoarrow_layout.specs.declared.native_kinds.NativeKind.TheVariants.{Point, LineString, Polygon, MultiPoint, MultiLineString, MultiPolygon, GeometryCollection}

-- the name of a kind, and the end that says a dimension behind it
abbrev pub kind_text : NativeKind → Text
kind_text Point = codes "Point"
kind_text LineString = codes "LineString"
kind_text Polygon = codes "Polygon"
kind_text MultiPoint = codes "MultiPoint"
kind_text MultiLineString = codes "MultiLineString"
kind_text MultiPolygon = codes "MultiPolygon"
kind_text GeometryCollection = codes "GeometryCollection"

abbrev pub dimension_end : Dimension → Text
dimension_end XY = []
dimension_end XYZ = codes " Z"
dimension_end XYM = codes " M"
dimension_end XYZM = codes " ZM"

-- the name of the type of a kind in a dimension
abbrev pub type_text : NativeKind → Dimension → Text
type_text k d = kind_text k ++ dimension_end d

-- the dimension in which a text is the name of a kind
abbrev pub dimension_named : NativeKind → Text → Option Dimension
dimension_named k s =
    if bytes_eq s (type_text k XY) then Some XY
    else if bytes_eq s (type_text k XYZ) then Some XYZ
    else if bytes_eq s (type_text k XYM) then Some XYM
    else if bytes_eq s (type_text k XYZM) then Some XYZM
    else None

-- the type by its name
abbrev pub with_kind : NativeKind → Option Dimension → Option (NativeKind × Dimension) → Option (NativeKind × Dimension)
with_kind k (Some d) other = Some (k, d)
with_kind k None other = other

abbrev pub type_named : Text → Option (NativeKind × Dimension)
type_named s =
    with_kind Point (dimension_named Point s)
    (with_kind LineString (dimension_named LineString s)
    (with_kind Polygon (dimension_named Polygon s)
    (with_kind MultiPoint (dimension_named MultiPoint s)
    (with_kind MultiLineString (dimension_named MultiLineString s)
    (with_kind MultiPolygon (dimension_named MultiPolygon s)
    (with_kind GeometryCollection (dimension_named GeometryCollection s) None))))))

-- whether a dimension has a z, and whether it has an m
abbrev pub has_z : Dimension → Bool
has_z XY = false
has_z XYZ = true
has_z XYM = false
has_z XYZM = true

abbrev pub has_m : Dimension → Bool
has_m XY = false
has_m XYZ = false
has_m XYM = true
has_m XYZM = true
