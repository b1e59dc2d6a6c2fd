-- The GeoArrow types: which kind and which metadata each has.
use Rattle.std.specs.Prelude.{◌≡◌}
use Rattle.std.specs.Arc.{arc_value, arc_with_value}
use Rattle.std.specs.declared.sync.Arc.{Arc}
use Rattle.std.specs.declared.alloc.Global.{Global}
use Rattle.geoarrow_layout.specs.declared.native_kinds.NativeKind.TheVariants as natives
use Rattle.geoarrow_layout.specs.declared.native_kinds.Width.TheVariants as widths
use Rattle.geoarrow_layout.specs.declared.native_kinds.Kind.{Kind}
use Rattle.geoarrow_layout.specs.declared.native_kinds.Kind.TheVariants as kinds
use Rattle.geoarrow_meta.specs.declared.metadata.Metadata.{Metadata}
use Rattle.geoarrow_schema.specs.declared.types.GeoArrowType.{GeoArrowType}
use Rattle.geoarrow_schema.specs.declared.types.GeoArrowType.TheVariants.{Point, LineString, Polygon, MultiPoint, MultiLineString, MultiPolygon, GeometryCollection, Rect, Geometry, Wkb, LargeWkb, WkbView, Wkt, LargeWkt, WktView}

-- the kind of a type
abbrev pub kind_of : GeoArrowType → Kind
kind_of (Point t) = kinds.Native natives.Point t.encoding.coord_type t.encoding.dimension
kind_of (LineString t) = kinds.Native natives.LineString t.encoding.coord_type t.encoding.dimension
kind_of (Polygon t) = kinds.Native natives.Polygon t.encoding.coord_type t.encoding.dimension
kind_of (MultiPoint t) = kinds.Native natives.MultiPoint t.encoding.coord_type t.encoding.dimension
kind_of (MultiLineString t) = kinds.Native natives.MultiLineString t.encoding.coord_type t.encoding.dimension
kind_of (MultiPolygon t) = kinds.Native natives.MultiPolygon t.encoding.coord_type t.encoding.dimension
kind_of (GeometryCollection t) = kinds.Native natives.GeometryCollection t.encoding.coord_type t.encoding.dimension
kind_of (Rect t) = kinds.Rect t.encoding.dimension
kind_of (Geometry t) = kinds.Geometry t.encoding.coord_type
kind_of (Wkb t) = kinds.Wkb widths.Plain
kind_of (LargeWkb t) = kinds.Wkb widths.Large
kind_of (WkbView t) = kinds.Wkb widths.View
kind_of (Wkt t) = kinds.Wkt widths.Plain
kind_of (LargeWkt t) = kinds.Wkt widths.Large
kind_of (WktView t) = kinds.Wkt widths.View

-- its metadata, as it is shared
abbrev pub metadata_of : GeoArrowType → Arc Metadata Global
metadata_of (Point t) = t.metadata
metadata_of (LineString t) = t.metadata
metadata_of (Polygon t) = t.metadata
metadata_of (MultiPoint t) = t.metadata
metadata_of (MultiLineString t) = t.metadata
metadata_of (MultiPolygon t) = t.metadata
metadata_of (GeometryCollection t) = t.metadata
metadata_of (Rect t) = t.metadata
metadata_of (Geometry t) = t.metadata
metadata_of (Wkb t) = t.metadata
metadata_of (LargeWkb t) = t.metadata
metadata_of (WkbView t) = t.metadata
metadata_of (Wkt t) = t.metadata
metadata_of (LargeWkt t) = t.metadata
metadata_of (WktView t) = t.metadata

-- its metadata
abbrev pub meta_of : GeoArrowType → Metadata
meta_of g = arc_value (metadata_of g)

-- the same type with another metadata
abbrev pub with_metadata : GeoArrowType → Metadata → GeoArrowType
with_metadata (Point t) m = Point (record t { metadata = arc_with_value t.metadata m })
with_metadata (LineString t) m = LineString (record t { metadata = arc_with_value t.metadata m })
with_metadata (Polygon t) m = Polygon (record t { metadata = arc_with_value t.metadata m })
with_metadata (MultiPoint t) m = MultiPoint (record t { metadata = arc_with_value t.metadata m })
with_metadata (MultiLineString t) m = MultiLineString (record t { metadata = arc_with_value t.metadata m })
with_metadata (MultiPolygon t) m = MultiPolygon (record t { metadata = arc_with_value t.metadata m })
with_metadata (GeometryCollection t) m = GeometryCollection (record t { metadata = arc_with_value t.metadata m })
with_metadata (Rect t) m = Rect (record t { metadata = arc_with_value t.metadata m })
with_metadata (Geometry t) m = Geometry (record t { metadata = arc_with_value t.metadata m })
with_metadata (Wkb t) m = Wkb (record t { metadata = arc_with_value t.metadata m })
with_metadata (LargeWkb t) m = LargeWkb (record t { metadata = arc_with_value t.metadata m })
with_metadata (WkbView t) m = WkbView (record t { metadata = arc_with_value t.metadata m })
with_metadata (Wkt t) m = Wkt (record t { metadata = arc_with_value t.metadata m })
with_metadata (LargeWkt t) m = LargeWkt (record t { metadata = arc_with_value t.metadata m })
with_metadata (WktView t) m = WktView (record t { metadata = arc_with_value t.metadata m })

-- two types are of one kind and one metadata
abbrev pub SameType : GeoArrowType → GeoArrowType → Type 0
SameType g h = (kind_of g ≡ kind_of h) × (meta_of g ≡ meta_of h)
