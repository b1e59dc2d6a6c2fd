-- The text of a field's name.
use Rattle.std.specs.Prelude.{codes, string_bytes}
use Rattle.arrow_values.specs.Tree.{Text}
use Rattle.arrow_values.specs.declared.tree.fixed_name.FixedName.{FixedName}
use Rattle.arrow_values.specs.declared.tree.fixed_name.FixedName.TheVariants.{X, Y, Z, M, Xy, Xyz, Xym, Xyzm, Xmin, Ymin, Zmin, Mmin, Xmax, Ymax, Zmax, Mmax, Vertices, Rings, Points, Linestrings, Polygons, Geometries, Point, PointZ, PointM, PointZm, LineString, LineStringZ, LineStringM, LineStringZm, Polygon, PolygonZ, PolygonM, PolygonZm, MultiPoint, MultiPointZ, MultiPointM, MultiPointZm, MultiLineString, MultiLineStringZ, MultiLineStringM, MultiLineStringZm, MultiPolygon, MultiPolygonZ, MultiPolygonM, MultiPolygonZm, GeometryCollection, GeometryCollectionZ, GeometryCollectionM, GeometryCollectionZm}
use Rattle.arrow_values.specs.declared.tree.name.Name.{Name}
use Rattle.arrow_values.specs.declared.tree.name.Name.TheVariants.{Fixed, Owned}

-- the text of a name that layouts have
abbrev pub fixed_text : FixedName → Text
fixed_text X = codes "x"
fixed_text Y = codes "y"
fixed_text Z = codes "z"
fixed_text M = codes "m"
fixed_text Xy = codes "xy"
fixed_text Xyz = codes "xyz"
fixed_text Xym = codes "xym"
fixed_text Xyzm = codes "xyzm"
fixed_text Xmin = codes "xmin"
fixed_text Ymin = codes "ymin"
fixed_text Zmin = codes "zmin"
fixed_text Mmin = codes "mmin"
fixed_text Xmax = codes "xmax"
fixed_text Ymax = codes "ymax"
fixed_text Zmax = codes "zmax"
fixed_text Mmax = codes "mmax"
fixed_text Vertices = codes "vertices"
fixed_text Rings = codes "rings"
fixed_text Points = codes "points"
fixed_text Linestrings = codes "linestrings"
fixed_text Polygons = codes "polygons"
fixed_text Geometries = codes "geometries"
fixed_text Point = codes "Point"
fixed_text PointZ = codes "Point Z"
fixed_text PointM = codes "Point M"
fixed_text PointZm = codes "Point ZM"
fixed_text LineString = codes "LineString"
fixed_text LineStringZ = codes "LineString Z"
fixed_text LineStringM = codes "LineString M"
fixed_text LineStringZm = codes "LineString ZM"
fixed_text Polygon = codes "Polygon"
fixed_text PolygonZ = codes "Polygon Z"
fixed_text PolygonM = codes "Polygon M"
fixed_text PolygonZm = codes "Polygon ZM"
fixed_text MultiPoint = codes "MultiPoint"
fixed_text MultiPointZ = codes "MultiPoint Z"
fixed_text MultiPointM = codes "MultiPoint M"
fixed_text MultiPointZm = codes "MultiPoint ZM"
fixed_text MultiLineString = codes "MultiLineString"
fixed_text MultiLineStringZ = codes "MultiLineString Z"
fixed_text MultiLineStringM = codes "MultiLineString M"
fixed_text MultiLineStringZm = codes "MultiLineString ZM"
fixed_text MultiPolygon = codes "MultiPolygon"
fixed_text MultiPolygonZ = codes "MultiPolygon Z"
fixed_text MultiPolygonM = codes "MultiPolygon M"
fixed_text MultiPolygonZm = codes "MultiPolygon ZM"
fixed_text GeometryCollection = codes "GeometryCollection"
fixed_text GeometryCollectionZ = codes "GeometryCollection Z"
fixed_text GeometryCollectionM = codes "GeometryCollection M"
fixed_text GeometryCollectionZm = codes "GeometryCollection ZM"

-- the text of a name
abbrev pub name_bytes : Name → Text
name_bytes (Fixed n) = fixed_text n
name_bytes (Owned s) = string_bytes s
