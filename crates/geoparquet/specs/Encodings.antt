-- Encodings, and the types that columns of them have (GeoParquet 1.1, "encoding").
use Rattle.std.specs.Prelude.{◌≡◌, codes, Option, None, Some, ⊤}
use Rattle.arrow_values.specs.Tree.{Text}
use Rattle.arrow_columns.specs.Types.{TypeTree, known, other, ColumnTree}
use Rattle.geoarrow_layout.specs.declared.dimensions.CoordType.TheVariants.{Separated}
use Rattle.geoarrow_layout.specs.declared.dimensions.Dimension.TheVariants.{XY, XYZ}
use Rattle.geoarrow_layout.specs.declared.native_kinds.NativeKind.TheVariants.{Point, LineString, Polygon, MultiPoint, MultiLineString, MultiPolygon}
use Rattle.geoarrow_layout.specs.declared.names.ExtensionName.{ExtensionName}
use Rattle.geoarrow_layout.specs.declared.names.ExtensionName.TheVariants.{Native, Wkb}
use Rattle.geoarrow_layout.specs.declared.native_kinds.Kind.{Kind}
use Rattle.geoarrow_layout.specs.declared.native_kinds.Kind.TheVariants.{Native as OfNative, Wkb as OfWkb}
use Rattle.geoarrow_layout.specs.Kinds.{name_text}
use Rattle.geoarrow_layout.specs.Shapes.{Accepts}

-- the text of an encoding, by the extension name of GeoArrow for such columns
abbrev pub encoding_text : ExtensionName → Option Text
encoding_text Wkb = Some (codes "WKB")
encoding_text (Native Point) = Some (codes "point")
encoding_text (Native LineString) = Some (codes "linestring")
encoding_text (Native Polygon) = Some (codes "polygon")
encoding_text (Native MultiPoint) = Some (codes "multipoint")
encoding_text (Native MultiLineString) = Some (codes "multilinestring")
encoding_text (Native MultiPolygon) = Some (codes "multipolygon")
encoding_text _ = None

-- the kinds that GeoParquet stores: well-known binary, and separated coordinates of two numbers or three with z
abbrev pub IsStored : Kind → Type 0
IsStored (OfWkb w) = ⊤
IsStored (OfNative k Separated XY) = ⊤
IsStored (OfNative k Separated XYZ) = ⊤
IsStored _ = ⊥

-- the type is stored so, as a column of that extension name
abbrev pub IsStoredAs : ExtensionName → TypeTree → Type 0
IsStoredAs n (known t) = (k : Kind) × Accepts (name_text n) t k × IsStored k
IsStoredAs n (other s f ids ps) = ⊥

-- the encoding is that of the extension name, and the column has a type of it
abbrev pub IsEncodedAs : Option Text → ExtensionName → ColumnTree → Type 0
IsEncodedAs (Some s) n c = (encoding_text n ≡ Some s) × IsStoredAs n c.data_type
IsEncodedAs None n c = ⊥
