-- Kinds with another coordinate type or dimension.
use Rattle.geoarrow_layout.specs.declared.dimensions.CoordType.{CoordType}
use Rattle.geoarrow_layout.specs.declared.dimensions.Dimension.{Dimension}
use Rattle.geoarrow_layout.specs.declared.native_kinds.Kind.{Kind}
use Rattle.geoarrow_layout.specs.declared.native_kinds.Kind.TheVariants.{Native, Geometry, Rect}

-- a native kind and geometries of any kind have a coordinate type to change
abbrev pub with_coord_type : CoordType → Kind → Kind
with_coord_type b (Native k c d) = Native k b d
with_coord_type b (Geometry c) = Geometry b
with_coord_type b k = k

-- a native kind and boxes have a dimension
abbrev pub with_dimension : Dimension → Kind → Kind
with_dimension e (Native k c d) = Native k c e
with_dimension e (Rect d) = Rect e
with_dimension e k = k
