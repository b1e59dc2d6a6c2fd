-- A type of the kind and the metadata of points is that type of points.
use Rattle.std.proofs.Common.{◌≡◌, ap, ◌∙◌}
use Rattle.geoarrow_layout.specs.declared.native_kinds.Kind.TheVariants as kinds
use Rattle.geoarrow_layout.specs.declared.native_kinds.NativeKind.TheVariants as natives
use Rattle.geoarrow_native.specs.declared.column.ColumnType.{ColumnType}
use Rattle.geoarrow_native.specs.declared.native.Native.{Native}
use Rattle.geoarrow_native.specs.declared.shape.Point.{Point}
use Rattle.geoarrow_schema.specs.declared.types.GeoArrowType.{GeoArrowType}
use Rattle.geoarrow_schema.specs.declared.types.GeoArrowType.TheVariants as types
use Rattle.geoarrow_schema.specs.Types.{kind_of, metadata_of}

pub is_point : (g : GeoArrowType) (t : ColumnType (Native Point)) → kind_of g ≡ kinds.Native natives.Point t.encoding.coord_type t.encoding.dimension → metadata_of g ≡ t.metadata → g ≡ types.Point t
is_point (types.Point u) t kind metadata =
    let coord : u.encoding.coord_type ≡ t.encoding.coord_type = cc (kind) in
    let dimension : u.encoding.dimension ≡ t.encoding.dimension = cc (kind) in
    let e = u.encoding in
    ap types.Point (ap {B = ColumnType (Native Point)} (λ c. record { encoding = record { coord_type = c; dimension = e.dimension; shape = e.shape }; metadata = u.metadata }) coord
    ∙ ap {B = ColumnType (Native Point)} (λ d. record { encoding = record { coord_type = t.encoding.coord_type; dimension = d; shape = e.shape }; metadata = u.metadata }) dimension
    ∙ ap {B = ColumnType (Native Point)} (λ m. record { encoding = t.encoding; metadata = m }) metadata)
is_point _ t kind metadata = absurd (cc)
