-- The words of std and the names of the types of Rust, for the definitions: passed on from one place. Declares nothing.
pub use Rattle.arrow_values.specs.Tree.{FieldTree, FieldTrees, MemberTrees, Members, Text, Tree, binary, binary_view, field, field_tree, fixed_size_list, float64, large_binary, large_list, large_utf8, list, member, no_fields, no_members, null, plain, struct, union, utf8, utf8_view}
pub use Rattle.arrow_values.specs.View.{field_trees, member_trees}
pub use Rattle.arrow_values.specs.declared.coordinates.Dimensions.{Dimensions}
pub use Rattle.arrow_values.specs.declared.error.ArrowError.{ArrowError}
pub use Rattle.arrow_values.specs.declared.error.ArrowError.TheVariants.{ExternalError'}
pub use Rattle.arrow_values.specs.declared.error.GeoArrowError.{GeoArrowError}
pub use Rattle.arrow_values.specs.declared.error.GeoArrowError.TheVariants.{InvalidGeoArrow}
pub use Rattle.arrow_values.specs.declared.tree.UnionMode.{UnionMode}
pub use Rattle.arrow_values.specs.declared.tree.UnionMode.TheVariants.{Dense}
pub use Rattle.geoarrow_layout.specs.declared.native_kinds.Kind.{Kind}
pub use Rattle.geoarrow_layout.specs.declared.native_kinds.Kind.TheVariants.{Geometry, Geometry as OfGeometry, Native, Native as OfNative, Rect, Rect as OfRect, Wkb, Wkb as OfWkb, Wkt, Wkt as OfWkt}
pub use Rattle.geoarrow_layout.specs.declared.native_kinds.NativeKind.{NativeKind}
pub use Rattle.geoarrow_layout.specs.declared.native_kinds.NativeKind.TheVariants.{GeometryCollection, LineString, MultiLineString, MultiPoint, MultiPolygon, Point, Polygon}
pub use Rattle.geoarrow_layout.specs.declared.native_kinds.Width.{Width}
pub use Rattle.geoarrow_layout.specs.declared.native_kinds.Width.TheVariants.{Large, Plain, View}
pub use Rattle.geoarrow_layout.specs.declared.fault.LayoutFault.{LayoutFault}
pub use Rattle.geoarrow_layout.specs.declared.fault.LayoutFault.TheVariants.{BadFieldCount, BadFieldNames, BadInterleavedName, BadSize, BadTypeId, EmptyUnion, MemberDimension, MixedWidths, SeveralCoordTypes, SeveralDimensions, UnexpectedType}
pub use Rattle.geoarrow_layout.specs.declared.dimensions.CoordType.{CoordType}
pub use Rattle.geoarrow_layout.specs.declared.dimensions.CoordType.TheVariants.{Interleaved, Separated}
pub use Rattle.geoarrow_layout.specs.declared.dimensions.Dimension.{Dimension}
pub use Rattle.geoarrow_layout.specs.declared.dimensions.Dimension.TheVariants.{XY, XYM, XYZ}
pub use Rattle.geoarrow_layout.specs.declared.names.Candidates.{Candidates}
pub use Rattle.geoarrow_layout.specs.declared.names.ExtensionName.{ExtensionName}
pub use Rattle.geoarrow_layout.specs.declared.summary.Bottom.{Bottom}
pub use Rattle.geoarrow_layout.specs.declared.summary.Bottom.TheVariants.{Deep, FixedSizeList, Other, OtherWidth, Struct, Union}
pub use Rattle.geoarrow_layout.specs.declared.summary.ListWidth.{ListWidth}
pub use Rattle.geoarrow_layout.specs.declared.summary.ListWidth.TheVariants.{LargeList as LargeLists, List as Lists}
pub use Rattle.geoarrow_layout.specs.declared.summary.Summary.{Summary}
pub use Rattle.std.proofs.Common.{ap, arith, inl, inr, refl, sym, ◌∙◌}
pub use Rattle.std.proofs.lemmas.Slice.Eq.{bytes_eq-Decides}
pub use Rattle.std.specs.Fmt.{decimal}
pub use Rattle.std.specs.Int.{bit_at}
pub use Rattle.std.specs.List.{list_all, list_any}
pub use Rattle.std.specs.Prelude.{Bool, Contains, Err, List, MatchOption, MatchResult, None, Ok, Option, Result, Some, [], codes, cond, false, length, map, nat_eq, pos, string_bytes, suc, true, zero, ℕ, ℤ}
pub use Rattle.std.specs.Str.{bytes_eq}
