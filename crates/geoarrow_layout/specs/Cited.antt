-- The words that the contracts of the code and the proofs cite, passed on from one place. Declares nothing.
pub use Rattle.arrow_values.specs.Coordinates.{dimensions_size}
pub use Rattle.arrow_values.specs.Errors.{IsGeoMemory, IsMemory, fault_id}
pub use Rattle.arrow_values.specs.Name.{fixed_text}
pub use Rattle.arrow_values.specs.Tree.{Metadata, Plain as PlainType, depth}
pub use Rattle.arrow_values.specs.Union.{HasTypeIds, has, retained, shared_id}
pub use Rattle.arrow_values.specs.View.{field_list, listed_fields, listed_members, member_list, members_size, tree}
pub use Rattle.geoarrow_layout.specs.Alike.{Alike, AlikeNames, EachHasAlike, HasAlike}
pub use Rattle.geoarrow_layout.specs.Candidates.{IsAccepted, IsStructOfFour, SameCandidates, Share}
pub use Rattle.geoarrow_layout.specs.Changes.{AlikeUnions, AreJust, EachOf, GeometryUnion, MixedUnion}
pub use Rattle.geoarrow_layout.specs.FaultAt.{BoxFault, BoxNamesFault, CoordinateFault, DimensionsFault, FaultAt, Faults, FirstFault, GeometryFault, GeometryMemberFault, HasFault, Here, InItem, LevelsFault, Located, MemberFault, MixedFault, NativeFault, OverLeafFault, PartFault, Path, SeparatedFault, UnionFault, child_at, field_at, member_at}
pub use Rattle.geoarrow_layout.specs.Faults.{IsErrorOfFault, fault_text}
pub use Rattle.geoarrow_layout.specs.Inferred.{Inferred, InferredAs, IsInferredAs, IsInferredSize, YieldsInferred, YieldsSome, are_float64, is_float64}
pub use Rattle.geoarrow_layout.specs.Kinds.{Holds, IsDimension, RefusesDimensions, box_names, coord_type_of, coordinate_names, dimension_name, dimension_named, dimension_of, dimension_sized, dimension_suffix, dimensions_of, extension_of, first_of, interleaved_name, levels_of, name_of, name_text, offset_of, order_of, second_kind, second_of, size_of, type_id_of}
pub use Rattle.geoarrow_layout.specs.Layouts.{IsBare, IsWritten, IsWrittenSome, coordinate, dimension_members, geometry_members, layout, leaf_layout, list_names, lists_over, member_layout, members_in, members_over, mixed_layout, mixed_members, native_layout, native_members, over_leaf_layout, type_name}
pub use Rattle.geoarrow_layout.specs.OneShape.{ReadsFirst, among_back, any_native_same, box_shape_same, coords_in, geometry_member_first, geometry_same, member_first, mixed_first, named_back, native_first, over_leaf_first}
pub use Rattle.geoarrow_layout.specs.Shapes.{Accepted, Accepts, AllMembers, BoxShape, Collection, Geometry, GeometryMember, HasMembers, HaveBoth, IsBoxAs, IsBytes, IsSeparatedAs, IsStructured, IsText, Leaf, ListsOver, Member, Mixed, Native, OverLeaf, SameNames, SomeMember, Under, Yields, YieldsKind, YieldsOne, has_name, names_of}
pub use Rattle.geoarrow_layout.specs.Summary.{AddsBits, AreLevels, AreOf, Ended, FirstOrNone, IsBits, IsBottom, IsCoordFault, IsFaultOf, IsFixedSize, IsInnerUnion, IsLevelFault, IsNested, IsNoLeaf, IsRootUnion, IsStruct, IsUnion, IsWidth, LeadsTo, MemberFaultIn, MemberIn, MixedSays, NativeFaultIn, NativeIn, ReadAt, Seen, ShowsIn, SomeAt, StaysHere, Summarizes, SummarizesBy, Tells, TellsBoth, UnionFaultIn, first_fault, known_names, missing_fault, place_in, place_of}
pub use Rattle.geoarrow_layout.specs.Words.{BadFieldCount, BadFieldNames, BadInterleavedName, BadSize, BadTypeId, Bottom, Contains, CoordType, Deep, Dense, Dimension, EmptyUnion, ExtensionName, FieldTree, FieldTrees, FixedSizeList, GeometryCollection, Interleaved, Kind, Large, LargeLists, LayoutFault, LineString, List, ListWidth, Lists, MatchOption, MatchResult, MemberDimension, MemberTrees, Members, MixedWidths, MultiPolygon, NativeKind, None, OfGeometry, OfNative, OfRect, OfWkb, OfWkt, Ok, Option, Other, OtherWidth, Plain, Plain as Narrow, Point, Polygon, Rect, Separated, SeveralCoordTypes, SeveralDimensions, Some, Struct, Summary, Text, Tree, UnexpectedType, Union, UnionMode, View, Width, Wkb, Wkt, XY, XYM, XYZ, [], binary, binary_view, bit_at, bytes_eq, bytes_eq-Decides, codes, false, field_trees, fixed_size_list, float64, large_binary, large_list, large_utf8, length, list, list_all, list_any, map, member, member_trees, no_members, plain, pos, struct, true, union, utf8, utf8_view, ℕ, ℤ}
pub use Rattle.std.specs.Prelude.{IfErr, IfOk, IfSome, IsOk, IsTrue, OnErr, OnOk, get_or, ⊤}
