-- The words and the lemmas of the libraries and the names of the specs that the proofs cite, passed on from one place. Declares nothing.
pub use Rattle.geoarrow_layout.specs.Cited.{IfOk, name_of, Accepted, Accepts, AddsBits, Alike, AlikeNames, AlikeUnions, AllMembers, AreJust, AreLevels, AreOf, BadFieldCount, BadFieldNames, BadInterleavedName, BadSize, BadTypeId, Bottom, BoxFault, BoxNamesFault, BoxShape, CoordType, CoordinateFault, Deep, Dense, Dimension, DimensionsFault, EachHasAlike, EachOf, EmptyUnion, ExtensionName, FaultAt, Faults, FieldTree, FieldTrees, FirstFault, FirstOrNone, FixedSizeList, Geometry, GeometryCollection, GeometryFault, GeometryMember, GeometryMemberFault, HasAlike, HasFault, HasMembers, HaveBoth, Here, Holds, InItem, Inferred, InferredAs, Interleaved, IsAccepted, IsBits, IsBottom, IsBoxAs, IsBytes, IsCoordFault, IsFaultOf, IsFixedSize, IsInferredAs, IsInferredSize, IsInnerUnion, IsLevelFault, IsNested, IsNoLeaf, IsRootUnion, IsSeparatedAs, IsStruct, IsStructOfFour, IsStructured, IsUnion, IsWidth, IsWritten, IsWrittenSome, Kind, Large, LargeLists, LayoutFault, LeadsTo, Leaf, LevelsFault, LineString, ListWidth, Lists, ListsOver, Located, Member, MemberDimension, MemberFault, MemberFaultIn, MemberIn, MemberTrees, Members, Metadata, Mixed, MixedFault, MixedSays, MixedWidths, MultiPolygon, Narrow, Native, NativeFault, NativeFaultIn, NativeIn, NativeKind, OfGeometry, OfNative, OfRect, OfWkb, OfWkt, Other, OtherWidth, OverLeaf, OverLeafFault, PartFault, Path, Plain, PlainType, Point, Polygon, ReadAt, ReadsFirst, Seen, Separated, SeparatedFault, SeveralCoordTypes, SeveralDimensions, Share, ShowsIn, SomeAt, SomeMember, StaysHere, Struct, Summarizes, SummarizesBy, Summary, Tells, TellsBoth, Text, Tree, Under, UnexpectedType, Union, UnionFault, UnionFaultIn, UnionMode, View, Width, XY, XYM, XYZ, Yields, YieldsInferred, YieldsKind, YieldsOne, YieldsSome, among_back, any_native_same, are_float64, binary, binary_view, bit_at, box_shape_same, bytes_eq, bytes_eq-Decides, coordinate, coords_in, depth, dimension_members, dimension_named, dimension_sized, extension_of, field_at, field_list, field_trees, first_fault, first_of, fixed_size_list, fixed_text, geometry_member_first, geometry_members, geometry_same, has, has_name, interleaved_name, is_float64, known_names, large_binary, large_list, large_utf8, layout, leaf_layout, levels_of, list, list_all, list_names, list_any, listed_fields, listed_members, member, member_at, member_first, member_list, member_trees, members_in, members_over, members_size, missing_fault, mixed_first, mixed_layout, mixed_members, name_text, named_back, names_of, native_first, native_layout, native_members, no_members, offset_of, order_of, over_leaf_first, over_leaf_layout, place_in, place_of, plain, retained, second_kind, second_of, size_of, struct, tree, type_id_of, union, utf8, utf8_view}
pub use Rattle.geoarrow_layout.specs.declared.native_kinds.TheConstants.{KINDS}
pub use Rattle.geoarrow_layout.specs.declared.native_kinds.TheConstants.Kind.{ALL}
pub use Rattle.geoarrow_layout.specs.declared.dimensions.TheConstants.{DIMENSIONS}
pub use Rattle.geoarrow_layout.specs.declared.names.Candidates.TheVariants.{None as NoName}
pub use Rattle.std.proofs.Common.{Bool, Bor, Err, IfErr, IsTrue, List, MatchOption, MatchResult, None, Ok, OnOk, Option, Result, Some, [], add-one, ap, append-nil, append_assoc, arith, bit_and, codes, cond, drop, eq-eqb, false, get_or, inl, inr, is_ok, length, lit<, map, nat_eq, of_z, pos, refl, rules, subst, suc, sym, take, to_z, true, true≢false, w16, w32, w64, w8, zero, ℕ, ℤ, ◌%◌, ◌&&◌, ◌*◌, ◌++◌, ◌+◌, ◌-◌, ◌/◌, ◌<◌, ◌^◌, ◌||◌, ◌↔◌, ◌∙◌, ◌∷◌, ◌≡◌, ◌≢◌, ◌≤◌, ◌⊎◌}
pub use Rattle.std.proofs.Math.Bool.{and-true, and_assoc}
pub use Rattle.std.proofs.Math.ListN.{get_or-map}
pub use Rattle.std.proofs.Math.Seq.{take-suc}
pub use Rattle.std.proofs.lemmas.Bool.{and_from, and_parts, cases_eq, cond_both, eqb-true, iff_false, ltb-false, ltb-true, or_cases, or_left, or_right}
pub use Rattle.std.proofs.lemmas.Bool.Decides.{Decides-and, Decides-like, same_from_decides}
pub use Rattle.std.proofs.lemmas.Int.{to_z-of_z}
pub use Rattle.std.proofs.lemmas.Iterator.{YieldsList-from_slice, first_from_find}
pub use Rattle.std.proofs.lemmas.List.{drop_more, get_or_default, take_all}
pub use Rattle.std.proofs.lemmas.List.Elements.{All-contains, All-contains_itself, All-filter, Contains-append_cases, Contains-append_left, Contains-append_right}
pub use Rattle.std.proofs.lemmas.List.FromFn.{get_or-range_with_len}
pub use Rattle.std.proofs.lemmas.Nat.Bits.{bit_at-lt, bit_at-pow_other, bit_at-pow_same, bit_at-zero, bit_at_set_other, bit_at_set_same, same_from_bits, shr_and_one}
pub use Rattle.std.proofs.lemmas.Option.{same_Some}
pub use Rattle.std.proofs.lemmas.Result.{err_from_is_err_and, on_ok_weaker}
pub use Rattle.std.specs.Bool.{Decides}
pub use Rattle.std.specs.Cmp.{booleans_Decides, decided, signed_Decides, unsigned_Decides}
pub use Rattle.std.specs.Int.RustNames.{bit_or}
pub use Rattle.std.specs.List.{AllByRecursion, AllWithin, Contains, filter}
pub use Rattle.std.specs.Option.{option_copied, option_eq}
pub use Rattle.std.specs.Result.{IsErrAnd, IsOkAnd, result_ok}
pub use borrow.Author.Tests.{tests}
pub use denote.Enum.Bare.{Bare, same_true, sameb, true_same}
pub use denote.Enum.Declared.{Declared}
pub use lib.IntN.{nat_abs, negsuc}
pub use lib.Signed.{lt_z}
pub use mir.Val.{bits}
