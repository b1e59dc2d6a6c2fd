-- The lemmas that the answers cite, with the words that they use, passed on from one place. Declares nothing.
pub use Rattle.geoarrow_layout.proofs.Terms.{ALL, AddsBits, Alike, AllMembers, AllWithin, BadFieldNames, Bor, BoxFault, CoordinateFault, DIMENSIONS, Dense, Dimension, EachHasAlike, FieldTree, FirstOrNone, GeometryCollection, GeometryFault, GeometryMember, GeometryMemberFault, HasAlike, HasFault, Interleaved, IsNested, IsNoLeaf, KINDS, Kind, LeadsTo, Leaf, LineString, List, MatchOption, Member, MemberDimension, MemberFault, MemberFaultIn, MemberIn, MemberTrees, Mixed, MixedFault, MultiPolygon, NativeFaultIn, NativeIn, None, OfGeometry, OfRect, Option, Point, Polygon, Separated, SeparatedFault, Some, SomeMember, Tree, YieldsKind, YieldsList-from_slice, [], ap, arith, bytes_eq, cases_eq, depth, drop, drop_more, err_from_is_err_and, field_trees, first_from_find, geometry_member_first, geometry_members, get_or, get_or_default, iff_false, inl, inr, is_float64, known_names, layout, length, member, member_first, member_trees, members_size, mixed_members, name_of, names_of, no_members, of_z, on_ok_weaker, option_copied, place_in, refl, rules, same_Some, second_kind, subst, suc, sym, take, take_all, tests, to_z, to_z-of_z, tree, true≢false, w16, w32, w8, zero, ℕ, ℤ, ◌&&◌, ◌*◌, ◌++◌, ◌+◌, ◌-◌, ◌<◌, ◌↔◌, ◌∙◌, ◌∷◌, ◌≡◌, ◌≢◌}
pub use Rattle.geoarrow_layout.proofs.Readings.{all_both, all_some, level_fault, ok, one_more, refused, refused_as, some_parts, told_fault, told_map, under_same}
pub use Rattle.geoarrow_layout.proofs.FaultLaws.{Read, at_member, first_apart, geometry_member_sole, kind_inside, level_leads, member_sole, member_sole_in, native_leads, native_sole_in, stays, union_leads}
pub use Rattle.geoarrow_layout.proofs.UnionSteps.{a_collection, at_root, fault_next, inner_of, nested_mixed, no_collection, over_leaf_answer, part_answer, root_mixed, root_refused, seen_more, seen_none, shows_of_inner}
pub use Rattle.geoarrow_layout.proofs.Structs.{FieldsSeen, adds_bit, agrees, all_inferred, fields_seen_more, has_name_fields, length_names, no_bits, no_third, not_inferred, other_inferred, same_three, struct_no_leaf}
pub use Rattle.geoarrow_layout.proofs.InferredKinds.{bytes_inferred, point_inferred}
pub use Rattle.geoarrow_layout.proofs.Written.{in_written, layouts_are_distinct, listed, natives_written, struct_same, union_same}
pub use Rattle.geoarrow_layout.proofs.KindSteps.{Told, accepted_ok, alone, as_other, both, kind_answer, kind_exact, mixed_exact, moves, native_exact, no_names, without}
pub use Rattle.geoarrow_layout.proofs.AlikeLaws.{filled_joined, filled_kept, has_among, joined_alike}
