-- The names of specs and of std that most proofs cite, passed on from one place. Declares nothing.
pub use Rattle.std.proofs.lemmas.Bool.{and_from, and_left, and_parts, and_right, both_ways, cond-false, cond_both, false_from_ne_true, not-false, not-true, or_parts}
pub use Rattle.std.proofs.lemmas.Cmp.{nat_list_cmp_total, tied_itself}
pub use Rattle.std.proofs.lemmas.Option.{cond_some, IfSome_then}
pub use Rattle.std.proofs.lemmas.Result.{IfOk-weaker, on_ok_weaker}
pub use Rattle.std.proofs.lemmas.Str.{encode_ascii, is_utf8-from_IsUtf8, IsCharBoundary-after_ascii, IsCharBoundary-before_ascii, IsUtf8-append, IsUtf8-drop, IsUtf8-encode, IsUtf8-from_ascii, IsUtf8-from_is_utf8, IsUtf8-nil, IsUtf8-string_bytes, IsUtf8-take}
pub use Rattle.std.specs.Cmp.Lexicographic.{slice_cmp}
pub use Rattle.std.specs.List.{AllByRecursion, find, list_all, zip}
pub use Rattle.std.specs.List.Sorted.{IsStrictlySortedBy}
pub use Rattle.std.specs.Map.{keys_of}
pub use Rattle.std.specs.Ordering.{is_eq, match_ordering, ordering_reverse}
pub use Rattle.std.specs.Str.{is_utf8}
pub use Rattle.json.specs.Json.{after_end_array, parse_map, read_key}
pub use Rattle.json.specs.Token.{begin_object, boolean as boolean_token, end_array, end_object, key, number as number_token, string as string_token, Token}
pub use Rattle.serde_json.specs.Data.{array, boolean, Data, depth, float, item, Items, member, Members, negative, no_items, no_members, null, Num, number, object, put, string, unsigned}
pub use Rattle.serde_json.specs.Find.{as_bool, as_integer, as_object, as_str, get_member, of_integer}
pub use Rattle.serde_json.specs.Read.{max_depth, number_from, of_items, of_json, of_members, read}
pub use Rattle.serde_json.specs.Written.{comma_if, compact_text, has_float, items_have_float, items_outline, items_text, members_have_float, members_outline, members_text, number_text, outline}
pub use Rattle.arrow_values.specs.Tree.{field, field_tree, fields_depth, FieldTree, FieldTrees, fixed_size_list, large_list, list, members_depth, MemberTrees, Metadata, no_fields, plain, Plain, struct, Text, Tree, union}
pub use Rattle.arrow_values.specs.Union.{are_distinct, is_type_id}
pub use Rattle.arrow_values.specs.View.{field_trees, member_trees, texts_of, tree}
pub use Rattle.arrow_values.specs.declared.tree.UnionMode.{UnionMode}
pub use Rattle.value_tokens.specs.Adds.{Adds, Prints, PrintsItems}
pub use Rattle.value_tokens.proofs.Adding.{added, prints_array, prints_end, prints_item, sent, then}
pub use Rattle.value_tokens.specs.Next.{after, next_after, next_items, next_members, next_value, ReadsAfter, ReadsItems, ReadsMembers, ReadsValue}
pub use Rattle.value_tokens.proofs.Printed.{printed, reads_back}
pub use Rattle.value_tokens.proofs.Turns.{after_some, item_read, item_refused, items_over, key_refused, member_read, members_over, named, no_value, object_too_deep, taken, value-object, value_takes}
pub use Rattle.field_lines.specs.FieldOfValue.{are_keys, field_before, field_from, field_of_value, fields_in, fields_of_value, fixed_size_list_of, id_of_value, integer_of, is_size, kept, large_list_of, list_of, member_before, members_in, members_of_value, metadata_of_value, mode_of_value, size_of_value, texts_in, tree_ids, type_in, type_of_value, under, union_of}
pub use Rattle.field_lines.specs.ColumnOfValue.{column_from, column_of_line, column_of_value, column_type, column_type_of_value, other_of_value, value_of_line}
pub use Rattle.field_lines.specs.Held.{comes_first, held_parts, is_held, is_held_number, items_are_held, members_are_held}
pub use Rattle.field_lines.specs.Line.{field_of_line, fields_value, line_of_field, members_value, one_key, other_value, parts_value, texts_value, two_keys, type_value, value_of_field, with_metadata}
pub use Rattle.field_lines.specs.LineForm.{FieldsHaveLineForm, HasLineForm, MembersHaveLineForm}
pub use Rattle.field_lines.specs.Steps.{AreMemberParts, column_of_parts, field_of_parts, IsNeither, keyed_at, pair_read, parts_in, parts_tree, PartsTree, PrintsMetadata, slots_in, slots_of, texts_kept, Types, types_of_members, types_of_value}
