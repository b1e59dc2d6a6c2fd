use Rattle.std.proofs.Common.{◌≡◌, ◌++◌, map, string_bytes}
use Rattle.std.specs.Slice.Iter.{iter_rest}
use Rattle.arrow_columns.specs.Column.{column_tree}
use Rattle.arrow_kinds.specs.Types.{member_parts}
use Rattle.arrow_kinds.proofs.types.member_parts.Given as goal

abbrev pub invariant-loop-id : goal.invariant-loop-id
invariant-loop-id l = map string_bytes l.parts.items ++ member_parts (iter_rest l.id-iterator.a) (map column_tree (iter_rest l.id-iterator.b)) ≡ member_parts l.ids (map column_tree l.children)
