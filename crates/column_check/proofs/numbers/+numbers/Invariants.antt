use Rattle.std.proofs.Common.{◌≡◌, ◌+◌, ◌*◌, drop}
use Rattle.arrow_columns.specs.Types.{part_trees, type_depth, parts_depth}
use Rattle.arrow_columns.specs.Column.{type_tree}
use Rattle.column_check.specs.Walk.{names_on, numbers_below, telling, tell_all}
use Rattle.column_check.proofs.numbers.+numbers.Given as goal

abbrev pub decreases-push_in : goal.decreases-push_in
decreases-push_in l = 2 * type_depth (type_tree l.column_type.now) + 1

abbrev pub decreases-push_parts : goal.decreases-push_parts
decreases-push_parts l = 2 * parts_depth (part_trees l.parts.now)

abbrev pub invariant-push_parts-loop-part : goal.invariant-push_parts-loop-part
invariant-push_parts-loop-part l =
    tell_all l.code (telling l.warnings.items l.rest) (numbers_below l.code (names_on l.way) (part_trees (drop l.part-index l.parts)))
    ≡ tell_all l.code (telling l.fn.warnings.items l.fn.rest) (numbers_below l.code (names_on l.way) (part_trees l.parts))
