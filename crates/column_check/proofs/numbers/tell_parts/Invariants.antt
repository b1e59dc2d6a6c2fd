use Rattle.std.proofs.Common.{◌≡◌, drop}
use Rattle.arrow_columns.specs.Types.{part_trees}
use Rattle.column_check.specs.Walk.{names_on, part_spots, telling, tell_all}
use Rattle.column_check.proofs.numbers.tell_parts.Given as goal

abbrev pub invariant-loop-part : goal.invariant-loop-part
invariant-loop-part l =
    tell_all l.code (telling l.warnings.items l.rest) (part_spots l.code (names_on l.way) (part_trees (drop l.part-index l.parts)))
    ≡ tell_all l.code (telling l.fn.warnings.items l.fn.rest) (part_spots l.code (names_on l.way) (part_trees l.parts))
