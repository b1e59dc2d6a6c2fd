use Rattle.std.proofs.Common.{◌≡◌, drop}
use Rattle.arrow_values.specs.View.{field_trees}
use Rattle.column_check.specs.Walk.{names_on, number_spots, telling, tell_all}
use Rattle.column_check.proofs.walk.tell_numbers.Given as goal

abbrev pub invariant-loop-field : goal.invariant-loop-field
invariant-loop-field l =
    tell_all l.code (telling l.warnings.items l.rest) (number_spots l.code (names_on l.way) (field_trees (drop l.field-index l.fields)))
    ≡ tell_all l.code (telling l.fn.warnings.items l.fn.rest) (number_spots l.code (names_on l.way) (field_trees l.fields))
