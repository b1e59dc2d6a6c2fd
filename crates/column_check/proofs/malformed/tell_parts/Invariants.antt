use Rattle.std.proofs.Common.{◌≡◌, drop, map}
use Rattle.json.specs.Value.{value_view}
use Rattle.column_check.specs.CrsWarnings.{part_spot}
use Rattle.column_check.specs.Walk.{telling, tell_all}
use Rattle.column_check.specs.declared.code.WarningCode.TheVariants.{CrsMalformed}
use Rattle.column_check.proofs.malformed.tell_parts.Given as goal

abbrev pub invariant-loop-part : goal.invariant-loop-part
invariant-loop-part l =
    tell_all CrsMalformed (telling l.warnings.items l.rest) (map (part_spot (value_view l.value)) (drop l.part-index l.parts))
    ≡ tell_all CrsMalformed (telling l.initial.warnings.items l.initial.rest) (map (part_spot (value_view l.value)) l.parts)
