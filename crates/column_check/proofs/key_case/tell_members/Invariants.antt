use Rattle.std.proofs.Common.{◌≡◌, drop}
use Rattle.json.specs.Value.{members_view}
use Rattle.column_check.specs.KeyWarnings.{key_spots}
use Rattle.column_check.specs.Walk.{telling, tell_all}
use Rattle.column_check.specs.declared.code.WarningCode.TheVariants.{MetadataKeyCase}
use Rattle.column_check.proofs.key_case.tell_members.Given as goal

abbrev pub invariant-loop-member : goal.invariant-loop-member
invariant-loop-member l =
    tell_all MetadataKeyCase (telling l.warnings.items l.rest) (key_spots (members_view (drop l.member-index l.members)))
    ≡ tell_all MetadataKeyCase (telling l.initial.warnings.items l.initial.rest) (key_spots (members_view l.members))
