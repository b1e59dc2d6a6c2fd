use Rattle.std.proofs.Common.{refl, ◌∙◌}
use Rattle.json.specs.Value.{members_view}
use Rattle.column_check.specs.KeyWarnings.{key_spot, key_spots}
use Rattle.column_check.specs.Walk.{telling}
use Rattle.column_check.specs.declared.code.WarningCode.TheVariants.{MetadataKeyCase}
use Rattle.column_check.proofs.Telling.{tell_item}
use Rattle.column_check.proofs.key_case.tell_members.Goals as goal

pub loop-member-preserved : goal.loop-member-preserved
loop-member-preserved c =
    tell_item MetadataKeyCase (λ ms. key_spots (members_view ms)) (λ m. key_spot m.0.now) (λ x xs. refl) (telling c.loop-member.warnings.items c.loop-member.rest) _ _ _ _
    c.member-item.is c.loop-member-test.true c.in_ok-tell_key.ensures ∙ c.loop-member.invariant
