use Rattle.std.proofs.Common.{map, refl, ◌∙◌, ◌∷◌, []}
use Rattle.json.specs.Value.{value_view}
use Rattle.column_check.specs.CrsWarnings.{part_spot}
use Rattle.column_check.specs.Walk.{telling}
use Rattle.column_check.specs.declared.code.WarningCode.TheVariants.{CrsMalformed}
use Rattle.column_check.proofs.Telling.{tell_at}
use Rattle.column_check.proofs.malformed.tell_parts.Goals as goal

pub loop-part-preserved : goal.loop-part-preserved
loop-part-preserved c =
    let spot = part_spot (value_view c.args.value.now) in
    tell_at CrsMalformed (map spot) (λ part. spot part ∷ []) (λ x xs. refl) (telling c.loop-part.warnings.items c.loop-part.rest) _ c.args.parts.now c.loop-part.part-index _
    c.loop-part-test.true c.in_ok-tell_part.ensures ∙ c.loop-part.invariant
