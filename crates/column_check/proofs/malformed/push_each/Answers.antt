use Rattle.std.proofs.Common.{map, option_map, ap}
use Rattle.json.specs.Value.{value_view}
use Rattle.column_check.specs.CrsWarnings.{part_spot}
use Rattle.column_check.specs.Said.{said}
use Rattle.column_check.specs.declared.code.WarningCode.TheVariants.{CrsMalformed}
use Rattle.column_check.proofs.Telling.{all_told}
use Rattle.column_check.proofs.malformed.push_each.Goals as goal

pub returns : goal.returns
returns c =
    all_told CrsMalformed (map said c.args.warnings.now.items) _ _ _ _ (map (part_spot (value_view c.args.value.now)) c.args.parts.now)
    c.sixteen-rest.ensures.room (ap (option_map said) c.sixteen-rest.ensures.last) c.in_ok-tell_parts.ensures c.in_ok-finish.ensures
