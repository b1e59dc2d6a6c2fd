use Rattle.std.proofs.Common.{map, option_map, ap}
use Rattle.json.specs.Value.{members_view}
use Rattle.column_check.specs.KeyWarnings.{key_spots}
use Rattle.column_check.specs.Said.{said}
use Rattle.column_check.specs.declared.code.WarningCode.TheVariants.{MetadataKeyCase}
use Rattle.column_check.proofs.Telling.{all_told}
use Rattle.column_check.proofs.key_case.push_members.Goals as goal

pub returns : goal.returns
returns c =
    all_told MetadataKeyCase (map said c.args.warnings.now.items) _ _ _ _ (key_spots (members_view c.args.members.now))
    c.sixteen-rest.ensures.room (ap (option_map said) c.sixteen-rest.ensures.last) c.in_ok-tell_members.ensures c.in_ok-finish.ensures
