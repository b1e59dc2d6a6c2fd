use Rattle.std.proofs.Common.{◌≡◌, is_some, true, option_and_then, codes, rules, arith}
use Rattle.std.proofs.lemmas.Grind.{common_steps}
use Rattle.serde_json.specs.Find.{get, as_str, as_bool}
use Rattle.serde_json.specs.View.{view}
use Rattle.field_lines.specs.FieldOfValue.{metadata_of_value}
use Rattle.column_files.proofs.KeyFaults.{type_fault_of}
use Rattle.column_files.proofs.line.key_fault.Goals as goal

pub returns : goal.returns
returns c =
    let d = view c.args.value.now in
    let name : is_some (option_and_then as_str (get (codes "name") d)) ≡ true = search rules in
    let nullable : is_some (option_and_then as_bool (get (codes "nullable") d)) ≡ true = grind (arith, common_steps) in
    let metadata : is_some (metadata_of_value (get (codes "metadata") d)) ≡ true = search rules in
    type_fault_of c.field_is_column.ensures d c.requires name nullable metadata
