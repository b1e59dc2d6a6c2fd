use Rattle.std.proofs.Common.{rules, ◌≡◌, Some, None, option_and_then, sym, ap, ◌∙◌}
use Rattle.json.specs.Find.{get, as_str}
use Rattle.json.specs.Value.{value_view}
use Rattle.serde_json.specs.Read.{of_json}
use Rattle.geoarrow_meta.specs.Read.{at_key}
use Rattle.column_check.specs.Metadata.{unless_null}
use Rattle.column_check.proofs.Keys.{no_word}
use Rattle.column_check.proofs.metadata.word_at.Goals as goal

pub returns-in_err-as_str-in-Some : goal.returns-in_err-as_str-in-Some
returns-in_err-as_str-in-Some c d is =
    let key = c.args.key.now in
    let value = value_view c.args.value.now in
    let j = value_view c.in-Some.found.now in
    let there : unless_null (get key value) ≡ Some j = search rules in
    let no_text : as_str j ≡ None = search rules in
    let found : of_json j ≡ at_key key d = ap (option_and_then of_json) (sym there) ∙ c.present_at.ensures.read d is in
    rw c.from_residual.ensures (rw found at (no_word key value d j is there no_text))
