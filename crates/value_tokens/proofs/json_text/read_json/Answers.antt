use Rattle.std.proofs.Common.{◌≡◌, [], ap, sym, ◌∙◌, arith}
use Rattle.std.proofs.lemmas.Grind.{common_steps}
use Rattle.json.specs.Json.{value}
use Rattle.json.specs.Value.{value_view}
use Rattle.serde_json.specs.Read.{max_depth}
use Rattle.value_tokens.proofs.Whole.{spelled}
use Rattle.value_tokens.proofs.json_text.read_json.Goals as goal

pub returns-in-Ok-clause-tokens : goal.returns-in-Ok-clause-tokens
returns-in-Ok-clause-tokens c =
    let read = ap (value max_depth) (sym c.in_ok-reader.ensures.ok) ∙ c.in-Ok.ensures.ok in
    let none : c.read.new.reader ≡ [] = grind (arith, common_steps) in
    spelled c.args.text.now _ (value_view c.in-Ok.value) read none
