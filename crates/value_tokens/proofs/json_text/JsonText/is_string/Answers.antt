use Rattle.std.proofs.Common.{ap, ◌∙◌}
use Rattle.value_tokens.specs.Values.{begins_with}
use Rattle.value_tokens.proofs.Compact.{first_of_string}
use Rattle.value_tokens.proofs.json_text.JsonText.is_string.Goals as goal

pub returns : goal.returns
returns c = c.begins_with.ensures ∙ ap (λ s. begins_with s 34) c.as_str.ensures.text ∙ first_of_string c.args.self.now c.as_str.ensures.readable.0
