use Rattle.std.proofs.Common.{ap, ◌∙◌}
use Rattle.value_tokens.specs.Values.{begins_with}
use Rattle.value_tokens.proofs.Compact.{first_of_object}
use Rattle.value_tokens.proofs.json_text.JsonText.is_object.Goals as goal

pub returns : goal.returns
returns c = c.begins_with.ensures ∙ ap (λ s. begins_with s 123) c.as_str.ensures.text ∙ first_of_object c.args.self.now c.as_str.ensures.readable.0
