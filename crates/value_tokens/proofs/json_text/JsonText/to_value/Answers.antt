use Rattle.std.proofs.Common.{ap, sym, ◌∙◌, arith}
use Rattle.serde_json.specs.Read.{read}
use Rattle.value_tokens.proofs.Compact.{printed_read}
use Rattle.value_tokens.proofs.json_text.JsonText.to_value.Goals as goal

pub returns-in-Ok : goal.returns-in-Ok
returns-in-Ok c = sym c.in-Ok.ensures.ok ∙ ap read c.as_str.ensures.text ∙ printed_read c.args.self.now c.as_str.ensures.readable

pub returns-in-Err-2 : goal.returns-in-Err-2
returns-in-Err-2 c = sym (c.in-Err-2.ensures.err (λ m. grind (arith, c.is_memory.ensures, c.if-is_memory.false, m))) ∙ ap read c.as_str.ensures.text ∙ printed_read c.args.self.now c.as_str.ensures.readable
