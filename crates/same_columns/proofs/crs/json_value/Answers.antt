use Rattle.std.proofs.Common.{◌≡◌, ap, sym, ◌∙◌}
use Rattle.json.specs.Lex.{tokens}
use Rattle.json.specs.Print.{print}
use Rattle.json.specs.Tree.{json_tokens}
use Rattle.json.specs.Value.{value_view}
use Rattle.value_tokens.specs.Values.{json_in}
use Rattle.same_columns.proofs.Printed.{json_in_print, printed_tokens}
use Rattle.same_columns.proofs.crs.json_value.Goals as goal

pub returns-in-Ok : goal.returns-in-Ok
returns-in-Ok c =
    let j = c.args.text.now in
    let v = value_view c.in-Ok.value in
    let same : json_tokens v ≡ json_tokens j = sym c.in-Ok.ensures.tokens ∙ ap tokens c.as_str.ensures.text ∙ printed_tokens j c.as_str.ensures.readable in
    sym (json_in_print v c.in-Ok.ensures.readable) ∙ ap (λ ts. json_in (print ts)) same ∙ json_in_print j c.as_str.ensures.readable
