use Rattle.std.proofs.Common.{◌≡◌, rules, string_bytes, sym, ap, subst, ◌∙◌}
use Rattle.json.specs.Print.{print}
use Rattle.json.specs.Tree.{json_tokens}
use Rattle.json.specs.Value.{value_view}
use Rattle.value_tokens.specs.Values.{IsReadable, json_in}
use Rattle.value_tokens.proofs.Compact.{json_in_print}
use Rattle.value_tokens.proofs.json_text.JsonText.of.Goals as goal

pub invariant_of-result : goal.invariant_of-result
invariant_of-result c =
    let j = value_view c.args.value.now in
    let text : string_bytes c.text_of.result ≡ print (json_tokens j) = search rules in
    let same = ap json_in text ∙ json_in_print j c.requires in
    (text ∙ ap (λ i. print (json_tokens i)) (sym same), subst IsReadable (sym same) c.requires)

pub returns : goal.returns
returns c =
    let j = value_view c.args.value.now in
    let text : string_bytes c.text_of.result ≡ print (json_tokens j) = search rules in
    ap json_in text ∙ json_in_print j c.requires
