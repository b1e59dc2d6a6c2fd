use Rattle.std.proofs.Common.{◌++◌, ap, ◌∙◌}
use Rattle.json.specs.Lex.{tokens}
use Rattle.value_tokens.proofs.Adding.{whole_text}
use Rattle.geoarrow_meta.proofs.text.json_text.Goals as goal

pub returns : goal.returns
returns c =
    let added = c.in_ok-put_json.ensures in
    let are = added.tokens ∙ ap (λ xs. xs ++ tokens c.args.text.now) c.new-out.ensures.tokens in
    whole_text _ _ _ _ (added.before ∙ c.new-out.ensures.before ∙ c.new.ensures.items) are c.text_of.ensures.text
