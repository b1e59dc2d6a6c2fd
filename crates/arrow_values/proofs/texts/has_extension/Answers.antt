use Rattle.std.proofs.Common.{rules, ◌≡◌, Some, ◌∙◌, sym, option_map, string_bytes}
use Rattle.arrow_values.specs.View.{texts_of}
use Rattle.arrow_values.specs.Texts.{name_key, metadata_key, text_at}
use Rattle.arrow_values.proofs.TextLaws.{kept}
use Rattle.arrow_values.proofs.texts.has_extension.Goals as goal

pub returns-in-Some-clause-stays : goal.returns-in-Some-clause-stays
returns-in-Some-clause-stays c = λ is.
    let es = c.args.texts.now.entries in
    let named : text_at name_key (texts_of es) ≡ Some c.args.name.now = search rules in
    let here : text_at metadata_key (texts_of es) ≡ option_map string_bytes c.args.text.now = sym c.text_at-in-Some.ensures.text ∙ c.is_same.ensures.0 is in
    kept c.args.name.now (option_map string_bytes c.args.text.now) es c.text_at.ensures.ordered named here
