use Rattle.std.proofs.Common.{rules, ◌≡◌, ap, ◌∙◌}
use Rattle.arrow_values.specs.View.{texts_of}
use Rattle.arrow_values.specs.Texts.{metadata_key, put_text, name_key, remove_text}
use Rattle.arrow_values.proofs.TextLaws.{texts_of-remove}
use Rattle.arrow_values.proofs.texts.set_extension.Goals as goal

pub returns : goal.returns
returns c =
    let put : texts_of c.put_text.new.texts.entries ≡ put_text name_key c.args.name.now (texts_of c.args.texts.now.entries) = search rules in
    rw c.in_default.is (ap texts_of c.remove.ensures.entries ∙ texts_of-remove metadata_key c.put_text.new.texts.entries c.in_ok-put_text.ensures.ordered ∙ ap (remove_text metadata_key) put)
