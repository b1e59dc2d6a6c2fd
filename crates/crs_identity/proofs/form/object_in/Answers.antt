use Rattle.std.proofs.Common.{Err, sym, ap, ◌∙◌}
use Rattle.json.specs.Value.{value_view}
use Rattle.crs_identity.proofs.Texts.{json_read, no_json, object_form, other_form}
use Rattle.crs_identity.proofs.form.object_in.Goals as goal

pub returns-in-Err-Text : goal.returns-in-Err-Text
returns-in-Err-Text c = no_json c.args.text.now (c.in-Err-Text.ensures.text (ap Err c.in-Err-Text.field-0-is))

pub returns-then-is_object : goal.returns-then-is_object
returns-then-is_object c =
    let j = value_view c.in-Ok.value in
    object_form c.args.text.now j (sym c.is_object.ensures ∙ c.if-is_object.true) (json_read c.args.text.now j c.in-Ok.ensures.tokens c.in-Ok.ensures.readable c.in-Ok.ensures.read)

pub returns : goal.returns
returns c =
    let j = value_view c.in-Ok.value in
    other_form c.args.text.now j (sym c.is_object.ensures ∙ c.if-is_object.false) (json_read c.args.text.now j c.in-Ok.ensures.tokens c.in-Ok.ensures.readable c.in-Ok.ensures.read)
