use Rattle.std.proofs.Common.{◌≡◌, IfOk, string_bytes, ap, ◌∙◌, subst, sym}
use Rattle.json.specs.Print.{print}
use Rattle.json.specs.Tree.{json_tokens}
use Rattle.json.specs.Value.{value_view}
use Rattle.geoparquet.proofs.KeptMembers.{next_read, object_text}
use Rattle.geoparquet.proofs.extension.text_with.Goals as goal

pub metadata_text-requires : goal.metadata_text-requires
metadata_text-requires c =
    let written = c.as_str.ensures.text ∙ ap (λ j. print (json_tokens j)) c.in_ok-text.ensures in
    next_read (value_view c.args.crs.now) c.as_str.result.now c.requires.read c.requires.shallow written

pub returns-then-is_object : goal.returns-then-is_object
returns-then-is_object c =
    let written = c.as_str.ensures.text ∙ ap (λ j. print (json_tokens j)) c.in_ok-text.ensures in
    let text = object_text (value_view c.args.crs.now) c.as_str.result.now c.args.edges c.requires.read (sym c.is_object.ensures ∙ c.if-is_object.true) written in
    subst (λ s. IfOk c.metadata_text.result (λ made. string_bytes made ≡ s)) text c.metadata_text.ensures.text
