use Rattle.std.proofs.Common.{true, string_bytes, ap, ◌∙◌}
use Rattle.std.proofs.lemmas.Map.Text.{btree_set_updates_text}
use Rattle.json.specs.Value.{value_view}
use Rattle.geoparquet.proofs.Among.{view_string, with_text}
use Rattle.geoparquet.proofs.types.add_text.Goals as goal

pub returns-in_ok-insert : goal.returns-in_ok-insert
returns-in_ok-insert c = λ s.
    let key = string_bytes c.in_ok-from_str.field-0 in
    let added = btree_set_updates_text key c.args.texts.now c.insert.new.self true c.in_ok-insert.ensures.updates s in
    with_text key c.in-String.text.now s (value_view c.args.value.now) _ _ added c.in_ok-from_str.ensures.ok (ap value_view c.in-String.is ∙ view_string _ c.in-String.text)
