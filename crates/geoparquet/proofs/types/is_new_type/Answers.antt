use Rattle.std.proofs.Common.{◌≡◌, true, sym, ap, is_some, ◌∙◌}
use Rattle.json.specs.Value.{value_view}
use Rattle.geoparquet.specs.TypeNames.{type_named}
use Rattle.geoparquet.proofs.Among.{new_type, view_string}
use Rattle.geoparquet.proofs.types.is_new_type.Goals as goal

pub returns-then-is_some : goal.returns-then-is_some
returns-then-is_some c = λ js same.
    let text = c.in-String.text.now in
    let named : is_some (type_named text) ≡ true = ap is_some (sym c.type_named.ensures) ∙ sym c.is_some.ensures ∙ c.if-is_some.true in
    new_type text (value_view c.args.value.now) js c.contains.result (ap value_view c.in-String.is ∙ view_string _ c.in-String.text) named
    (c.contains.ensures ∙ same text)
