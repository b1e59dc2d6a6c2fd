use Rattle.std.proofs.Common.{Some, map, option_map, ap, sym, ◌∙◌}
use Rattle.json.specs.Value.{value_view}
use Rattle.json.proofs.Trees.{view-Array}
use Rattle.geoparquet.specs.Rules.{items_in}
use Rattle.geoparquet.proofs.Items.{array_readable, list_of_items}
use Rattle.geoparquet.proofs.types.items_in.Goals as goal

pub returns-in-Array-clause-value : goal.returns-in-Array-clause-value
returns-in-Array-clause-value c =
    let array = ap value_view c.in-Array.is ∙ view-Array c.in-Array.items in
    ap (λ vs. Some (map value_view vs)) c.as_slice.ensures.value
    ∙ ap Some (sym (list_of_items (map value_view c.in-Array.items.items)))
    ∙ ap (λ j. items_in (Some j)) (sym array)
    ∙ ap (λ o. items_in (option_map (λ v. value_view v.now) o)) (sym c.in_ok-value.was)

pub returns-in-Array-clause-readable : goal.returns-in-Array-clause-readable
returns-in-Array-clause-readable c =
    let array = ap value_view c.in-Array.is ∙ view-Array c.in-Array.items in
    array_readable c.args.found (Some c.as_slice.result) c.requires
    (ap (λ vs. Some (map value_view vs)) c.as_slice.ensures.value
    ∙ ap Some (sym (list_of_items (map value_view c.in-Array.items.items)))
    ∙ ap (λ j. items_in (Some j)) (sym array)
    ∙ ap (λ o. items_in (option_map (λ v. value_view v.now) o)) (sym c.in_ok-value.was))
