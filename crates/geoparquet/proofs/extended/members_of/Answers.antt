use Rattle.std.proofs.Common.{option_and_then, option_map, ap, sym, ◌∙◌}
use Rattle.std.proofs.lemmas.Result.{IfOk-weaker}
use Rattle.json.specs.Find.{get, get_member}
use Rattle.json.specs.Value.{members_view, value_view}
use Rattle.json.proofs.Trees.{view-Object}
use Rattle.geoparquet.proofs.extended.members_of.Goals as goal

pub returns-in-Object : goal.returns-in-Object
returns-in-Object c =
    let object = ap value_view c.in-Object.is ∙ view-Object c.in-Object.members in
    IfOk-weaker c.by_name.result _ _
    (λ values are name.
    are name ∙ ap (λ ms. get_member name (members_view ms)) c.as_slice.ensures.value ∙ ap (get name) (sym object)
    ∙ ap (λ o. option_and_then (get name) (option_map (λ v. value_view v.now) o)) (sym c.in-Some.is))
    c.by_name.ensures
