use Rattle.std.proofs.Common.{Some, option_and_then, option_map, ap, sym, ◌∙◌}
use Rattle.std.proofs.lemmas.Result.{IfOk-weaker}
use Rattle.json.specs.Find.{as_object}
use Rattle.json.specs.Value.{members_view, value_view}
use Rattle.json.proofs.Trees.{view-Object}
use Rattle.geoparquet.specs.Ordered.{members_in, ordered_members}
use Rattle.geoparquet.proofs.ordered.members_in.Goals as goal

pub returns-in-Object : goal.returns-in-Object
returns-in-Object c =
    let object = ap value_view c.in-Object.is ∙ view-Object c.in-Object.members in
    IfOk-weaker c.ordered_members.result _ _
    (λ made are.
    are ∙ ap (λ ms. ordered_members (members_view ms)) c.as_slice.ensures.value ∙ ap (λ j. members_in (option_and_then as_object (Some j))) (sym object)
    ∙ ap (λ o. members_in (option_and_then as_object (option_map (λ v. value_view v.now) o))) (sym c.in-Some.is))
    c.ordered_members.ensures
