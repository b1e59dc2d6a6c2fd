use Rattle.std.proofs.Common.{◌≡◌, codes, map, ap, ◌∙◌}
use Rattle.std.specs.List.{join_by}
use Rattle.std.proofs.lemmas.Result.{IfOk-weaker}
use Rattle.column_check.specs.Shown.{shown}
use Rattle.column_check.proofs.Joined.{joined}
use Rattle.column_check.proofs.excerpt.names_shown.Goals as goal

pub returns : goal.returns
returns c =
    let names = c.args.names.now in
    let text : c.as_str.result.now ≡ join_by (λ name. name) (codes ", ") (map (λ name. name.now) names) = c.as_str.ensures.value ∙ c.in_ok-text.ensures.ok ∙ joined (codes ", ") names in
    IfOk-weaker c.shown.result _ _ (λ made e. e ∙ ap shown text) c.shown.ensures
