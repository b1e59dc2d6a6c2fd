use Rattle.std.proofs.Common.{◌≡◌, ◌∷◌, [], map, string_bytes, ◌∙◌, append_assoc}
use Rattle.std.specs.List.{join_by}
use Rattle.std.proofs.lemmas.Result.{IfOk-weaker}
use Rattle.arrow_columns.proofs.Joined.{joined}
use Rattle.arrow_columns.proofs.notation.nested_notation.Goals as goal

pub returns : goal.returns
returns c =
    let inner : string_bytes c.in_ok-inner.inner ≡ join_by (λ t. t) (44 ∷ 32 ∷ []) (map string_bytes c.args.parts.now) = c.in_ok-inner.ensures.ok ∙ joined (44 ∷ 32 ∷ []) c.args.parts.now in
    IfOk-weaker c.format.result _ _ (λ text e. e ∙ simp (inner, append_assoc)) c.format.ensures.ok
