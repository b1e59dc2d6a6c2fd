use Rattle.std.proofs.Common.{◌≡◌, ℤ, List, [], ◌∷◌, ◌++◌, map, length, sym, ◌∙◌, ◌⊎◌, inl, inr, append-nil, arith}
use Rattle.arrow_values.specs.Tree.{Text}
use Rattle.arrow_columns.specs.Column.{column_tree}
use Rattle.arrow_columns.specs.declared.column.SchemaColumn.{SchemaColumn}
use Rattle.arrow_kinds.specs.Types.{member_parts}
use Rattle.arrow_kinds.proofs.types.member_parts.Goals as goal

-- there are no more ids, or no more children
members_end : (front all : List Text) (ids : List ℤ) (rest : List SchemaColumn) → (length ids ≡ 0) ⊎ (length rest ≡ 0) → front ++ member_parts ids (map column_tree rest) ≡ all → front ≡ all
members_end front all [] rest none so_far = sym (append-nil front) ∙ so_far
members_end front all (id ∷ ids) [] none so_far = sym (append-nil front) ∙ so_far
members_end front all (id ∷ ids) (c ∷ cs) none so_far = absurd (grind arith)

pub returns : goal.returns
returns c = elim c.in-None.ensures.steps [ inl s ↦ members_end _ _ _ _ (inl s.1.0) c.loop-id.invariant | inr s ↦ members_end _ _ _ _ (inr s.1.0) c.loop-id.invariant ]
