-- The parts of a type in one respect, one by one.
use Rattle.std.proofs.Common.{◌≡◌, List, [], ◌∷◌, refl, ap, map}
use Rattle.arrow_columns.specs.Types.{ColumnTree, part_trees}
use Rattle.arrow_columns.specs.Outlines.{outlines, outlined}
use Rattle.arrow_columns.specs.declared.outline.Outline.{Outline}

pub outlined_parts : (v : Outline) (cs : List ColumnTree) → outlines v (part_trees cs) ≡ map (outlined v) cs
outlined_parts v [] = refl
outlined_parts v (c ∷ cs) = ap (λ fs. outlined v c ∷ fs) (outlined_parts v cs)
