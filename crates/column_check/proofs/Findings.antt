-- Findings, column by column.
use Rattle.std.proofs.Common.{◌≡◌, ℕ, ◌+◌, Bool, List, [], ◌∷◌, ◌++◌, map, take, sym, ap, ◌∙◌, subst}
use Rattle.std.proofs.lemmas.List.{map-append}
use Rattle.arrow_columns.specs.Column.{column_tree}
use Rattle.arrow_columns.specs.Types.{ColumnTree}
use Rattle.arrow_columns.specs.declared.column.SchemaColumn.{SchemaColumn}
use Rattle.column_check.specs.Finding.{IsFinding, AreFindings}
use Rattle.column_check.specs.declared.finding.Finding.{Finding}

module _ (infer : Bool) where
  one_more : (cs : List ColumnTree) (fs : List Finding) (c : ColumnTree) (f : Finding) → AreFindings infer cs fs → IsFinding infer c f → AreFindings infer (cs ++ c ∷ []) (fs ++ f ∷ [])
  one_more [] [] c f h g = (g, tt)
  one_more (d ∷ cs) (e ∷ fs) c f h g = (h.0, one_more cs fs c f h.1 g)
  one_more [] (e ∷ fs) c f h g = absurd h
  one_more (d ∷ cs) [] c f h g = absurd h

  -- one more of the columns
  pub findings_next : (cs : List SchemaColumn) (i : ℕ) (fs gs : List Finding) (c : SchemaColumn) (f : Finding) → take (i + 1) cs ≡ take i cs ++ c ∷ [] → gs ≡ fs ++ f ∷ []
      → AreFindings infer (map column_tree (take i cs)) fs → IsFinding infer (column_tree c) f → AreFindings infer (map column_tree (take (i + 1) cs)) gs
  findings_next cs i fs gs c f taken pushed before here =
      let trees = ap (map column_tree) taken ∙ map-append column_tree (take i cs) (c ∷ []) in
      subst (λ ts. AreFindings infer ts gs) (sym trees)
      (subst (AreFindings infer (map column_tree (take i cs) ++ column_tree c ∷ [])) (sym pushed) (one_more (map column_tree (take i cs)) fs (column_tree c) f before here))
