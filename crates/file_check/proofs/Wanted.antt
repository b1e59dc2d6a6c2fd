-- What is found of expectations, column by column and one expectation after another.
use Rattle.std.proofs.Common.{◌≡◌, ◌++◌, [], ◌∷◌, ℕ, ◌+◌, List, take, inl, inr, refl, sym, ap, ◌∙◌, subst, append_assoc, string_bytes}
use Rattle.std.proofs.lemmas.List.Elements.{All-push}
use Rattle.arrow_values.specs.Tree.{Text}
use Rattle.column_reports.specs.declared.report.ColumnReport.{ColumnReport}
use Rattle.file_check.specs.Wants.{IsFound, IsFirstNamed, IsFoundIn, AreFoundIn}
use Rattle.file_check.specs.declared.asked.Want.{Want}
use Rattle.file_check.specs.declared.wants.Found.{Found}
use Rattle.file_check.specs.declared.wants.Found.TheVariants.{NoColumn, Looked}

module _ (name want : Text) where
  -- one more column
  pub found_more : (rs : List ColumnReport) (r : ColumnReport) (old new : Found) → IsFoundIn name want rs old → IsFound name want r old new
      → IsFoundIn name want (rs ++ r ∷ []) new
  found_more rs r (NoColumn near) (NoColumn other_near) none (inl (other, is)) = All-push (λ (t : ColumnReport). string_bytes t.column.name ≡ name → ⊥) rs r none other
  found_more rs r (NoColumn near) (Looked said) none (inl (other, is)) = absurd (cc)
  found_more rs r (NoColumn near) (NoColumn other_near) none (inr (same, looked)) = absurd looked
  found_more rs r (NoColumn near) (Looked said) none (inr (same, looked)) =
      (r, record { before = rs; rest = []; are = refl; others = none; name_is = same }, looked)
  found_more rs r (Looked said) new (first, is, looked) same =
      let more : IsFirstNamed name (rs ++ r ∷ []) first = record {
        before = is.before;
        rest = is.rest ++ r ∷ [];
        are = ap (λ xs. xs ++ r ∷ []) is.are ∙ append_assoc is.before (first ∷ is.rest) (r ∷ []);
        others = is.others;
        name_is = is.name_is;
      } in
      subst (IsFoundIn name want (rs ++ r ∷ [])) (sym same) (first, more, looked)

  pub found_next : (rs : List ColumnReport) (i : ℕ) (r : ColumnReport) (old new : Found) → take (i + 1) rs ≡ take i rs ++ r ∷ []
      → IsFoundIn name want (take i rs) old → IsFound name want r old new → IsFoundIn name want (take (i + 1) rs) new
  found_next rs i r old new taken before here = subst (λ ts. IsFoundIn name want ts new) (sym taken) (found_more (take i rs) r old new before here)

-- one more expectation
pub wanted_more : (rs : List ColumnReport) (ws : List Want) (fs : List Found) (w : Want) (f : Found) → AreFoundIn ws rs fs
    → IsFoundIn (string_bytes w.column) (string_bytes w.want) rs f → AreFoundIn (ws ++ w ∷ []) rs (fs ++ f ∷ [])
wanted_more rs [] [] w f are is = (is, tt)
wanted_more rs (v ∷ ws) (e ∷ fs) w f are is = (are.0, wanted_more rs ws fs w f are.1 is)
wanted_more rs [] (e ∷ fs) w f are is = absurd are
wanted_more rs (v ∷ ws) [] w f are is = absurd are
