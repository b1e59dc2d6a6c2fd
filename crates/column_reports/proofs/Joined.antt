-- Names and parts, joined.
use Rattle.std.proofs.Common.{◌≡◌, ◌≢◌, List, [], ◌∷◌, ◌++◌, codes, map, refl, sym, ap, ◌∙◌, Some, string_bytes}
use Rattle.std.specs.List.{join_by}
use Rattle.std.specs.Prelude.{String}
use Rattle.std.specs.declared.alloc.Global.{Global}
use Rattle.std.proofs.lemmas.List.Folds.{flat_map-map}
use Rattle.arrow_values.specs.Tree.{Text}
use Rattle.column_reports.specs.FindingWords.{path_words, placed}

-- joined as strings, and as their texts
joined : (sep : Text) (x : String Global) (xs : List (String Global)) → join_by string_bytes sep (x ∷ xs) ≡ join_by (λ t. t) sep (map string_bytes (x ∷ xs))
joined sep x xs = ap (λ s. string_bytes x ++ s) (sym (flat_map-map (λ t. sep ++ t) string_bytes xs))

pub path_is : (xs : List (String Global)) (text : Text) → xs ≢ [] → text ≡ codes "at " ++ join_by string_bytes (codes ".") xs → Some text ≡ path_words (map string_bytes xs)
path_is [] text some is = absurd (some refl)
path_is (x ∷ xs) text some is = ap Some (is ∙ ap (λ s. codes "at " ++ s) (joined (codes ".") x xs))

pub placed_is : (xs : List (String Global)) (text : Text) → xs ≢ [] → text ≡ codes " " ++ join_by string_bytes (codes ", ") xs → text ≡ placed (map string_bytes xs)
placed_is [] text some is = absurd (some refl)
placed_is (x ∷ xs) text some is = is ∙ ap (λ s. codes " " ++ s) (joined (codes ", ") x xs)
