-- Why nothing is inferred from a tree, by its summary.
use Rattle.geoarrow_schema.proofs.Terms.{◌≡◌, ◌∙◌, ◌<◌, ◌≤◌, ℕ, suc, refl, sym, ap, arith, codes, cond, Option, Some, Text, Tree, plain, list, large_list, fixed_size_list, struct, uninferred_text}
use Rattle.geoarrow_layout.specs.declared.summary.ListWidth.{ListWidth}
use Rattle.geoarrow_layout.specs.declared.summary.ListWidth.TheVariants.{List as Lists, LargeList as LargeLists}
use Rattle.geoarrow_layout.specs.declared.summary.Bottom.{Bottom}
use Rattle.geoarrow_layout.specs.declared.summary.Bottom.TheVariants.{FixedSizeList, Struct}
use Rattle.geoarrow_layout.specs.declared.summary.Summary.{Summary}
use Rattle.geoarrow_layout.specs.Summary.{IsUnion, IsBottom, AreLevels, Summarizes}

abbrev other : Text
other = codes "cannot infer: data type"

-- below lists
pub levels_over : (w : Option ListWidth) (n : ℕ) (t u : Tree) → 0 < n → AreLevels w n t u → other ≡ uninferred_text t
levels_over (Some Lists) (suc n) (list name t b m) u some h = refl
levels_over (Some LargeLists) (suc n) (large_list name t b m) u some h = refl
levels_over w n t u some h = absurd (grind arith)

-- below none
abbrev bottom_text : Bottom → Text
bottom_text (Struct count names floats) = cond floats (codes "cannot infer: field count") (codes "cannot infer: fields are not all Float64")
bottom_text (FixedSizeList named size floats) = cond floats (codes "cannot infer: list size") (codes "cannot infer: inner field is not Float64")
bottom_text _ = other

bottom_says : (w : Option ListWidth) (n : ℕ) (b : Bottom) (u : Tree) → IsBottom IsUnion w n b u → bottom_text b ≡ uninferred_text u
bottom_says w n (FixedSizeList named size floats) (fixed_size_list name t nullable m z) h = ap (λ x. bottom_text (FixedSizeList named size x)) h.2
bottom_says w n (Struct count names floats) (struct fs) h = ap (λ x. bottom_text (Struct count names x)) h.2
bottom_says w n b (plain p) h = ap bottom_text h
bottom_says w n b _ h = grind arith

no_levels : (w : Option ListWidth) (n : ℕ) (t u : Tree) → n ≤ 0 → AreLevels w n t u → t ≡ u
no_levels w n t u none h = grind arith

pub at_bottom : (s : Summary) (t : Tree) (text : Text) → s.levels ≤ 0 → Summarizes s t → text ≡ bottom_text s.bottom → text ≡ uninferred_text t
at_bottom s t text none h is = is ∙ bottom_says s.width s.levels s.bottom h.0 h.2 ∙ ap uninferred_text (sym (no_levels s.width s.levels t h.0 none h.1))
