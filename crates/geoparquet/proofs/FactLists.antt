-- The facts of columns, one after another.
use Rattle.std.proofs.Common.{◌≡◌, ℕ, ◌+◌, ◌<◌, ◌≤◌, List, [], ◌∷◌, ◌++◌, Option, Some, None, IfSome, Global, length, get_or, take, drop, map, sym, ap, ◌∙◌, append_assoc}
use Rattle.std.specs.Borrow.{Bor}
use Rattle.std.proofs.lemmas.List.{append-nil, at_drop_more, drop_all, map-append, take_more}
use Rattle.json.specs.Json.{Json}
use Rattle.json.specs.Value.{value_view}
use Rattle.json.specs.declared.value.Value.{Value}
use Rattle.arrow_columns.specs.Types.{ColumnTree}
use Rattle.value_tokens.specs.Values.{IsReadable}
use Rattle.geoparquet.specs.Extensions.{IsRead}
use Rattle.geoparquet.specs.Facts.{column_facts, facts_behind, facts_view, member_for}
use Rattle.geoparquet.specs.Ordered.{columns_of}
use Rattle.geoparquet.specs.Sources.{sourced}
use Rattle.geoparquet.specs.Undeclared.{is_covered}
use Rattle.geoparquet.specs.Versions.{version_of}
use Rattle.geoparquet.specs.declared.facts.ColumnFacts.{ColumnFacts}
use Rattle.geoparquet.specs.declared.sources.Sourced.{Sourced}

abbrev pub tree_of : Sourced → ColumnTree
tree_of s = (sourced s).0

-- those of the columns that are left stand behind those so far
abbrev pub FactsFrom : Json → List Sourced → ℕ → List ColumnFacts → Type 0
FactsFrom j ss i made = map facts_view made ++ facts_behind j (map tree_of (take i ss)) (map sourced (drop i ss)) ≡ facts_behind j [] (map sourced ss)

pub trees_more : (ss : List Sourced) (i : ℕ) (s : Sourced) → i < length ss → s ≡ get_or ss i s → map tree_of (take (i + 1) ss) ≡ map tree_of (take i ss) ++ tree_of s ∷ []
trees_more ss i s lt is =
    ap (map tree_of) (take_more ss i s lt ∙ ap (λ x. take i ss ++ x ∷ []) (sym is)) ∙ map-append tree_of (take i ss) (s ∷ [])

module _ (j : Json) (ss : List Sourced) (i : ℕ) (made : List ColumnFacts) (so_far : FactsFrom j ss i made) where
  pub facts_next : (s : Sourced) (f : ColumnFacts) (new : List ColumnFacts) → i < length ss → s ≡ get_or ss i s → new ≡ made ++ f ∷ []
      → facts_view f ≡ column_facts (version_of j) (is_covered (tree_of s).name (columns_of j)) (member_for j (map tree_of (take i ss)) (tree_of s).name) (tree_of s) (sourced s).1
      → FactsFrom j ss (i + 1) new
  facts_next s f new lt is pushed said =
      let before = map tree_of (take i ss) in
      let rest = facts_behind j (before ++ tree_of s ∷ []) (map sourced (drop (i + 1) ss)) in
      let here = at_drop_more (λ xs. map facts_view made ++ facts_behind j before (map sourced xs)) ss i s lt in
      ap (λ ts. map facts_view new ++ facts_behind j ts (map sourced (drop (i + 1) ss))) (trees_more ss i s lt is)
      ∙ ap (λ fs. map facts_view fs ++ rest) pushed
      ∙ ap (λ vs. vs ++ rest) (map-append facts_view made (f ∷ []))
      ∙ append_assoc (map facts_view made) (facts_view f ∷ []) rest
      ∙ ap (λ v. map facts_view made ++ v ∷ rest) said
      ∙ ap (λ x. map facts_view made ++ facts_behind j before (map sourced (x ∷ drop (i + 1) ss))) is
      ∙ sym here ∙ so_far

  pub facts_end : length ss ≤ i → map facts_view made ≡ facts_behind j [] (map sourced ss)
  facts_end past = sym (append-nil (map facts_view made)) ∙ ap (λ xs. map facts_view made ++ facts_behind j (map tree_of (take i ss)) (map sourced xs)) (sym (drop_all i ss past)) ∙ so_far

-- what was read is readable
pub readable : (o : Option (Bor (Value Global))) → IfSome o (λ v. IsRead (value_view v.now)) → IfSome o (λ v. IsReadable (value_view v.now))
readable None h = tt
readable (Some v) h = h.0
