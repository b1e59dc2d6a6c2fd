-- What is found of elements, one after the other.
use Rattle.std.proofs.Common.{◌≡◌, ℕ, ◌+◌, ◌<◌, ◌≤◌, Bool, true, false, true≢false, if◌then◌else◌, codes, None, List, [], ◌∷◌, ◌++◌, length, map, drop, get_or, refl, sym, ap, ◌∙◌, append_assoc}
use Rattle.std.proofs.lemmas.List.{at_drop_more, drop_all, append-nil}
use Rattle.parquet_footer.specs.declared.element.SchemaElement.{SchemaElement}
use Rattle.parquet_footer.specs.Element.{Element, element}
use Rattle.parquet_footer.specs.Footer.{Pairing}
use Rattle.parquet_columns.specs.Findings.{Finding}
use Rattle.parquet_columns.specs.Elements.{of_element, is_empty_group, empty_group, element_findings, findings_from}
use Rattle.parquet_columns.specs.Levels.{Level, open_of, entered}
use Rattle.parquet_columns.specs.declared.code.FileCode.TheVariants.{EmptyGroup}

-- what is found of a group of no children
pub of_group : (ls : List Level) (e : Element) → is_empty_group e ≡ true → empty_group ls e ≡ of_element EmptyGroup ls e (codes "0 children") None ∷ []
of_group ls e is_so = by_test (is_empty_group e) is_so
  where
    by_test : (b : Bool) → b ≡ true → (if b then of_element EmptyGroup ls e (codes "0 children") None ∷ [] else []) ≡ of_element EmptyGroup ls e (codes "0 children") None ∷ []
    by_test true is = refl
    by_test false is = absurd (true≢false (sym is))

first : (pairs : List Pairing) (ls : List Level) (e : Element) (es : List Element)
    → findings_from pairs ls (e ∷ es) ≡ element_findings pairs (open_of ls) e ++ findings_from pairs (entered (open_of ls) e) es
unfolding findings_from
first pairs ls e es = refl

none : (pairs : List Pairing) (ls : List Level) → findings_from pairs ls [] ≡ []
unfolding findings_from
none pairs ls = refl

module _ (pairs : List Pairing) (es : List SchemaElement) (i : ℕ) (found whole : List Finding) (ls : List Level)
    (so_far : found ++ findings_from pairs ls (map element (drop i es)) ≡ whole) where
  pub goes_on : (e : SchemaElement) (values : List Pairing) (after : List Finding) (seen now next : List Level) → i < length es → e ≡ get_or es i e → values ≡ pairs
      → now ≡ open_of ls → seen ≡ now → after ≡ found ++ element_findings values seen (element e) → next ≡ entered now (element e)
      → after ++ findings_from pairs next (map element (drop (i + 1) es)) ≡ whole
  goes_on e values after seen now next lt is unchanged closed alike adds same =
      let taken : after ≡ found ++ element_findings pairs (open_of ls) (element e) =
      adds ∙ ap (λ v. found ++ element_findings v seen (element e)) unchanged ∙ ap (λ o. found ++ element_findings pairs o (element e)) (alike ∙ closed) in
      let rest = map element (drop (i + 1) es) in
      let these = element_findings pairs (open_of ls) (element e) in
      let behind = entered (open_of ls) (element e) in
      ap (λ xs. xs ++ findings_from pairs next rest) taken ∙ ap (λ n. (found ++ these) ++ findings_from pairs n rest) (same ∙ ap (λ o. entered o (element e)) closed)
      ∙ append_assoc found these (findings_from pairs behind rest) ∙ ap (λ xs. found ++ xs) (sym (first pairs ls (element e) rest))
      ∙ ap (λ (x : SchemaElement). found ++ findings_from pairs ls (element x ∷ rest)) is
      ∙ sym (at_drop_more (λ ys. found ++ findings_from pairs ls (map element ys)) es i e lt) ∙ so_far

  pub ends : length es ≤ i → found ≡ whole
  ends past =
      sym (append-nil found) ∙ ap (λ xs. found ++ xs) (sym (none pairs ls))
      ∙ ap (λ ys. found ++ findings_from pairs ls (map element ys)) (sym (drop_all i es past)) ∙ so_far
