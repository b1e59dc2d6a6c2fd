-- The ids of a union, cut and joined.
use Rattle.std.proofs.Common.{◌≡◌, ◌⊎◌, inl, inr, ⊎_elim, ℤ, Bool, true, false, not, cond, List, [], ◌∷◌, ◌++◌, None, refl, sym, ap, ◌∙◌}
use Rattle.std.specs.Ordering.{int_eq}
use Rattle.std.specs.List.{list_all, filter, zip}
use Rattle.std.proofs.lemmas.Bool.{and_parts, and_from, or_parts, or_from, not-true, cond_both, false_from_ne_true}
use Rattle.std.proofs.lemmas.List.{map-append}
use Rattle.std.proofs.lemmas.Map.Made.{keys_of-zip}
use Rattle.std.proofs.lemmas.List.Folds.{list_any-append, list_all-append}
use Rattle.std.proofs.lemmas.Cmp.{int_eq_equiv}
use Rattle.arrow_values.specs.Tree.{FieldTree, Members}
use Rattle.arrow_values.specs.Errors.{IsMemory, IsInvalidArgument, is_invalid_argument}
use Rattle.arrow_values.specs.declared.error.ArrowError.{ArrowError}
use Rattle.arrow_values.specs.Union.{is_type_id, has, has_id, are_distinct, ids_of, retained, shared_id, HasTypeIds, AreUnionParts}

-- what a cut keeps was there
module _ (p : ℤ × FieldTree → Bool) where
  all_filter : (ms : Members) → list_all is_type_id (ids_of ms) ≡ true → list_all is_type_id (ids_of (filter p ms)) ≡ true
  all_filter [] h = refl
  all_filter (m ∷ ms) h =
      let h = and_parts (is_type_id m.0) _ h in
      let later = all_filter ms h.1 in
      cond_both (p m) _ _ (λ l. list_all is_type_id (ids_of l) ≡ true) (λ _. and_from _ _ h.0 later) (λ _. later)

  filter_lacks : (i : ℤ) (ms : Members) → has i (ids_of ms) ≡ false → has i (ids_of (filter p ms)) ≡ false
  filter_lacks i [] h = refl
  filter_lacks i (m ∷ ms) h =
      let h = or_parts (int_eq m.0 i) _ h in
      let later = filter_lacks i ms h.1 in
      cond_both (p m) _ _ (λ l. has i (ids_of l) ≡ false) (λ _. or_from _ _ h.0 later) (λ _. later)

  distinct_filter : (ms : Members) → are_distinct (ids_of ms) ≡ true → are_distinct (ids_of (filter p ms)) ≡ true
  distinct_filter [] h = refl
  distinct_filter (m ∷ ms) h =
      let h = and_parts (not (has m.0 (ids_of ms))) _ h in
      let later = distinct_filter ms h.1 in
      cond_both (p m) _ _ (λ l. are_distinct (ids_of l) ≡ true) (λ _. and_from _ _ (ap not (filter_lacks m.0 ms (not-true _ h.0))) later) (λ _. later)

pub retained_ids : (is : List ℤ) (ms : Members) → HasTypeIds ms → HasTypeIds (retained is ms)
retained_ids is ms h =
    let h = and_parts (list_all is_type_id (ids_of ms)) _ h in
    and_from _ _ (all_filter (λ m. has m.0 is) ms h.0) (distinct_filter (λ m. has m.0 is) ms h.1)

-- joined where none is shared: the first member's id is none of the other's, and none of the later ones' is
shared_parts : (m : ℤ × FieldTree) (ms ns : Members) → shared_id (m ∷ ms) ns ≡ None → (has m.0 (ids_of ns) ≡ false) × (shared_id ms ns ≡ None)
shared_parts m ms [] h = (refl, refl)
shared_parts m ms (n ∷ ns) h =
    let none : has_id n.0 (m ∷ ms) ≡ false = false_from_ne_true _ (λ e. let some = rw e at h in absurd cc) in
    let k = or_parts (int_eq m.0 n.0) _ none in
    let later = shared_parts m ms ns (rw none at h) in
    (or_from _ _ (int_eq_equiv.symm n.0 m.0 ∙ k.0) later.0, rw k.1 later.1)

distinct_joined : (ms ns : Members) → are_distinct (ids_of ms) ≡ true → are_distinct (ids_of ns) ≡ true → shared_id ms ns ≡ None → are_distinct (ids_of ms ++ ids_of ns) ≡ true
distinct_joined [] ns h k none = k
distinct_joined (m ∷ ms) ns h k none =
    let h = and_parts (not (has m.0 (ids_of ms))) _ h in
    let apart = shared_parts m ms ns none in
    and_from _ _ (ap not (list_any-append (λ j. int_eq j m.0) (ids_of ms) (ids_of ns) ∙ or_from _ _ (not-true _ h.0) apart.0)) (distinct_joined ms ns h.1 k apart.1)

-- what a join leaves, whether there was memory for it or not
pub appended_ids : (done : Bool) (ms ns old other new : Members) → ms ≡ old → ns ≡ other → new ≡ cond done (ms ++ ns) ms → shared_id old other ≡ None → HasTypeIds old → HasTypeIds other → HasTypeIds new
appended_ids false ms ns old other new a b is none h k = rw (is, a) h
appended_ids true ms ns old other new a b is none h k =
    let h = and_parts (list_all is_type_id (ids_of old)) _ h in
    let k = and_parts (list_all is_type_id (ids_of other)) _ k in
    rw (is, a, b, map-append (λ m. m.0) old other, list_all-append is_type_id (ids_of old) (ids_of other), h.0, k.0) (distinct_joined old other h.1 k.1 none)

-- made of ids and fields
pub made_ids : (is : List ℤ) (fs : List FieldTree) (ms : Members) → ms ≡ zip is fs → AreUnionParts is fs → HasTypeIds ms
made_ids is fs ms made h = rw (made, keys_of-zip is fs (sym h.0)) h.1

-- how parts that make no union are refused
pub unfit : {P : Type 0} (e : ArrowError) → ¬ P → IsInvalidArgument e → IsMemory e ⊎ (¬ P × (is_invalid_argument e ≡ true))
unfit e none = ⊎_elim inl (λ argument. inr (none, argument))
