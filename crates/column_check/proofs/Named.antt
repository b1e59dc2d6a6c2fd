-- A text that is a name, alone or behind `_`, by what stands before the name.
use Rattle.std.proofs.Common.{◌≡◌, ◌-◌, nat_eq, ◌||◌, Bool, true, false, [], ◌∷◌, ◌++◌, length, take, bytes_eq, codes, refl, sym, ap, ◌∙◌}
use Rattle.std.specs.List.{ends_with}
use Rattle.std.proofs.lemmas.Bool.Decides.{Decides-eqb}
use Rattle.std.proofs.lemmas.List.{append_assoc, append_cancel_right}
use Rattle.std.proofs.lemmas.Slice.Eq.{bytes_eq-Decides, ends_is}
use Rattle.arrow_values.specs.Tree.{Text}
use Rattle.column_check.specs.GeometryNames.{is_alone_or_behind}

alike : (a b : Bool) → (a ≡ true → b ≡ true) → (b ≡ true → a ≡ true) → a ≡ b
alike true b h k = sym (h refl)
alike false true h k = k refl
alike false false h k = refl

refuted : (a : Bool) → (a ≡ true → ⊥) → a ≡ false
refuted true h = absurd (h refl)
refuted false h = refl

either : (a b : Bool) (P : Type 0) → (a ≡ true → P) → (b ≡ true → P) → (a || b) ≡ true → P
either true b P h k is = h refl
either false b P h k is = k is

first_holds : (a b : Bool) → a ≡ true → (a || b) ≡ true
first_holds a b h = cc

second_holds : (a b : Bool) → b ≡ true → (a || b) ≡ true
second_holds true b h = refl
second_holds false b h = h

-- a text that ends in another is what stands before that, and that
ends_of : (s p : Text) → ends_with nat_eq s p ≡ true → s ≡ take (length s - length p) s ++ p
ends_of s p h = (ends_is Decides-eqb s p (ends_with nat_eq s p) refl).0 h

ends_if : (s p front : Text) → s ≡ front ++ p → ends_with nat_eq s p ≡ true
ends_if s p front h = (ends_is Decides-eqb s p (ends_with nat_eq s p) refl).1 front h

abbrev pub is_empty : Text → Bool
is_empty [] = true
is_empty (c ∷ cs) = false

module _ (s name : Text) where
  abbrev behind : Text → Text
  behind front = front ++ codes "_"

  -- behind a text that ends in `_`
  moved : (front : Text) → s ≡ behind front ++ name → s ≡ front ++ (codes "_" ++ name)
  moved front h = h ∙ append_assoc front (codes "_") name

  moved_back : (front : Text) → s ≡ front ++ (codes "_" ++ name) → s ≡ behind front ++ name
  moved_back front h = h ∙ sym (append_assoc front (codes "_") name)

  module _ (front : Text) (is : s ≡ front ++ name) where
    there : ends_with nat_eq front (codes "_") ≡ true → ends_with nat_eq s (codes "_" ++ name) ≡ true
    there h =
        let before = take (length front - length (codes "_")) front in
        ends_if s (codes "_" ++ name) before (moved before (is ∙ ap (λ f. f ++ name) (ends_of front (codes "_") h)))

    back : ends_with nat_eq s (codes "_" ++ name) ≡ true → ends_with nat_eq front (codes "_") ≡ true
    back h =
        let before = take (length s - length (codes "_" ++ name)) s in
        let same = append_cancel_right front (behind before) name (sym is ∙ moved_back before (ends_of s (codes "_" ++ name) h)) in
        ends_if front (codes "_") before same

    alone : is_empty front ≡ true → bytes_eq s name ≡ true
    alone h = (bytes_eq-Decides s name).1 (is ∙ ap (λ f. f ++ name) (nothing front h))
      where
        nothing : (f : Text) → is_empty f ≡ true → f ≡ []
        nothing [] h = refl
        nothing (c ∷ cs) h = absurd cc

    alone_back : bytes_eq s name ≡ true → is_empty front ≡ true
    alone_back h = ap is_empty (append_cancel_right front [] name (sym is ∙ (bytes_eq-Decides s name).0 h))

    -- what stands before the name decides
    pub front_decides : (is_empty front || ends_with nat_eq front (codes "_")) ≡ is_alone_or_behind s name
    front_decides =
        let whole = bytes_eq s name in
        let ends = ends_with nat_eq s (codes "_" ++ name) in
        let empty = is_empty front in
        let below = ends_with nat_eq front (codes "_") in
        alike (empty || below) (whole || ends)
        (either empty below ((whole || ends) ≡ true) (λ h. first_holds whole ends (alone h)) (λ h. second_holds whole ends (there h)))
        (either whole ends ((empty || below) ≡ true) (λ h. first_holds empty below (alone_back h)) (λ h. second_holds empty below (back h)))

  -- a text that does not end in the name is none
  pub no_front : ((front : Text) → s ≡ front ++ name → ⊥) → is_alone_or_behind s name ≡ false
  no_front none =
      let whole = bytes_eq s name in
      let ends = ends_with nat_eq s (codes "_" ++ name) in
      refuted (whole || ends)
      (either whole ends ⊥ (λ h. none [] ((bytes_eq-Decides s name).0 h))
      (λ h. none (behind (take (length s - length (codes "_" ++ name)) s)) (moved_back (take (length s - length (codes "_" ++ name)) s) (ends_of s (codes "_" ++ name) h))))
