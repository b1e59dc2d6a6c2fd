-- The places that a walk finds.
use Rattle.std.proofs.Common.{◌≡◌, ℕ, zero, suc, ◌<◌, ◌≤◌, Bool, true, false, cond, codes, List, [], ◌∷◌, ◌++◌, length, get_or, map, max, refl, sym, ap, ap₂, ◌∙◌, arith, append_assoc, append-nil}
use Rattle.std.proofs.lemmas.List.{map-append}
use Rattle.std.proofs.lemmas.List.Elements.{filter-append}
use Rattle.std.specs.List.{filter}
use Rattle.arrow_values.specs.Tree.{Text, Metadata, Tree, plain, list, large_list, fixed_size_list, struct, union, FieldTrees, no_fields, field, MemberTrees, no_members, member}
use Rattle.arrow_values.specs.declared.tree.UnionMode.{UnionMode}
use Rattle.arrow_columns.specs.Types.{TypeTree, known, other, PartTrees, no_parts, part as child}
use Rattle.arrow_columns.specs.declared.nested.ListForm.TheVariants.{Small, Large, Fixed}
use Rattle.arrow_columns.specs.declared.other.Form.TheVariants.{Leaf, List as ListOf, ListView, LargeListView, Struct, Union, Map, RunEndEncoded, Dictionary}
use Rattle.geoarrow_layout.specs.Shapes.{names_of}
use Rattle.geoarrow_layout.specs.declared.native_kinds.Kind.{Kind}
use Rattle.column_check.specs.Parts.{Names, Spot, spot_at, spots_of, below, separated_in, separated_among, numbers_of, numbers_in, numbers_among, part_numbers, type_numbers, below_parts, and_below, fields_in, fields_of, members_of, or_below, nullable_in, nullable_of, nullable_among, unions_in, unions_of, unions_among}
use Rattle.column_check.specs.Shown.{names_shown, type_shown}
use Rattle.column_check.specs.Warnings.{are_doubtful, is_doubtful_number, is_sparse, has_extension_name, extension_text}
use Rattle.column_check.specs.Walk.{spot_if, found_in, number_spot, number_spots, found, found_of, found_among, part_spots, numbers_found, numbers_below, sought_spots}
use Rattle.column_check.specs.declared.walk.Sought.{Sought}
use Rattle.column_check.specs.declared.walk.Sought.TheVariants.{Axes, Numbers, Inner}
use Rattle.column_check.specs.declared.walk.Inner.TheVariants.{Extensions, Nullables, Unions}
use Rattle.column_check.specs.declared.code.WarningCode.{WarningCode}

-- places that go on from there
abbrev beyond : Names → List Spot → List Spot
beyond there spots = map (λ spot. (there ++ spot.0, spot.1, spot.2, spot.3)) spots

beyond_none : (spots : List Spot) → beyond [] spots ≡ spots
beyond_none [] = refl
beyond_none (spot ∷ spots) = ap (λ rest. spot ∷ rest) (beyond_none spots)

module _ (there : Names) {X : Type 0} (test : X → Bool) (text : X → Text) where
  -- the parts below a field are those on the way on
  pub at_below : (name : Text) (parts : List (Names × X)) → beyond there (spots_of test text (below name parts)) ≡ beyond (there ++ name ∷ []) (spots_of test text parts)
  at_below name [] = refl
  at_below name (part ∷ parts) = here (test part.1) (at_below name parts)
    where
      rest : List (Names × X)
      rest = filter (λ x. test x.1) (below name parts)

      here : (b : Bool) → beyond there (map (λ x. spot_at x.0 (text x.1)) rest) ≡ beyond (there ++ name ∷ []) (spots_of test text parts)
          → beyond there (map (λ x. spot_at x.0 (text x.1)) (cond b ((name ∷ part.0, part.1) ∷ rest) rest))
          ≡ beyond (there ++ name ∷ []) (map (λ x. spot_at x.0 (text x.1)) (cond b (part ∷ filter (λ x. test x.1) parts) (filter (λ x. test x.1) parts)))
      here false h = h
      here true h =
          ap (λ way. spot_at way (text part.1) ∷ beyond there (map (λ x. spot_at x.0 (text x.1)) rest)) (sym (append_assoc there (name ∷ []) part.0))
          ∙ ap (λ spots. spot_at ((there ++ name ∷ []) ++ part.0) (text part.1) ∷ spots) h

  -- the places of some parts, then those of others
  pub at_more : (parts others : List (Names × X)) → beyond there (spots_of test text (parts ++ others)) ≡ beyond there (spots_of test text parts) ++ beyond there (spots_of test text others)
  at_more parts others =
      ap (λ xs. beyond there (map (λ x. spot_at x.0 (text x.1)) xs)) (filter-append (λ x. test x.1) parts others)
      ∙ ap (beyond there) (map-append (λ x. spot_at x.0 (text x.1)) (filter (λ x. test x.1) parts) (filter (λ x. test x.1) others))
      ∙ map-append (λ spot. (there ++ spot.0, spot.1, spot.2, spot.3)) (spots_of test text parts) (spots_of test text others)

  -- a field, behind which stand others
  pub at_field : (name : Text) (x : X) (parts : List (Names × X))
      → beyond there (spots_of test text ((name ∷ [], x) ∷ parts)) ≡ spot_if (test x) (there ++ name ∷ []) (text x) ++ beyond there (spots_of test text parts)
  at_field name x parts = here (test x)
    where
      rest : List (Names × X)
      rest = filter (λ y. test y.1) parts

      here : (b : Bool) → beyond there (map (λ y. spot_at y.0 (text y.1)) (cond b ((name ∷ [], x) ∷ rest) rest)) ≡ spot_if b (there ++ name ∷ []) (text x) ++ beyond there (spots_of test text parts)
      here false = refl
      here true = refl

  -- a part behind which stand those below it
  pub at_own : (name : Text) (x : X) (parts : List (Names × X))
      → beyond there (spots_of test text (and_below name x parts)) ≡ spot_if (test x) (there ++ name ∷ []) (text x) ++ beyond (there ++ name ∷ []) (spots_of test text parts)
  at_own name x parts = at_field name x (below name parts) ∙ ap (λ spots. spot_if (test x) (there ++ name ∷ []) (text x) ++ spots) (at_below name parts)

  -- a part on the way itself, behind which stand others
  pub at_here : (x : X) (parts : List (Names × X)) → beyond there (spots_of test text (([], x) ∷ parts)) ≡ spot_if (test x) there (text x) ++ beyond there (spots_of test text parts)
  at_here x parts = here (test x)
    where
      rest : List (Names × X)
      rest = filter (λ y. test y.1) parts

      here : (b : Bool) → beyond there (map (λ y. spot_at y.0 (text y.1)) (cond b (([], x) ∷ rest) rest)) ≡ spot_if b there (text x) ++ beyond there (spots_of test text parts)
      here false = refl
      here true = ap (λ way. spot_at way (text x) ∷ beyond there (spots_of test text parts)) (append-nil there)

-- ---- what a walk finds is at the places of the parts that are looked for

module _ (code : WarningCode) (kind : Kind) where
  abbrev at_axes : Names → List (Names × Names) → List Spot
  at_axes way parts = beyond way (spots_of (are_doubtful code kind) names_shown parts)

  mutual
    pub axes_found : (way : Names) (t : Tree) → found (Axes code kind) way t ≡ at_axes way (separated_in t)
    axes_found way (plain p) = refl
    axes_found way (list n t b m) = axes_found (way ++ n ∷ []) t ∙ sym (at_below way (are_doubtful code kind) names_shown n (separated_in t))
    axes_found way (large_list n t b m) = axes_found (way ++ n ∷ []) t ∙ sym (at_below way (are_doubtful code kind) names_shown n (separated_in t))
    axes_found way (fixed_size_list n t b m size) = refl
    axes_found way (struct fs) = sym (at_here way (are_doubtful code kind) names_shown (names_of fs) [] ∙ append-nil _)
    axes_found way (union ms mode) = axes_among way ms

    axes_among : (way : Names) (ms : MemberTrees) → found_among (Axes code kind) way ms ≡ at_axes way (separated_among ms)
    axes_among way no_members = refl
    axes_among way (member i n t b m ms) =
        ap₂ (λ x y. x ++ y) (axes_found (way ++ n ∷ []) t ∙ sym (at_below way (are_doubtful code kind) names_shown n (separated_in t))) (axes_among way ms)
        ∙ sym (at_more way (are_doubtful code kind) names_shown (below n (separated_in t)) (separated_among ms))

module _ (code : WarningCode) where
  abbrev at_numbers : Names → List (Names × TypeTree) → List Spot
  at_numbers way parts = beyond way (spots_of (is_doubtful_number code) type_shown parts)

  one_number : (way : Names) (n : Text) (t : TypeTree) (parts : List (Names × TypeTree)) (rest : List Spot) → rest ≡ at_numbers way parts
      → number_spot code way n t ++ rest ≡ at_numbers way ((n ∷ [], t) ∷ parts)
  one_number way n t parts rest is =
      ap (λ spots. number_spot code way n t ++ spots) is ∙ sym (at_field way (is_doubtful_number code) type_shown n t parts)

  numbers_each : (way : Names) (fs : FieldTrees) → number_spots code way fs ≡ at_numbers way (numbers_of fs)
  numbers_each way no_fields = refl
  numbers_each way (field n t b m fs) = one_number way n (known t) (numbers_of fs) _ (numbers_each way fs)

  mutual
    tree_numbers : (way : Names) (t : Tree) → found (Numbers code) way t ≡ at_numbers way (numbers_in t)
    tree_numbers way (plain p) = refl
    tree_numbers way (list n t b m) = tree_numbers (way ++ n ∷ []) t ∙ sym (at_below way (is_doubtful_number code) type_shown n (numbers_in t))
    tree_numbers way (large_list n t b m) = tree_numbers (way ++ n ∷ []) t ∙ sym (at_below way (is_doubtful_number code) type_shown n (numbers_in t))
    tree_numbers way (fixed_size_list n t b m size) = sym (append-nil _) ∙ one_number way n (known t) [] [] refl
    tree_numbers way (struct fs) = numbers_each way fs
    tree_numbers way (union ms mode) = numbers_members way ms

    numbers_members : (way : Names) (ms : MemberTrees) → found_among (Numbers code) way ms ≡ at_numbers way (numbers_among ms)
    numbers_members way no_members = refl
    numbers_members way (member i n t b m ms) =
        ap₂ (λ x y. x ++ y) (tree_numbers (way ++ n ∷ []) t ∙ sym (at_below way (is_doubtful_number code) type_shown n (numbers_in t))) (numbers_members way ms)
        ∙ sym (at_more way (is_doubtful_number code) type_shown (below n (numbers_in t)) (numbers_among ms))

  -- in any type
  numbers_parts : (way : Names) (ps : PartTrees) → part_spots code way ps ≡ at_numbers way (part_numbers ps)
  numbers_parts way no_parts = refl
  numbers_parts way (child n t b m ps) = one_number way n t (part_numbers ps) _ (numbers_parts way ps)

  mutual
    any_numbers : (way : Names) (t : TypeTree) → numbers_found code way t ≡ at_numbers way (type_numbers t)
    any_numbers way (known t) = tree_numbers way t
    any_numbers way (other s (ListOf (Fixed size)) ids ps) = numbers_parts way ps
    any_numbers way (other s (ListOf Small) ids ps) = any_below way ps
    any_numbers way (other s (ListOf Large) ids ps) = any_below way ps
    any_numbers way (other s Struct ids ps) = numbers_parts way ps
    any_numbers way (other s Leaf ids ps) = refl
    any_numbers way (other s ListView ids ps) = refl
    any_numbers way (other s LargeListView ids ps) = refl
    any_numbers way (other s (Union mode) ids ps) = refl
    any_numbers way (other s Map ids ps) = refl
    any_numbers way (other s RunEndEncoded ids ps) = refl
    any_numbers way (other s Dictionary ids ps) = refl

    any_below : (way : Names) (ps : PartTrees) → numbers_below code way ps ≡ at_numbers way (below_parts ps)
    any_below way no_parts = refl
    any_below way (child n t b m ps) =
        ap₂ (λ x y. x ++ y) (any_numbers (way ++ n ∷ []) t ∙ sym (at_below way (is_doubtful_number code) type_shown n (type_numbers t))) (any_below way ps)
        ∙ sym (at_more way (is_doubtful_number code) type_shown (below n (type_numbers t)) (below_parts ps))

  -- from a column on
  pub all_numbers : (t : TypeTree) → numbers_found code [] t ≡ spots_of (is_doubtful_number code) type_shown (type_numbers t)
  all_numbers t = any_numbers [] t ∙ beyond_none _

abbrev at_named : Names → List (Names × Metadata) → List Spot
at_named way parts = beyond way (spots_of has_extension_name extension_text parts)

one_named : (way : Names) (n : Text) (b : Bool) (m : Metadata) (parts : List (Names × Metadata)) (below : List Spot) → below ≡ at_named (way ++ n ∷ []) parts
    → found_in (Inner Extensions) (way ++ n ∷ []) b m below ≡ at_named way (and_below n m parts)
one_named way n b m parts below is =
    ap (λ spots. spot_if (has_extension_name m) (way ++ n ∷ []) (extension_text m) ++ spots) is ∙ sym (at_own way has_extension_name extension_text n m parts)

mutual
  named_found : (way : Names) (t : Tree) → found (Inner Extensions) way t ≡ at_named way (fields_in t)
  named_found way (plain p) = refl
  named_found way (list n t b m) = one_named way n b m (fields_in t) _ (named_found (way ++ n ∷ []) t)
  named_found way (large_list n t b m) = one_named way n b m (fields_in t) _ (named_found (way ++ n ∷ []) t)
  named_found way (fixed_size_list n t b m size) = one_named way n b m (fields_in t) _ (named_found (way ++ n ∷ []) t)
  named_found way (struct fs) = named_of way fs
  named_found way (union ms mode) = named_among way ms

  named_of : (way : Names) (fs : FieldTrees) → found_of (Inner Extensions) way fs ≡ at_named way (fields_of fs)
  named_of way no_fields = refl
  named_of way (field n t b m fs) =
      ap₂ (λ x y. x ++ y) (one_named way n b m (fields_in t) _ (named_found (way ++ n ∷ []) t)) (named_of way fs)
      ∙ sym (at_more way has_extension_name extension_text (and_below n m (fields_in t)) (fields_of fs))

  named_among : (way : Names) (ms : MemberTrees) → found_among (Inner Extensions) way ms ≡ at_named way (members_of ms)
  named_among way no_members = refl
  named_among way (member i n t b m ms) =
      ap₂ (λ x y. x ++ y) (one_named way n false m (fields_in t) _ (named_found (way ++ n ∷ []) t)) (named_among way ms)
      ∙ sym (at_more way has_extension_name extension_text (and_below n m (fields_in t)) (members_of ms))

abbrev nullable_word : Bool → Text
nullable_word nullable = codes "nullable"

abbrev itself : Bool → Bool
itself b = b

abbrev at_nullable : Names → List (Names × Bool) → List Spot
at_nullable way parts = beyond way (spots_of itself nullable_word parts)

one_nullable : (way : Names) (n : Text) (b : Bool) (m : Metadata) (parts : List (Names × Bool)) (below : List Spot) → below ≡ at_nullable (way ++ n ∷ []) parts
    → found_in (Inner Nullables) (way ++ n ∷ []) b m below ≡ at_nullable way (or_below n b parts)
one_nullable way n true m parts below is = refl
one_nullable way n false m parts below is = is ∙ sym (at_below way itself nullable_word n parts)

mutual
  nullable_found : (way : Names) (t : Tree) → found (Inner Nullables) way t ≡ at_nullable way (nullable_in t)
  nullable_found way (plain p) = refl
  nullable_found way (list n t b m) = one_nullable way n b m (nullable_in t) _ (nullable_found (way ++ n ∷ []) t)
  nullable_found way (large_list n t b m) = one_nullable way n b m (nullable_in t) _ (nullable_found (way ++ n ∷ []) t)
  nullable_found way (fixed_size_list n t b m size) = one_nullable way n b m (nullable_in t) _ (nullable_found (way ++ n ∷ []) t)
  nullable_found way (struct fs) = nullable_each way fs
  nullable_found way (union ms mode) = nullable_members way ms

  nullable_each : (way : Names) (fs : FieldTrees) → found_of (Inner Nullables) way fs ≡ at_nullable way (nullable_of fs)
  nullable_each way no_fields = refl
  nullable_each way (field n t b m fs) =
      ap₂ (λ x y. x ++ y) (one_nullable way n b m (nullable_in t) _ (nullable_found (way ++ n ∷ []) t)) (nullable_each way fs)
      ∙ sym (at_more way itself nullable_word (or_below n b (nullable_in t)) (nullable_of fs))

  nullable_members : (way : Names) (ms : MemberTrees) → found_among (Inner Nullables) way ms ≡ at_nullable way (nullable_among ms)
  nullable_members way no_members = refl
  nullable_members way (member i n t b m ms) =
      ap₂ (λ x y. x ++ y) (nullable_found (way ++ n ∷ []) t ∙ sym (at_below way itself nullable_word n (nullable_in t))) (nullable_members way ms)
      ∙ sym (at_more way itself nullable_word (below n (nullable_in t)) (nullable_among ms))

abbrev sparse_word : UnionMode → Text
sparse_word mode = codes "sparse"

abbrev at_sparse : Names → List (Names × UnionMode) → List Spot
at_sparse way parts = beyond way (spots_of is_sparse sparse_word parts)

mutual
  sparse_found : (way : Names) (t : Tree) → found (Inner Unions) way t ≡ at_sparse way (unions_in t)
  sparse_found way (plain p) = refl
  sparse_found way (list n t b m) = sparse_found (way ++ n ∷ []) t ∙ sym (at_below way is_sparse sparse_word n (unions_in t))
  sparse_found way (large_list n t b m) = sparse_found (way ++ n ∷ []) t ∙ sym (at_below way is_sparse sparse_word n (unions_in t))
  sparse_found way (fixed_size_list n t b m size) = sparse_found (way ++ n ∷ []) t ∙ sym (at_below way is_sparse sparse_word n (unions_in t))
  sparse_found way (struct fs) = sparse_each way fs
  sparse_found way (union ms mode) = ap (λ spots. spot_if (is_sparse mode) way (codes "sparse") ++ spots) (sparse_members way ms) ∙ sym (at_here way is_sparse sparse_word mode (unions_among ms))

  sparse_each : (way : Names) (fs : FieldTrees) → found_of (Inner Unions) way fs ≡ at_sparse way (unions_of fs)
  sparse_each way no_fields = refl
  sparse_each way (field n t b m fs) =
      ap₂ (λ x y. x ++ y) (sparse_found (way ++ n ∷ []) t ∙ sym (at_below way is_sparse sparse_word n (unions_in t))) (sparse_each way fs)
      ∙ sym (at_more way is_sparse sparse_word (below n (unions_in t)) (unions_of fs))

  sparse_members : (way : Names) (ms : MemberTrees) → found_among (Inner Unions) way ms ≡ at_sparse way (unions_among ms)
  sparse_members way no_members = refl
  sparse_members way (member i n t b m ms) =
      ap₂ (λ x y. x ++ y) (sparse_found (way ++ n ∷ []) t ∙ sym (at_below way is_sparse sparse_word n (unions_in t))) (sparse_members way ms)
      ∙ sym (at_more way is_sparse sparse_word (below n (unions_in t)) (unions_among ms))

-- from a column on
pub all_found : (s : Sought) (t : Tree) → found s [] t ≡ sought_spots s t
all_found (Axes code kind) t = axes_found code kind [] t ∙ beyond_none _
all_found (Numbers code) t = tree_numbers code [] t ∙ beyond_none _
all_found (Inner Extensions) t = named_found [] t ∙ beyond_none _
all_found (Inner Nullables) t = nullable_found [] t ∙ beyond_none _
all_found (Inner Unions) t = sparse_found [] t ∙ beyond_none _

-- an item of a loop lies less deep than what it is in
module _ {A : Type 0} (one : A → ℕ) (all : List A → ℕ) (more : (x : A) (xs : List A) → all (x ∷ xs) ≡ max (suc (one x)) (all xs)) where
  pub falls : (xs : List A) {ys : List A} (i : ℕ) (x : A) → xs ≡ ys → i < length xs → x ≡ get_or xs i x → suc (one x) ≤ all ys
  falls [] i x e lt is = absurd (omega arith)
  falls (y ∷ ys) zero x e lt is = rw (← e) (let same : one x ≡ one y = ap one is in let most = more y ys in omega arith)
  falls (y ∷ ys) (suc i) x e lt is = rw (← e) (let low = falls ys i x refl (omega arith) is in let most = more y ys in omega arith)

-- an item of a loop nests no deeper than what it is in
module _ {A : Type 0} (one : A → ℕ) (all : List A → ℕ) (more : (x : A) (xs : List A) → all (x ∷ xs) ≡ max (one x) (all xs)) where
  pub nests : (xs : List A) {ys : List A} (i : ℕ) (x : A) → xs ≡ ys → i < length xs → x ≡ get_or xs i x → one x ≤ all ys
  nests [] i x e lt is = absurd (omega arith)
  nests (y ∷ ys) zero x e lt is = rw (← e) (let same : one x ≡ one y = ap one is in let most = more y ys in omega arith)
  nests (y ∷ ys) (suc i) x e lt is = rw (← e) (let low = nests ys i x refl (omega arith) is in let most = more y ys in omega arith)
