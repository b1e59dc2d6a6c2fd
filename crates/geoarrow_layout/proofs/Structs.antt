-- Sets of bits, and what one reading adds to them; the fields of a struct: which names are those of a coordinate or a box, by their bits, and which point is inferred.
use Rattle.geoarrow_layout.proofs.Terms.{◌≡◌, ◌↔◌, ◌<◌, ◌⊎◌, ◌*◌, ◌%◌, ◌^◌, inl, inr, ℕ, sym, ap, subst, ◌∙◌, ◌≤◌, true, false, ℤ, pos, Ok, Err, refl, arith, bit_at, bit_or, bit_at_set_same, bit_at_set_other, bit_at-zero, cases_eq, ltb-true, ltb-false, bits, ReadAt, w8, w64, CoordType, Dimension, LayoutFault, negsuc, nat_abs, lt_z, suc, Bool, ◌||◌, true≢false, Decides, IsTrue, list_all, and_parts, and_from, List, [], ◌∷◌, length, ◌+◌, ◌&&◌, ◌++◌, take, get_or, eq-eqb, list_any, bytes_eq, bytes_eq-Decides, Text, FieldTree, field_trees, XYZ, XYM, has_name, IsSeparatedAs, names_of, SomeAt, place_in, known_names, is_float64, are_float64, nat_eq, codes, HaveBoth, HasFault, eqb-true, cond_both, or_cases, or_left, or_right, same_from_decides, and-true, and_assoc, IsBits, Result, Option, Tree, struct, FieldTrees, Separated, BadFieldNames, ListWidth, Bottom, Struct, Leaf, IsBoxAs, BoxShape, Path, SeparatedFault, CoordinateFault, BoxFault, IsBottom, IsUnion, IsNoLeaf, Tells, TellsBoth, BoxNamesFault, Some, None, same_Some, fixed_size_list, Interleaved, size_of, interleaved_name, Inferred, IsInferredAs, IsInferredSize, among_back, dimension_named, bit_and, ◌/◌, get_or-map, get_or-range_with_len, decided, shr_and_one, map, coordinate}
use Rattle.std.proofs.lemmas.Map.Made.{length-le_from_is_member}
use Rattle.std.specs.Int.{Width}
use Rattle.std.specs.List.{IsDistinct}
use Rattle.geoarrow_layout.specs.Summary.{IsBits, AddsBits}
use Rattle.geoarrow_layout.proofs.Readings.{Answer, ok_same, or_more, one_more, at_bottom}
use Rattle.geoarrow_layout.specs.Shapes.{SameNames}
use Rattle.geoarrow_layout.proofs.FaultLaws.{lengths}

-- one bit more, that of the one number with P
pub adds_bit : (w : Width) (n i : ℕ) (P : ℕ → Type 0) → i < bits w → P i → ((k : ℕ) → P k → k ≡ i) → AddsBits n P (bit_or n (1 * 2 ^ i % 2 ^ bits w))
unfolding AddsBits
adds_bit w n i P within there only = λ k. elim (cases_eq k i) [
  | inl e ↦ (λ h. inr (subst P (sym e) there), λ h. ap (bit_at (bit_or n (1 * 2 ^ i % 2 ^ bits w))) e ∙ bit_at_set_same w n i within)
  | inr e ↦ let other = bit_at_set_other w n i within k e in
      (λ h. inl (sym other ∙ h), λ h. elim h [ inl was ↦ other ∙ was | inr p ↦ absurd (e (only k p)) ])
]

pub bits_like : (n : ℕ) (P Q : ℕ → Type 0) → ((i : ℕ) → P i → Q i) → ((i : ℕ) → Q i → P i) → IsBits n P → IsBits n Q
unfolding IsBits
bits_like n P Q to from h = λ i. (λ e. to i ((h i).0 e), λ q. (h i).1 (from i q))

pub no_bits : (P : ℕ → Type 0) → ((i : ℕ) → P i → ⊥) → IsBits 0 P
unfolding IsBits
no_bits P none = λ i. (λ e. let z = bit_at-zero i in cc, λ p. absurd (none i p))

-- the numbers of Q are those of P and those that are added
pub bits_added : (n more : ℕ) (A P Q : ℕ → Type 0) → AddsBits n A more → ((i : ℕ) → Q i ↔ (P i ⊎ A i)) → IsBits n P → IsBits more Q
unfolding IsBits AddsBits
bits_added n more A P Q adds is h = λ i. (
  (λ e. (is i).1 (elim ((adds i).0 e) [ inl was ↦ inl ((h i).0 was) | inr a ↦ inr a ])),
  (λ q. (adds i).1 (elim ((is i).0 q) [ inl p ↦ inl ((h i).1 p) | inr a ↦ inr a ])),
)

pub bit_is : (n : ℕ) (P : ℕ → Type 0) (i : ℕ) → IsBits n P → (bit_at n i ≡ 1) ↔ P i
unfolding IsBits
bit_is n P i h = h i

-- ---- one reading

adds_none : (n : ℕ) (P : ℕ → Type 0) → ((i : ℕ) → P i → ⊥) → AddsBits n P n
unfolding AddsBits
adds_none n P none = λ i. (λ e. inl e, λ h. elim h [ inl e ↦ e | inr p ↦ absurd (none i p) ])

pub number_added : (number : CoordType × Dimension → ℕ) (n j : ℕ) (part : Answer) (p : CoordType × Dimension) → part ≡ Ok p → j ≡ number p → j < 8 → AddsBits n (ReadAt number part) (bit_or n (1 * 2 ^ j % 2 ^ 8))
number_added number n j part p is place small =
    adds_bit w8 n j (ReadAt number part) small (p, is, place) (λ i h. h.2 ∙ ap number (ok_same h.0 p (sym h.1 ∙ is)) ∙ sym place)

pub number_kept : (number : CoordType × Dimension → ℕ) (n : ℕ) (part : Answer) (f : LayoutFault) → part ≡ Err f → AddsBits n (ReadAt number part) n
number_kept number n part f is = adds_none n (ReadAt number part) (λ i h. let bad = sym h.1 ∙ is in cc)

outside : (z : ℤ) (i : ℕ) → (lt_z z (pos 0) ≡ true) ⊎ (lt_z (pos 63) z ≡ true) → i < 64 → z ≡ pos i → ⊥
outside (pos n) i (inl h) small e = let lt : n < 0 = ltb-true n 0 h in omega arith
outside (pos n) i (inr h) small e = let lt : 63 < n = ltb-true 63 n h in let same : n ≡ i = cc in omega arith
outside (negsuc n) i h small e = cc

between : (id : ℤ) → lt_z id (pos 0) ≡ false → lt_z (pos 63) id ≡ false → (id ≡ pos (nat_abs id)) × (nat_abs id < 64)
between (pos n) h k = let le : n ≤ 63 = ltb-false 63 n k in (refl, omega arith)
between (negsuc n) h k = cc

pub id_outside : (n : ℕ) (id z : ℤ) → z ≡ id → (lt_z z (pos 0) ≡ true) ⊎ (lt_z (pos 63) z ≡ true) → AddsBits n (λ i. (i < 64) × (id ≡ pos i)) n
id_outside n id z is h = adds_none n (λ i. (i < 64) × (id ≡ pos i)) (λ i p. outside z i h p.0 (is ∙ p.1))

pub id_between : (n : ℕ) (id z : ℤ) → z ≡ id → lt_z z (pos 0) ≡ false → lt_z (pos 63) z ≡ false → AddsBits n (λ i. (i < 64) × (id ≡ pos i)) (bit_or n (1 * 2 ^ nat_abs z % 2 ^ 64))
id_between n id z is h k =
    let b = between z h k in
    adds_bit w64 n (nat_abs z) (λ i. (i < 64) × (id ≡ pos i)) b.1 (b.1, sym is ∙ b.0) (λ i p. let same = sym p.1 ∙ sym is ∙ b.0 in cc)

pub length_names : (fs : List FieldTree) → length (names_of (field_trees fs)) ≡ length fs
length_names [] = refl
length_names (f ∷ fs) = omega (arith, length_names fs)

pub has_name_fields : (n : Text) (fs : List FieldTree) → list_any (λ f. bytes_eq f.name n) fs ≡ has_name n (names_of (field_trees fs))
has_name_fields n [] = refl
has_name_fields n (f ∷ fs) = rw (has_name_fields n fs)

-- the names of two structs are the same where each field of either has its name in the other
all_decides : (xs : List FieldTree) (ys : List Text) → Decides (list_all (λ f. has_name f.name ys) xs) ((n : Text) → has_name n (names_of (field_trees xs)) ≡ true → has_name n ys ≡ true)
all_decides [] ys = (λ h n e. absurd (true≢false (sym e)), λ f. refl)
all_decides (x ∷ xs) ys = (
  (λ h n e. let p = and_parts _ _ h in
      elim (or_cases (bytes_eq x.name n) _ e) [ inl f ↦ subst (λ z. has_name z ys ≡ true) ((bytes_eq-Decides x.name n).0 f) p.0 | inr f ↦ (all_decides xs ys).0 p.1 n f ]),
  (λ f. and_from _ _ (f x.name (or_left _ _ ((bytes_eq-Decides x.name x.name).1 refl))) ((all_decides xs ys).1 (λ n h. f n (or_right (bytes_eq x.name n) _ h)))),
)

pub same_first : (xs ys : List FieldTree) (p q : Bool) → p ≡ list_all (λ f. has_name f.name (names_of (field_trees ys))) xs → p ≡ true → q ≡ list_all (λ f. has_name f.name (names_of (field_trees xs))) ys → IsTrue q ↔ SameNames (names_of (field_trees xs)) (names_of (field_trees ys))
unfolding SameNames
same_first xs ys p q e t f = (
  (λ h n. same_from_decides {P = has_name n (names_of (field_trees ys)) ≡ true} _ _ ((all_decides xs _).0 (sym e ∙ t) n, (all_decides ys _).0 (sym f ∙ h) n) ((λ e. e), (λ e. e))),
  (λ s. f ∙ (all_decides ys _).1 (λ n h. s n ∙ h)),
)

pub not_same : (xs ys : List FieldTree) (p : Bool) → p ≡ list_all (λ f. has_name f.name (names_of (field_trees ys))) xs → p ≡ false → SameNames (names_of (field_trees xs)) (names_of (field_trees ys)) → ⊥
unfolding SameNames
not_same xs ys p e fails s = true≢false (sym (e ∙ (all_decides xs _).1 (λ n h. sym (s n) ∙ h)) ∙ fails)

-- three names among which are three different ones are just those: a fourth would make them four
pub same_three : (x y z : Text) (names : List Text) → bytes_eq y x ≡ false → bytes_eq z x ≡ false → bytes_eq z y ≡ false → length names ≡ 3 → HaveBoth x y names → has_name z names ≡ true → SameNames names (x ∷ y ∷ z ∷ [])
unfolding SameNames IsDistinct
same_three x y z names yx zx zy count xy third = λ n. same_from_decides {P = has_name n names ≡ true} _ _ ((λ e. e), (λ e. e)) (among (x ∷ y ∷ z ∷ []) all n, λ h. by n h _ _ _ refl refl refl)
  where
    all : list_all (λ f. has_name f.name names) (map coordinate (x ∷ y ∷ z ∷ [])) ≡ true
    all = rw (xy.0, xy.1, third) refl

    among : (ns : List Text) → list_all (λ f. has_name f.name names) (map coordinate ns) ≡ true → (q : Text) → has_name q (names_of (field_trees (map coordinate ns))) ≡ true → has_name q names ≡ true
    among ns = (all_decides (map coordinate ns) names).0

    by : (n : Text) → has_name n names ≡ true → (a b c : Bool) → bytes_eq x n ≡ a → bytes_eq y n ≡ b → bytes_eq z n ≡ c → (a || (b || (c || false))) ≡ true
    by n h false false false e f g = absurd (omega (
      arith,
      length-le_from_is_member {eq = λ a b. bytes_eq b a} (decided _ (λ a b. let d = bytes_eq-Decides b a in ((λ h. sym (d.0 h)), (λ e. d.1 (sym e))))) (n ∷ x ∷ y ∷ z ∷ []) names
          ((e, (f, (g, tt))), ((yx, (zx, tt)), ((zy, tt), (tt, tt)))) (among (n ∷ x ∷ y ∷ z ∷ []) (and_from _ _ h all)),
    ))
    by n h _ _ _ e f g = refl

-- ---- the bits of names, one field at a time

some_more : (i : ℕ) (xs : List FieldTree) (x : FieldTree) → SomeAt i (names_of (field_trees (xs ++ (x ∷ [])))) ↔ (SomeAt i (names_of (field_trees xs)) ⊎ (place_in x.name known_names ≡ i))
some_more i [] x = (λ h. elim h [ inl p ↦ inr p | inr e ↦ inl e ], λ h. elim h [ inl e ↦ inr e | inr p ↦ inl p ])
some_more i (y ∷ xs) x = or_more (some_more i xs x)

floats_more : (xs : List FieldTree) (x : FieldTree) → are_float64 (field_trees (xs ++ (x ∷ []))) ≡ (are_float64 (field_trees xs) && is_float64 x.tree)
floats_more [] x = and-true (is_float64 x.tree)
floats_more (y ∷ xs) x = ap (λ b. is_float64 y.tree && b) (floats_more xs x) ∙ sym (and_assoc (is_float64 y.tree) (are_float64 (field_trees xs)) (is_float64 x.tree))

-- what was seen of the fields so far
pub record FieldsSeen (names : ℕ) (all_floats : Bool) (xs : List FieldTree) : Type 0 where
  pub bits : IsBits names (λ i. SomeAt i (names_of (field_trees xs)))
  pub floats : all_floats ≡ are_float64 (field_trees xs)

pub fields_seen_more : (names more : ℕ) (b b2 : Bool) (xs : List FieldTree) (k : ℕ) (x : FieldTree) → k < length xs → x ≡ get_or xs k x → AddsBits names (λ i. place_in x.name known_names ≡ i) more → b2 ≡ (b && is_float64 x.tree) → FieldsSeen names b (take k xs) → FieldsSeen more b2 (take (k + 1) xs)
fields_seen_more names more b b2 all k x lt at adds float before =
    let xs = take k all in
    subst (FieldsSeen more b2) (sym (one_more all k x lt at)) record {
      bits = bits_added names more (λ i. place_in x.name known_names ≡ i) (λ i. SomeAt i (names_of (field_trees xs))) (λ i. SomeAt i (names_of (field_trees (xs ++ (x ∷ []))))) adds (λ i. some_more i xs x) before.bits;
      floats = float ∙ ap (λ q. q && is_float64 x.tree) before.floats ∙ sym (floats_more xs x);
    }

-- a known name is there exactly where its bit is set
place_to : (n : Text) (ms : List Text) (k : ℕ) → k < length ms → place_in n ms ≡ k → bytes_eq n (get_or ms k []) ≡ true
place_to n [] k lt h = absurd (omega arith)
place_to n (m ∷ ms) k lt h =
    let at = λ (j : ℕ) (here : bytes_eq n (get_or (m ∷ ms) j []) ≡ true) (e : j ≡ k). subst (λ i. bytes_eq n (get_or (m ∷ ms) i []) ≡ true) e here in
    cond_both (bytes_eq n m) 0 (suc (place_in n ms)) (λ x. x ≡ k → bytes_eq n (get_or (m ∷ ms) k []) ≡ true) (λ e. at 0 e) (λ e z. at (suc (place_in n ms)) (place_to n ms (place_in n ms) (omega (arith, lt, z)) refl) z) h

-- a known name stands at its own place
place_back : (k : ℕ) → k < 8 → place_in (get_or known_names k []) known_names ≡ k
place_back k lt =
    let is : place_in (get_or known_names k []) known_names ≡ 0 + k = sym (get_or-map (λ n. place_in n known_names) known_names k []) ∙ get_or-range_with_len 0 8 k _ lt in
    omega arith

some_named : (k : ℕ) (ns : List Text) → k < 8 → SomeAt k ns ↔ (has_name (get_or known_names k []) ns ≡ true)
some_named k [] lt = (λ h. absurd h, λ h. cc)
some_named k (n ∷ ns) lt =
    let m = get_or known_names k [] in
    let rest = some_named k ns lt in (
      (λ h. elim h [ inl e ↦ or_left (bytes_eq n m) (has_name m ns) (place_to n known_names k lt e) | inr e ↦ or_right (bytes_eq n m) (has_name m ns) (rest.0 e) ]),
      (λ h. elim (or_cases (bytes_eq n m) (has_name m ns) h) [ inl e ↦ inl (ap (λ x. place_in x known_names) ((bytes_eq-Decides n m).0 e) ∙ place_back k lt) | inr e ↦ inr (rest.1 e) ]),
    )

-- the bit of a known name says whether the name is there
pub has_at : (bits k : ℕ) → k < 8 → (ns : List Text) → IsBits bits (λ i. SomeAt i ns) → nat_eq (bit_and (bits / 2 ^ k) 1) 1 ≡ has_name (get_or known_names k []) ns
has_at bits k lt ns h =
    let bit = bit_is bits (λ i. SomeAt i ns) k h in
    let named = some_named k ns lt in
    ap (λ x. nat_eq x 1) (shr_and_one bits k) ∙ same_from_decides {P = SomeAt k ns} (nat_eq (bit_at bits k) 1) (has_name (get_or known_names k []) ns) ((λ e. bit.0 (eqb-true (bit_at bits k) 1 e)), (λ s. eq-eqb (bit_at bits k) 1 (bit.1 s))) (named.1, named.0)

-- ---- what the names of a struct's fields say, by their bits: the dimension of a coordinate, and that of a box

abbrev pub NamesAnswer : ℕ → ℕ → Result Dimension LayoutFault → Type 0
NamesAnswer count bits r = (ns : List Text) → count ≡ length ns → IsBits bits (λ i. SomeAt i ns) → Tells r (λ d. IsSeparatedAs d ns) (SeparatedFault ns)

-- three names that are not x, y and one of z and m are those of no dimension
pub no_third : (ns : List Text) → length ns ≡ 3 → (HaveBoth (codes "x") (codes "y") ns → (has_name (codes "z") ns ≡ true) ⊎ (has_name (codes "m") ns ≡ true) → ⊥) → HasFault (SeparatedFault ns) BadFieldNames
unfolding SameNames
no_third ns three lacks = ([], inr (three, none, (refl, refl)))
  where
    none : (d : Dimension) → ¬ IsSeparatedAs d ns
    none XYZ h = lacks (h.1 (codes "x"), h.1 (codes "y")) (inl (h.1 (codes "z")))
    none XYM h = lacks (h.1 (codes "x"), h.1 (codes "y")) (inr (h.1 (codes "m")))
    none _ h = absurd (omega arith)

-- the leaf that a struct is
abbrev pub LeafAnswer : Bottom → Answer → Type 0
LeafAnswer b r = (w : Option ListWidth) (levels : ℕ) (u : Tree) → IsBottom IsNoLeaf w levels b u → TellsBoth r (Leaf u) (CoordinateFault u)

at_struct : (P : Tree → Type 0) (count names : ℕ) (floats : Bool) → ((fs : FieldTrees) → count ≡ length (names_of fs) → IsBits names (λ i. SomeAt i (names_of fs)) → P (struct fs)) → (w : Option ListWidth) (n : ℕ) (u : Tree) → IsBottom IsNoLeaf w n (Struct count names floats) u → P u
at_struct P count names floats h w n u is = at_bottom IsNoLeaf P w n (Struct count names floats) tt (λ x t b m z k. absurd k) (λ fs k. h fs k.0 k.1) (λ ms mode k. absurd k) u is

pub struct_leaf : (count names : ℕ) (floats : Bool) (d : Dimension) → NamesAnswer count names (Ok d) → LeafAnswer (Struct count names floats) (Ok (Separated, d))
struct_leaf count names floats d h w n u is = at_struct (λ x. Leaf x Separated d) count names floats (λ fs same bits. h (names_of fs) same bits) w n u is

pub struct_no_leaf : (count names : ℕ) (floats : Bool) (f : LayoutFault) → NamesAnswer count names (Err f) → LeafAnswer (Struct count names floats) (Err f)
struct_no_leaf count names floats f h w n u is = at_struct (λ x. (p : Path) × CoordinateFault x p f) count names floats (λ fs same bits. h (names_of fs) same bits) w n u is

-- ---- boxes

pub root_box : (w : Option ListWidth) (count names : ℕ) (floats : Bool) (u : Tree) (r : Result Dimension LayoutFault) → IsBottom IsUnion w 0 (Struct count names floats) u → ((ns : List Text) → count ≡ length ns → IsBits names (λ i. SomeAt i ns) → Tells r (λ d. IsBoxAs d ns) (BoxNamesFault ns)) → Tells r (BoxShape u) (BoxFault u)
root_box w count names floats u r k says = at_bottom IsUnion (λ x. Tells r (BoxShape x) (BoxFault x)) w 0 (Struct count names floats) tt (λ x t b m z h. absurd h) (λ fs h. says (names_of fs) h.0 h.1) (λ ms mode h. absurd h) u k

-- ---- points that trees are taken for

-- what the fields say, where all are numbers
pub all_inferred : (fs : FieldTrees) (r : Option Dimension) → are_float64 fs ≡ true → ((d : Dimension) → (r ≡ Some d) ↔ IsInferredAs d (names_of fs)) → (d : Dimension) → (r ≡ Some d) ↔ ((are_float64 fs ≡ true) × IsInferredAs d (names_of fs))
all_inferred fs r all says d = (λ e. (all, (says d).0 e), λ h. (says d).1 h.1)

-- a coordinate is taken for what it is read as
names_agree : (ns : List Text) (d e : Dimension) → IsInferredAs d ns → IsSeparatedAs e ns → d ≡ e
names_agree ns XYZ XYZ h k = refl
names_agree ns XYZ XYM h k = absurd (h.1 k.1)
names_agree ns XYZ _ h k = absurd (omega arith)
names_agree ns d e h k = sym (among_back ns d h) ∙ among_back ns e k

-- what the reader of a coordinate says of the names
as_inferred : (ns : List Text) (d : Dimension) → IsSeparatedAs d ns → IsInferredAs d ns
as_inferred ns XYZ h = (h.0, λ m. let bad = sym (among_back ns XYZ h) ∙ among_back ns XYM (h.0, m) in cc)
as_inferred ns _ h = h

pub read_inferred : (ns : List Text) (e d : Dimension) → IsSeparatedAs e ns → (Some e ≡ Some d) ↔ IsInferredAs d ns
read_inferred ns e d h = (λ is. subst (λ x. IsInferredAs x ns) (same_Some e d is) (as_inferred ns e h), λ k. ap (λ x. Some x) (sym (names_agree ns d e k h)))

pub other_inferred : (ns : List Text) (p : Path) → SeparatedFault ns p BadFieldNames → (d : Dimension) → (Some XYZ ≡ Some d) ↔ IsInferredAs d ns
other_inferred ns p (inl h) d = let bad = h.1.1 in cc
other_inferred ns p (inr h) XYZ = (λ e. (h.0, λ m. h.1 XYM (h.0, m)), λ k. refl)
other_inferred ns p (inr h) XYM = (λ e. cc, λ k. absurd (h.1 XYM k))
other_inferred ns p (inr h) _ = (λ e. cc, λ k. absurd (omega (arith, h.0)))

pub not_inferred : (ns : List Text) (p : Path) (f : LayoutFault) → (f ≡ BadFieldNames → ⊥) → SeparatedFault ns p f → (d : Dimension) → (None ≡ Some d) ↔ IsInferredAs d ns
not_inferred ns p f other (inl h) XYZ = (λ e. cc, λ k. absurd (h.0 XYZ k.0))
not_inferred ns p f other (inl h) d = (λ e. cc, λ k. absurd (h.0 d ((lengths ns d).0 k)))
not_inferred ns p f other (inr h) d = absurd (other h.2.1)

size_agrees : (name : Text) (z : ℤ) (d e : Dimension) → IsInferredSize d name z → name ≡ interleaved_name e → z ≡ pos (size_of e) → d ≡ e
size_agrees name z XYZ XYM h named size = absurd (h.1 named)
size_agrees name z XYM XYZ h named size = let bad = ap dimension_named (sym h.1 ∙ named) in cc
size_agrees name z _ _ h named size = grind arith

pub inferred_as_read : (t : Tree) (c b : CoordType) (d e : Dimension) → Inferred t c d → Leaf t b e → (c ≡ b) × (d ≡ e)
inferred_as_read (fixed_size_list n t x m z) Interleaved Interleaved d e h k = (refl, size_agrees n z d e h.1 k.0 k.1)
inferred_as_read (struct fs) Separated Separated d e h k = (refl, names_agree (names_of fs) d e h.1 k)
inferred_as_read _ _ _ d e h k = search

pub agrees : (t : Tree) (x : CoordType × Dimension) → Inferred t x.0 x.1 → (c b : CoordType) (d e : Dimension) → Some x ≡ Some (c, d) → Leaf t b e → (c ≡ b) × (d ≡ e)
agrees t x h c b d e is leaf = inferred_as_read t c b d e (subst (λ y. Inferred t y.0 y.1) (same_Some x (c, d) is) h) leaf
