-- What is written is read as the same.
use Rattle.std.proofs.Common.{◌≡◌, ℕ, ◌<◌, ◌^◌, ℤ, pos, negsuc, Bool, true, false, cond}
use Rattle.std.proofs.Common.{◌&&◌, inl, inr, List, [], ◌∷◌, ◌++◌, length, codes, Option, Some}
use Rattle.std.proofs.Common.{None, option_map, decimal, refl, sym, ap}
use Rattle.std.proofs.Common.{subst, ◌∙◌, eqb, ltb, arith, lit≤, if◌then◌else◌}
use Rattle.std.specs.Fmt.{signed_decimal}
use Rattle.std.proofs.lemmas.Bool.{cases_eq, ne_eqb, eqb-true, ltb-true, and_parts}
use Rattle.std.proofs.lemmas.Option.{cond_some, same_Some, none-some}
use Rattle.arrow_values.specs.Tree.{Text}
use Rattle.arrow_values.specs.declared.tree.DataType.{DataType}
use Rattle.arrow_values.specs.declared.tree.DataType.TheVariants.{Null, Boolean, Int8, Int16, Int32}
use Rattle.arrow_values.specs.declared.tree.DataType.TheVariants.{Int64, UInt8, UInt16, UInt32}
use Rattle.arrow_values.specs.declared.tree.DataType.TheVariants.{UInt64, Float16, Float32, Float64}
use Rattle.arrow_values.specs.declared.tree.DataType.TheVariants.{Date32, Date64, Binary}
use Rattle.arrow_values.specs.declared.tree.DataType.TheVariants.{LargeBinary, BinaryView, Utf8}
use Rattle.arrow_values.specs.declared.tree.DataType.TheVariants.{LargeUtf8, Utf8View}
use Rattle.arrow_values.specs.declared.tree.UnionMode.{UnionMode}
use Rattle.arrow_values.specs.declared.tree.UnionMode.TheVariants.{Sparse, Dense}
use Rattle.arrow_columns.specs.declared.nested.ListForm.TheVariants.{Small, Large, Fixed}
use Rattle.arrow_kinds.specs.declared.kind.Named as named
use Rattle.arrow_kinds.specs.declared.kind.Named.TheVariants.{Decimal, Time, Timestamp, Duration}
use Rattle.arrow_kinds.specs.declared.kind.Named.TheVariants.{Interval, FixedSizeBinary}
use Rattle.arrow_kinds.specs.declared.kind.Kind.{Kind}
use Rattle.arrow_kinds.specs.declared.kind.Kind.TheVariants.{Plain, Named, List as ListOf, Struct}
use Rattle.arrow_kinds.specs.declared.kind.Kind.TheVariants.{Union, Map, RunEndEncoded, ListView}
use Rattle.arrow_kinds.specs.declared.kind.Kind.TheVariants.{LargeListView}
use Rattle.format_strings.specs.Numbers.{is_byte, are_ids, ids_text}
use Rattle.format_strings.specs.Numbers.{cut}
use Rattle.format_strings.specs.Formats.{data_word, with_unit, interval_word, word_of, with_size}
use Rattle.format_strings.specs.Formats.{decimal_text, wide_text, are_places, decimal_format}
use Rattle.format_strings.specs.Formats.{with_zone, union_front, with_ids, Said, alone}
use Rattle.format_strings.specs.Formats.{format_by, format_of, wide_by, IsFormat}
use Rattle.format_strings.specs.Reading.{word_kind, places_in, decimal_by, decimal_in, bare, zoned}
use Rattle.format_strings.specs.Reading.{with_ids_of, said_behind, said_in}
use Rattle.format_strings.proofs.Parsed.{cut_at, cut_none}
use Rattle.format_strings.proofs.Written.{number_of_decimal, byte_of, small_byte, no_such, no_comma}
use Rattle.format_strings.proofs.Written.{ids_of_text}

-- ---- words
found : (t w : Text) (k : Kind) → word_of k ≡ Some w → word_kind w ≡ Some k → word_of k ≡ Some t
    → word_kind t ≡ Some k
found t w k is read e = subst (λ (x : Text). word_kind x ≡ Some k) (same_Some w t (sym is ∙ e)) read

data_read : (d : DataType) (t : Text) → data_word d ≡ Some t → word_kind t ≡ Some (Plain d)
unfolding word_kind
data_read Null t e = found t (codes "n") (Plain Null) refl refl e
data_read Boolean t e = found t (codes "b") (Plain Boolean) refl refl e
data_read Int8 t e = found t (codes "c") (Plain Int8) refl refl e
data_read UInt8 t e = found t (codes "C") (Plain UInt8) refl refl e
data_read Int16 t e = found t (codes "s") (Plain Int16) refl refl e
data_read UInt16 t e = found t (codes "S") (Plain UInt16) refl refl e
data_read Int32 t e = found t (codes "i") (Plain Int32) refl refl e
data_read UInt32 t e = found t (codes "I") (Plain UInt32) refl refl e
data_read Int64 t e = found t (codes "l") (Plain Int64) refl refl e
data_read UInt64 t e = found t (codes "L") (Plain UInt64) refl refl e
data_read Float16 t e = found t (codes "e") (Plain Float16) refl refl e
data_read Float32 t e = found t (codes "f") (Plain Float32) refl refl e
data_read Float64 t e = found t (codes "g") (Plain Float64) refl refl e
data_read Binary t e = found t (codes "z") (Plain Binary) refl refl e
data_read LargeBinary t e = found t (codes "Z") (Plain LargeBinary) refl refl e
data_read BinaryView t e = found t (codes "vz") (Plain BinaryView) refl refl e
data_read Utf8 t e = found t (codes "u") (Plain Utf8) refl refl e
data_read LargeUtf8 t e = found t (codes "U") (Plain LargeUtf8) refl refl e
data_read Utf8View t e = found t (codes "vu") (Plain Utf8View) refl refl e
data_read Date32 t e = found t (codes "tdD") (Plain Date32) refl refl e
data_read Date64 t e = found t (codes "tdm") (Plain Date64) refl refl e
data_read _ t e = absurd (none-some t e)

-- a fact of each unit is one of a unit that has a letter
pub units : (P : ℕ → Text → Type 0) (front : Text) → P 0 (front ++ codes "s")
    → P 1 (front ++ codes "m") → P 2 (front ++ codes "u") → P 3 (front ++ codes "n")
    → (unit : ℕ) (t : Text)
    → with_unit front unit ≡ Some t → P unit t
units P front a b c d unit t e = elim (cases_eq unit 0) [
  | inl z ↦ (let f : with_unit front 0 ≡ Some t = subst (λ (n : ℕ). with_unit front n ≡ Some t) z e
      in
      subst (λ (n : ℕ). P n t) (sym z) (subst (P 0) (same_Some (front ++ codes "s") t f) a))
  | inr n0 ↦ elim (cases_eq unit 1) [
    | inl z ↦ (let f : with_unit front 1 ≡ Some t =
        subst (λ (n : ℕ). with_unit front n ≡ Some t) z e in
        subst (λ (n : ℕ). P n t) (sym z) (subst (P 1) (same_Some (front ++ codes "m") t f) b))
    | inr n1 ↦ elim (cases_eq unit 2) [
      | inl z ↦ (let f : with_unit front 2 ≡ Some t =
          subst (λ (n : ℕ). with_unit front n ≡ Some t) z e in
          subst (λ (n : ℕ). P n t) (sym z) (subst (P 2) (same_Some (front ++ codes "u") t f) c))
      | inr n2 ↦ elim (cases_eq unit 3) [
        | inl z ↦ (let f : with_unit front 3 ≡ Some t =
            subst (λ (n : ℕ). with_unit front n ≡ Some t) z e in
            subst (λ (n : ℕ). P n t) (sym z) (subst (P 3) (same_Some (front ++ codes "n") t f) d))
        | inr n3 ↦ absurd (none-some t
            (rw (ne_eqb unit 0 n0, ne_eqb unit 1 n1, ne_eqb unit 2 n2, ne_eqb unit 3 n3) at e))
      ]
    ]
  ]
]

pub intervals : (P : ℕ → Text → Type 0) → P 0 (codes "tiM") → P 1 (codes "tiD") → P 2 (codes "tin")
    → (unit : ℕ) (t : Text) → interval_word unit ≡ Some t → P unit t
intervals P a b c unit t e = elim (cases_eq unit 0) [
  | inl z ↦ (let f : interval_word 0 ≡ Some t = subst (λ (n : ℕ). interval_word n ≡ Some t) z e in
      subst (λ (n : ℕ). P n t) (sym z) (subst (P 0) (same_Some (codes "tiM") t f) a))
  | inr n0 ↦ elim (cases_eq unit 1) [
    | inl z ↦ (let f : interval_word 1 ≡ Some t = subst (λ (n : ℕ). interval_word n ≡ Some t) z e in
        subst (λ (n : ℕ). P n t) (sym z) (subst (P 1) (same_Some (codes "tiD") t f) b))
    | inr n1 ↦ elim (cases_eq unit 2) [
      | inl z ↦ (let f : interval_word 2 ≡ Some t = subst (λ (n : ℕ). interval_word n ≡ Some t) z e
          in
          subst (λ (n : ℕ). P n t) (sym z) (subst (P 2) (same_Some (codes "tin") t f) c))
      | inr n2 ↦ absurd (none-some t
          (rw (ne_eqb unit 0 n0, ne_eqb unit 1 n1, ne_eqb unit 2 n2) at e))
    ]
  ]
]

named_read : (n : named.Named) (t : Text) → word_of (Named n) ≡ Some t
    → word_kind t ≡ Some (Named n)
unfolding word_kind
named_read (Time unit) t e =
    units (λ u x. word_kind x ≡ Some (Named (Time u))) (codes "tt") refl refl refl refl unit t e
named_read (Duration unit) t e =
    units (λ u x. word_kind x ≡ Some (Named (Duration u))) (codes "tD") refl refl refl refl unit t e
named_read (Interval unit) t e =
    intervals (λ u x. word_kind x ≡ Some (Named (Interval u))) refl refl refl unit t e
named_read (Decimal w p s) t e = absurd (none-some t e)
named_read (Timestamp unit) t e = absurd (none-some t e)
named_read (FixedSizeBinary size) t e = absurd (none-some t e)

word_read : (k : Kind) (t : Text) → word_of k ≡ Some t → word_kind t ≡ Some k
unfolding word_kind
word_read (Plain d) t e = data_read d t e
word_read (Named n) t e = named_read n t e
word_read (ListOf Small) t e = found t (codes "+l") (ListOf Small) refl refl e
word_read (ListOf Large) t e = found t (codes "+L") (ListOf Large) refl refl e
word_read (ListOf (Fixed size)) t e = absurd (none-some t e)
word_read ListView t e = found t (codes "+vl") ListView refl refl e
word_read LargeListView t e = found t (codes "+vL") LargeListView refl refl e
word_read Struct t e = found t (codes "+s") Struct refl refl e
word_read Map t e = found t (codes "+m") Map refl refl e
word_read RunEndEncoded t e = found t (codes "+r") RunEndEncoded refl refl e
word_read (Union mode) t e = absurd (none-some t e)

said_word : (k : Kind) (t : Text) → word_of k ≡ Some t → said_in t ≡ Some (bare k)
unfolding said_in
said_word k t e = rw (word_read k t e) refl

-- ---- parameters: what stands behind the first colon
module _ (x : Text) where
  at_d : said_in (codes "d:" ++ x) ≡ said_behind (codes "d") x
  unfolding said_in word_kind cut
  at_d = refl

  at_w : said_in (codes "w:" ++ x) ≡ said_behind (codes "w") x
  unfolding said_in word_kind cut
  at_w = refl

  at_list : said_in (codes "+w:" ++ x) ≡ said_behind (codes "+w") x
  unfolding said_in word_kind cut
  at_list = refl

  at_dense : said_in (codes "+ud:" ++ x) ≡ said_behind (codes "+ud") x
  unfolding said_in word_kind cut
  at_dense = refl

  at_sparse : said_in (codes "+us:" ++ x) ≡ said_behind (codes "+us") x
  unfolding said_in word_kind cut
  at_sparse = refl

-- a size
binary_read : (n : ℕ) → n < 2 ^ 31
    → said_in (codes "w:" ++ decimal n) ≡ Some (bare (Named (FixedSizeBinary (pos n))))
unfolding said_behind
binary_read n h = at_w (decimal n) ∙ rw (number_of_decimal (2 ^ 31) n (lit≤ tt) h) refl

list_read : (n : ℕ) → n < 2 ^ 31
    → said_in (codes "+w:" ++ decimal n) ≡ Some (bare (ListOf (Fixed (pos n))))
unfolding said_behind
list_read n h = at_list (decimal n) ∙ rw (number_of_decimal (2 ^ 31) n (lit≤ tt) h) refl

sized : (front : Text) (K : ℤ → Kind)
    → ((n : ℕ) → n < 2 ^ 31 → said_in (front ++ decimal n) ≡ Some (bare (K (pos n))))
    → (z : ℤ) (t : Text) → with_size front z ≡ Some t → said_in t ≡ Some (bare (K z))
sized front K read (pos n) t e =
    let s = cond_some (ltb n (2 ^ 31)) (front ++ decimal n) t e in
    rw (← s.1) (read n (ltb-true n (2 ^ 31) s.0))
sized front K read (negsuc n) t e = absurd (none-some t e)

-- a decimal
pub places_read : (width p : ℕ) (s : ℤ) → p < 128 → is_byte s ≡ true
    → places_in (decimal p) (signed_decimal s) width ≡ Some (Decimal width p s)
places_read width p s low byte = rw (number_of_decimal 128 p (lit≤ tt) low, byte_of s byte) refl

narrow_read : (p : ℕ) (s : ℤ) → p < 128 → is_byte s ≡ true
    → decimal_in (decimal p ++ (44 ∷ signed_decimal s)) ≡ Some (Decimal 128 p s)
unfolding decimal_in
narrow_read p s low byte =
    rw (
      cut_at 44 (decimal p) (signed_decimal s)
          (no_such 44 p (small_byte p (omega arith)) (omega arith)),
      cut_none 44 (signed_decimal s)
          (no_comma s byte),
    ) (places_read 128 p s low byte)

wide_read : (p : ℕ) (s : ℤ) (w : Text) → p < 128 → is_byte s ≡ true
    → decimal_in (decimal p ++ (44 ∷ (signed_decimal s ++ (44 ∷ w)))) ≡ decimal_by (decimal p)
    (signed_decimal s) w
unfolding decimal_in
wide_read p s w low byte =
    rw (
      cut_at 44 (decimal p) (signed_decimal s ++ (44 ∷ w))
          (no_such 44 p (small_byte p (omega arith)) (omega arith)),
      cut_at 44 (signed_decimal s) w
          (no_comma s byte),
    ) refl

said_decimal : (x : Text) (n : named.Named) → decimal_in x ≡ Some n
    → said_in (codes "d:" ++ x) ≡ Some (bare (Named n))
unfolding said_behind
said_decimal x n e = at_d x ∙ rw e refl

decimal_read : (width p : ℕ) (s : ℤ) (t : Text) → p < 128 → is_byte s ≡ true
    → (if eqb width 128 then Some (decimal_text p s) else if eqb width 32 then
    Some (wide_text p s (codes "32")) else if eqb width 64 then
    Some (wide_text p s (codes "64")) else if eqb width 256 then
    Some (wide_text p s (codes "256")) else None) ≡ Some t
    → said_in t ≡ Some (bare (Named (Decimal width p s)))
decimal_read width p s t low byte e = elim (cases_eq width 128) [
  | inl z ↦ (let f = rw z at e in
      subst (λ (x : Text). said_in x ≡ Some (bare (Named (Decimal width p s))))
      (same_Some (decimal_text p s) t f) (rw z (said_decimal _ _ (narrow_read p s low byte))))
  | inr n0 ↦ elim (cases_eq width 32) [
    | inl z ↦ (let f = rw z at e in
        subst (λ (x : Text). said_in x ≡ Some (bare (Named (Decimal width p s))))
        (same_Some (wide_text p s (codes "32")) t f)
        (rw z (said_decimal _ _ (wide_read p s (codes "32") low byte
        ∙ places_read 32 p s low byte))))
    | inr n1 ↦ elim (cases_eq width 64) [
      | inl z ↦ (let f = rw z at e in
          subst (λ (x : Text). said_in x ≡ Some (bare (Named (Decimal width p s))))
          (same_Some (wide_text p s (codes "64")) t f)
          (rw z (said_decimal _ _ (wide_read p s (codes "64") low byte
          ∙ places_read 64 p s low byte))))
      | inr n2 ↦ elim (cases_eq width 256) [
        | inl z ↦ (let f = rw z at e in
            subst (λ (x : Text). said_in x ≡ Some (bare (Named (Decimal width p s))))
            (same_Some (wide_text p s (codes "256")) t f)
            (rw z (said_decimal _ _ (wide_read p s (codes "256") low byte
            ∙ places_read 256 p s low byte))))
        | inr n3 ↦ absurd (none-some t
            (rw (ne_eqb width 128 n0, ne_eqb width 32 n1, ne_eqb width 64 n2, ne_eqb width 256 n3)
            at e))
      ]
    ]
  ]
]

-- a choice that is made
pub picked : {A : Type 0} (b : Bool) (o : Option A) (x : A) → cond b o None ≡ Some x → (b ≡ true)
    × (o ≡ Some x)
picked true o x e = (refl, e)
picked false o x e = absurd (none-some x e)

pub mapped : {A B : Type 0} (f : A → B) (o : Option A) (y : B) → option_map f o ≡ Some y → (x : A)
    × (o ≡ Some x) × (f x ≡ y)
mapped f None y e = absurd (none-some y e)
mapped f (Some x) y e = (x, refl, same_Some (f x) y e)

pub are_two : (p : ℕ) (s : ℤ) → are_places p s ≡ true → (p < 128) × (is_byte s ≡ true)
are_two p s h = let q = and_parts (ltb p 128) (is_byte s) h in (ltb-true p 128 q.0, q.1)

decimals : (width p : ℕ) (s : ℤ) (t : Text) → decimal_format width p s ≡ Some t
    → said_in t ≡ Some (bare (Named (Decimal width p s)))
decimals width p s t e = let c = picked (are_places p s) _ t e in let q = are_two p s c.0 in
    decimal_read width p s t q.0 q.1 c.1

-- a timestamp
stamps : (zone : Text) (unit : ℕ) (t : Text) → with_zone zone (with_unit (codes "ts") unit) ≡ Some t
    → said_in t ≡ Some (zoned zone (Named (Timestamp unit)))
unfolding said_in word_kind cut said_behind
stamps zone unit t e =
    let m = mapped (λ f. f ++ (codes ":" ++ zone)) (with_unit (codes "ts") unit) t e in
    subst (λ (x : Text). said_in x ≡ Some (zoned zone (Named (Timestamp unit)))) m.2
    (units (λ u x. said_in (x ++ (codes ":" ++ zone)) ≡ Some (zoned zone (Named (Timestamp u))))
    (codes "ts") refl refl refl refl unit m.0 m.1)

-- a union
union_read : (mode : UnionMode) (ids : List ℤ) → are_ids [] ids ≡ true
    → said_in (union_front mode ++ ids_text ids) ≡ Some (with_ids_of (Union mode) ids)
unfolding said_behind
union_read Dense ids h = at_dense (ids_text ids) ∙ rw (ids_of_text ids h) refl
union_read Sparse ids h = at_sparse (ids_text ids) ∙ rw (ids_of_text ids h) refl

unions : (mode : UnionMode) (ids : List ℤ) (t : Text) → with_ids ids (union_front mode) ≡ Some t
    → said_in t ≡ Some (with_ids_of (Union mode) ids)
unions mode ids t e = let s = cond_some (are_ids [] ids) (union_front mode ++ ids_text ids) t e in
    rw (← s.1) (union_read mode ids s.0)

-- ---- a time zone, or type ids, only where there can be
no_length : {A : Type 0} (xs : List A) → eqb (length xs) 0 ≡ true → xs ≡ []
no_length [] h = refl
no_length (x ∷ xs) h = absurd (omega (arith, eqb-true (length (x ∷ xs)) 0 h))

pub alone_is : (zone : Text) (ids : List ℤ) (w : Option Text) (t : Text) → alone zone ids w ≡ Some t
    → (zone ≡ []) × (ids ≡ []) × (w ≡ Some t)
alone_is zone ids w t e =
    let a = picked (eqb (length zone) 0) (cond (eqb (length ids) 0) w None) t e in
    let b = picked (eqb (length ids) 0) w t a.1 in
    (no_length zone a.0, no_length ids b.0, b.1)

abbrev made : Kind → Text → List ℤ → Said
made k zone ids = record { kind = k; zone = zone; ids = ids }

only : (k : Kind) (zone : Text) (ids : List ℤ) (t : Text) (w : Option Text)
    → alone zone ids w ≡ Some t → (w ≡ Some t → said_in t ≡ Some (bare k))
    → said_in t ≡ Some (made k zone ids)
only k zone ids t w e f = let a = alone_is zone ids w t e in f a.2
    ∙ ap (λ z. Some (made k z [])) (sym a.0) ∙ ap (λ i. Some (made k zone i)) (sym a.1)

by_kind : (k : Kind) (zone : Text) (ids : List ℤ) (t : Text) → format_by k zone ids ≡ Some t
    → said_in t ≡ Some (made k zone ids)
by_kind (Named (Timestamp unit)) zone ids t e = let a = alone_is [] ids _ t e in
    stamps zone unit t a.2 ∙ ap (λ i. Some (made (Named (Timestamp unit)) zone i)) (sym a.1)
by_kind (Named (Decimal w p s)) zone ids t e =
    only (Named (Decimal w p s)) zone ids t (decimal_format w p s) e (decimals w p s t)
by_kind (Named (FixedSizeBinary z)) zone ids t e =
    only (Named (FixedSizeBinary z)) zone ids t (with_size (codes "w:") z) e
    (sized (codes "w:") (λ n. Named (FixedSizeBinary n)) binary_read z t)
by_kind (Named (Time u)) zone ids t e =
    only (Named (Time u)) zone ids t (word_of (Named (Time u))) e (said_word (Named (Time u)) t)
by_kind (Named (Duration u)) zone ids t e =
    only (Named (Duration u)) zone ids t (word_of (Named (Duration u))) e
    (said_word (Named (Duration u)) t)
by_kind (Named (Interval u)) zone ids t e =
    only (Named (Interval u)) zone ids t (word_of (Named (Interval u))) e
    (said_word (Named (Interval u)) t)
by_kind (ListOf (Fixed z)) zone ids t e =
    only (ListOf (Fixed z)) zone ids t (with_size (codes "+w:") z) e
    (sized (codes "+w:") (λ n. ListOf (Fixed n)) list_read z t)
by_kind (ListOf Small) zone ids t e =
    only (ListOf Small) zone ids t (word_of (ListOf Small)) e (said_word (ListOf Small) t)
by_kind (ListOf Large) zone ids t e =
    only (ListOf Large) zone ids t (word_of (ListOf Large)) e (said_word (ListOf Large) t)
by_kind (Union mode) zone ids t e = let a = alone_is zone [] _ t e in unions mode ids t a.2
    ∙ ap (λ z. Some (made (Union mode) z ids)) (sym a.0)
by_kind (Plain d) zone ids t e =
    only (Plain d) zone ids t (word_of (Plain d)) e (said_word (Plain d) t)
by_kind Struct zone ids t e = only Struct zone ids t (word_of Struct) e (said_word Struct t)
by_kind Map zone ids t e = only Map zone ids t (word_of Map) e (said_word Map t)
by_kind RunEndEncoded zone ids t e =
    only RunEndEncoded zone ids t (word_of RunEndEncoded) e (said_word RunEndEncoded t)
by_kind ListView zone ids t e = only ListView zone ids t (word_of ListView) e (said_word ListView t)
by_kind LargeListView zone ids t e =
    only LargeListView zone ids t (word_of LargeListView) e (said_word LargeListView t)

pub written_is_read : (s : Said) (text : Text) → format_of s ≡ Some text → said_in text ≡ Some s
written_is_read s text e = by_kind s.kind s.zone s.ids text e

-- the other text of a decimal of 128 bits
wide_kind : (k : Kind) (t : Text) → wide_by k ≡ Some t → said_in t ≡ Some (bare k)
wide_kind (Named (Decimal width p s)) t e =
    let c = cond_some (are_places p s && eqb width 128) (wide_text p s (codes "128")) t e in
    let b = and_parts (are_places p s) (eqb width 128) c.0 in
    let q = are_two p s b.0 in
    let z : width ≡ 128 = eqb-true width 128 b.1 in
    subst (λ (x : Text). said_in x ≡ Some (bare (Named (Decimal width p s)))) c.1
    (rw z (said_decimal _ _ (wide_read p s (codes "128") q.0 q.1
    ∙ places_read 128 p s q.0 q.1)))
wide_kind _ t e = absurd (none-some t e)

pub format_is_read : (text : Text) (s : Said) → IsFormat text s → said_in text ≡ Some s
format_is_read text s (inl e) = written_is_read s text e
format_is_read text s (inr e) =
    only s.kind s.zone s.ids text (wide_by s.kind) e (wide_kind s.kind text)
