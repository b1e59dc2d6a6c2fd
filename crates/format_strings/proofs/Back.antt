-- Only format strings are read, each as what it says.
use Rattle.std.proofs.Common.{◌≡◌, ℕ, ◌<◌, ◌^◌, ℤ, pos, Bool, true, false, cond}
use Rattle.std.proofs.Common.{◌⊎◌, inl, inr, List, [], ◌∷◌, ◌++◌, codes, find, Option}
use Rattle.std.proofs.Common.{Some, None, option_map, option_and_then, unwrap_or, bytes_eq, decimal}
use Rattle.std.proofs.Common.{refl, sym, ap, subst, ◌∙◌, eqb, lit≤}
use Rattle.std.specs.Fmt.{signed_decimal}
use Rattle.std.proofs.lemmas.Bool.{cases_Bool, eqb-true, lt-ltb, true≢false}
use Rattle.std.proofs.lemmas.Option.{same_Some, none-some}
use Rattle.std.proofs.lemmas.Slice.Eq.{bytes_eq-Decides}
use Rattle.arrow_values.specs.Tree.{Text}
use Rattle.arrow_values.specs.declared.tree.UnionMode.{UnionMode}
use Rattle.arrow_values.specs.declared.tree.UnionMode.TheVariants.{Sparse, Dense}
use Rattle.arrow_columns.specs.declared.nested.ListForm.TheVariants.{Small, Large, Fixed}
use Rattle.arrow_kinds.specs.declared.kind.Named as named
use Rattle.arrow_kinds.specs.declared.kind.Named.TheVariants.{Decimal, Time, Timestamp, Duration}
use Rattle.arrow_kinds.specs.declared.kind.Named.TheVariants.{Interval, FixedSizeBinary}
use Rattle.arrow_kinds.specs.declared.kind.Kind.{Kind}
use Rattle.arrow_kinds.specs.declared.kind.Kind.TheVariants.{Plain, Named, List as ListOf, Struct}
use Rattle.arrow_kinds.specs.declared.kind.Kind.TheVariants.{Union, Map, RunEndEncoded, ListView}
use Rattle.arrow_kinds.specs.declared.kind.Kind.TheVariants.{LargeListView}
use Rattle.format_strings.specs.Numbers.{is_byte, are_ids, ids_text, number_in, byte_in, cut}
use Rattle.format_strings.specs.Numbers.{ids_in}
use Rattle.format_strings.specs.Formats.{word_of, decimal_text, wide_text, are_places}
use Rattle.format_strings.specs.Formats.{union_front, Said}
use Rattle.format_strings.specs.Formats.{format_by, IsFormat}
use Rattle.format_strings.specs.Reading.{plain_kinds, timed_kinds, nested_kinds, is_word, or_else}
use Rattle.format_strings.specs.Reading.{word_kind, places_in, decimal_by, decimal_in, size_in}
use Rattle.format_strings.specs.Reading.{sized_kind, timestamp_kind, union_kind, bare, zoned}
use Rattle.format_strings.specs.Reading.{with_ids_of, union_said, said_behind, said_by, said_in}
use Rattle.format_strings.proofs.Written.{decimal_of_number, byte_text, text_of_ids}
use Rattle.format_strings.proofs.Forth.{mapped}

-- ---- choices that were made
pub either : {A : Type 0} (o p : Option A) (x : A) → or_else o p ≡ Some x
    → (o ≡ Some x) ⊎ (p ≡ Some x)
either None p x e = inr e
either (Some y) p x e = inl e

pub bound : {A B : Type 0} (f : A → Option B) (o : Option A) (y : B) → option_and_then f o ≡ Some y
    → (x : A) × (o ≡ Some x) × (f x ≡ Some y)
bound f None y e = absurd (none-some y e)
bound f (Some x) y e = (x, refl, e)

pub chosen : {A : Type 0} (b : Bool) (o p : Option A) (x : A) → cond b o p ≡ Some x
    → ((b ≡ true) × (o ≡ Some x)) ⊎ (p ≡ Some x)
chosen true o p x e = inl (refl, e)
chosen false o p x e = inr e

passes : {A : Type 0} (test : A → Bool) (xs : List A) (x : A) → find test xs ≡ Some x
    → test x ≡ true
passes {A} test [] x e = absurd (none-some x e)
passes {A} test (y ∷ ys) x e = elim (cases_Bool (test y)) [
  | inl is ↦ (let same : y ≡ x = same_Some y x (rw is at e) in
      subst (λ (z : A). test z ≡ true) same is)
  | inr other ↦ passes test ys x (rw other at e)
]

pub same_text : (t w : Text) → bytes_eq t w ≡ true → t ≡ w
same_text t w h = (bytes_eq-Decides t w).0 h

-- ---- words
is_word_of : (t : Text) (k : Kind) (o : Option Text) → word_of k ≡ o → is_word t k ≡ true
    → word_of k ≡ Some t
is_word_of t k None w h = absurd (true≢false (sym h ∙ rw w refl))
is_word_of t k (Some x) w h = w ∙ ap Some (sym (same_text t x (rw w at h)))

word_text : (t : Text) (k : Kind) → word_kind t ≡ Some k → word_of k ≡ Some t
unfolding word_kind
word_text t k e = elim
    (either (find (is_word t) plain_kinds)
    (or_else (find (is_word t) timed_kinds) (find (is_word t) nested_kinds)) k e) [
      | inl f ↦ is_word_of t k (word_of k) refl (passes (is_word t) plain_kinds k f)
      | inr more ↦ elim (either (find (is_word t) timed_kinds) (find (is_word t) nested_kinds) k
          more) [
            | inl f ↦ is_word_of t k (word_of k) refl (passes (is_word t) timed_kinds k f)
            | inr f ↦ is_word_of t k (word_of k) refl (passes (is_word t) nested_kinds k f)
          ]
    ]

word_format : (k : Kind) (t : Text) → word_of k ≡ Some t → format_by k [] [] ≡ Some t
word_format (Plain d) t e = e
word_format (Named (Time u)) t e = e
word_format (Named (Duration u)) t e = e
word_format (Named (Interval u)) t e = e
word_format (Named (Decimal w p s)) t e = absurd (none-some t e)
word_format (Named (Timestamp u)) t e = absurd (none-some t e)
word_format (Named (FixedSizeBinary z)) t e = absurd (none-some t e)
word_format (ListOf Small) t e = e
word_format (ListOf Large) t e = e
word_format (ListOf (Fixed z)) t e = absurd (none-some t e)
word_format Struct t e = e
word_format (Union mode) t e = absurd (none-some t e)
word_format Map t e = e
word_format RunEndEncoded t e = e
word_format ListView t e = e
word_format LargeListView t e = e

-- ---- parameters
-- what stands around the first such byte
pub parts : (c : ℕ) (t : Text) (p : Text × Text) → cut c t ≡ Some p → t ≡ p.0 ++ (c ∷ p.1)
unfolding cut
parts c [] p e = absurd (none-some p e)
parts c (b ∷ t) p e =
    elim (chosen (eqb b c) (Some ([], t)) (option_map (λ q. (b ∷ q.0, q.1)) (cut c t)) p e) [
      | inl h ↦ (let here = same_Some ([], t) p h.1 in
          rw (← here) (ap (λ x. x ∷ t) (eqb-true b c h.0)))
      | inr more ↦ (let m = mapped (λ q. (b ∷ q.0, q.1)) (cut c t) p more in
          rw (← m.2) (ap (λ x. b ∷ x) (parts c t m.0 m.1)))
    ]

-- a text with its first colon, and what it says
abbrev Says : Text → Text → Said → Type 0
Says front text s = IsFormat (front ++ (58 ∷ text)) s

at_front : (front word text : Text) (s : Said) → bytes_eq front word ≡ true → Says word text s
    → Says front text s
at_front front word text s h is =
    subst (λ (f : Text). Says f text s) (sym (same_text front word h)) is

size_says : (front text : Text) (K : ℤ → Kind)
    → ((n : ℕ) → n < 2 ^ 31 → Says front (decimal n) (bare (K (pos n)))) → (k : Kind)
    → option_map (λ n. K (pos n)) (size_in text) ≡ Some k → Says front text (bare k)
size_says front text K is k e =
    let m = mapped (λ n. K (pos n)) (size_in text) k e in
    let d = decimal_of_number (2 ^ 31) m.0 text (lit≤ tt) m.1 in
    subst (λ (x : Kind). Says front text (bare x)) m.2
    (subst (λ (t : Text). Says front t (bare (K (pos m.0)))) (sym d.0) (is m.0 d.1))

binary_says : (n : ℕ) → n < 2 ^ 31
    → Says (codes "w") (decimal n) (bare (Named (FixedSizeBinary (pos n))))
binary_says n h = inl (rw (lt-ltb n (2 ^ 31) h) refl)

list_says : (n : ℕ) → n < 2 ^ 31 → Says (codes "+w") (decimal n) (bare (ListOf (Fixed (pos n))))
list_says n h = inl (rw (lt-ltb n (2 ^ 31) h) refl)

-- a decimal
pub record IsPlaces (precision scale : Text) (width : ℕ) (n : named.Named) : Type 0 where
  pub p : ℕ
  pub s : ℤ
  pub low : p < 128
  pub byte : is_byte s ≡ true
  pub is_precision : precision ≡ decimal p
  pub is_scale : scale ≡ signed_decimal s
  pub is : n ≡ Decimal width p s

pub places_are : (precision scale : Text) (width : ℕ) (n : named.Named)
    → places_in precision scale width ≡ Some n → IsPlaces precision scale width n
places_are precision scale width n e =
    let b = bound (λ p. option_map (Decimal width p) (byte_in scale)) (number_in 128 precision) n e
    in
    let d = decimal_of_number 128 b.0 precision (lit≤ tt) b.1 in
    let m = mapped (Decimal width b.0) (byte_in scale) n b.2 in
    let y = byte_text m.0 scale m.1 in
    record {
      p = b.0;
      s = m.0;
      low = d.1;
      byte = y.1;
      is_precision = d.0;
      is_scale = y.0;
      is =
          sym m.2;
    }

pub are : (p : ℕ) (s : ℤ) → p < 128 → is_byte s ≡ true → are_places p s ≡ true
are p s low byte = rw (lt-ltb p 128 low, byte) refl

narrow_says : (p : ℕ) (s : ℤ) → are_places p s ≡ true
    → IsFormat (decimal_text p s) (bare (Named (Decimal 128 p s)))
narrow_says p s a = inl (rw a refl)

says_128 : (p : ℕ) (s : ℤ) → are_places p s ≡ true
    → IsFormat (wide_text p s (codes "128")) (bare (Named (Decimal 128 p s)))
says_128 p s a = inr (rw a refl)

says_32 : (p : ℕ) (s : ℤ) → are_places p s ≡ true
    → IsFormat (wide_text p s (codes "32")) (bare (Named (Decimal 32 p s)))
says_32 p s a = inl (rw a refl)

says_64 : (p : ℕ) (s : ℤ) → are_places p s ≡ true
    → IsFormat (wide_text p s (codes "64")) (bare (Named (Decimal 64 p s)))
says_64 p s a = inl (rw a refl)

says_256 : (p : ℕ) (s : ℤ) → are_places p s ≡ true
    → IsFormat (wide_text p s (codes "256")) (bare (Named (Decimal 256 p s)))
says_256 p s a = inl (rw a refl)

-- the same of the texts of the numbers
abbrev Narrow : Text → Text → named.Named → Type 0
Narrow precision scale n = Says (codes "d") (precision ++ (44 ∷ scale)) (bare (Named n))

abbrev Wide : Text → Text → Text → named.Named → Type 0
Wide precision scale width n =
    Says (codes "d") (precision ++ (44 ∷ (scale ++ (44 ∷ width)))) (bare (Named n))

narrow_made : (precision scale : Text) (n : named.Named) (p : ℕ) (s : ℤ) → precision ≡ decimal p
    → scale ≡ signed_decimal s → n ≡ Decimal 128 p s → are_places p s ≡ true
    → Narrow precision scale n
narrow_made precision scale n p s is_p is_s is a = rw (is, is_p, is_s) (narrow_says p s a)

narrow : (precision scale : Text) (n : named.Named) → IsPlaces precision scale 128 n
    → Narrow precision scale n
narrow precision scale n h =
    narrow_made precision scale n h.p h.s h.is_precision h.is_scale h.is (are h.p h.s h.low h.byte)

wide_made : (precision scale word : Text) (w : ℕ) (n : named.Named) (p : ℕ) (s : ℤ)
    → precision ≡ decimal p → scale ≡ signed_decimal s → n ≡ Decimal w p s
    → IsFormat (wide_text p s word) (bare (Named (Decimal w p s))) → Wide precision scale word n
wide_made precision scale word w n p s is_p is_s is a = rw (is, is_p, is_s) a

wide : (precision scale width word : Text) (w : ℕ) (n : named.Named)
    → ((p : ℕ) (s : ℤ) → are_places p s ≡ true
    → IsFormat (wide_text p s word) (bare (Named (Decimal w p s)))) → (bytes_eq width word ≡ true)
    × (places_in precision scale w ≡ Some n) → Wide precision scale width n
wide precision scale width word w n says h =
    let q = places_are precision scale w n h.1 in
    subst (λ (x : Text). Wide precision scale x n) (sym (same_text width word h.0))
    (wide_made precision scale word w n q.p q.s q.is_precision q.is_scale q.is
    (says q.p q.s (are q.p q.s q.low q.byte)))

wide_says : (precision scale width : Text) (n : named.Named)
    → decimal_by precision scale width ≡ Some n → Wide precision scale width n
wide_says precision scale width n e =
    elim (chosen (bytes_eq width (codes "128")) (places_in precision scale 128) _ n e) [
      | inl h ↦ wide precision scale width (codes "128") 128 n says_128 h
      | inr f ↦ elim (chosen (bytes_eq width (codes "32")) (places_in precision scale 32) _ n f) [
        | inl h ↦ wide precision scale width (codes "32") 32 n says_32 h
        | inr g ↦ elim (chosen (bytes_eq width (codes "64")) (places_in precision scale 64) _ n g) [
          | inl h ↦ wide precision scale width (codes "64") 64 n says_64 h
          | inr i ↦ elim (chosen (bytes_eq width (codes "256")) (places_in precision scale 256) None
              n
              i) [
                | inl h ↦ wide precision scale width (codes "256") 256 n says_256 h
                | inr j ↦ absurd (none-some n j)
              ]
        ]
      ]
    ]

abbrev Rest : Text → Text → named.Named → Type 0
Rest precision text n = Says (codes "d") (precision ++ (44 ∷ text)) (bare (Named n))

rest_says : (precision text : Text) (n : named.Named) (o : Option (Text × Text)) → cut 44 text ≡ o
    → (let q = unwrap_or o (text, codes "128") in decimal_by precision q.0 q.1) ≡ Some n
    → Rest precision text n
rest_says precision text n (Some p) c e = rw (parts 44 text p c) (wide_says precision p.0 p.1 n e)
rest_says precision text n None c e = narrow precision text n (places_are precision text 128 n e)

decimal_says : (text : Text) (n : named.Named) → decimal_in text ≡ Some n
    → Says (codes "d") text (bare (Named n))
unfolding decimal_in
decimal_says text n e =
    let b = bound (λ p. let q = unwrap_or (cut 44 p.1) (p.1, codes "128") in
    decimal_by p.0 q.0 q.1) (cut 44 text) n e in
    let t : text ≡ b.0.0 ++ (44 ∷ b.0.1) = parts 44 text b.0 b.1 in
    rw t (rest_says b.0.0 b.0.1 n (cut 44 b.0.1) refl b.2)

by_front : (front text : Text) (k : Kind) → sized_kind front text ≡ Some k
    → Says front text (bare k)
by_front front text k e =
    elim (chosen (bytes_eq front (codes "d")) (option_map Named (decimal_in text)) _ k e) [
      | inl h ↦ (let m = mapped Named (decimal_in text) k h.1 in
          at_front front (codes "d") text (bare k) h.0
          (subst (λ (x : Kind). Says (codes "d") text (bare x)) m.2 (decimal_says text m.0 m.1)))
      | inr f ↦ elim (chosen (bytes_eq front (codes "w"))
          (option_map (λ n. Named (FixedSizeBinary (pos n))) (size_in text)) _ k f) [
            | inl h ↦ at_front front (codes "w") text (bare k) h.0
                (size_says (codes "w") text (λ z. Named (FixedSizeBinary z)) binary_says k h.1)
            | inr g ↦ elim (chosen (bytes_eq front (codes "+w"))
                (option_map (λ n. ListOf (Fixed (pos n))) (size_in text)) None k g) [
                  | inl h ↦ at_front front (codes "+w") text (bare k) h.0
                      (size_says (codes "+w") text (λ z. ListOf (Fixed z)) list_says k h.1)
                  | inr i ↦ absurd (none-some k i)
                ]
          ]
    ]

stamp_says : (front text : Text) (k : Kind) → timestamp_kind front ≡ Some k
    → Says front text (zoned text k)
stamp_says front text k e =
    elim (chosen (bytes_eq front (codes "tss")) (Some (Named (Timestamp 0))) _ k e) [
      | inl h ↦ at_front front (codes "tss") text (zoned text k) h.0
          (rw (← same_Some (Named (Timestamp 0)) k h.1) (inl refl))
      | inr f ↦ elim (chosen (bytes_eq front (codes "tsm")) (Some (Named (Timestamp 1))) _ k f) [
        | inl h ↦ at_front front (codes "tsm") text (zoned text k) h.0
            (rw (← same_Some (Named (Timestamp 1)) k h.1) (inl refl))
        | inr g ↦ elim (chosen (bytes_eq front (codes "tsu")) (Some (Named (Timestamp 2))) _ k g) [
          | inl h ↦ at_front front (codes "tsu") text (zoned text k) h.0
              (rw (← same_Some (Named (Timestamp 2)) k h.1) (inl refl))
          | inr i ↦ elim (chosen (bytes_eq front (codes "tsn")) (Some (Named (Timestamp 3))) None k
              i) [
                | inl h ↦ at_front front (codes "tsn") text (zoned text k) h.0
                    (rw (← same_Some (Named (Timestamp 3)) k h.1) (inl refl))
                | inr j ↦ absurd (none-some k j)
              ]
        ]
      ]
    ]

union_made : (mode : UnionMode) (ids : List ℤ) (text : Text) → text ≡ ids_text ids
    → are_ids [] ids ≡ true → IsFormat (union_front mode ++ text) (with_ids_of (Union mode) ids)
union_made mode ids text t h = rw t (inl (rw h refl))

union_says : (front text : Text) (s : Said) (o : Option Kind) → union_kind front ≡ o
    → union_said text o ≡ Some s → Says front text s
union_says front text s None o e = absurd (none-some s e)
union_says front text s (Some k) o e =
    let m = mapped (with_ids_of k) (ids_in text) s e in
    let t = text_of_ids m.0 text m.1 in
    elim (chosen (bytes_eq front (codes "+ud")) (Some (Union Dense)) _ k o) [
      | inl h ↦ at_front front (codes "+ud") text s h.0
          (subst (λ (x : Said). Says (codes "+ud") text x)
          (ap (λ y. with_ids_of y m.0) (same_Some (Union Dense) k h.1)
          ∙ m.2) (union_made Dense m.0 text t.0 t.1))
      | inr f ↦ elim (chosen (bytes_eq front (codes "+us")) (Some (Union Sparse)) None k f) [
        | inl h ↦ at_front front (codes "+us") text s h.0
            (subst (λ (x : Said). Says (codes "+us") text x)
            (ap (λ y. with_ids_of y m.0) (same_Some (Union Sparse) k h.1)
            ∙ m.2) (union_made Sparse m.0 text t.0 t.1))
        | inr j ↦ absurd (none-some k j)
      ]
    ]

behind_says : (front text : Text) (s : Said) → said_behind front text ≡ Some s → Says front text s
unfolding said_behind
behind_says front text s e = elim (either (option_map bare (sized_kind front text)) _ s e) [
  | inl f ↦ (let m = mapped bare (sized_kind front text) s f in
      subst (Says front text) m.2 (by_front front text m.0 m.1))
  | inr more ↦ elim (either (option_map (zoned text) (timestamp_kind front)) _ s more) [
    | inl f ↦ (let m = mapped (zoned text) (timestamp_kind front) s f in
        subst (Says front text) m.2 (stamp_says front text m.0 m.1))
    | inr f ↦ union_says front text s (union_kind front) refl f
  ]
]

by_colon : (text : Text) (s : Said) (o : Option (Text × Text)) → cut 58 text ≡ o
    → said_by o ≡ Some s → IsFormat text s
by_colon text s None c e = absurd (none-some s e)
by_colon text s (Some p) c e = rw (parts 58 text p c) (behind_says p.0 p.1 s e)

pub read_is_format : (text : Text) (s : Said) → said_in text ≡ Some s → IsFormat text s
unfolding said_in
read_is_format text s e =
    elim (either (option_map bare (word_kind text)) (said_by (cut 58 text)) s e) [
      | inl f ↦ (let m = mapped bare (word_kind text) s f in
          subst (IsFormat text) m.2 (inl (word_format m.0 text (word_text text m.0 m.1))))
      | inr f ↦ by_colon text s (cut 58 text) refl f
    ]
