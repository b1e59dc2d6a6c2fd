-- Numbers that are written are read, and what is read is how they are written.
use Rattle.std.proofs.Common.{◌≡◌, ◌≢◌, ℕ, zero, suc, ◌<◌, ◌≤◌, ◌^◌, ℤ, pos, negsuc}
use Rattle.std.proofs.Common.{true, false, not, ◌&&◌, inl, inr, List, [], ◌∷◌, ◌++◌}
use Rattle.std.proofs.Common.{length, get_or, map, Option, Some, None, option_map, option_and_then}
use Rattle.std.proofs.Common.{decimal, refl, sym, ap, subst, ◌∙◌, eqb, ltb, leb, arith, lit<, lit≤}
use Rattle.std.proofs.Common.{le_trans, lt_of_lt_of_le, append_assoc, append-nil, eq-zero-or-pos}
use Rattle.std.proofs.Common.{length-append}
use Rattle.std.specs.Fmt.{signed_decimal}
use Rattle.std.specs.List.{slice_split, join_with_byte, All}
use Rattle.std.specs.Str.{all_ascii_digits}
use Rattle.std.specs.Str.Parse.{digits_value}
use Rattle.std.proofs.lemmas.Bool.{cases_Bool, cases_eq, cases_lt, ne_eqb, eq-eqb}
use Rattle.std.proofs.lemmas.Bool.{ltb-true, lt-ltb}
use Rattle.std.proofs.lemmas.Bool.{leb-true, le-leb, and_parts, and_from, not-true, true≢false}
use Rattle.std.proofs.lemmas.Fmt.{digits_decimal, digits_value-decimal, decimal_digit}
use Rattle.std.proofs.lemmas.Fmt.{decimal_nonempty, first_decimal, decimal-digits_value}
use Rattle.std.proofs.lemmas.List.Elements.{All-from_get_or}
use Rattle.std.proofs.lemmas.List.Splits.{slice_split_none, slice_split_at}
use Rattle.std.proofs.lemmas.List.Splits.{join_with_byte-slice_split}
use Rattle.std.proofs.lemmas.Option.{cond_some, same_Some, none-some}
use Rattle.std.proofs.lemmas.Str.Parse.{not_in_digits}
use Rattle.arrow_values.specs.Tree.{Text}
use Rattle.arrow_values.specs.Union.{has}
use Rattle.format_strings.specs.Numbers.{is_byte, is_id, are_ids, ids_text, leads}
use Rattle.format_strings.specs.Numbers.{number_in, below_zero, byte_by, byte_in, id_to, ids_from}
use Rattle.format_strings.specs.Numbers.{ids_in}
use Rattle.format_strings.proofs.Parsed.{AreDigits, own, not_empty, byte_plain, HasNone}

-- the first digit
is_digit : (c : ℕ) (ds : List ℕ) → AreDigits (c ∷ ds) → (48 ≤ c) × (c ≤ 57)
is_digit c ds d = let p = and_parts _ (all_ascii_digits ds) d in let q =
    and_parts (leb 48 c) (leb c 57) p.0 in (leb-true 48 c q.0, leb-true c 57 q.1)

leads_from : (ds : List ℕ) → AreDigits ds → 0 < length ds → (get_or ds 0 0 ≡ 48 → length ds ≡ 1)
    → leads ds ≡ true
leads_from [] d some one = absurd (omega arith)
leads_from (c ∷ []) d some one = let r = is_digit c [] d in
    and_from _ _ (le-leb 48 c r.0) (le-leb c 57 r.1)
leads_from (c ∷ e ∷ ds) d some one = let r = is_digit c (e ∷ ds) d in
    let more : 49 ≤ c = (elim (cases_lt 48 c) [
      | inl above ↦ omega arith
      | inr low ↦ (let is : c ≡ 48 = omega (arith, r.0) in absurd (omega (arith, one is)))
    ]) in
    and_from _ _ (le-leb 49 c more) (le-leb c 57 r.1)

leads_first : (ds : List ℕ) → leads ds ≡ true → get_or ds 0 0 ≡ 48 → length ds ≡ 1
leads_first [] l e = absurd (omega arith)
leads_first (c ∷ []) l e = omega arith
leads_first (c ∷ d ∷ ds) l e = let p = and_parts (leb 49 c) (leb c 57) l in
    absurd (omega (arith, leb-true 49 c p.0))

one_digit : (n : ℕ) → n < 2 ^ 64 → get_or (decimal n) 0 0 ≡ 48 → length (decimal n) ≡ 1
one_digit n small e = elim (eq-zero-or-pos n) [
  | inl z ↦ rw (z, decimal_digit 0 (lit< tt)) refl
  | inr p ↦ absurd (omega (arith, first_decimal n p small))
]

within : (bound n : ℕ) → bound ≤ 2 ^ 32 → n < bound → n < 2 ^ 64
within bound n b h = lt_of_lt_of_le h (le_trans b (lit≤ tt))

pub number_of_decimal : (bound n : ℕ) → bound ≤ 2 ^ 32 → n < bound
    → number_in bound (decimal n) ≡ Some n
unfolding number_in
number_of_decimal bound n b h =
    let small : n < 2 ^ 64 = within bound n b h in
    let d : all_ascii_digits (decimal n) ≡ true = digits_decimal own n small in
    let v : digits_value 10 (decimal n) ≡ n = digits_value-decimal own n small in
    let l : leads (decimal n) ≡ true =
    leads_from (decimal n) d (decimal_nonempty n small) (one_digit n small) in
    rw (d, l, v, lt-ltb n bound h) refl

pub decimal_of_number : (bound n : ℕ) (text : Text) → bound ≤ 2 ^ 32 → number_in bound text ≡ Some n
    → (text ≡ decimal n) × (n < bound)
unfolding number_in
decimal_of_number bound n text b e =
    let s = cond_some (all_ascii_digits text && leads text && ltb (digits_value 10 text) bound)
    (digits_value 10 text) n e in
    let p = and_parts (all_ascii_digits text && leads text) (ltb (digits_value 10 text) bound) s.0
    in
    let q = and_parts (all_ascii_digits text) (leads text) p.0 in
    let below : digits_value 10 text < bound = ltb-true (digits_value 10 text) bound p.1 in
    let is : decimal (digits_value 10 text) ≡ text =
    decimal-digits_value own text q.0 (not_empty text q.1) (leads_first text q.1)
    (within bound (digits_value 10 text) b below) in
    (sym is ∙ ap decimal s.1, subst (λ (v : ℕ). v < bound) s.1 below)

-- no digit is that byte
pub no_such : (c n : ℕ) → n < 2 ^ 64 → c < 48 → HasNone c (decimal n)
no_such c n small low =
    not_in_digits own (decimal n) c (digits_decimal own n small) (λ r. absurd (omega (arith, r.0)))

pub small_byte : (n : ℕ) → n ≤ 128 → n < 2 ^ 64
small_byte n h = let low : 129 ≤ 2 ^ 32 = lit≤ tt in within 129 n low (omega arith)

no_minus : (n : ℕ) → n ≤ 128 → (rest : Text) → decimal n ≢ 45 ∷ rest
no_minus n h rest e =
    no_such 45 n (small_byte n h) (lit< tt) 0 (decimal_nonempty n (small_byte n h))
    (ap (λ t. get_or t 0 0) e)

pub byte_of : (z : ℤ) → is_byte z ≡ true → byte_in (signed_decimal z) ≡ Some z
byte_of (pos n) h = byte_plain (decimal n) (no_minus n (omega (arith, ltb-true n 128 h)))
    ∙ ap (option_map pos) (number_of_decimal 128 n (lit≤ tt) (ltb-true n 128 h))
byte_of (negsuc n) h =
    ap (option_and_then below_zero)
    (number_of_decimal 129 (suc n) (lit≤ tt) (omega (arith, ltb-true n 128 h)))

abbrev pub IsByte : ℤ → Text → Type 0
IsByte z text = (text ≡ signed_decimal z) × (is_byte z ≡ true)

is_minus : (z : ℤ) (digits : Text) (o : Option ℕ) → number_in 129 digits ≡ o
    → option_and_then below_zero o ≡ Some z → IsByte z (45 ∷ digits)
is_minus z digits None i e = cc
is_minus z digits (Some zero) i e = cc
is_minus z digits (Some (suc n)) i e =
    let d = decimal_of_number 129 (suc n) digits (lit≤ tt) i in
    rw (← same_Some (negsuc n) z e) (ap (λ t. 45 ∷ t) d.0, lt-ltb n 128 (omega (arith, d.1)))

is_plain : (z : ℤ) (text : Text) (o : Option ℕ) → number_in 128 text ≡ o → option_map pos o ≡ Some z
    → IsByte z text
is_plain z text None i e = cc
is_plain z text (Some n) i e =
    let d = decimal_of_number 128 n text (lit≤ tt) i in
    rw (← same_Some (pos n) z e) (d.0, lt-ltb n 128 d.1)

pub byte_text : (z : ℤ) (text : Text) → byte_in text ≡ Some z → IsByte z text
byte_text z [] e = cc
byte_text z (c ∷ digits) e = elim (cases_eq c 45) [
  | inl is ↦ (let five : eqb c 45 ≡ true = eq-eqb c 45 is in
      let m = is_minus z digits (number_in 129 digits) refl
      (ap (λ b. byte_by b digits (c ∷ digits)) (sym five) ∙ e) in
      (ap (λ b. b ∷ digits) is ∙ m.0, m.1))
  | inr not ↦ (let other : eqb c 45 ≡ false = ne_eqb c 45 not in
      is_plain z (c ∷ digits) (number_in 128 (c ∷ digits)) refl
      (ap (λ b. byte_by b digits (c ∷ digits)) (sym other) ∙ e))
]

-- ---- type ids
no_first : (n : ℕ) → n < 128 → HasNone 44 (45 ∷ decimal (suc n))
no_first n h zero i = λ e. absurd (omega (arith, e))
no_first n h (suc k) i =
    no_such 44 (suc n) (small_byte (suc n) (omega arith)) (lit< tt) k (omega arith)

pub no_comma : (z : ℤ) → is_byte z ≡ true → HasNone 44 (signed_decimal z)
no_comma (pos n) h = no_such 44 n (small_byte n (omega (arith, ltb-true n 128 h))) (lit< tt)
no_comma (negsuc n) h = no_first n (ltb-true n 128 h)

id_byte : (z : ℤ) → is_id z ≡ true → is_byte z ≡ true
id_byte (pos n) h = h
id_byte (negsuc n) h = cc

id_parts : (before is : List ℤ) (i : ℤ) → are_ids before (i ∷ is) ≡ true → (is_id i ≡ true)
    × (has i before ≡ false) × (are_ids (before ++ i ∷ []) is ≡ true)
id_parts before is i h =
    let p = and_parts (is_id i && not (has i before)) (are_ids (before ++ i ∷ []) is) h in
    let q = and_parts (is_id i) (not (has i before)) p.0 in
    (q.0, not-true (has i before) q.1, p.1)

id_put : (before : List ℤ) (n : ℕ) → has (pos n) before ≡ false
    → id_to before n ≡ Some (before ++ pos n ∷ [])
id_put before n h = rw h refl

pub ids_written : (before is : List ℤ) → are_ids before is ≡ true
    → ids_from before (map signed_decimal is) ≡ Some (before ++ is)
unfolding ids_from
ids_written before [] h = ap Some (sym (append-nil before))
ids_written before (negsuc n ∷ is) h = absurd (true≢false (sym (id_parts before is (negsuc n) h).0))
ids_written before (pos n ∷ is) h =
    let p = id_parts before is (pos n) h in
    let one : number_in 128 (decimal n) ≡ Some n =
    number_of_decimal 128 n (lit≤ tt) (ltb-true n 128 p.0) in
    let rest : ids_from (before ++ pos n ∷ []) (map signed_decimal is) ≡ Some
    ((before ++ pos n ∷ []) ++ is) = ids_written (before ++ pos n ∷ []) is p.2 in
    rw (one, id_put before n p.1) (rest ∙ ap Some (append_assoc before (pos n ∷ []) is))

-- the texts are type ids, after those before them
abbrev AreRead : List ℤ → List ℤ → List Text → Type 0
AreRead before all ts = (is : List ℤ) × (all ≡ before ++ is) × (ts ≡ map signed_decimal is)
    × (are_ids before is ≡ true)

more_read : (before all : List ℤ) (n : ℕ) (t : Text) (ts : List Text) → t ≡ decimal n → n < 128
    → has (pos n) before ≡ false → AreRead (before ++ pos n ∷ []) all ts
    → AreRead before all (t ∷ ts)
more_read before all n t ts is small new more = (
  pos n ∷ more.0,
  more.1
      ∙ append_assoc before (pos n ∷ []) more.0,
  rw (is, more.2) refl,
  rw
      (lt-ltb n 128 small, new) more.3,
)

pub ids_read : (before all : List ℤ) (ts : List Text) → ids_from before ts ≡ Some all
    → AreRead before all ts
unfolding ids_from
ids_read before all [] e = ([], sym (same_Some before all e) ∙ sym (append-nil before), refl, refl)
ids_read before all (t ∷ ts) e =
    elim (number_in 128 t) as (λ o. number_in 128 t ≡ o
    → option_and_then (λ more. ids_from more ts) (option_and_then (id_to before) o) ≡ Some all
    → AreRead before all (t ∷ ts)) [
      | None ↦ λ i f. absurd (none-some all f)
      | Some n ↦ λ i f. (let d = decimal_of_number 128 n t (lit≤ tt) i in
          elim (cases_Bool (has (pos n) before)) [
            | inl old ↦ absurd (none-some all (rw old at f))
            | inr new ↦ more_read before all n t ts d.0 d.1 new
                (ids_read (before ++ pos n ∷ []) all ts
                (sym (ap (option_and_then (λ more. ids_from more ts)) (id_put before n new)) ∙ f))
          ])
    ] refl e

pub join_ids : (is : List ℤ) → join_with_byte 44 (map signed_decimal is) ≡ ids_text is
join_ids [] = refl
join_ids (i ∷ []) = sym (append-nil (signed_decimal i))
join_ids (i ∷ j ∷ is) = ap (λ t. signed_decimal i ++ (44 ∷ t)) (join_ids (j ∷ is))

no_comma_in : (text : Text) → HasNone 44 text → All (λ b. eqb b 44 ≡ false) text
no_comma_in text none =
    All-from_get_or (λ b. eqb b 44 ≡ false) text 0 (λ i h. ne_eqb (get_or text i 0) 44 (none i h))

pub split_ids : (before : List ℤ) (i : ℤ) (is : List ℤ) → are_ids before (i ∷ is) ≡ true
    → slice_split (λ b. eqb b 44) (ids_text (i ∷ is)) ≡ map signed_decimal (i ∷ is)
split_ids before i [] h = let p = id_parts before [] i h in
    rw (append-nil (signed_decimal i))
    (slice_split_none (λ b. eqb b 44) (signed_decimal i)
    (no_comma_in _ (no_comma i (id_byte i p.0))))
split_ids before i (j ∷ is) h =
    let p = id_parts before (j ∷ is) i h in
    slice_split_at (λ b. eqb b 44) (signed_decimal i) 44 (ids_text (j ∷ is))
    (no_comma_in _ (no_comma i (id_byte i p.0))) refl
    ∙ ap (λ t. signed_decimal i ∷ t) (split_ids (before ++ i ∷ []) j is p.2)

ids_in_some : (text : Text) → 0 < length text
    → ids_in text ≡ ids_from [] (slice_split (λ b. eqb b 44) text)
ids_in_some [] h = absurd (omega arith)
ids_in_some (c ∷ text) h = refl

some_text : (i : ℤ) (is : List ℤ) → is_byte i ≡ true → 0 < length (ids_text (i ∷ is))
some_text (pos n) is h =
    simp length-append (omega
    (arith, decimal_nonempty n (small_byte n (omega (arith, ltb-true n 128 h)))))
some_text (negsuc n) is h = omega arith

pub ids_of_text : (is : List ℤ) → are_ids [] is ≡ true → ids_in (ids_text is) ≡ Some is
ids_of_text [] h = refl
ids_of_text (i ∷ is) h =
    ids_in_some (ids_text (i ∷ is)) (some_text i is (id_byte i (id_parts [] is i h).0))
    ∙ ap (ids_from []) (split_ids [] i is h) ∙ ids_written [] (i ∷ is) h

pub text_of_ids : (is : List ℤ) (text : Text) → ids_in text ≡ Some is → (text ≡ ids_text is)
    × (are_ids [] is ≡ true)
text_of_ids is [] e = rw (← same_Some [] is e) (refl, refl)
text_of_ids is (c ∷ text) e =
    let r = ids_read [] is (slice_split (λ b. eqb b 44) (c ∷ text)) e in (
      sym (join_with_byte-slice_split 44 (c ∷ text)) ∙ ap (join_with_byte 44) r.2 ∙ join_ids r.0
          ∙ ap ids_text (sym r.1),
      rw r.1 r.3,
    )
