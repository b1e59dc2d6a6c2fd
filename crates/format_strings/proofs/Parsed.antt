-- Numbers of format strings: the number that a text is, and the text that a number is.
use Rattle.std.proofs.Common.{◌≡◌, ◌≢◌, ℕ, suc, ◌+◌, ◌<◌, ◌≤◌, ◌^◌, ℤ, pos}
use Rattle.std.proofs.Common.{true, false, cond, not, inl, inr, List, [], ◌∷◌, ◌++◌}
use Rattle.std.proofs.Common.{length, get_or, drop, Option, Some, None, Result, Ok, Err}
use Rattle.std.proofs.Common.{MatchOption, MatchResult, option_map, option_and_then, Bor}
use Rattle.std.proofs.Common.{refl, sym, ap, ◌∙◌, eqb, ltb, arith, le_trans, to_z}
use Rattle.std.proofs.Common.{w32}
use Rattle.std.specs.List.{slice_split}
use Rattle.std.specs.Str.{all_ascii_digits}
use Rattle.std.specs.Str.Parse.{ParsesUnsigned, digits_value}
use Rattle.std.proofs.lemmas.Bool.{cases_Bool, cases_eq, cases_lt, ne_eqb, eq-eqb}
use Rattle.std.proofs.lemmas.Bool.{le-ltb, true≢false}
use Rattle.std.proofs.lemmas.Bool.Decides.{nat_tests}
use Rattle.std.proofs.lemmas.Str.Parse.{IsNumeralModel, numerals_by_value, tells_all_ascii_digits}
use Rattle.std.proofs.lemmas.Str.Parse.{parse_plain}
use Rattle.std.proofs.lemmas.Int.{ints}
use Rattle.std.proofs.lemmas.List.{at_drop_more, at_drop_all}
use Rattle.arrow_values.specs.Tree.{Text}
use Rattle.arrow_values.specs.Union.{has}
use Rattle.format_strings.specs.Numbers.{leads, number_in, below_zero, byte_by, byte_in}
use Rattle.format_strings.specs.Numbers.{id_to, ids_from, ids_in, cut}

abbrev pub AreDigits : List ℕ → Type 0
AreDigits text = all_ascii_digits text ≡ true

pub own : IsNumeralModel AreDigits (digits_value 10)
own = numerals_by_value AreDigits tells_all_ascii_digits

-- what begins as a number begins with no plus
no_plus : (text : List ℕ) → leads text ≡ true → get_or text 0 0 ≢ 43
no_plus [] l = cc
no_plus (c ∷ []) l = grind (arith, nat_tests)
no_plus (c ∷ d ∷ ds) l = grind (arith, nat_tests)

pub not_empty : (text : List ℕ) → leads text ≡ true → 0 < length text
not_empty [] l = absurd (true≢false (sym l))
not_empty (c ∷ cs) l = omega arith

-- what `parse` gives is the number, where it is below the bound
abbrev Reads : {E : Type 0} → ℕ → List ℕ → Result ℕ E → Type 0
Reads bound text r =
    MatchResult r (λ n. number_in bound text ≡ cond (ltb n bound) (Some n) None)
    (λ _. number_in bound text ≡ None)

pub by_parse : {E : Type 0} (bound : ℕ) (text : List ℕ) (r : Result ℕ E)
    → ParsesUnsigned 32 10 text r → leads text ≡ true → bound ≤ 2 ^ 32 → Reads bound text r
unfolding number_in
by_parse {E} bound text (Ok n) h l b =
    let o = parse_plain own {E = E} 32 text (Ok n) h (no_plus text l) in
    rw (o.0.0, l) (ap (λ v. cond (ltb v bound) (Some v) None) (sym o.1))
by_parse {E} bound text (Err e) h l b = elim (cases_Bool (all_ascii_digits text)) [
  | inl y ↦ elim (cases_lt (digits_value 10 text) (2 ^ 32)) [
    | inl small ↦ absurd
        (parse_plain own {E = E} 32 text (Err e) h (no_plus text l) (y, not_empty text l, small))
    | inr big ↦ (let past : ltb (digits_value 10 text) bound ≡ false =
        le-ltb (digits_value 10 text) bound (le_trans b big) in rw (y, l, past) refl)
  ]
  | inr n ↦ rw n refl
]

pub leads_not : (bound : ℕ) (text : List ℕ) → leads text ≡ false → number_in bound text ≡ None
unfolding number_in
leads_not bound text l =
    elim (cases_Bool (all_ascii_digits text)) [ inl y ↦ rw (y, l) refl | inr n ↦ rw n refl ]

-- the number of a signed byte, with and without a minus
pub byte_minus : (text digits : List ℕ) → text ≡ 45 ∷ digits
    → byte_in text ≡ option_and_then below_zero (number_in 129 digits)
byte_minus text digits is = rw is refl

pub byte_plain : (text : List ℕ) → ((rest : List ℕ) → text ≢ 45 ∷ rest)
    → byte_in text ≡ option_map pos (number_in 128 text)
unfolding number_in
byte_plain [] none = refl
byte_plain (c ∷ digits) none = elim (cases_eq c 45) [
  | inl is ↦ absurd (none digits (ap (λ b. b ∷ digits) is))
  | inr not ↦ (let other : eqb c 45 ≡ false = ne_eqb c 45 not in
      ap (λ b. byte_by b digits (c ∷ digits)) other)
]

pub byte_found : (text : List ℕ) (n : ℕ) → ((rest : List ℕ) → text ≢ 45 ∷ rest)
    → number_in 128 text ≡ Some n → n < 128 → Some (to_z w32 n) ≡ byte_in text
byte_found text n none is small =
    let same : to_z w32 n ≡ pos n = omega (arith, ints) in
    ap Some same ∙ sym (byte_plain text none ∙ ap (option_map pos) is)

pub byte_lost : (text : List ℕ) → ((rest : List ℕ) → text ≢ 45 ∷ rest) → number_in 128 text ≡ None
    → None ≡ byte_in text
byte_lost text none is = sym (byte_plain text none ∙ ap (option_map pos) is)

-- the next type id
pub id_step : (ids : List ℤ) (parts : List Text) (n : ℕ) (part : Text) → (n < length parts)
    × (part ≡ get_or parts n part)
    → ids_from ids (drop n parts) ≡ option_and_then (λ more. ids_from more (drop (n + 1) parts))
    (option_and_then (id_to ids) (number_in 128 part))
unfolding ids_from
id_step ids parts n part h = at_drop_more (ids_from ids) parts n part h.0 ∙ rw (← h.1) refl

abbrev pub parts_of : Text → List Text
parts_of text = slice_split (λ b. eqb b 44) text

ids_are : (text : Text) → eqb (length text) 0 ≡ false → ids_in text ≡ ids_from [] (parts_of text)
ids_are [] h = absurd (true≢false h)
ids_are (c ∷ text) h = refl

-- the type ids so far, and the parts that are left
module _ (text : Text) (ids : List ℤ) (n : ℕ) (some : eqb (length text) 0 ≡ false)
    (rest : ids_from ids (drop n (parts_of text)) ≡ ids_from [] (parts_of text)) where
  all_are : (o : Option (List ℤ)) → ids_from ids (drop n (parts_of text)) ≡ o → o ≡ ids_in text
  all_are o e = sym e ∙ rest ∙ sym (ids_are text some)

  abbrev pub IsPart : Text → Type 0
  IsPart part = (n < length (parts_of text)) × (part ≡ get_or (parts_of text) n part)

  pub id_lost : (part : Text) → IsPart part → number_in 128 part ≡ None → None ≡ ids_in text
  id_lost part h is = all_are None (id_step ids (parts_of text) n part h ∙ rw is refl)

  pub id_twice : (part : Text) (id : ℕ) → IsPart part → number_in 128 part ≡ Some id
      → has (pos id) ids ≡ true → None ≡ ids_in text
  id_twice part id h is old =
      all_are None (id_step ids (parts_of text) n part h ∙ rw (is, old) refl)

  pub id_more : (part : Text) (id : ℕ) → IsPart part → number_in 128 part ≡ Some id
      → has (pos id) ids ≡ false
      → ids_from (ids ++ pos id ∷ []) (drop (n + 1) (parts_of text)) ≡ ids_from [] (parts_of text)
  id_more part id h is new =
      let one : ids_from ids (drop n (parts_of text)) ≡ ids_from (ids ++ pos id ∷ [])
      (drop (n + 1) (parts_of text)) = id_step ids (parts_of text) n part h ∙ rw (is, new) refl
      in
      sym one ∙ rest

  pub id_end : length (parts_of text) ≤ n → Some ids ≡ ids_in text
  unfolding ids_from
  id_end h = all_are (Some ids) (at_drop_all (ids_from ids) (parts_of text) n h)

-- the first such byte
abbrev pub HasNone : ℕ → List ℕ → Type 0
HasNone c text = (i : ℕ) → i < length text → get_or text i 0 ≢ c

behind : (c b : ℕ) (text : List ℕ) → HasNone c (b ∷ text) → HasNone c text
behind c b text none i h = none (suc i) (omega arith)

front : (c b : ℕ) (text : List ℕ) → HasNone c (b ∷ text) → eqb b c ≡ false
front c b text none = ne_eqb b c (none 0 (omega arith))

pub cut_none : (c : ℕ) (text : List ℕ) → HasNone c text → cut c text ≡ None
unfolding cut
cut_none c [] none = refl
cut_none c (b ∷ text) none = rw (front c b text none, cut_none c text (behind c b text none)) refl

pub cut_at : (c : ℕ) (xs ys : List ℕ) → HasNone c xs → cut c (xs ++ c ∷ ys) ≡ Some (xs, ys)
unfolding cut
cut_at c [] ys none = rw (eq-eqb c c refl) refl
cut_at c (b ∷ xs) ys none = rw (front c b xs none, cut_at c xs ys (behind c b xs none)) refl

-- by the clause of `split_once`
abbrev Parts : Type 0
Parts = Option (Bor (List ℕ) × Bor (List ℕ))

pub cut_is : (c : ℕ) (text : List ℕ) (r : Parts)
    → MatchOption r (HasNone c text) (λ x. (text ≡ x.0.now ++ (c ∷ x.1.now)) × HasNone c x.0.now)
    → option_map (λ p. (p.0.now, p.1.now)) r ≡ cut c text
cut_is c text None h = sym (cut_none c text h)
cut_is c text (Some x) h = rw (h.0) (sym (cut_at c x.0.now x.1.now h.1))
