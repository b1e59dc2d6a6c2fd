-- A value that was read, and that holds no float, has a number wherever its outline has one.
use Rattle.std.proofs.Common.{◌≡◌, ℕ, zero, suc, ◌^◌, ◌<◌, ◌≤◌, negsuc, Bool, true, false, cond, ◌&&◌, ◌==◌, drop, nat_lt, nat_le, Float, decimal, Ordering, Less, Equal, Greater, nat_cmp, Option, None, Some, option_map, refl, sym, ap, ◌∙◌, subst, true≢false, ltb-true, arith}
use Rattle.std.proofs.lemmas.Bool.{and_parts, or_parts, leb-true}
use Rattle.std.proofs.lemmas.Option.{option_and_then_some, same_Some}
use Rattle.std.specs.Cmp.Lexicographic.{slice_cmp}
use Rattle.std.specs.Float.{binary64, float_is_finite}
use Rattle.std.specs.Fmt.{signed_decimal}
use Rattle.std.specs.Ordering.{match_ordering}
use Rattle.std.specs.Prelude.{⊤, slice_index}
use Rattle.fast_float.specs.Text.{minus, Parts, scan, digits_of, nearest, with_sign}
use Rattle.json.specs.Json as json
use Rattle.json.specs.Print.{IsNumber}
use Rattle.json.specs.Tree.{HasNumbers, ItemsHaveNumbers, MembersHaveNumbers}
use Rattle.json.proofs.Printed.Decimals.{IsNumber-decimal, IsNumber-signed_decimal}
use Rattle.serde_json.specs.Data.{Num, unsigned, negative, float, Data, null, boolean, number, string, array, object, Items, no_items, item, Members, no_members, member, put}
use Rattle.serde_json.specs.Find.{is_float}
use Rattle.serde_json.specs.Read.{is_integer, float_of, number_from, number_of, of_json, of_items, of_members}
use Rattle.serde_json.specs.Written.{number_text, outline, items_outline, members_outline, has_float, items_have_float, members_have_float}
use Rattle.arrow_values.specs.Tree.{Text}

-- ---- numbers

-- a number is one of the two that it is chosen from
chosen : (b : Bool) (m n : Num) (other : Option Num) → cond b (Some m) other ≡ Some n → (b ≡ true → IsNumber (number_text m)) → (other ≡ Some n → is_float n ≡ true) → is_float n ≡ false
    → IsNumber (number_text n)
chosen true m n other e good floats none = subst (λ x. IsNumber (number_text x)) (same_Some m n e) (good refl)
chosen false m n other e good floats none = absurd (true≢false (sym (floats e) ∙ none))

floated : (b : Bool) (x : Float) (n : Num) → cond b (Some (float x)) None ≡ Some n → is_float n ≡ true
floated true x n e = ap is_float (sym (same_Some (float x) n e))
floated false x n e = absurd cc

unsigned_good : (p : Parts) → (is_integer p && nat_lt (digits_of p) (2 ^ 64)) ≡ true → IsNumber (decimal (digits_of p))
unsigned_good p h = IsNumber-decimal (digits_of p) (ltb-true _ _ (and_parts (is_integer p) _ h).1)

negative_good : (m : ℕ) → 0 < m → m ≤ 2 ^ 63 → IsNumber (signed_decimal (with_sign true m))
negative_good zero some le = absurd (omega (arith, some))
negative_good (suc n) some le = IsNumber-signed_decimal (negsuc n) (omega (arith, le))

minus_good : (p : Parts) → (is_integer p && nat_lt 0 (digits_of p) && nat_le (digits_of p) (2 ^ 63)) ≡ true → IsNumber (signed_decimal (with_sign true (digits_of p)))
minus_good p h =
    let last = and_parts (is_integer p && nat_lt 0 (digits_of p)) _ h in
    negative_good (digits_of p) (ltb-true _ _ (and_parts (is_integer p) _ last.0).1) (leb-true _ _ last.1)

by_sign : (b : Bool) (p q : Parts) (n : Num) → cond b (number_from true p) (number_from false q) ≡ Some n → is_float n ≡ false → IsNumber (number_text n)
by_sign true p q n e none =
    chosen (is_integer p && nat_lt 0 (digits_of p) && nat_le (digits_of p) (2 ^ 63)) (negative (with_sign true (digits_of p))) n (float_of true p) e (minus_good p)
    (floated (float_is_finite (nearest binary64 true p)) (nearest binary64 true p) n) none
by_sign false p q n e none =
    chosen (is_integer q && nat_lt (digits_of q) (2 ^ 64)) (unsigned (digits_of q)) n (float_of false q) e (unsigned_good q) (floated (float_is_finite (nearest binary64 false q)) (nearest binary64 false q) n) none

number_good : (s : Text) (n : Num) → number_of s ≡ Some n → is_float n ≡ false → IsNumber (number_text n)
unfolding number_of
number_good s n e none = by_sign (slice_index s 0 == minus) (scan (drop 1 s)) (scan s) n e none

-- ---- values

abbrev IsGood : Data → Type 0
IsGood d = has_float d ≡ false → HasNumbers (outline d)

abbrev AllGood : Members → Type 0
AllGood no_members = ⊤
AllGood (member k d ms) = IsGood d × AllGood ms

put_step : (r : Ordering) (k l : Text) (d e : Data) (ms later : Members) → IsGood d → IsGood e → AllGood ms → AllGood later
    → AllGood (match_ordering r (member k d (member l e ms)) (member l d ms) (member l e later))
put_step Less k l d e ms later h g all more = (h, (g, all))
put_step Equal k l d e ms later h g all more = (h, all)
put_step Greater k l d e ms later h g all more = (g, more)

put_good : (k : Text) (d : Data) (ms : Members) → IsGood d → AllGood ms → AllGood (put k d ms)
put_good k d no_members h all = (h, tt)
put_good k d (member l e ms) h all = put_step (slice_cmp nat_cmp k l) k l d e ms (put k d ms) h all.0 all.1 (put_good k d ms h all.1)

members_good : (ms : Members) → AllGood ms → members_have_float ms ≡ false → MembersHaveNumbers (members_outline ms)
members_good no_members all none = tt
members_good (member k d ms) all none = let p = or_parts (has_float d) _ none in (all.0 p.0, members_good ms all.1 p.1)

of_number : (s : Text) (o : Option Num) (d : Data) → number_of s ≡ o → option_map number o ≡ Some d → IsGood d
of_number s None d is e = absurd cc
of_number s (Some n) d is e = subst IsGood (same_Some (number n) d e) (number_good s n is)

of_object : (o : Option Members) (d : Data) → ((ms : Members) → o ≡ Some ms → AllGood ms) → option_map object o ≡ Some d → IsGood d
of_object None d all e = absurd cc
of_object (Some ms) d all e = subst IsGood (same_Some (object ms) d e) (members_good ms (all ms refl))

abbrev AreGood : Items → Type 0
AreGood ds = items_have_float ds ≡ false → ItemsHaveNumbers (items_outline ds)

of_array : (o : Option Items) (d : Data) → ((ds : Items) → o ≡ Some ds → AreGood ds) → option_map array o ≡ Some d → IsGood d
of_array None d all e = absurd cc
of_array (Some ds) d all e = subst IsGood (same_Some (array ds) d e) (all ds refl)

of_item : (d : Data) (o : Option Items) (ds : Items) → IsGood d → ((es : Items) → o ≡ Some es → AreGood es) → option_map (item d) o ≡ Some ds → AreGood ds
of_item d None ds h all e = absurd cc
of_item d (Some es) ds h all e =
    subst AreGood (same_Some (item d es) ds e) (λ none. let p = or_parts (has_float d) _ none in (h p.0, all es refl p.1))

mutual
  pub value_good : (j : json.Json) (d : Data) → of_json j ≡ Some d → IsGood d
  value_good json.null d e = subst IsGood (same_Some null d e) (λ none. tt)
  value_good (json.boolean b) d e = subst IsGood (same_Some (boolean b) d e) (λ none. tt)
  value_good (json.number s) d e = of_number s (number_of s) d refl e
  value_good (json.string s) d e = subst IsGood (same_Some (string s) d e) (λ none. tt)
  value_good (json.array js) d e = of_array (of_items js) d (λ ds is. items_are_good js ds is) e
  value_good (json.object ms) d e = of_object (of_members ms no_members) d (λ found is. members_are_good ms no_members found is tt) e

  items_are_good : (js : json.Items) (ds : Items) → of_items js ≡ Some ds → AreGood ds
  items_are_good json.no_items ds e = subst AreGood (same_Some no_items ds e) (λ none. tt)
  items_are_good (json.item j js) ds e =
      option_and_then_some (λ d. option_map (item d) (of_items js)) (of_json j) ds e
      (λ d is next. of_item d (of_items js) ds (value_good j d is) (λ es are. items_are_good js es are) next)

  members_are_good : (js : json.Members) (found ms : Members) → of_members js found ≡ Some ms → AllGood found → AllGood ms
  members_are_good json.no_members found ms e all = subst AllGood (same_Some found ms e) all
  members_are_good (json.member k j js) found ms e all =
      option_and_then_some (λ d. of_members js (put k d found)) (of_json j) ms e
      (λ d is next. members_are_good js (put k d found) ms next (put_good k d found (value_good j d is) all))
