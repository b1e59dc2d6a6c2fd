-- In a value with a number that is not whole the first one is found.
use Rattle.std.proofs.Common.{◌≡◌, ◌&&◌, ◌||◌, not, ℕ, ◌+◌, Bool, true, false, cond, Option, None, Some, is_some, option_and_then, option_map, Ordering, Less, Equal, Greater, nat_cmp, is_eq, bytes_eq, refl, sym, ap, ap₂, subst, ◌∙◌, true≢false}
use Rattle.std.proofs.lemmas.Bool.{and_parts}
use Rattle.std.proofs.lemmas.Cmp.{nat_list_cmp_total}
use Rattle.std.proofs.lemmas.Map.Text.{is_eq-slice_cmp}
use Rattle.std.proofs.lemmas.Map.Lookups.{exact_bytes}
use Rattle.std.specs.Cmp.Lexicographic.{slice_cmp}
use Rattle.std.specs.Ordering.{is_lt, match_ordering, ordering_reverse}
use Rattle.json.specs.Json as json
use Rattle.arrow_values.specs.Tree.{Text}
use Rattle.serde_json.specs.Data.{Data, array, object, Items, item, Members, no_members, member, put}
use Rattle.serde_json.specs.Read.{of_json, of_items, of_members}
use Rattle.serde_json.specs.Written.{has_float, items_have_float, members_have_float}
use Rattle.geoarrow_meta.specs.Read.{some_has_float}
use Rattle.crs_identity.specs.Equality.{has_key}
use Rattle.column_check.specs.Places.{member_place, item_place}
use Rattle.column_check.specs.Said.{Said}
use Rattle.column_check.specs.NotWhole.{is_not_whole, or_later, first_not_whole, first_of_items, first_of_members, unless_again}

-- ---- tests

some_if : {A : Type 0} (b : Bool) (x : A) → is_some (cond b (Some x) None) ≡ b
some_if true x = refl
some_if false x = refl

some_unless : (b : Bool) (o : Option Said) → is_some (unless_again b o) ≡ (not b && is_some o)
some_unless true None = refl
some_unless true (Some said) = refl
some_unless false None = refl
some_unless false (Some said) = refl

some_or : (first later : Option Said) → is_some (or_later first later) ≡ (is_some first || is_some later)
some_or None later = refl
some_or (Some said) later = refl

middle_first : (a b c : Bool) → ((a || b) || c) ≡ (b || (a || c))
middle_first true true c = refl
middle_first true false c = refl
middle_first false b c = refl

exchange : (a b c : Bool) → (a || (b || c)) ≡ (b || (a || c))
exchange true true c = refl
exchange true false c = refl
exchange false b c = refl

-- ---- members whose keys ascend

abbrev comes_before : Text → Members → Bool
comes_before k no_members = true
comes_before k (member l d ms) = is_lt (slice_cmp nat_cmp k l)

abbrev ascend : Members → Bool
ascend no_members = true
ascend (member k d ms) = comes_before k ms && ascend ms

less : (o : Ordering) → is_lt o ≡ true → o ≡ Less
less Less h = refl
less _ h = absurd (true≢false (sym h))

before_rest : (k l : Text) (ms : Members) → slice_cmp nat_cmp k l ≡ Less → comes_before l ms ≡ true → comes_before k ms ≡ true
before_rest k l no_members first h = refl
before_rest k l (member m e ms) first h = ap is_lt (nat_list_cmp_total.trans k l m first (less _ h))

both : (a b : Bool) → a ≡ true → b ≡ true → (a && b) ≡ true
both a b h k = ap₂ (λ x y. x && y) h k

put_after : (o : Ordering) (l k m : Text) (d e : Data) (ms : Members) → slice_cmp nat_cmp l k ≡ Less → slice_cmp nat_cmp l m ≡ Less
    → comes_before l (match_ordering o (member k d (member m e ms)) (member m d ms) (member m e (put k d ms))) ≡ true
put_after Less l k m d e ms h g = ap is_lt h
put_after Equal l k m d e ms h g = ap is_lt g
put_after Greater l k m d e ms h g = ap is_lt g

before_put : (l k : Text) (d : Data) (ms : Members) → slice_cmp nat_cmp l k ≡ Less → comes_before l ms ≡ true → comes_before l (put k d ms) ≡ true
before_put l k d no_members h g = ap is_lt h
before_put l k d (member m e ms) h g = put_after (slice_cmp nat_cmp k m) l k m d e ms h (less _ g)

put_ascends : (k : Text) (d : Data) (ms : Members) → ascend ms ≡ true → ascend (put k d ms) ≡ true
put_ascends k d no_members h = refl
put_ascends k d (member l e ms) h = by (slice_cmp nat_cmp k l) refl (put_ascends k d ms (and_parts (comes_before l ms) _ h).1)
  where
    by : (o : Ordering) → slice_cmp nat_cmp k l ≡ o → ascend (put k d ms) ≡ true → ascend (match_ordering o (member k d (member l e ms)) (member l d ms) (member l e (put k d ms))) ≡ true
    by Less is rest = both _ _ (ap is_lt is) h
    by Equal is rest = h
    by Greater is rest =
        both _ _ (before_put l k d ms (nat_list_cmp_total.antisymm l k ∙ ap ordering_reverse is) (and_parts (comes_before l ms) _ h).0) rest

-- ---- the members read so far of which no key stands in what is left

abbrev left : json.Members → Members → Bool
left ms no_members = false
left ms (member l e fs) = (not (has_key l ms) && has_float e) || left ms fs

all_left : (fs : Members) → left json.no_members fs ≡ members_have_float fs
all_left no_members = refl
all_left (member l e fs) = ap (λ b. has_float e || b) (all_left fs)

apart : (k l : Text) → slice_cmp nat_cmp k l ≡ Less → bytes_eq k l ≡ false
apart k l h = sym (is_eq-slice_cmp k l) ∙ ap is_eq h

-- a key before all others is none of them
before_left : (k : Text) (j : json.Json) (ms : json.Members) (fs : Members) → comes_before k fs ≡ true → ascend fs ≡ true → left (json.member k j ms) fs ≡ left ms fs
before_left k j ms no_members h up = refl
before_left k j ms (member l e fs) h up =
    let parts = and_parts (comes_before l fs) _ up in
    let first = less _ h in
    ap₂ (λ b c. (not (b || has_key l ms) && has_float e) || c) (apart k l first) (before_left k j ms fs (before_rest k l fs first parts.0) parts.1)

put_left : (k : Text) (d : Data) (j : json.Json) (ms : json.Members) (fs : Members) → ascend fs ≡ true
    → left ms (put k d fs) ≡ ((not (has_key k ms) && has_float d) || left (json.member k j ms) fs)
put_left k d j ms no_members up = refl
put_left k d j ms (member l e fs) up = by (slice_cmp nat_cmp k l) refl (put_left k d j ms fs (and_parts (comes_before l fs) _ up).1)
  where
    by : (o : Ordering) → slice_cmp nat_cmp k l ≡ o → left ms (put k d fs) ≡ ((not (has_key k ms) && has_float d) || left (json.member k j ms) fs)
        → left ms (match_ordering o (member k d (member l e fs)) (member l d fs) (member l e (put k d fs))) ≡ ((not (has_key k ms) && has_float d) || left (json.member k j ms) (member l e fs))
    by Less is more = ap (λ b. (not (has_key k ms) && has_float d) || b) (sym (before_left k j ms (member l e fs) (ap is_lt is) up))
    by Equal is more =
        let parts = and_parts (comes_before l fs) _ up in
        let same : k ≡ l = exact_bytes k l is in
        let here : bytes_eq k l ≡ true = sym (is_eq-slice_cmp k l) ∙ ap is_eq is in
        let rest : left (json.member k j ms) fs ≡ left ms fs = before_left k j ms fs (subst (λ x. comes_before x fs ≡ true) (sym same) parts.0) parts.1 in
        ap (λ x. (not (has_key x ms) && has_float d) || left ms fs) (sym same)
        ∙ ap₂ (λ b c. (not (has_key k ms) && has_float d) || ((not (b || has_key l ms) && has_float e) || c)) (sym here) (sym rest)
    by Greater is more =
        let other : bytes_eq k l ≡ false = sym (is_eq-slice_cmp k l) ∙ ap is_eq is in
        ap (λ b. (not (has_key l ms) && has_float e) || b) more
        ∙ exchange (not (has_key l ms) && has_float e) (not (has_key k ms) && has_float d) (left (json.member k j ms) fs)
        ∙ ap (λ b. (not (has_key k ms) && has_float d) || ((not (b || has_key l ms) && has_float e) || left (json.member k j ms) fs)) (sym other)

-- ---- values

abbrev some_items : Option Items → Bool
some_items None = false
some_items (Some ds) = items_have_float ds

abbrev some_members : Option Members → Bool
some_members None = false
some_members (Some ms) = members_have_float ms

of_array : (o : Option Items) → is_some (option_map array o) ≡ true → (is_some o ≡ true) × (some_has_float (option_map array o) ≡ some_items o)
of_array None h = absurd (true≢false (sym h))
of_array (Some ds) h = (refl, refl)

of_object : (o : Option Members) → is_some (option_map object o) ≡ true → (is_some o ≡ true) × (some_has_float (option_map object o) ≡ some_members o)
of_object None h = absurd (true≢false (sym h))
of_object (Some ms) h = (refl, refl)

of_item : (a : Option Data) (b : Option Items) → is_some (option_and_then (λ d. option_map (item d) b) a) ≡ true
    → (is_some a ≡ true) × (is_some b ≡ true) × (some_items (option_and_then (λ d. option_map (item d) b) a) ≡ (some_has_float a || some_items b))
of_item None b h = absurd (true≢false (sym h))
of_item (Some d) None h = absurd (true≢false (sym h))
of_item (Some d) (Some ds) h = (refl, refl, refl)

mutual
  pub is_found : (place : Text) (j : json.Json) → is_some (of_json j) ≡ true → is_some (first_not_whole place j) ≡ some_has_float (of_json j)
  is_found place json.null h = refl
  is_found place (json.boolean b) h = refl
  is_found place (json.number s) h = some_if (is_not_whole s) _
  is_found place (json.string s) h = refl
  is_found place (json.array js) h =
      let parts = of_array (of_items js) h in
      found_in_items place 0 js parts.0 ∙ sym parts.1
  is_found place (json.object ms) h =
      let parts = of_object (of_members ms no_members) h in
      left_none (is_some (first_of_members place ms)) (found_in_members place ms no_members parts.0 refl) ∙ sym parts.1
    where
      left_none : (b : Bool) {c : Bool} → (b || false) ≡ c → b ≡ c
      left_none true e = e
      left_none false e = e

  found_in_items : (place : Text) (n : ℕ) (js : json.Items) → is_some (of_items js) ≡ true → is_some (first_of_items place n js) ≡ some_items (of_items js)
  found_in_items place n json.no_items h = refl
  found_in_items place n (json.item j js) h =
      let parts = of_item (of_json j) (of_items js) h in
      some_or (first_not_whole (item_place place n) j) (first_of_items place (n + 1) js)
      ∙ ap₂ (λ b c. b || c) (is_found (item_place place n) j parts.0) (found_in_items place (n + 1) js parts.1) ∙ sym parts.2

  found_in_members : (place : Text) (ms : json.Members) (fs : Members) → is_some (of_members ms fs) ≡ true → ascend fs ≡ true
      → (is_some (first_of_members place ms) || left ms fs) ≡ some_members (of_members ms fs)
  found_in_members place json.no_members fs h up = all_left fs
  found_in_members place (json.member k j ms) fs h up = by (of_json j) refl h (is_found (member_place place k) j) (λ d. found_in_members place ms (put k d fs))
    where
      by : (o : Option Data) → of_json j ≡ o → is_some (option_and_then (λ d. of_members ms (put k d fs)) o) ≡ true
          → (is_some (of_json j) ≡ true → is_some (first_not_whole (member_place place k) j) ≡ some_has_float (of_json j))
          → ((d : Data) → is_some (of_members ms (put k d fs)) ≡ true → ascend (put k d fs) ≡ true
          → (is_some (first_of_members place ms) || left ms (put k d fs)) ≡ some_members (of_members ms (put k d fs)))
          → (is_some (first_of_members place (json.member k j ms)) || left (json.member k j ms) fs) ≡ some_members (option_and_then (λ d. of_members ms (put k d fs)) o)
      by None is some found more = absurd (true≢false (sym some))
      by (Some d) is some found more =
          let here : is_some (first_not_whole (member_place place k) j) ≡ has_float d = found (ap is_some is) ∙ ap some_has_float is in
          let own : is_some (unless_again (has_key k ms) (first_not_whole (member_place place k) j)) ≡ (not (has_key k ms) && has_float d) =
          some_unless (has_key k ms) _ ∙ ap (λ b. not (has_key k ms) && b) here in
          ap (λ b. b || left (json.member k j ms) fs)
          (some_or (unless_again (has_key k ms) (first_not_whole (member_place place k) j)) (first_of_members place ms) ∙ ap (λ b. b || is_some (first_of_members place ms)) own)
          ∙ middle_first (not (has_key k ms) && has_float d) (is_some (first_of_members place ms)) (left (json.member k j ms) fs)
          ∙ ap (λ b. is_some (first_of_members place ms) || b) (sym (put_left k d j ms fs up))
          ∙ more d some (put_ascends k d fs up)
