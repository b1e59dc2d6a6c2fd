-- Equality of JSON values is symmetric, and each value equals itself.
use Rattle.std.proofs.Common.{◌≡◌, ℕ, ◌+◌, Bool, true, false, ◌&&◌, ◌||◌, ◌==◌, cond, List, length, bytes_eq, ◌⊎◌, inl, inr, Option, Some, None, refl, sym, ap, subst, ◌∙◌, eq-eqb}
use Rattle.std.specs.Bool.{beq}
use Rattle.std.proofs.lemmas.Bool.{eqb-true}
use Rattle.std.proofs.lemmas.Slice.Eq.{bytes_eq-Decides}
use Rattle.json.specs.Json.{Json, null, boolean, number, string, array, object, Items, no_items, item, Members, no_members, member}
use Rattle.json.specs.Find.{get, get_member, later_or}
use Rattle.crs_identity.specs.Decimals.{Decimal, are_equal_decimals, are_equal_numbers, decimal_of, is_far}
use Rattle.crs_identity.specs.Equality.{holds_of, has_key, has_keys, json_equal, equal_items, equal_members}

-- ---- truth values

pub same_bool : (a b : Bool) → (a ≡ true → b ≡ true) → (b ≡ true → a ≡ true) → a ≡ b
same_bool true true f g = refl
same_bool true false f g = sym (f refl)
same_bool false true f g = g refl
same_bool false false f g = refl

pub and_parts : (a b : Bool) → (a && b) ≡ true → (a ≡ true) × (b ≡ true)
and_parts true b h = (refl, h)
and_parts false b h = absurd (cc)

pub and_true : (a b : Bool) → a ≡ true → b ≡ true → (a && b) ≡ true
and_true true b e h = h
and_true false b e h = absurd (cc)

pub or_split : (a b : Bool) → (a || b) ≡ true → (a ≡ true) ⊎ (b ≡ true)
or_split true b h = inl refl
or_split false b h = inr h

pub or_right : (a b : Bool) → b ≡ true → (a || b) ≡ true
or_right true b h = refl
or_right false b h = h

or_false : (a b : Bool) → (a || b) ≡ false → (a ≡ false) × (b ≡ false)
or_false true b h = absurd (cc)
or_false false b h = (refl, h)

and_comm : (a b : Bool) → (a && b) ≡ (b && a)
and_comm true true = refl
and_comm true false = refl
and_comm false true = refl
and_comm false false = refl

or_comm : (a b : Bool) → (a || b) ≡ (b || a)
or_comm true true = refl
or_comm true false = refl
or_comm false true = refl
or_comm false false = refl

beq_refl : (b : Bool) → beq b b ≡ true
beq_refl true = refl
beq_refl false = refl

beq_sym : (b c : Bool) → beq b c ≡ beq c b
beq_sym true true = refl
beq_sym true false = refl
beq_sym false true = refl
beq_sym false false = refl

pub eqb_sym : (a b : ℕ) → (a == b) ≡ (b == a)
eqb_sym a b = same_bool (a == b) (b == a) (λ h. eq-eqb b a (sym (eqb-true a b h))) (λ h. eq-eqb a b (sym (eqb-true b a h)))

pub bytes_same : (s t : List ℕ) → bytes_eq s t ≡ true → s ≡ t
bytes_same s t h = (bytes_eq-Decides s t).0 h

pub bytes_refl : (s : List ℕ) → bytes_eq s s ≡ true
bytes_refl s = (bytes_eq-Decides s s).1 refl

pub bytes_sym : (s t : List ℕ) → bytes_eq s t ≡ bytes_eq t s
bytes_sym s t =
    same_bool (bytes_eq s t) (bytes_eq t s) (λ h. (bytes_eq-Decides t s).1 (sym (bytes_same s t h))) (λ h. (bytes_eq-Decides s t).1 (sym (bytes_same t s h)))

-- ---- numbers

decimals_sym : (x y : Decimal) → are_equal_decimals x y ≡ are_equal_decimals y x
decimals_sym x y =
    let zeros = and_comm (length x.digits == 0) (length y.digits == 0) in
    let signs = beq_sym x.negative y.negative in
    let digits = bytes_sym x.digits y.digits in
    let powers = eqb_sym (x.up + y.down) (y.up + x.down) in
    λ i. zeros i || (signs i && (digits i && powers i))

decimals_refl : (x : Decimal) → are_equal_decimals x x ≡ true
decimals_refl x =
    or_right (length x.digits == 0 && length x.digits == 0) _
    (and_true (beq x.negative x.negative) _ (beq_refl x.negative)
    (and_true (bytes_eq x.digits x.digits) _ (bytes_refl x.digits) (eq-eqb (x.up + x.down) (x.up + x.down) refl)))

numbers_sym : (s t : List ℕ) → are_equal_numbers s t ≡ are_equal_numbers t s
numbers_sym s t =
    let far = or_comm (is_far s) (is_far t) in
    let texts = bytes_sym s t in
    let numbers = decimals_sym (decimal_of s) (decimal_of t) in
    λ i. cond (far i) (texts i) (numbers i)

either_true : (b x y : Bool) → x ≡ true → y ≡ true → cond b x y ≡ true
either_true true x y p q = p
either_true false x y p q = q

numbers_refl : (s : List ℕ) → are_equal_numbers s s ≡ true
numbers_refl s = either_true (is_far s || is_far s) _ _ (bytes_refl s) (decimals_refl (decimal_of s))

-- ---- keys

some_or : (o : Option Json) → (o ≡ None) ⊎ ((j : Json) × (o ≡ Some j))
some_or None = inl refl
some_or (Some j) = inr (j, refl)

no_key : (k : List ℕ) (ms : Members) → has_key k ms ≡ false → get_member k ms ≡ None
no_key k no_members e = refl
no_key k (member l j ms) e =
    let p = or_false (bytes_eq l k) (has_key k ms) e in
    ap (λ o. later_or o (cond (bytes_eq l k) (Some j) None)) (no_key k ms p.1) ∙ ap (λ b. cond b (Some j) None) p.0

some_has : (k : List ℕ) (ms : Members) (j : Json) → get_member k ms ≡ Some j → has_key k ms ≡ true
some_has k ms j e = go (has_key k ms) refl
  where
    go : (b : Bool) → has_key k ms ≡ b → b ≡ true
    go true h = refl
    go false h = let none = sym (no_key k ms h) ∙ e in absurd (cc)

first_or : (o : Option Json) (b : Bool) (j : Json) → b ≡ true → (i : Json) × (later_or o (cond b (Some j) None) ≡ Some i)
first_or None b j t = (j, ap (λ c. cond c (Some j) None) t)
first_or (Some x) b j t = (x, refl)

later_some : (o : Option Json) (p : Option Json) (i : Json) → o ≡ Some i → later_or o p ≡ Some i
later_some o p i e = ap (λ q. later_or q p) e

has_some : (k : List ℕ) (ms : Members) → has_key k ms ≡ true → (j : Json) × (get_member k ms ≡ Some j)
has_some k no_members e = absurd (cc)
has_some k (member l j ms) e =
    elim (or_split (bytes_eq l k) (has_key k ms) e) [
      | inl t ↦ first_or (get_member k ms) (bytes_eq l k) j t
      | inr u ↦ ((has_some k ms u).0, later_some (get_member k ms) _ _ (has_some k ms u).1)
    ]

here : (k : List ℕ) (j : Json) (ms : Members) → has_key k ms ≡ false → get_member k (member k j ms) ≡ Some j
here k j ms e = ap (λ o. later_or o (cond (bytes_eq k k) (Some j) None)) (no_key k ms e) ∙ ap (λ b. cond b (Some j) None) (bytes_refl k)

keys_sub : (ms ns : Members) → ((k : List ℕ) → has_key k ms ≡ true → has_key k ns ≡ true) → has_keys ms ns ≡ true
keys_sub no_members ns h = refl
keys_sub (member k j ms) ns h =
    and_true (has_key k ns) (has_keys ms ns)
    (h k (ap (λ b. b || has_key k ms) (bytes_refl k)))
    (keys_sub ms ns (λ l e. h l (or_right (bytes_eq k l) (has_key l ms) e)))

keys_have : (ms ns : Members) → has_keys ms ns ≡ true → (k : List ℕ) → has_key k ms ≡ true → has_key k ns ≡ true
keys_have no_members ns h k e = absurd (cc)
keys_have (member l j ms) ns h k e =
    let p = and_parts (has_key l ns) (has_keys ms ns) h in
    elim (or_split (bytes_eq l k) (has_key k ms) e) [
      | inl t ↦ subst (λ x. has_key x ns ≡ true) (bytes_same l k t) p.0
      | inr u ↦ keys_have ms ns p.1 k u
    ]

holds_some : (p : Json → Bool) (o : Option Json) → holds_of p o ≡ true → (j : Json) × (o ≡ Some j)
holds_some p None h = absurd (cc)
holds_some p (Some j) h = (j, refl)

-- ---- each value equals itself

first_holds : (k : List ℕ) (j : Json) (ms : Members) (o : Json) → (get_member k (member k j ms) ≡ Some j → get k o ≡ Some j) → json_equal j j ≡ true → (has_key k ms || holds_of (json_equal j) (get k o)) ≡ true
first_holds k j ms o h same = go (has_key k ms) refl
  where
    go : (b : Bool) → has_key k ms ≡ b → (b || holds_of (json_equal j) (get k o)) ≡ true
    go true e = refl
    go false e = ap (holds_of (json_equal j)) (h (here k j ms e)) ∙ same

mutual
  pub json_refl : (j : Json) → json_equal j j ≡ true
  json_refl null = refl
  json_refl (boolean b) = beq_refl b
  json_refl (number s) = numbers_refl s
  json_refl (string s) = bytes_refl s
  json_refl (array js) = items_refl js
  json_refl (object ms) = and_true (has_keys ms ms) (equal_members ms (object ms)) (keys_sub ms ms (λ k e. e)) (members_refl ms (object ms) (λ k j e. e))

  items_refl : (js : Items) → equal_items js js ≡ true
  items_refl no_items = refl
  items_refl (item j js) = and_true (json_equal j j) (equal_items js js) (json_refl j) (items_refl js)

  members_refl : (ms : Members) (o : Json) → ((k : List ℕ) (j : Json) → get_member k ms ≡ Some j → get k o ≡ Some j) → equal_members ms o ≡ true
  members_refl no_members o h = refl
  members_refl (member k j ms) o h =
      and_true (has_key k ms || holds_of (json_equal j) (get k o)) (equal_members ms o)
      (first_holds k j ms o (h k j) (json_refl j))
      (members_refl ms o (λ l i e. h l i (later_some (get_member l ms) _ i e)))

-- ---- equality is symmetric

last_is : (b : Bool) (x j : Json) → cond b (Some x) None ≡ Some j → (b ≡ true) × (x ≡ j)
last_is true x j e = (refl, cc)
last_is false x j e = absurd (cc)

-- a member that is found is one further on, or the first
found_later : (k l : List ℕ) (x j i : Json) (ms : Members) → get_member k (member l x ms) ≡ Some j → get_member k ms ≡ Some i → get_member k ms ≡ Some j
found_later k l x j i ms e g = g ∙ (sym (later_some (get_member k ms) (cond (bytes_eq l k) (Some x) None) i g) ∙ e)

found_first : (k l : List ℕ) (x j : Json) (ms : Members) → get_member k (member l x ms) ≡ Some j → get_member k ms ≡ None → (bytes_eq l k ≡ true) × (x ≡ j)
found_first k l x j ms e n = last_is (bytes_eq l k) x j (sym (ap (λ o. later_or o (cond (bytes_eq l k) (Some x) None)) n) ∙ e)

none_is_no_key : (k l : List ℕ) (ms : Members) → l ≡ k → get_member k ms ≡ None → has_key l ms ≡ true → ⊥
none_is_no_key k l ms e n h =
    let r = has_some k ms (subst (λ x. has_key x ms ≡ true) e h) in
    let none = sym n ∙ r.1 in
    cc

found_equal : (ms : Members) (o : Json) → equal_members ms o ≡ true → (k : List ℕ) (j : Json) → get_member k ms ≡ Some j → holds_of (json_equal j) (get k o) ≡ true
found_equal no_members o h k j e = absurd (cc)
found_equal (member l x ms) o h k j e =
    let p = and_parts (has_key l ms || holds_of (json_equal x) (get l o)) (equal_members ms o) h in
    elim (some_or (get_member k ms)) [
      | inl n ↦ (let q = found_first k l x j ms e n in
          let same = bytes_same l k q.0 in
          elim (or_split (has_key l ms) (holds_of (json_equal x) (get l o)) p.0) [
            | inl t ↦ absurd (none_is_no_key k l ms same n t)
            | inr u ↦ subst (λ y. holds_of (json_equal y) (get k o) ≡ true) q.1 (subst (λ m. holds_of (json_equal x) (get m o) ≡ true) same u)
          ])
      | inr f ↦ found_equal ms o p.1 k j (found_later k l x j f.0 ms e f.1)
    ]

others_equal : (ms all ns : Members) → ((k : List ℕ) (j i : Json) → get_member k ms ≡ Some j → json_equal j i ≡ true → json_equal i j ≡ true) → equal_members ms (object all) ≡ true → has_keys all ms ≡ true → ((k : List ℕ) (i : Json) → get_member k ns ≡ Some i → get_member k all ≡ Some i) → equal_members ns (object ms) ≡ true
others_equal ms all no_members back eq keys sub = refl
others_equal ms all (member k i ns) back eq keys sub =
    and_true (has_key k ns || holds_of (json_equal i) (get_member k ms)) (equal_members ns (object ms))
    (go (has_key k ns) refl)
    (others_equal ms all ns back eq keys (λ l x e. sub l x (later_some (get_member l ns) _ x e)))
  where
    go : (b : Bool) → has_key k ns ≡ b → (b || holds_of (json_equal i) (get_member k ms)) ≡ true
    go true e = refl
    go false e =
        let at = sub k i (here k i ns e) in
        let r = has_some k ms (keys_have all ms keys k (some_has k all i at)) in
        let forth = found_equal ms (object all) eq k r.0 r.1 in
        let equal = sym (ap (holds_of (json_equal r.0)) at) ∙ forth in
        ap (holds_of (json_equal i)) r.1 ∙ back k r.0 i r.1 equal

keys_back : (ms ns : Members) → equal_members ms (object ns) ≡ true → (k : List ℕ) → has_key k ms ≡ true → has_key k ns ≡ true
keys_back ms ns eq k e =
    let r = has_some k ms e in
    let f = holds_some (json_equal r.0) (get_member k ns) (found_equal ms (object ns) eq k r.0 r.1) in
    some_has k ns f.0 f.1

mutual
  json_back : (i j : Json) → json_equal i j ≡ true → json_equal j i ≡ true
  json_back null null h = refl
  json_back (boolean b) (boolean c) h = beq_sym c b ∙ h
  json_back (number s) (number t) h = numbers_sym t s ∙ h
  json_back (string s) (string t) h = bytes_sym t s ∙ h
  json_back (array is) (array js) h = items_back is js h
  json_back (object ms) (object ns) h =
      let p = and_parts (has_keys ns ms) (equal_members ms (object ns)) h in
      and_true (has_keys ms ns) (equal_members ns (object ms))
      (keys_sub ms ns (keys_back ms ns p.1))
      (others_equal ms ns ns (members_back ms) p.1 p.0 (λ k i e. e))
  json_back _ _ h = absurd (cc)

  items_back : (is js : Items) → equal_items is js ≡ true → equal_items js is ≡ true
  items_back no_items no_items h = refl
  items_back (item i is) (item j js) h =
      let p = and_parts (json_equal i j) (equal_items is js) h in
      and_true (json_equal j i) (equal_items js is) (json_back i j p.0) (items_back is js p.1)
  items_back _ _ h = absurd (cc)

  members_back : (ms : Members) (k : List ℕ) (j i : Json) → get_member k ms ≡ Some j → json_equal j i ≡ true → json_equal i j ≡ true
  members_back no_members k j i e h = absurd (cc)
  members_back (member l x ms) k j i e h =
      elim (some_or (get_member k ms)) [
        | inl n ↦ (let q = found_first k l x j ms e n in
            subst (λ y. json_equal i y ≡ true) q.1 (json_back x i (subst (λ y. json_equal y i ≡ true) (sym q.1) h)))
        | inr f ↦ members_back ms k j i (found_later k l x j f.0 ms e f.1) h
      ]

pub json_sym : (i j : Json) → json_equal i j ≡ json_equal j i
json_sym i j = same_bool (json_equal i j) (json_equal j i) (json_back i j) (json_back j i)
