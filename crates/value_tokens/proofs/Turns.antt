-- JSON's grammar, one item or member at a time, and converted to `serde_json`'s values.
use Rattle.std.proofs.Common.{◌≡◌, ℕ, suc, ◌-◌, ◌<◌, ◌≤◌, List, [], ◌∷◌, length, Option, Some, None, option_and_then, refl, sym, ap, ◌∙◌, arith}
use Rattle.json.specs.Token.{Token}
use Rattle.json.specs.Json as json
use Rattle.json.specs.Json.{Parse, parse_map, after_end_array, read_key, items_step, members_step, items, members, value}
use Rattle.json.proofs.Grammar.{left, left_some, skip_value-shorter, read_key-shorter, value-begin_array, value-begin_object, value_is, items_end, items_more, items_fail, members_end, members_no_key, members_more, members_fail}
use Rattle.serde_json.specs.Data.{Data, array, object, no_items, item, Members, no_members, put}
use Rattle.serde_json.specs.Read.{of_json, of_items, of_members, converted}
use Rattle.value_tokens.specs.Next.{next_value, next_items, next_members, next_after, after}

-- ---- what was read, converted

pub converted_some : {A B : Type 0} (f : A → Option B) (o : Option (A × List Token)) (b : B) (r : List Token) → converted f o ≡ Some (b, r) → (a : A) × (o ≡ Some (a, r)) × (f a ≡ Some b)
converted_some f None b r e = absurd cc
converted_some f (Some p) b r e = (p.0, grind arith, grind arith)

pub converted-array : (o : Option (json.Items × List Token)) → converted of_json (parse_map json.array o) ≡ parse_map array (converted of_items o)
converted-array o = grind arith

pub converted-object : (o : Option (json.Members × List Token)) → converted of_json (parse_map json.object o) ≡ parse_map object (converted (λ ms. of_members ms no_members) o)
converted-object o = grind arith

-- an array and an object
pub value-array : (depth : ℕ) (ts : List Token) → 0 < depth → next_value depth (Token.begin_array ∷ ts) ≡ parse_map array (next_items (depth - 1) ts)
value-array depth ts some = ap (converted of_json) (value-begin_array depth ts some) ∙ converted-array (items (value (depth - 1)) (length ts) ts)

pub value-object : (depth : ℕ) (ts : List Token) → 0 < depth → next_value depth (Token.begin_object ∷ ts) ≡ parse_map object (next_members (depth - 1) no_members ts)
value-object depth ts some = ap (converted of_json) (value-begin_object depth ts some) ∙ converted-object (members (value (depth - 1)) (length ts) ts)

pub array_too_deep : (ts : List Token) → next_value 0 (Token.begin_array ∷ ts) ≡ None
array_too_deep ts = ap (converted of_json) (value_is 0 (Token.begin_array ∷ ts))

pub object_too_deep : (ts : List Token) → next_value 0 (Token.begin_object ∷ ts) ≡ None
object_too_deep ts = ap (converted of_json) (value_is 0 (Token.begin_object ∷ ts))

-- no value is next if no token is left
pub no_value : (depth : ℕ) (ts : List Token) → ts ≡ [] → next_value depth ts ≡ None
no_value depth ts none = ap (next_value depth) none ∙ ap (converted of_json) (value_is depth [])

-- a value takes at least one token
shorter : (depth : ℕ) (ts : List Token) (q : json.Json × List Token) → value depth ts ≡ Some q → length q.1 < length ts
shorter depth ts q is = skip_value-shorter depth ts q.1 (ap left is)

pub value_takes : (depth : ℕ) (ts r : List Token) (d : Data) → next_value depth ts ≡ Some (d, r) → length r < length ts
value_takes depth ts r d e = let j = converted_some of_json (value depth ts) d r e in shorter depth ts (j.0, r) j.1

-- ---- the grammar's bound on turns changes nothing if it is at least the number of tokens

-- a loop whose turn goes on only where fewer tokens are left
module _ {A : Type 0} (run : ℕ → Parse A) (turn_of : Parse A → Parse A) (law : (n : ℕ) (ts : List Token) → run (suc n) ts ≡ turn_of (run n) ts) (nothing : (n : ℕ) → run n [] ≡ None)
    (fewer : (f g : Parse A) (ts : List Token) → ((r : List Token) → length r < length ts → f r ≡ g r) → turn_of f ts ≡ turn_of g ts) where
  enough : (n m : ℕ) (ts : List Token) → length ts ≤ n → length ts ≤ m → run n ts ≡ run m ts
  enough n m [] le le2 = nothing n ∙ sym (nothing m)
  enough (suc n) (suc m) (t ∷ ts) le le2 = law n (t ∷ ts) ∙ fewer (run n) (run m) (t ∷ ts) (λ r less. enough n m r (omega arith) (omega arith)) ∙ sym (law m (t ∷ ts))
  enough _ _ (t ∷ ts) le le2 = absurd (omega arith)

items_enough : (depth n m : ℕ) (ts : List Token) → length ts ≤ n → length ts ≤ m → items (value depth) n ts ≡ items (value depth) m ts
unfolding items
items_enough depth = enough (items (value depth)) (λ more ts. items_step (value depth) more ts (after_end_array ts))
    (λ n ts. refl) (λ n. items_fail (value depth) n [] refl (value_is depth [])) (λ f g ts same. grind (arith, shorter, same))

members_enough : (depth n m : ℕ) (ts : List Token) → length ts ≤ n → length ts ≤ m → members (value depth) n ts ≡ members (value depth) m ts
unfolding members
members_enough depth = enough (members (value depth)) (λ more ts. option_and_then (λ p. members_step (value depth) more p.0 p.1) (read_key ts))
    (λ n ts. refl) (λ n. members_no_key (value depth) n [] refl) (λ f g ts same. grind (arith, shorter, read_key-shorter, same))

-- ---- an item, and the items after it

pub items_over : (depth : ℕ) (ts r : List Token) → after_end_array ts ≡ Some r → next_items depth ts ≡ Some (no_items, r)
items_over depth ts r e = ap (converted of_items) (items_end (value depth) (length ts) ts r (omega arith) e)

item_next : (depth : ℕ) (ts : List Token) → after_end_array ts ≡ None → next_items depth ts ≡ option_and_then (λ p. parse_map (item p.0) (next_items depth p.1)) (next_value depth ts)
item_next depth ts going = by (value depth ts) refl
  where
    by : (v : Option (json.Json × List Token)) → value depth ts ≡ v → next_items depth ts ≡ option_and_then (λ p. parse_map (item p.0) (next_items depth p.1)) (converted of_json v)
    by None e = ap (converted of_items) (items_fail (value depth) (length ts) ts going e)
    by (Some q) e =
        let less = shorter depth ts q e in
        rw (items_more (value depth) (length ts) ts q.1 q.0 (omega arith) going e, items_enough depth (length ts - 1) (length q.1) q.1 (omega arith) (omega arith)) (grind arith)

pub item_read : (depth : ℕ) (ts r : List Token) (d : Data) → after_end_array ts ≡ None → next_value depth ts ≡ Some (d, r) → next_items depth ts ≡ parse_map (item d) (next_items depth r)
item_read depth ts r d going e = item_next depth ts going ∙ ap (option_and_then (λ p. parse_map (item p.0) (next_items depth p.1))) e

pub item_refused : (depth : ℕ) (ts : List Token) → after_end_array ts ≡ None → next_value depth ts ≡ None → next_items depth ts ≡ None
item_refused depth ts going e = item_next depth ts going ∙ ap (option_and_then (λ p. parse_map (item p.0) (next_items depth p.1))) e

-- ---- a key, and what is next after it

pub members_over : (depth : ℕ) (old : Members) (ts r : List Token) → read_key ts ≡ Some (None, r) → next_members depth old ts ≡ Some (old, r)
members_over depth old ts r e = ap (converted (λ ms. of_members ms old)) (members_end (value depth) (length ts) ts r (omega arith) e)

pub key_refused : (depth : ℕ) (old : Members) (ts : List Token) → read_key ts ≡ None → next_members depth old ts ≡ None
key_refused depth old ts e = ap (converted (λ ms. of_members ms old)) (members_no_key (value depth) (length ts) ts e)

pub named : (depth : ℕ) (found : Members) (k : List ℕ) (ts s : List Token) → read_key ts ≡ Some (Some k, s) → next_members depth found ts ≡ next_after depth found k s
named depth found k ts s key = by (value depth s) refl
  where
    by : (v : Option (json.Json × List Token)) → value depth s ≡ v → next_members depth found ts ≡ option_and_then (λ p. next_members depth (put k p.0 found) p.1) (converted of_json v)
    by None e = ap (converted (λ ms. of_members ms found)) (members_fail (value depth) (length ts) k ts s key e)
    by (Some q) e =
        let first = read_key-shorter ts (Some k) s key in
        let less = shorter depth s q e in
        rw (members_more (value depth) (length ts) k ts s q.1 q.0 (omega arith) key e, members_enough depth (length ts - 1) (length q.1) q.1 (omega arith) (omega arith)) (grind arith)

pub taken : (depth : ℕ) (found : Members) (k : List ℕ) (ts r : List Token) (d : Data) → next_value depth ts ≡ Some (d, r) → next_after depth found k ts ≡ next_members depth (put k d found) r
taken depth found k ts r d e = ap (option_and_then (λ p. next_members depth (put k p.0 found) p.1)) e

pub member_read : (depth : ℕ) (old : Members) (k : List ℕ) (ts s r : List Token) (d : Data) → read_key ts ≡ Some (Some k, s) → next_value depth s ≡ Some (d, r) → next_members depth old ts ≡ next_members depth (put k d old) r
member_read depth old k ts s r d key e = named depth old k ts s key ∙ taken depth old k s r d e

pub member_refused : (depth : ℕ) (old : Members) (k : List ℕ) (ts s : List Token) → read_key ts ≡ Some (Some k, s) → next_value depth s ≡ None → next_members depth old ts ≡ None
member_refused depth old k ts s key e = named depth old k ts s key ∙ ap (option_and_then (λ p. next_members depth (put k p.0 old) p.1)) e

-- ---- only the tokens that are left

pub after_some : {A : Type 0} (o : Option (A × List Token)) (r : List Token) → after o ≡ Some r → (a : A) × (o ≡ Some (a, r))
after_some o r e = left_some o r e
