-- A turn of a loop over the items of an array or the members of an object.
use Rattle.std.proofs.Common.{◌≡◌, ℕ, ◌-◌, ◌<◌, List, ◌∷◌, length, Option, Some, None, refl, ap, ◌∙◌, arith}
use Rattle.json.specs.Token.{Token}
use Rattle.json.specs.Json as json
use Rattle.json.specs.Json.{after_end_array, read_key, members, value}
use Rattle.json.proofs.Grammar.{left_none, left-parse_map, read_key-shorter}
use Rattle.serde_json.specs.Data.{Data, array, object, item, Members, no_members, put}
use Rattle.serde_json.specs.Read.{of_members, converted}
use Rattle.value_tokens.specs.Next.{next_value, next_items, next_members, after}
use Rattle.value_tokens.proofs.Turns.{no_value, value-array, value-object, value_takes, item_read, item_refused, items_over, member_read, member_refused, key_refused, members_over, after_some}

pub passed_takes : (depth : ℕ) (ts r : List Token) → after (next_value depth ts) ≡ Some r → length r < length ts
passed_takes depth ts r e = let d = after_some (next_value depth ts) r e in value_takes depth ts r d.0 d.1

pub pass_item : (depth : ℕ) (ts r : List Token) → after_end_array ts ≡ None → after (next_value depth ts) ≡ Some r → after (next_items depth ts) ≡ after (next_items depth r)
pass_item depth ts r going e =
    let d = after_some (next_value depth ts) r e in
    ap after (item_read depth ts r d.0 going d.1) ∙ left-parse_map (item d.0) (next_items depth r)

-- what goes on as something that is refused is refused
pub stopped : {A B : Type 0} (o : Option (A × List Token)) (p : Option (B × List Token)) → after o ≡ after p → p ≡ None → o ≡ None
stopped o p same none = left_none o (same ∙ ap after none)

-- which members were found decides nothing about the tokens that are left
rest_by : (js : json.Members) (found more : Members) (r : List Token) → after (converted (λ ms. of_members ms found) (Some (js, r))) ≡ after (converted (λ ms. of_members ms more) (Some (js, r)))
rest_by json.no_members found more r = refl
rest_by (json.member k j js) found more r = let again = λ (d : Data). rest_by js (put k d found) (put k d more) r in grind (arith, again)

found_any : (o : Option (json.Members × List Token)) (found more : Members) → after (converted (λ ms. of_members ms found) o) ≡ after (converted (λ ms. of_members ms more) o)
found_any None found more = refl
found_any (Some p) found more = rest_by p.0 found more p.1

pub pass_member : (depth : ℕ) (found : Members) (k : List ℕ) (ts s r : List Token) → read_key ts ≡ Some (Some k, s) → after (next_value depth s) ≡ Some r
    → after (next_members depth found ts) ≡ after (next_members depth found r)
pass_member depth found k ts s r key e =
    let d = after_some (next_value depth s) r e in
    ap after (member_read depth found k ts s r d.0 key d.1) ∙ found_any (members (value depth) (length r) r) (put k d.0 found) found

-- what is opened is passed over
pub pass_array : (depth : ℕ) (ts : List Token) → 0 < depth → after (next_value depth (Token.begin_array ∷ ts)) ≡ after (next_items (depth - 1) ts)
pass_array depth ts some = ap after (value-array depth ts some) ∙ left-parse_map array _

pub pass_object : (depth : ℕ) (ts : List Token) → 0 < depth → after (next_value depth (Token.begin_object ∷ ts)) ≡ after (next_members (depth - 1) no_members ts)
pass_object depth ts some = ap after (value-object depth ts some) ∙ left-parse_map object _

pub ruleset skipping = (no_value, item_refused, items_over, pass_item, passed_takes, stopped, pass_member, member_refused, key_refused, members_over, read_key-shorter, pass_array, pass_object)

pub ruleset reading = (item_refused, key_refused, member_refused, members_over)
