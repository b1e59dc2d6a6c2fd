-- Values of plain texts, as they are put together.
use Rattle.std.proofs.Common.{◌≡◌, ℕ, ◌+◌, ◌-◌, ◌<◌, ◌≤◌, List, [], ◌∷◌, ◌++◌, length, get_or, Bool, true, false, Option, None, Some, option_map, String, Global, Vec, BTreeMap, Bor, Ordering, Less, Equal, Greater, nat_cmp, string_bytes, refl, sym, ap, ◌∙◌, subst, rules}
use Rattle.std.proofs.lemmas.Bool.{or_parts}
use Rattle.std.specs.Ordering.{match_ordering}
use Rattle.std.specs.Cmp.Lexicographic.{slice_cmp}
use Rattle.json.specs.Token as token
use Rattle.json.specs.Token.{Token}
use Rattle.json.specs.Json.{after_end_array, parse_map}
use Rattle.json.specs.Lex.{punctuate}
use Rattle.json.proofs.Grammar.{closed_array}
use Rattle.serde_json.specs.Data.{Data, null, number, string, array, object, Members, no_members, member, put}
use Rattle.serde_json.specs.Read.{number_of}
use Rattle.serde_json.specs.View.{view, number_view, items_view, members_view}
use Rattle.serde_json.specs.Written.{has_float, items_have_float, members_have_float}
use Rattle.serde_json.specs.declared.number.Number.{Number}
use Rattle.serde_json.specs.declared.value.Value as variant
use Rattle.serde_json.specs.declared.value.Value.{Value, the_lemmas}
use Rattle.serde_json.proofs.Views.{view-Array, view-Object}
use Rattle.arrow_values.specs.Tree.{Text}
use Rattle.value_tokens.specs.Next.{next_value, next_items, next_members}
use Rattle.value_tokens.proofs.Turns.{value-array, value-object}
use Rattle.value_tokens.proofs.Beginnings.{next_string, next_null, next_number, no_end_array}
use Rattle.geoarrow_meta.specs.PlainTokens.{lexemes_at, tokens_left, Takes, TakesValue, word_token}
use Rattle.geoarrow_meta.proofs.PlainTexts.{operator_stands, object_opens, array_opens}

view-String : (s : String Global) → view (variant.String s) ≡ string (string_bytes s)
view-String s = search (rules, the_lemmas)

view-Number : (n : Number) → view (variant.Number n) ≡ number (number_view n)
view-Number n = search (rules, the_lemmas)

view-Null : view variant.Null ≡ null
view-Null = search (rules, the_lemmas)

module _ (text : Text) (depth from at next : ℕ) (same : lexemes_at text at ≡ lexemes_at text from) where
  -- the value stands where its first token does, after spaces
  moved : (t : Token) (d : Data) → Takes text at t next → next_value depth (t ∷ tokens_left true text next) ≡ Some (d, tokens_left true text next) → TakesValue text depth from d next
  moved t d takes read = (λ p may. ap (λ ls. next_value depth (punctuate p ls)) (sym same) ∙ ap (next_value depth) (takes.0 p may) ∙ read, takes.1)

  pub text_read : (s : String Global) (w : Option (Bor Text)) (t : Bor Text) → Takes text at (word_token (option_map (λ t. t.now) w)) next → w ≡ Some t → string_bytes s ≡ t.now
      → TakesValue text depth from (view (variant.String s)) next
  text_read s w t takes is bytes =
      rw (view-String s, bytes) (moved (token.string t.now) (string t.now) (subst (λ w. Takes text at (word_token (option_map (λ t. t.now) w)) next) is takes) (next_string depth t.now _))

  pub null_read : (w : Option (Bor Text)) → Takes text at (word_token (option_map (λ t. t.now) w)) next → w ≡ None → TakesValue text depth from (view variant.Null) next
  null_read w takes is = rw view-Null (moved token.null null (subst (λ w. Takes text at (word_token (option_map (λ t. t.now) w)) next) is takes) (next_null depth _))

  pub number_read : (s : Text) (n : Number) → Takes text at (token.number s) next → number_of s ≡ Some (number_view n) → TakesValue text depth from (view (variant.Number n)) next
  number_read s n takes is =
      rw (view-Number n) (moved (token.number s) (number (number_view n)) takes (next_number depth s _ ∙ ap (option_map (λ n. (number n, tokens_left true text next))) is))

  pub object_read : (m : BTreeMap (String Global) Value) → 0 < depth → get_or text at 0 ≡ 123
      → next_members (depth - 1) no_members (tokens_left false text (at + 1)) ≡ Some (members_view m.entries, tokens_left true text next) → next ≤ length text
      → TakesValue text depth from (view (variant.Object m)) next
  object_read m some opens read within =
      let brace = (operator_stands text at 123 refl opens).1 in
      rw (view-Object m) (λ p may. ap (λ ls. next_value depth (punctuate p ls)) (sym same ∙ brace) ∙ ap (next_value depth) (object_opens p _ may) ∙ value-object depth _ some ∙ ap (parse_map object) read, within)

  pub array_read : (v : Vec Value Global) → 0 < depth → get_or text at 0 ≡ 91 → next_items (depth - 1) (tokens_left false text (at + 1)) ≡ Some (items_view v.items, tokens_left true text next)
      → next ≤ length text → TakesValue text depth from (view (variant.Array v)) next
  array_read v some opens read within =
      let bracket = (operator_stands text at 91 refl opens).1 in
      rw (view-Array v) (λ p may. ap (λ ls. next_value depth (punctuate p ls)) (sym same ∙ bracket) ∙ ap (next_value depth) (array_opens p _ may) ∙ value-array depth _ some ∙ ap (parse_map array) read, within)

-- where a value is next, the array has not ended
pub not_ended : (depth : ℕ) (ts r : List Token) (d : Data) → next_value depth ts ≡ Some (d, r) → after_end_array ts ≡ None
not_ended depth ts r d read = by (after_end_array ts) refl
  where
    by : (o : Option (List Token)) → after_end_array ts ≡ o → after_end_array ts ≡ None
    by None e = e
    by (Some rest) e = let none : next_value depth ts ≡ None = ap (next_value depth) (closed_array ts rest e) ∙ no_end_array depth rest in absurd (cc)

-- ---- what is taken so far

-- the items that are left go behind those so far
pub record AreItemsSoFar (depth : ℕ) (all left : List Token) (items : List Value) (float_before float_read : Bool) : Type 0 where
  pub some : (rest : List Value) (r : List Token) → next_items depth left ≡ Some (items_view rest, r) → next_items depth all ≡ Some (items_view (items ++ rest), r)
  pub floats : float_read ≡ false → (float_before ≡ false) × (items_have_float (items_view items) ≡ false)

-- what is left is put into the members so far
pub record AreMembersSoFar (depth : ℕ) (all left : List Token) (members : Members) (float_before float_read : Bool) : Type 0 where
  pub decides : next_members depth no_members all ≡ next_members depth members left
  pub floats : float_read ≡ false → (float_before ≡ false) × (members_have_float members ≡ false)

-- ---- without a float

-- an item behind others
pub item_added : (vs : List Value) (v : Value) → items_have_float (items_view vs) ≡ false → has_float (view v) ≡ false → items_have_float (items_view (vs ++ v ∷ [])) ≡ false
item_added [] v none here = rw here refl
item_added (x ∷ vs) v none here =
    let parts = or_parts (has_float (view x)) (items_have_float (items_view vs)) none in
    rw parts.0 (item_added vs v parts.1 here)

-- a member among others
pub member_put : (k : Text) (d : Data) (ms : Members) → members_have_float ms ≡ false → has_float d ≡ false → members_have_float (put k d ms) ≡ false
member_put k d no_members none here = rw here refl
member_put k d (member l e ms) none here =
    let parts = or_parts (has_float e) (members_have_float ms) none in
    by (slice_cmp nat_cmp k l) parts.0 (member_put k d ms parts.1 here) parts.1
  where
    by : (o : Ordering) → has_float e ≡ false → members_have_float (put k d ms) ≡ false → members_have_float ms ≡ false
        → members_have_float (match_ordering o (member k d (member l e ms)) (member l d ms) (member l e (put k d ms))) ≡ false
    by Less first rest others = rw here none
    by Equal first rest others = rw here others
    by Greater first rest others = rw first rest
