-- The JSON value that a text is, and the values in it.
use Rattle.std.proofs.Common.{◌≡◌, ℕ, zero, suc, ◌≤◌, cond, List, [], append-nil, Option, None, Some, IfSome, option_and_then, option_map, is_some, subst, sym, ap, ◌∙◌, arith}
use Rattle.std.specs.Borrow.{Bor}
use Rattle.std.specs.declared.alloc.Global.{Global}
use Rattle.json.specs.Json.{Json, null, boolean, number, string, array, object, Items, no_items, item, document, if_last, max_depth as deepest, value}
use Rattle.json.specs.Find.{get_item, at}
use Rattle.json.specs.Lex.{tokens}
use Rattle.json.specs.Tree.{json_tokens, depth, items_depth}
use Rattle.json.specs.Value.{value_view}
use Rattle.json.specs.declared.value.Value.{Value}
use Rattle.json.proofs.Numbered.{HasNumbers-at}
use Rattle.json.proofs.Printed.Trees.{value-json_tokens}
use Rattle.serde_json.specs.Data.{Data}
use Rattle.serde_json.specs.Read.{of_json, read}
use Rattle.value_tokens.specs.Values.{IsReadable}
use Rattle.crs_identity.specs.Forms.{json_in}

document_so : (s : List ℕ) (j : Json) → tokens s ≡ json_tokens j → IsReadable j → document s ≡ Some j
document_so s j e h =
    let read = ap (value deepest) (e ∙ sym (append-nil (json_tokens j))) ∙ value-json_tokens j deepest [] (omega (arith, h.1)) in
    ap (λ o. option_and_then (λ p. if_last p.0 p.1) o) read

-- what was read is that value
pub json_read : (s : List ℕ) (j : Json) → tokens s ≡ json_tokens j → IsReadable j → (d : Data) × (of_json j ≡ Some d) × (read s ≡ Some d) → Some j ≡ json_in s
json_read s j e h r = sym (ap (λ o. cond (is_some o) (document s) None) r.2 ∙ document_so s j e h)

pub no_json : (s : List ℕ) → read s ≡ None → None ≡ json_in s
no_json s e = sym (ap (λ o. cond (is_some o) (document s) None) e)

-- ---- items

item_shallow : (n : ℕ) (js : Items) (i : Json) → get_item n js ≡ Some i → depth i ≤ items_depth js
item_shallow n no_items i e = absurd (cc)
item_shallow zero (item j js) i e = let same : j ≡ i = grind arith in subst (λ v. depth v ≤ items_depth (item j js)) same (omega arith)
item_shallow (suc n) (item j js) i e = omega (arith, item_shallow n js i e)

at_shallow : (n : ℕ) (j i : Json) → at n j ≡ Some i → depth i ≤ depth j
at_shallow n null i e = absurd (cc)
at_shallow n (boolean b) i e = absurd (cc)
at_shallow n (number s) i e = absurd (cc)
at_shallow n (string s) i e = absurd (cc)
at_shallow n (array js) i e = omega (arith, item_shallow n js i e)
at_shallow n (object ms) i e = absurd (cc)

pub item_read : (n : ℕ) (j : Json) (o : Option (Bor (Value Global))) → IsReadable j → option_map (λ v. value_view v.now) o ≡ at n j → IfSome o (λ v. IsReadable (value_view v.now))
item_read n j None h e = tt
item_read n j (Some v) (numbers, nests) e = (HasNumbers-at n j (value_view v.now) numbers e, omega (arith, nests, at_shallow n j (value_view v.now) (sym e)))
