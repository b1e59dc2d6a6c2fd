-- The members of a value that was read, and how deep they nest.
use Rattle.std.proofs.Common.{◌≡◌, ℕ, ◌<◌, ◌≤◌, Bool, true, false, cond, bytes_eq, [], append-nil, Option, None, Some, option_map, option_and_then, codes, refl, sym, ap, ◌∙◌, subst, arith}
use Rattle.json.specs.Json as json
use Rattle.json.specs.Find as find
use Rattle.json.specs.Json.{value}
use Rattle.json.specs.Lex.{tokens}
use Rattle.json.specs.Print.{print}
use Rattle.json.specs.Tree.{depth, json_tokens, members_depth}
use Rattle.json.proofs.Numbered.{HasNumbers-get}
use Rattle.json.proofs.Printed.Tokens.{tokens-print}
use Rattle.json.proofs.Printed.Trees.{ArePrintable-json_tokens, value-json_tokens}
use Rattle.serde_json.specs.Data.{Data, number, array, object, no_members}
use Rattle.serde_json.specs.Find.{get, as_str}
use Rattle.serde_json.specs.Read.{of_json, of_items, of_members, number_of, converted}
use Rattle.arrow_values.specs.Tree.{Text}
use Rattle.geoarrow_meta.specs.declared.edges.Edges.{Edges}
use Rattle.geoarrow_meta.specs.declared.crs.crs_type.CrsType.TheVariants.{Projjson}
use Rattle.geoarrow_meta.specs.MetadataText.{metadata_tokens}
use Rattle.value_tokens.specs.Next.{next_value}
use Rattle.value_tokens.specs.Values.{is_object}
use Rattle.value_tokens.proofs.Kept.{Reads, value_read}
use Rattle.geoparquet.specs.Extensions.{IsRead, crs_of, named_in, text_at, text_with}
use Rattle.geoparquet.specs.Values.{at, text_of_value}

-- ---- what is in a value that was read

last_shallow : (b : Bool) (j i : json.Json) → cond b (Some j) None ≡ Some i → j ≡ i
last_shallow true j i e = grind arith
last_shallow false j i e = absurd (cc)

either : (o : Option json.Json) (b : Bool) (j i : json.Json) (n : ℕ) → (o ≡ Some i → depth i ≤ n) → depth j ≤ n → find.later_or o (cond b (Some j) None) ≡ Some i → depth i ≤ n
either None b j i n h le e = subst (λ v. depth v ≤ n) (last_shallow b j i e) le
either (Some x) b j i n h le e = h e

members_shallow : (k : Text) (ms : json.Members) (i : json.Json) (n : ℕ) → members_depth ms ≤ n → find.get_member k ms ≡ Some i → depth i ≤ n
members_shallow k json.no_members i n le e = absurd (cc)
members_shallow k (json.member l j ms) i n le e = either (find.get_member k ms) (bytes_eq l k) j i n (members_shallow k ms i n (omega (arith, le))) (omega (arith, le)) e

-- a member nests less deep
pub shallower : (k : Text) (j i : json.Json) → find.get k j ≡ Some i → depth i < depth j
shallower k json.null i e = absurd (cc)
shallower k (json.boolean b) i e = absurd (cc)
shallower k (json.number s) i e = absurd (cc)
shallower k (json.string s) i e = absurd (cc)
shallower k (json.array js) i e = absurd (cc)
shallower k (json.object ms) i e = omega (arith, members_shallow k ms i (members_depth ms) (omega arith) e)

pub member_is_read : (k : Text) (j i : json.Json) → IsRead j → find.get k j ≡ Some i → IsRead i
member_is_read k j i ((numbers, nests), (d, is)) e =
    let there : Reads (Some i) (get k d) = subst (λ o. Reads o (get k d)) e (value_read k j d is) in
    ((HasNumbers-get k j i numbers (sym e), omega (arith, nests, shallower k j i e)), (there.0, there.1))

-- ---- the text of a value that was read

pub tokens_written : (j : json.Json) (text : Text) → IsRead j → text ≡ print (json_tokens j) → tokens text ≡ json_tokens j
tokens_written j text ((numbers, nests), is) e = ap tokens e ∙ tokens-print (json_tokens j) (ArePrintable-json_tokens j numbers)

-- a value that nests less deep is that of metadata
pub next_read : (j : json.Json) (text : Text) → IsRead j → depth j ≤ 126 → text ≡ print (json_tokens j) → (d : Data) × (next_value 126 (tokens text) ≡ Some (d, []))
next_read j text is shallow e =
    let next = ap (value 126) (tokens_written j text is e ∙ sym (append-nil (json_tokens j))) ∙ value-json_tokens j 126 [] shallow in
    (is.1.0, ap (converted of_json) next ∙ ap (option_map (λ v. (v, []))) is.1.1)

pub object_text : (j : json.Json) (text : Text) (edges : Option Edges) → IsRead j → is_object j ≡ true → text ≡ print (json_tokens j) → print (metadata_tokens (tokens text) (Some Projjson) edges) ≡ text_with (crs_of (Some j)) edges
object_text j text edges is braced e = rw braced (ap (λ ts. print (metadata_tokens ts (Some Projjson) edges)) (tokens_written j text is e))
