-- What a metadata text is read from: JSON, in which the CRS nests less deep, so that it can be written.
use Rattle.std.proofs.Common.{◌≡◌, ℕ, ◌<◌, ◌≤◌, Bool, true, false, cond, bytes_eq, List, [], ◌∷◌, append-nil, Option, None, Some, option_and_then, codes, refl, sym, ap, ◌∙◌, subst, arith}
use Rattle.std.proofs.lemmas.Option.{option_and_then_some, same_Some}
use Rattle.json.specs.Token.{Token}
use Rattle.json.specs.Json.{Json, null, boolean, number, string, array, object, Members, no_members, member, value, if_last}
use Rattle.json.specs.Find.{get, get_member, later_or}
use Rattle.json.specs.Lex.{tokens}
use Rattle.json.specs.Tree.{json_tokens, depth, members_depth}
use Rattle.json.proofs.Nesting.{value-depth}
use Rattle.json.proofs.Numbered.{value-HasNumbers, ArePrintableOrBad-tokens, HasNumbers-get}
use Rattle.json.proofs.Unique.Spelling.{value-json_tokens_back}
use Rattle.serde_json.specs.Data.{Data}
use Rattle.serde_json.specs.Find.{get as get_data}
use Rattle.serde_json.specs.Read.{of_json, read, max_depth}
use Rattle.value_tokens.specs.Codes.{json_from, json_from-json_tokens}
use Rattle.value_tokens.specs.Values.{IsReadable}
use Rattle.value_tokens.proofs.Kept.{Reads, value_read}
use Rattle.arrow_values.specs.Tree.{Text}
use Rattle.column_check.specs.Metadata.{Values, unless_null, TextDenotes, TextHasCrs}
use Rattle.canonical_columns.specs.Canonical.{IsWritable}

-- a JSON value is told by its tokens
pub one_json : (i j : Json) → json_tokens i ≡ json_tokens j → i ≡ j
one_json i j same = sym (json_from-json_tokens i) ∙ ap json_from same ∙ json_from-json_tokens j

last_alone : (j i : Json) (rest : List Token) → if_last j rest ≡ Some i → (j ≡ i) × (rest ≡ [])
last_alone j i [] e = (same_Some j i e, refl)
last_alone j i (t ∷ ts) e = absurd cc

-- the value that a text is read from
pub read_from : (s : Text) (j : Json) (d : Data) → tokens s ≡ json_tokens j → read s ≡ Some d → IsReadable j × (of_json j ≡ Some d)
read_from s j d e reads =
    option_and_then_some of_json (option_and_then (λ p. if_last p.0 p.1) (value max_depth (tokens s))) d reads
    (λ i last is. option_and_then_some (λ p. if_last p.0 p.1) (value max_depth (tokens s)) i last (λ p found alone.
    let ends = last_alone p.0 i p.1 alone in
    let whole : value max_depth (tokens s) ≡ Some (i, []) = found ∙ (λ k. Some (ends.0 k, ends.1 k)) in
    let spelled = value-json_tokens_back max_depth (tokens s) [] i whole ∙ append-nil (json_tokens i) in
    let numbers = value-HasNumbers max_depth (tokens s) [] i (ArePrintableOrBad-tokens s) whole in
    let shallow = value-depth max_depth (tokens s) [] i whole in
    subst (λ x. IsReadable x × (of_json x ≡ Some d)) (one_json i j (sym spelled ∙ e)) ((numbers, shallow), is)))

-- ---- members nest less deep

last_shallow : (b : Bool) (j i : Json) → cond b (Some j) None ≡ Some i → j ≡ i
last_shallow true j i e = same_Some j i e
last_shallow false j i e = absurd (cc)

either : (o : Option Json) (b : Bool) (j i : Json) (n : ℕ) → (o ≡ Some i → depth i ≤ n) → depth j ≤ n → later_or o (cond b (Some j) None) ≡ Some i → depth i ≤ n
either None b j i n h le e = subst (λ v. depth v ≤ n) (last_shallow b j i e) le
either (Some x) b j i n h le e = h e

members_shallow : (k : Text) (ms : Members) (i : Json) (n : ℕ) → members_depth ms ≤ n → get_member k ms ≡ Some i → depth i ≤ n
members_shallow k no_members i n le e = absurd (cc)
members_shallow k (member l j ms) i n le e = either (get_member k ms) (bytes_eq l k) j i n (members_shallow k ms i n (omega (arith, le))) (omega (arith, le)) e

shallower : (k : Text) (j i : Json) → get k j ≡ Some i → depth i < depth j
shallower k null i e = absurd (cc)
shallower k (boolean b) i e = absurd (cc)
shallower k (number s) i e = absurd (cc)
shallower k (string s) i e = absurd (cc)
shallower k (array js) i e = absurd (cc)
shallower k (object ms) i e = omega (arith, members_shallow k ms i (members_depth ms) (omega arith) e)

-- ---- the CRS

member_writable : (k : Text) (j i : Json) (d : Data) → IsReadable j → of_json j ≡ Some d → get k j ≡ Some i → IsWritable (Some i)
member_writable k j i d (numbers, nests) is e =
    let there : Reads (Some i) (get_data k d) = subst (λ o. Reads o (get_data k d)) e (value_read k j d is) in
    (HasNumbers-get k j i numbers (sym e), omega (arith, nests, shallower k j i e), (there.0, there.1))

found_writable : (k : Text) (j : Json) (d : Data) (o : Option Json) → IsReadable j → of_json j ≡ Some d → get k j ≡ o → IsWritable (unless_null o)
found_writable k j d None readable is e = tt
found_writable k j d (Some null) readable is e = tt
found_writable k j d (Some (boolean b)) readable is e = member_writable k j (boolean b) d readable is e
found_writable k j d (Some (number s)) readable is e = member_writable k j (number s) d readable is e
found_writable k j d (Some (string s)) readable is e = member_writable k j (string s) d readable is e
found_writable k j d (Some (array js)) readable is e = member_writable k j (array js) d readable is e
found_writable k j d (Some (object ms)) readable is e = member_writable k j (object ms) d readable is e

-- the CRS of a metadata text that denotes values can be written
pub crs_writable : (t : Option Text) (v : Values) (crs : Option Json) → TextDenotes t v → TextHasCrs t crs → IsWritable crs
crs_writable None v crs denotes none = subst IsWritable (sym none) tt
crs_writable (Some []) v crs denotes none = subst IsWritable (sym none) tt
crs_writable (Some (b ∷ s)) v crs (d, reads, is) (j, spelled, same) =
    let from = read_from (b ∷ s) j d spelled reads in
    subst IsWritable (sym same) (found_writable (codes "crs") j d (get (codes "crs") j) from.0 from.1 refl)
