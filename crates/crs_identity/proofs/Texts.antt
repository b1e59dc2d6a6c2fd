-- The JSON value that a text is.
use Rattle.std.proofs.Common.{◌≡◌, ℕ, cond, true, false, List, [], append-nil, Some, None, option_and_then, is_some, sym, ap, ◌∙◌, arith}
use Rattle.json.specs.Json.{Json, null, boolean, number, string, array, object, document, if_last, max_depth, value}
use Rattle.json.specs.Lex.{tokens}
use Rattle.json.specs.Tree.{json_tokens}
use Rattle.json.proofs.Printed.Trees.{value-json_tokens}
use Rattle.serde_json.specs.Data.{Data}
use Rattle.serde_json.specs.Read.{of_json, read}
use Rattle.value_tokens.specs.Values.{IsReadable, is_object}
use Rattle.crs_identity.specs.Forms.{projjson, other, form_by, json_in}

document_so : (s : List ℕ) (j : Json) → tokens s ≡ json_tokens j → IsReadable j → document s ≡ Some j
document_so s j e h =
    let read = ap (value max_depth) (e ∙ sym (append-nil (json_tokens j))) ∙ value-json_tokens j max_depth [] (omega (arith, h.1)) in
    ap (λ o. option_and_then (λ p. if_last p.0 p.1) o) read

-- what was read is that value
pub json_read : (s : List ℕ) (j : Json) → tokens s ≡ json_tokens j → IsReadable j → (d : Data) × (of_json j ≡ Some d) × (read s ≡ Some d) → json_in s ≡ Some j
json_read s j e h r = ap (λ o. cond (is_some o) (document s) None) r.2 ∙ document_so s j e h

pub object_form : (s : List ℕ) (j : Json) → is_object j ≡ true → json_in s ≡ Some j → form_by s (json_in s) ≡ projjson j
object_form s null o e = absurd (cc)
object_form s (boolean b) o e = absurd (cc)
object_form s (number n) o e = absurd (cc)
object_form s (string t) o e = absurd (cc)
object_form s (array js) o e = absurd (cc)
object_form s (object ms) o e = ap (form_by s) e

pub other_form : (s : List ℕ) (j : Json) → is_object j ≡ false → json_in s ≡ Some j → form_by s (json_in s) ≡ other (string s)
other_form s null o e = ap (form_by s) e
other_form s (boolean b) o e = ap (form_by s) e
other_form s (number n) o e = ap (form_by s) e
other_form s (string t) o e = ap (form_by s) e
other_form s (array js) o e = ap (form_by s) e
other_form s (object ms) o e = absurd (cc)

pub no_json : (s : List ℕ) → read s ≡ None → form_by s (json_in s) ≡ other (string s)
no_json s e = ap (λ o. form_by s (cond (is_some o) (document s) None)) e
