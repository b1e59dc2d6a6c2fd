-- The JSON value that a text is.
use Rattle.std.proofs.Common.{◌≡◌, cond, [], append-nil, Some, None, option_and_then, is_some, sym, ap, ◌∙◌, arith}
use Rattle.json.specs.Json.{Json, document, if_last, max_depth, value}
use Rattle.json.specs.Lex.{tokens}
use Rattle.json.specs.Tree.{json_tokens}
use Rattle.json.proofs.Printed.Trees.{value-json_tokens}
use Rattle.serde_json.specs.Data.{Data}
use Rattle.serde_json.specs.Read.{of_json, read}
use Rattle.arrow_values.specs.Tree.{Text}
use Rattle.value_tokens.specs.Values.{IsReadable}
use Rattle.crs_identity.specs.Forms.{json_in}

document_so : (s : Text) (j : Json) → tokens s ≡ json_tokens j → IsReadable j → document s ≡ Some j
document_so s j e h =
    let read = ap (value max_depth) (e ∙ sym (append-nil (json_tokens j))) ∙ value-json_tokens j max_depth [] (omega (arith, h.1)) in
    ap (λ o. option_and_then (λ p. if_last p.0 p.1) o) read

-- what was read is that value; and what is not read is none
pub json_read : (s : Text) (j : Json) → tokens s ≡ json_tokens j → IsReadable j → (d : Data) × (of_json j ≡ Some d) × (read s ≡ Some d) → Some j ≡ json_in s
json_read s j e h r = sym (ap (λ o. cond (is_some o) (document s) None) r.2 ∙ document_so s j e h)

pub json_unread : (s : Text) → read s ≡ None → None ≡ json_in s
json_unread s e = sym (ap (λ o. cond (is_some o) (document s) None) e)
