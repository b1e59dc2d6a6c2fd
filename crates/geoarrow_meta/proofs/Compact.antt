-- PROJJSON without blanks is the same JSON value.
use Rattle.std.proofs.Common.{◌≡◌, ℕ, List, Bool, true, false, Some, None, if◌then◌else◌, refl, sym, ap, ◌∙◌}
use Rattle.json.specs.Lex.{tokens}
use Rattle.json.specs.Print.{print}
use Rattle.json.proofs.Printed.Tokens.{tokens-print}
use Rattle.serde_json.specs.Data.{Data}
use Rattle.value_tokens.specs.Next.{next_value}
use Rattle.geoarrow_meta.specs.CrsText.{IsJson, is_projjson_text}
use Rattle.geoarrow_meta.specs.Compact.{compact_projjson}
use Rattle.geoarrow_meta.proofs.Printable.{printable}
use Rattle.geoarrow_meta.proofs.Objects.{is_json}

-- a text of the same tokens, which is JSON
pub record IsSameJson (s text : List ℕ) : Type 0 where
  pub tokens_same : tokens text ≡ tokens s
  pub value : (d : Data) × IsJson text d

compact_by : (s text : List ℕ) (b : Bool) → is_projjson_text s ≡ b → (if b then Some (print (tokens s)) else None) ≡ Some text → IsSameJson s text
compact_by s text false not e = absurd (cc)
compact_by s text true is e =
    let json = is_json (next_value 126 (tokens s)) is in
    let printed : print (tokens s) ≡ text = cc in
    let same : tokens text ≡ tokens s = ap tokens (sym printed) ∙ tokens-print (tokens s) (printable s json.0 json.1) in
    record { tokens_same = same; value = (json.0, ap (next_value 126) same ∙ json.1) }

pub compact_is_same : (s text : List ℕ) → compact_projjson s ≡ Some text → IsSameJson s text
compact_is_same s text e = compact_by s text (is_projjson_text s) refl e
