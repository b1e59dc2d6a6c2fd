-- The tokens of a JSON text can be written.
use Rattle.std.proofs.Common.{◌≡◌, ℕ, List, [], sym, subst, ◌∙◌}
use Rattle.std.proofs.lemmas.List.{append-nil}
use Rattle.json.specs.Lex.{tokens}
use Rattle.json.specs.Json.{value}
use Rattle.json.specs.Tree.{json_tokens}
use Rattle.json.specs.Print.{ArePrintable}
use Rattle.json.proofs.Unique.Spelling.{value-json_tokens_back}
use Rattle.json.proofs.Numbered.{value-HasNumbers, ArePrintableOrBad-tokens}
use Rattle.json.proofs.Printed.Trees.{ArePrintable-json_tokens}
use Rattle.serde_json.specs.Data.{Data}
use Rattle.serde_json.specs.Read.{of_json}
use Rattle.value_tokens.proofs.Turns.{converted_some}
use Rattle.geoarrow_meta.specs.CrsText.{IsJson}

pub printable : (s : List ℕ) (d : Data) → IsJson s d → ArePrintable (tokens s)
printable s d e =
    let j = converted_some of_json (value 126 (tokens s)) d [] e in
    let spelled : tokens s ≡ json_tokens j.0 = value-json_tokens_back 126 (tokens s) [] j.0 j.1 ∙ append-nil (json_tokens j.0) in
    subst ArePrintable (sym spelled) (ArePrintable-json_tokens j.0 (value-HasNumbers 126 (tokens s) [] j.0 (ArePrintableOrBad-tokens s) j.1))
