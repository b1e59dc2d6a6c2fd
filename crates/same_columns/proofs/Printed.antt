-- The text of a value without blanks, read again.
use Rattle.std.proofs.Common.{◌≡◌, ap, arith}
use Rattle.json.specs.Json.{Json}
use Rattle.json.specs.Lex.{tokens}
use Rattle.json.specs.Print.{print}
use Rattle.json.specs.Tree.{json_tokens}
use Rattle.json.proofs.Printed.Tokens.{tokens-print}
use Rattle.json.proofs.Printed.Trees.{document-print, ArePrintable-json_tokens}
use Rattle.value_tokens.specs.Values.{IsReadable, json_in, or_null}

pub printed_tokens : (j : Json) → IsReadable j → tokens (print (json_tokens j)) ≡ json_tokens j
printed_tokens j h = tokens-print (json_tokens j) (ArePrintable-json_tokens j h.0)

pub json_in_print : (j : Json) → IsReadable j → json_in (print (json_tokens j)) ≡ j
json_in_print j h = ap or_null (document-print j h.0 (omega (arith, h.1)))
