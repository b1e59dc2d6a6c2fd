-- A JSON value is told by its tokens.
use Rattle.std.proofs.Common.{◌≡◌, List, [], length, ◌≤◌, Option, Some, None, sym, ap, ◌∙◌, arith, append-nil, length-append}
use Rattle.json.specs.Token.{Token}
use Rattle.json.specs.Json.{Json, null, boolean, number, string, array, object, Items, no_items, item, Members, no_members, member, value}
use Rattle.json.specs.Tree.{json_tokens, items_tokens, members_tokens, depth, items_depth, members_depth}
use Rattle.json.proofs.Printed.Trees.{value-json_tokens}

-- the value that was read, or null
abbrev first : Option (Json × List Token) → Json
first None = null
first (Some p) = p.0

abbrev pub json_from : List Token → Json
json_from ts = first (value (length ts) ts)

mutual
  fits : (j : Json) → depth j ≤ length (json_tokens j)
  fits null = omega arith
  fits (boolean b) = omega arith
  fits (number s) = omega arith
  fits (string s) = omega arith
  fits (array js) = omega (arith, items_fit js)
  fits (object ms) = omega (arith, members_fit ms)

  items_fit : (js : Items) → items_depth js ≤ length (items_tokens js)
  items_fit no_items = omega arith
  items_fit (item j js) = omega (arith, fits j, items_fit js, length-append (json_tokens j) (items_tokens js))

  members_fit : (ms : Members) → members_depth ms ≤ length (members_tokens ms)
  members_fit no_members = omega arith
  members_fit (member k j ms) = omega (arith, fits j, members_fit ms, length-append (json_tokens j) (members_tokens ms))

pub json_from-json_tokens : (j : Json) → json_from (json_tokens j) ≡ j
json_from-json_tokens j =
    let ts = json_tokens j in
    ap (λ l. first (value (length ts) l)) (sym (append-nil ts)) ∙ ap first (value-json_tokens j (length ts) [] (fits j))
