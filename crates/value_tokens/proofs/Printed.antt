-- The text of a value that was printed: it is the value's compact text, and reads back as the value.
use Rattle.std.specs.Prelude.{◌≡◌, ◌≤◌, ℕ, suc, List, [], ◌++◌, Some, option_and_then, refl}
use Rattle.std.proofs.Common.{max, sym, ap, ap₂, ◌∙◌, arith, append-nil}
use Rattle.json.specs.Lex.{tokens}
use Rattle.json.specs.Json as json
use Rattle.json.specs.Print.{print}
use Rattle.json.specs.Tree as tree
use Rattle.json.specs.Written.{Written}
use Rattle.json.proofs.Printed.Trees.{value-json_tokens}
use Rattle.serde_json.specs.Data.{Data, array, object, Items, no_items, item, Members, no_members, member, depth, items_depth, members_depth}
use Rattle.serde_json.specs.Read.{of_json, read, max_depth}
use Rattle.serde_json.specs.Written.{outline, items_outline, members_outline, compact_text}
use Rattle.serde_json.proofs.Texts.{print-outline}
use Rattle.value_tokens.specs.Adds.{Prints}

mutual
  outline_depth : (d : Data) → tree.depth (outline d) ≡ depth d
  outline_depth (array ds) = ap suc (items_outline_depth ds)
  outline_depth (object ms) = ap suc (members_outline_depth ms)
  outline_depth _ = refl

  items_outline_depth : (ds : Items) → tree.items_depth (items_outline ds) ≡ items_depth ds
  items_outline_depth no_items = refl
  items_outline_depth (item d ds) = ap₂ max (outline_depth d) (items_outline_depth ds)

  members_outline_depth : (ms : Members) → tree.members_depth (members_outline ms) ≡ members_depth ms
  members_outline_depth no_members = refl
  members_outline_depth (member k d ms) = ap₂ max (outline_depth d) (members_outline_depth ms)

-- a new writer then has exactly the tokens of the value
all_tokens : (d : Data) {start end : Written} → start.tokens ≡ [] → Prints d start end → end.tokens ≡ tree.json_tokens (outline d)
all_tokens d none p = p.adds.tokens ∙ ap (λ l. l ++ tree.json_tokens (outline d)) none

-- the text is the bytes that were there before, and then the compact text of the value
pub printed : (d : Data) {start end : Written} {bytes text : List ℕ} → start.before ≡ bytes → start.tokens ≡ [] → Prints d start end → text ≡ end.before ++ print end.tokens → text ≡ bytes ++ compact_text d
printed d {start} {end} {bytes} before none p text =
    text ∙ ap (λ b. b ++ print end.tokens) (p.adds.before ∙ before) ∙ ap (λ ts. bytes ++ print ts) (all_tokens d none p) ∙ ap (λ s. bytes ++ s) (print-outline d)

-- the compact text reads back as the value, if that nests no deeper than a text may
pub reads_back : (d : Data) {start end : Written} → start.tokens ≡ [] → Prints d start end → tokens (print end.tokens) ≡ end.tokens → depth d ≤ max_depth → read (compact_text d) ≡ Some d
reads_back d {start} {end} none p same shallow =
    let all = all_tokens d none p in
    let found : tokens (compact_text d) ≡ tree.json_tokens (outline d) = ap tokens (sym (print-outline d)) ∙ ap (λ ts. tokens (print ts)) (sym all) ∙ same ∙ all in
    ap (λ o. option_and_then of_json (option_and_then (λ p. json.if_last p.0 p.1) o))
    (ap (json.value max_depth) (found ∙ sym (append-nil _)) ∙ value-json_tokens (outline d) max_depth [] (omega (arith, outline_depth d))) ∙ p.reads_back
