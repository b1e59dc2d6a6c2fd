use Rattle.std.proofs.Common.{◌≡◌, false, List, [], ◌∷◌, length, Option, None, Some, option_map, option_and_then, codes, refl, sym, ap, ◌∙◌, arith}
use Rattle.std.proofs.lemmas.Slice.Eq.{bytes_eq-Decides}
use Rattle.json.specs.Json as json
use Rattle.json.specs.Json.{read_key, parse_map}
use Rattle.json.specs.Lex.{tokens, fresh, after_value, punctuate}
use Rattle.json.specs.Token.{Token}
use Rattle.serde_json.specs.Data.{Data, null, string, object}
use Rattle.serde_json.specs.Read.{of_json, max_depth, read}
use Rattle.arrow_values.specs.Tree.{Text}
use Rattle.value_tokens.specs.Next.{next_value}
use Rattle.value_tokens.proofs.Turns.{converted_some, members_over, value_takes}
use Rattle.value_tokens.proofs.Beginnings.{next_object, next_string, next_null}
use Rattle.geoarrow_meta.specs.PlainTokens.{tokens_left, word_token}
use Rattle.geoarrow_meta.specs.Read.{present}
use Rattle.geoarrow_meta.proofs.KeyedValues.{crs_taken, crs_type_taken, edges_taken, passed}
use Rattle.geoarrow_meta.proofs.PlainTexts.{none_left}
use Rattle.geoarrow_meta.proofs.metadata.plain.plain_values.Goals as goal

-- the value of a plain text or null
abbrev word_value : Option Text → Data
word_value None = null
word_value (Some s) = string s

next_word : (w : Option Text) {ts rest : List Token} → ts ≡ word_token w ∷ rest → next_value 126 ts ≡ Some (word_value w, rest)
next_word None {rest = rest} is = ap (next_value 126) is ∙ next_null 126 rest
next_word (Some s) {rest = rest} is = ap (next_value 126) is ∙ next_string 126 s rest

-- as a slot has it
as_present : (w : Option Text) → option_map string w ≡ present (Some (word_value w))
as_present None = refl
as_present (Some s) = refl

-- a text is read if its value takes all its tokens
read_whole : (text : Text) (d : Data) → next_value max_depth (tokens text) ≡ Some (d, []) → read text ≡ Some d
read_whole text d e =
    let j = converted_some of_json (json.value max_depth (tokens text)) d [] e in
    ap (λ o. option_and_then of_json (option_and_then (λ p. json.if_last p.0 p.1) o)) j.1 ∙ j.2

pub values-preserved-then-eq : goal.values-preserved-then-eq
values-preserved-then-eq c =
    let key = rw c.in-Some.is at c.in_ok-key.ensures.key in
    let value = c.in_ok-value.ensures in
    let found = crs_taken c.values.invariant.found _ _ (ap read_key key) (value.value.0 fresh refl) ((bytes_eq-Decides c.in-Some.key.now (codes "crs")).0 (sym c.if-eq.ensures)) c.unless_null.ensures.present in
    record { found = found; floats = λ none. c.unless_null.ensures.whole (value.floats none).1; within = value.value.1 }

pub values-smaller-then-eq : goal.values-smaller-then-eq
values-smaller-then-eq c =
    let key = rw c.in-Some.is at c.in_ok-key.ensures.key in
    omega (arith, ap length key, value_takes 126 _ _ _ (c.in_ok-value.ensures.value.0 fresh refl))

pub values-preserved-in-crs_type : goal.values-preserved-in-crs_type
values-preserved-in-crs_type c =
    let named = ap read_key (rw c.in-Some.is at c.in_ok-key.ensures.key) in
    let word = next_word _ (c.in_ok-word.ensures.0 fresh refl) in
    record { found = crs_type_taken c.values.invariant.found _ _ named word c.in-crs_type.is (c.crs_type_of-found.ensures _ (as_present _)); floats = c.values.invariant.floats; within = c.in_ok-word.ensures.1 }

pub values-preserved-in-edges : goal.values-preserved-in-edges
values-preserved-in-edges c =
    let named = ap read_key (rw c.in-Some.is at c.in_ok-key.ensures.key) in
    let word = next_word _ (c.in_ok-word.ensures.0 fresh refl) in
    record { found = edges_taken c.values.invariant.found _ _ named word c.in-edges.is (c.edges_of-found.ensures _ (as_present _)); floats = c.values.invariant.floats; within = c.in_ok-word.ensures.1 }

pub values-preserved : goal.values-preserved
values-preserved c =
    let named = ap read_key (rw c.in-Some.is at c.in_ok-key.ensures.key) in
    let word = next_word _ (c.in_ok-word.ensures.0 fresh refl) in
    record { found = passed c.values.invariant.found _ _ named word (grind arith) (grind arith) (grind arith); floats = c.values.invariant.floats; within = c.in_ok-word.ensures.1 }

pub returns-in_default-clause-found : goal.returns-in_default-clause-found
unfolding punctuate
returns-in_default-clause-found c =
    let text = c.args.text.now in
    let way = c.values.invariant.found in
    let none = sym c.after_spaces.ensures.same ∙ none_left text c.after_spaces.result c.if-after_spaces-text.false in
    let key = rw c.in_default.is at c.in_ok-key.ensures.key in
    let end = ap read_key key ∙ ap (λ ls. Some (None, punctuate after_value ls)) none in
    let members = way.decides ∙ members_over 126 way.found _ [] end in
    let object_read = ap (next_value 127) c.in_ok-at.ensures.tokens ∙ next_object 126 (tokens_left false text c.in_ok-at.at) ∙ ap (parse_map object) members in
    (way.found, read_whole text (object way.found) object_read, way.values)
