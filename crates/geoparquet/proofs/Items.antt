-- Findings of the items of an array, over the list that the code goes through.
use Rattle.std.proofs.Common.{◌≡◌, ℕ, ◌+◌, ◌<◌, ◌≤◌, Bool, List, [], ◌∷◌, Option, None, Some, IfSome, option_map, Bor, ◌++◌, length, get_or, drop, take, map, refl, sym, ap, ◌∙◌, subst, append_assoc, arith}
use Rattle.std.specs.List.{All}
use Rattle.std.proofs.lemmas.List.Elements.{All-cons, All-get_or, All-nil}
use Rattle.std.proofs.lemmas.List.{append-nil, drop_all, drop_more, get_or-map, length-map, length-take-le, take_more}
use Rattle.json.specs.Json.{Json, null, boolean, number, string, array, object, Items, no_items, item}
use Rattle.json.specs.Tree.{ItemsHaveNumbers, items_depth}
use Rattle.json.specs.Value.{value_view, items_of}
use Rattle.json.specs.declared.value.Value.{Value}
use Rattle.arrow_values.specs.Tree.{Text}
use Rattle.value_tokens.specs.Values.{IsReadable}
use Rattle.geoparquet.specs.Findings.{Finding}
use Rattle.geoparquet.specs.Rules.{item_finding, items_findings, items_in, list_of, unless}
use Rattle.geoparquet.specs.declared.code.GeoCode.{GeoCode}

module _ (keeps : List Json → Json → Bool) (code : GeoCode) (key place : Text) (js : List Json) where
  -- what is found of the items before that one, behind what was found at the start
  abbrev pub FoundTo : List Finding → ℕ → List Finding → Type 0
  FoundTo start i now =
      now ++ items_findings keeps code key place (take i js) (drop i js) ≡ start ++ items_findings keeps code key place [] js

  one : (before : List Json) (j : Json) (i : ℕ) (rest : List Json) → length before ≡ i
      → unless (keeps before j) (item_finding code key place i j) ++ items_findings keeps code key place (before ++ j ∷ []) rest
      ≡ items_findings keeps code key place before (j ∷ rest)
  one before j i rest e =
      ap (λ n. unless (keeps before j) (item_finding code key place n j) ++ items_findings keeps code key place (before ++ j ∷ []) rest) (sym e)

  pub one_item : (start now next : List Finding) (i : ℕ) (j : Json) → i < length js → j ≡ get_or js i j
      → next ≡ now ++ unless (keeps (take i js) j) (item_finding code key place i j) → FoundTo start i now → FoundTo start (i + 1) next
  one_item start now next i j lt is same so_far =
      let here = unless (keeps (take i js) j) (item_finding code key place i j) in
      let rest = drop (i + 1) js in
      let before = take_more js i j lt ∙ ap (λ g. take i js ++ g ∷ []) (sym is) in
      let left = ap (λ g. g ∷ rest) is ∙ sym (drop_more js i j lt) in
      ap (λ l. l ++ items_findings keeps code key place (take (i + 1) js) rest) same
      ∙ append_assoc now here (items_findings keeps code key place (take (i + 1) js) rest)
      ∙ ap (λ b. now ++ (here ++ items_findings keeps code key place b rest)) before
      ∙ ap (λ l. now ++ l) (one (take i js) j i rest (length-take-le i js (omega arith)))
      ∙ ap (λ l. now ++ items_findings keeps code key place (take i js) l) left
      ∙ so_far

  pub all_items : (start now : List Finding) (i : ℕ) → length js ≤ i → FoundTo start i now → now ≡ start ++ items_findings keeps code key place [] js
  all_items start now i past so_far =
      sym (append-nil now) ∙ ap (λ l. now ++ items_findings keeps code key place (take i js) l) (sym (drop_all i js past)) ∙ so_far

-- the value that a loop is at, as JSON
pub value_at : {A : Type 0} (vs : List (Value A)) (i : ℕ) (v : Value A) → i < length vs → v ≡ get_or vs i v
    → (i < length (map value_view vs)) × (value_view v ≡ get_or (map value_view vs) i (value_view v))
value_at vs i v lt is =
    (omega (arith, length-map vs value_view), ap value_view is ∙ sym (get_or-map value_view vs i v (value_view v) lt))

pub readable_at : {A : Type 0} (vs : List (Value A)) (i : ℕ) (v : Value A) → i < length vs → v ≡ get_or vs i v
    → All IsReadable (map value_view vs) → IsReadable (value_view v)
readable_at vs i v lt is all =
    let here = value_at vs i v lt is in
    subst IsReadable (sym here.1) (All-get_or IsReadable (map value_view vs) i (value_view v) here.0 all)

-- ---- arrays

pub list_of_items : (js : List Json) → list_of (items_of js) ≡ js
list_of_items [] = refl
list_of_items (j ∷ js) = ap (λ l. j ∷ l) (list_of_items js)

readable : (js : Items) → items_depth js ≤ 126 → ItemsHaveNumbers js → All IsReadable (list_of js)
readable no_items le h = All-nil IsReadable
readable (item j js) le (h, hs) =
    All-cons IsReadable j (list_of js) (h, omega (arith, le)) (readable js (omega (arith, le)) hs)

-- the items of a value that is readable are readable
pub items_readable : (o : Option Json) → IfSome o IsReadable → IfSome (items_in o) (All IsReadable)
items_readable None h = tt
items_readable (Some null) h = tt
items_readable (Some (boolean b)) h = tt
items_readable (Some (number s)) h = tt
items_readable (Some (string s)) h = tt
items_readable (Some (array js)) (numbers, nests) = readable js (omega (arith, nests)) numbers
items_readable (Some (object ms)) h = tt

from_found : {A : Type 0} (found : Option (Bor (Value A))) → IfSome found (λ v. IsReadable (value_view v.now)) → IfSome (option_map (λ v. value_view v.now) found) IsReadable
from_found None h = tt
from_found (Some v) h = h

to_items : {A : Type 0} (o : Option (Bor (List (Value A)))) → IfSome (option_map (λ vs. map value_view vs.now) o) (All IsReadable) → IfSome o (λ vs. All IsReadable (map value_view vs.now))
to_items None h = tt
to_items (Some vs) h = h

pub array_readable : {A : Type 0} (found : Option (Bor (Value A))) (o : Option (Bor (List (Value A)))) → IfSome found (λ v. IsReadable (value_view v.now))
    → option_map (λ vs. map value_view vs.now) o ≡ items_in (option_map (λ v. value_view v.now) found) → IfSome o (λ vs. All IsReadable (map value_view vs.now))
array_readable found o h e =
    let P : Option (List Json) → Type 0 = λ m. IfSome m (All IsReadable) in
    to_items o (subst P (sym e) (items_readable (option_map (λ v. value_view v.now) found) (from_found found h)))

-- a bound that is looked up by its place
pub item_got : {A : Type 0} (vs : List (Value A)) (i : ℕ) (v : Value A) → i < length vs → v ≡ get_or vs i v → value_view v ≡ get_or (map value_view vs) i null
item_got vs i v lt is = ap value_view is ∙ sym (get_or-map value_view vs i v null lt)
