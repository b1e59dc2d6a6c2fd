-- Texts among the items of an array, and what is asked of all items.
use Rattle.std.proofs.Common.{◌≡◌, List, [], ◌∷◌, length, is_some, rules, Bor, Bool, true, false, cond, bytes_eq, refl, sym, ap, ◌∙◌}
use Rattle.std.specs.List.{list_any}
use Rattle.std.specs.Prelude.{◌||◌, ◌&&◌, not}
use Rattle.json.specs.Json.{Json, string}
use Rattle.json.specs.Value.{value_view}
use Rattle.json.specs.declared.value.Value.{String, the_lemmas}
use Rattle.arrow_values.specs.Tree.{Text}
use Rattle.geoparquet.specs.BoxRules.{are_all, are_types}
use Rattle.geoparquet.specs.TypeNames.{type_named}
use Rattle.geoparquet.specs.TypeRules.{is_new_type, is_text}

-- a text that is added
or_one : (same before : Bool) → cond same true before ≡ (before || same)
or_one true true = refl
or_one true false = refl
or_one false true = refl
or_one false false = refl

pub with_text : (key t q : Text) (j : Json) (before after : Bool) → after ≡ cond (bytes_eq key q) true before → key ≡ t → j ≡ string t → after ≡ (before || is_text q j)
with_text key t q j before after is same there =
    is ∙ ap (λ k. cond (bytes_eq k q) true before) same ∙ or_one (bytes_eq t q) before ∙ ap (λ v. before || is_text q v) (sym there)

-- types that are there
pub types_there : (z : Bool) (js : List Json) → (length js ≡ 0 → ⊥) → are_all z js ≡ are_types z js
types_there z [] none = absurd (none refl)
types_there z (j ∷ js) none = refl

pub view_string : (A : Type 0) (t : Bor Text) → value_view {A = A} (String t) ≡ string t.now
view_string A t = search (rules, the_lemmas)

-- the name of a type, which stands among those items or not
pub new_type : (t : Text) (j : Json) (js : List Json) (stands : Bool) → j ≡ string t → is_some (type_named t) ≡ true
    → stands ≡ list_any (is_text t) js → not stands ≡ is_new_type js j
new_type t j js stands is named there =
    ap not there ∙ ap (λ b. b && not (list_any (is_text t) js)) (sym named) ∙ ap (is_new_type js) (sym is)
