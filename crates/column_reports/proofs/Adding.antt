-- Members and values that are added one after another.
use Rattle.std.proofs.Common.{◌≡◌, ℕ, ◌+◌, List, [], ◌∷◌, ◌++◌, flat_map, map, take, Result, OnOk, refl, sym, ap, ◌∙◌, subst, append_assoc, append-nil}
use Rattle.std.proofs.lemmas.List.{map-append}
use Rattle.std.proofs.lemmas.List.Concat.{flat_map-append}
use Rattle.std.proofs.lemmas.Result.{on_ok_weaker}
use Rattle.json.specs.Token.{Token, begin_object, end_object, begin_array, end_array, key}
use Rattle.json.specs.Json.{Json}
use Rattle.json.specs.Tree.{json_tokens, items_tokens, members_tokens}
use Rattle.json.specs.Written.{Written, Writes}
use Rattle.arrow_values.specs.Tree.{Text}
use Rattle.value_tokens.specs.Adds.{Adds}
use Rattle.value_tokens.proofs.Adding as adding
use Rattle.value_tokens.proofs.Adding.{added}
use Rattle.column_reports.specs.Objects.{items_from, members_from, array_of, object_of, member_tokens, AddsEach, AddsMembers, AddsValues}

-- ---- the tokens of an array and of an object

from_items : (js : List Json) → items_tokens (items_from js) ≡ flat_map json_tokens js ++ end_array ∷ []
from_items [] = refl
from_items (j ∷ js) = ap (λ ts. json_tokens j ++ ts) (from_items js) ∙ sym (append_assoc (json_tokens j) (flat_map json_tokens js) (end_array ∷ []))

from_members : (ms : List (Text × Json)) → members_tokens (members_from ms) ≡ flat_map member_tokens ms ++ end_object ∷ []
from_members [] = refl
from_members (m ∷ ms) = ap (λ ts. member_tokens m ++ ts) (from_members ms) ∙ sym (append_assoc (member_tokens m) (flat_map member_tokens ms) (end_object ∷ []))

pub array_tokens : (js : List Json) → json_tokens (array_of js) ≡ begin_array ∷ (flat_map json_tokens js ++ end_array ∷ [])
array_tokens js = ap (λ ts. begin_array ∷ ts) (from_items js)

pub object_tokens : (ms : List (Text × Json)) → json_tokens (object_of ms) ≡ begin_object ∷ (flat_map member_tokens ms ++ end_object ∷ [])
object_tokens ms = ap (λ ts. begin_object ∷ ts) (from_members ms)

-- ---- one after another

-- what follows from a token that was added, where the call that adds it succeeds
pub finished : {E : Type 0} (r : Result (Unit {0}) E) {old new : Written} {t : Token} {P : Type 0} → (Adds (t ∷ []) old new → P) → Writes r old new t → OnOk r P
finished r {old} {new} {t} f w = on_ok_weaker r f (added r old new t w)

pub one : {A : Type 0} {tokens_of : A → List Token} (x : A) {a b : Written} → Adds (tokens_of x) a b → AddsEach tokens_of (x ∷ []) a b
one {tokens_of = tokens_of} x {a} {b} p = record { all = subst (λ ts. Adds ts a b) (sym (append-nil (tokens_of x))) p }

pub then : {A : Type 0} {tokens_of : A → List Token} {xs ys : List A} {a b c : Written} → AddsEach tokens_of xs a b → AddsEach tokens_of ys b c → AddsEach tokens_of (xs ++ ys) a c
then {tokens_of = tokens_of} {xs} {ys} {a} {c = c} p q = record { all = subst (λ ts. Adds ts a c) (sym (flat_map-append tokens_of xs ys)) (adding.then p.all q.all) }

-- a value between its brackets, and behind its key
pub array : {js : List Json} {a b c d : Written} → Adds (begin_array ∷ []) a b → AddsValues js b c → Adds (end_array ∷ []) c d → Adds (json_tokens (array_of js)) a d
array {js} {a} {d = d} begin values end = subst (λ ts. Adds ts a d) (sym (array_tokens js)) (adding.then begin (adding.then values.all end))

pub object : {ms : List (Text × Json)} {a b c d : Written} → Adds (begin_object ∷ []) a b → AddsMembers ms b c → Adds (end_object ∷ []) c d → Adds (json_tokens (object_of ms)) a d
object {ms} {a} {d = d} begin members end = subst (λ ts. Adds ts a d) (sym (object_tokens ms)) (adding.then begin (adding.then members.all end))

pub named : {k : Text} {j : Json} {a b c : Written} → Adds (key k ∷ []) a b → Adds (json_tokens j) b c → AddsMembers ((k, j) ∷ []) a c
named {k} {j} p q = one (k, j) (adding.then p q)

-- what is added for v is added for w
pub for : {A V : Type 0} {tokens_of : A → List Token} (parts : V → List A) {v w : V} {a b : Written} → AddsEach tokens_of (parts v) a b → v ≡ w → AddsEach tokens_of (parts w) a b
for {tokens_of = tokens_of} parts {a = a} {b} added is = subst (λ v. AddsEach tokens_of (parts v) a b) is added

-- one more of the values that some things are written as
pub one_more : {A : Type 0} (value : A → Json) (xs : List A) (i : ℕ) (x : A) {a b c : Written} → take (i + 1) xs ≡ take i xs ++ x ∷ []
    → AddsValues (map value (take i xs)) a b → AddsValues (value x ∷ []) b c → AddsValues (map value (take (i + 1) xs)) a c
one_more value xs i x {a} {c = c} taken before this =
    subst (λ js. AddsValues js a c) (sym (ap (map value) taken ∙ map-append value (take i xs) (x ∷ []))) (then before this)
