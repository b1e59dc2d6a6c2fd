-- Members that are added one after another.
use Rattle.std.proofs.Common.{◌≡◌, List, [], ◌∷◌, ◌++◌, flat_map, Result, OnOk, refl, sym, ap, ◌∙◌, subst, append_assoc, append-nil}
use Rattle.std.proofs.lemmas.List.Concat.{flat_map-append}
use Rattle.std.proofs.lemmas.Result.{on_ok_weaker}
use Rattle.json.specs.Token.{begin_object, end_object, key, Token}
use Rattle.json.specs.Json.{Json}
use Rattle.json.specs.Tree.{json_tokens, members_tokens}
use Rattle.json.specs.Written.{Written, Writes}
use Rattle.arrow_values.specs.Tree.{Text}
use Rattle.value_tokens.specs.Adds.{Adds}
use Rattle.value_tokens.proofs.Adding as adding
use Rattle.value_tokens.proofs.Adding.{added}
use Rattle.column_reports.specs.Objects.{members_from, object_of, member_tokens, AddsMembers}

from_members : (ms : List (Text × Json)) → members_tokens (members_from ms) ≡ flat_map member_tokens ms ++ end_object ∷ []
from_members [] = refl
from_members (m ∷ ms) = ap (λ ts. member_tokens m ++ ts) (from_members ms) ∙ sym (append_assoc (member_tokens m) (flat_map member_tokens ms) (end_object ∷ []))

object_tokens : (ms : List (Text × Json)) → json_tokens (object_of ms) ≡ begin_object ∷ (flat_map member_tokens ms ++ end_object ∷ [])
object_tokens ms = ap (λ ts. begin_object ∷ ts) (from_members ms)

-- what follows from a token that was added, where the call that adds it succeeds
pub finished : {E : Type 0} (r : Result (Unit {0}) E) {old new : Written} {t : Token} {P : Type 0} → (Adds (t ∷ []) old new → P) → Writes r old new t → OnOk r P
finished r {old} {new} {t} f w = on_ok_weaker r f (added r old new t w)

-- a member, by its key and its value
pub named : {k : Text} {j : Json} {a b c : Written} → Adds (key k ∷ []) a b → Adds (json_tokens j) b c → AddsMembers ((k, j) ∷ []) a c
named {k} {j} {a} {c = c} p q = record { all = subst (λ ts. Adds ts a c) (sym (append-nil (member_tokens (k, j)))) (adding.then p q) }

-- members, and others behind them
pub then : {ms ns : List (Text × Json)} {a b c : Written} → AddsMembers ms a b → AddsMembers ns b c → AddsMembers (ms ++ ns) a c
then {ms} {ns} {a} {c = c} p q = record { all = subst (λ ts. Adds ts a c) (sym (flat_map-append member_tokens ms ns)) (adding.then p.all q.all) }

-- what is added for v is added for w
pub for : {V : Type 0} (parts : V → List (Text × Json)) {v w : V} {a b : Written} → AddsMembers (parts v) a b → v ≡ w → AddsMembers (parts w) a b
for parts {a = a} {b} added is = subst (λ v. AddsMembers (parts v) a b) is added

-- members between the brackets of their object
pub object : {ms : List (Text × Json)} {a b c d : Written} → Adds (begin_object ∷ []) a b → AddsMembers ms b c → Adds (end_object ∷ []) c d → Adds (json_tokens (object_of ms)) a d
object {ms} {a} {d = d} begin members end = subst (λ ts. Adds ts a d) (sym (object_tokens ms)) (adding.then begin (adding.then members.all end))
