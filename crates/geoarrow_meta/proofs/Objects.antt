-- Objects alone in a text.
use Rattle.std.proofs.Common.{◌≡◌, List, [], ◌∷◌, Bool, true, false, Option, Some, None, Result, Err, is_none, is_some, not, refl, sym, ap, ◌∙◌, true≢false, arith}
use Rattle.json.specs.Token as spec
use Rattle.json.specs.Json.{parse_map}
use Rattle.json.specs.Reads.{token_of, Yields}
use Rattle.json.specs.declared.token.Token.{Token}
use Rattle.json.specs.declared.token.Token.TheVariants.{BeginObject}
use Rattle.serde_json.specs.Data.{Data, object, Members, no_members}
use Rattle.value_tokens.specs.Next.{next_value, next_members}
use Rattle.value_tokens.proofs.Turns.{no_value, value-object}
use Rattle.value_tokens.proofs.Beginnings.{value_begins, no_object}
use Rattle.value_tokens.specs.declared.refusal.Refusal.{Refusal}
use Rattle.value_tokens.specs.declared.refusal.Refusal.TheVariants.{Text, Memory}
use Rattle.geoarrow_meta.specs.CrsText.{is_object_alone, is_alone_object}

-- an error that is not of memory is of the text
pub of_text : {P : Type 0} (r : Result (Unit {0}) Refusal) (e : Refusal) → r ≡ Err e → (r ≡ Err Text → P) → (r ≡ Err Memory → ⊥) → P
of_text r Text is refused never = refused is
of_text r Memory is refused never = absurd (never is)

pub flips : {A : Type 0} (b : Bool) (o : Option A) → is_some o ≡ not b → b ≡ is_none o
flips true None e = refl
flips false (Some a) e = refl
flips true (Some a) e = absurd (true≢false e)
flips false None e = absurd (true≢false (sym e))

module _ (ts : List spec.Token) where
  opened : next_value 126 (spec.begin_object ∷ ts) ≡ parse_map object (next_members 125 no_members ts)
  opened = value-object 126 ts (omega arith)

  pub refused : next_members 125 no_members ts ≡ None → false ≡ is_alone_object (spec.begin_object ∷ ts)
  refused none = sym (ap is_object_alone (opened ∙ ap (parse_map object) none))

  pub ends : (rest new : List spec.Token) (ms : Members) (o : Option Token) → next_members 125 no_members ts ≡ Some (ms, rest) → Yields rest o new → is_none o ≡ is_alone_object (spec.begin_object ∷ ts)
  ends rest new ms None e y = sym (ap is_object_alone (opened ∙ ap (parse_map object) (e ∙ ap (λ r. Some (ms, r)) y.0)))
  ends rest new ms (Some t) e y = sym (ap is_object_alone (opened ∙ ap (parse_map object) (e ∙ ap (λ r. Some (ms, r)) y)))

pub nothing : (ts : List spec.Token) → ts ≡ [] → false ≡ is_alone_object ts
nothing ts none = sym (ap is_object_alone (no_value 126 ts none))

other_on : (t : Token) (s : List spec.Token) (o : Option (Data × List spec.Token)) → (t ≡ BeginObject → ⊥) → next_value 126 (token_of t ∷ s) ≡ o → false ≡ is_object_alone o
other_on t s None other e = refl
other_on t s (Some (d, [])) other e = sym (ap is_some (no_object t d (value_begins 126 t s [] d e) other))
other_on t s (Some (d, x ∷ xs)) other e = refl

pub another : (ts : List spec.Token) (t : Token) (s : List spec.Token) → ts ≡ token_of t ∷ s → (t ≡ BeginObject → ⊥) → false ≡ is_alone_object ts
another ts t s first other = other_on t s (next_value 126 ts) other (ap (next_value 126) (sym first))

-- an object alone is JSON
pub is_json : (o : Option (Data × List spec.Token)) → is_object_alone o ≡ true → (d : Data) × (o ≡ Some (d, []))
is_json None h = absurd (true≢false (sym h))
is_json (Some (d, [])) h = (d, refl)
is_json (Some (d, t ∷ ts)) h = absurd (true≢false (sym h))

pub is_json_if : (b : Bool) (o : Option (Data × List spec.Token)) → b ≡ is_object_alone o → b ≡ true → (d : Data) × (o ≡ Some (d, []))
is_json_if b o e h = is_json o (sym e ∙ h)
