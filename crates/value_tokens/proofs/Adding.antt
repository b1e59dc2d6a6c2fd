-- Tokens that are added one after another.
use Rattle.std.specs.Prelude.{◌≡◌, ℕ, List, [], ◌∷◌, ◌++◌, Result, Ok, Err, OnOk, option_map, option_and_then, refl}
use Rattle.std.proofs.Common.{ap, ◌∙◌, append_assoc}
use Rattle.json.specs.Token.{Token, begin_array, end_array}
use Rattle.json.specs.Print.{print}
use Rattle.json.specs.Written.{Written, Writes}
use Rattle.serde_json.specs.Data.{Data, array, Items, no_items, item}
use Rattle.serde_json.specs.Read.{of_items}
use Rattle.serde_json.specs.Written.{items_outline}
use Rattle.value_tokens.specs.Adds.{Adds, Prints, PrintsItems}

-- a call of the writer adds one token
pub added : {E : Type 0} (r : Result (Unit {0}) E) (old new : Written) (t : Token) → Writes r old new t → OnOk r (Adds (t ∷ []) old new)
added (Ok u) old new t w = record { tokens = w.ok; before = w.room.0 }
added (Err e) old new t w = tt

-- the same, for a call that succeeded
pub sent : {E : Type 0} {u : Unit {0}} {old new : Written} {t : Token} → Writes {E = E} (Ok u) old new t → Adds (t ∷ []) old new
sent w = record { tokens = w.ok; before = w.room.0 }

-- tokens are added, and then others: both together are added
pub then : {ts us : List Token} {a b c : Written} → Adds ts a b → Adds us b c → Adds (ts ++ us) a c
then {ts} {us} {a} p q = record {
  tokens = q.tokens ∙ ap (λ l. l ++ us) p.tokens ∙ append_assoc a.tokens ts us;
  before = q.before ∙ p.before;
}

-- an array, item by item
pub prints_end : {a b : Written} → Adds (end_array ∷ []) a b → PrintsItems no_items a b
prints_end finish = record { adds = finish; reads_back = refl }

pub prints_item : {d : Data} {ds : Items} {a b c : Written} → Prints d a b → PrintsItems ds b c → PrintsItems (item d ds) a c
prints_item {d} {ds} one more = record {
  adds = then one.adds more.adds;
  reads_back = ap (option_and_then (λ d. option_map (item d) (of_items (items_outline ds)))) one.reads_back ∙ ap (option_map (item d)) more.reads_back;
}

pub prints_array : {ds : Items} {a b c : Written} → Adds (begin_array ∷ []) a b → PrintsItems ds b c → Prints (array ds) a c
prints_array begin items = record { adds = then begin items.adds; reads_back = ap (option_map array) items.reads_back }

-- the text of a writer that began with nothing
pub whole_text : (before bytes : List ℕ) (ts us : List Token) → before ≡ [] → ts ≡ us → bytes ≡ before ++ print ts → bytes ≡ print us
whole_text before bytes ts us none are is = is ∙ ap (λ xs. xs ++ print ts) none ∙ ap print are
