-- The token that a value begins with says what kind of value it is.
use Rattle.std.proofs.Common.{◌≡◌, ℕ, suc, List, ◌∷◌, length, Bool, Option, Some, None, option_map, IfSome, refl, sym, ap, ◌∙◌, subst, arith}
use Rattle.json.specs.Token as spec
use Rattle.json.specs.Json.{Parse, Items, Members, parse_map, items, members, value, value_with}
use Rattle.json.proofs.Grammar.{value_is}
use Rattle.json.specs.Reads.{token_of}
use Rattle.json.specs.declared.token.Token.{Token}
use Rattle.json.specs.declared.token.Token.TheVariants.{BeginObject, BeginArray, String, Number, Bool as Boolean, Null}
use Rattle.serde_json.specs.Data.{Num, Data, null, boolean, number, string, array, object, no_members}
use Rattle.serde_json.specs.Find.{as_null, as_str, as_bool, as_number, as_object, as_array}
use Rattle.serde_json.specs.Read.{number_of, of_json, converted}
use Rattle.value_tokens.specs.Next.{next_value, next_items, next_members, after, ReadsValue, ReadsMembers}
use Rattle.value_tokens.proofs.Turns.{converted-array, converted-object, after_some}

pub next_string : (depth : ℕ) (s : List ℕ) (ts : List spec.Token) → next_value depth (spec.string s ∷ ts) ≡ Some (string s, ts)
next_string depth s ts = ap (converted of_json) (value_is depth ((spec.string s) ∷ ts))

pub next_boolean : (depth : ℕ) (b : Bool) (ts : List spec.Token) → next_value depth (spec.boolean b ∷ ts) ≡ Some (boolean b, ts)
next_boolean depth b ts = ap (converted of_json) (value_is depth ((spec.boolean b) ∷ ts))

pub next_null : (depth : ℕ) (ts : List spec.Token) → next_value depth (spec.null ∷ ts) ≡ Some (null, ts)
next_null depth ts = ap (converted of_json) (value_is depth (spec.null ∷ ts))

numbered : (o : Option Num) (ts : List spec.Token) → option_map {U = Data × List spec.Token} (λ d. (d, ts)) (option_map number o) ≡ option_map (λ n. (number n, ts)) o
numbered o ts = grind arith

pub next_number : (depth : ℕ) (s : List ℕ) (ts : List spec.Token) → next_value depth (spec.number s ∷ ts) ≡ option_map (λ n. (number n, ts)) (number_of s)
next_number depth s ts = ap (converted of_json) (value_is depth ((spec.number s) ∷ ts)) ∙ numbered (number_of s) ts

pub next_array : (depth : ℕ) (ts : List spec.Token) → next_value (suc depth) (spec.begin_array ∷ ts) ≡ parse_map array (next_items depth ts)
next_array depth ts = ap (converted of_json) (value_is (suc depth) (spec.begin_array ∷ ts)) ∙ converted-array (items (value depth) (length ts) ts)

pub next_object : (depth : ℕ) (ts : List spec.Token) → next_value (suc depth) (spec.begin_object ∷ ts) ≡ parse_map object (next_members depth no_members ts)
next_object depth ts = ap (converted of_json) (value_is (suc depth) (spec.begin_object ∷ ts)) ∙ converted-object (members (value depth) (length ts) ts)

pub no_key : (depth : ℕ) (k : List ℕ) (ts : List spec.Token) → next_value depth (spec.key k ∷ ts) ≡ None
no_key depth k ts = ap (converted of_json) (value_is depth ((spec.key k) ∷ ts))

pub no_end_object : (depth : ℕ) (ts : List spec.Token) → next_value depth (spec.end_object ∷ ts) ≡ None
no_end_object depth ts = ap (converted of_json) (value_is depth (spec.end_object ∷ ts))

pub no_end_array : (depth : ℕ) (ts : List spec.Token) → next_value depth (spec.end_array ∷ ts) ≡ None
no_end_array depth ts = ap (converted of_json) (value_is depth (spec.end_array ∷ ts))

pub no_bad : (depth : ℕ) (ts : List spec.Token) → next_value depth (spec.bad ∷ ts) ≡ None
no_bad depth ts = ap (converted of_json) (value_is depth (spec.bad ∷ ts))

-- the token can begin the value
abbrev pub Begins : Token → Data → Type 0
Begins t null = t ≡ Null
Begins t (boolean b) = t ≡ Boolean b
Begins t (number n) = (s : _) × (t ≡ Number s)
Begins t (string s) = (u : _) × (t ≡ String u)
Begins t (array ds) = t ≡ BeginArray
Begins t (object ms) = t ≡ BeginObject

abbrev IsBegun : Token → Option (Data × List spec.Token) → Type 0
IsBegun t o = IfSome o (λ p. Begins t p.0)

begins_as : (a : Parse Items) (o : Parse Members) (t : Token) (ts : List spec.Token) → IsBegun t (converted of_json (value_with a o (token_of t ∷ ts)))
begins_as a o BeginObject ts = grind arith
begins_as a o BeginArray ts = grind arith
begins_as a o (String s) ts = (s, refl)
begins_as a o (Number s) ts = grind arith
begins_as a o (Boolean b) ts = refl
begins_as a o Null ts = refl
begins_as a o _ ts = tt

pub value_begins : (depth : ℕ) (t : Token) (ts r : List spec.Token) (d : Data) → next_value depth (token_of t ∷ ts) ≡ Some (d, r) → Begins t d
value_begins depth t ts r d e = subst (IsBegun t) (sym (ap (converted of_json) (value_is depth (token_of t ∷ ts))) ∙ e) (begins_as _ _ t ts)

-- a value that is skipped begins with its first token
pub passed : (depth : ℕ) (t : Token) (ts s r : List spec.Token) → ts ≡ token_of t ∷ s → after (next_value depth (token_of t ∷ s)) ≡ Some r → (d : Data) × (next_value depth ts ≡ Some (d, r)) × Begins t d
passed depth t ts s r first e = let d = after_some (next_value depth (token_of t ∷ s)) r e in (d.0, ap (next_value depth) first ∙ d.1, value_begins depth t s r d.0 d.1)

-- ---- a value that begins with another token is of another kind

pub no_text : (t : Token) (d : Data) → Begins t d → ((s : _) → t ≡ String s → ⊥) → as_str d ≡ None
no_text t d b other = grind arith

pub no_null : (t : Token) (d : Data) → Begins t d → (t ≡ Null → ⊥) → as_null d ≡ None
no_null t d b other = grind arith

pub no_truth : (t : Token) (d : Data) → Begins t d → ((v : Bool) → t ≡ Boolean v → ⊥) → as_bool d ≡ None
no_truth t d b other = grind arith

pub no_numeral : (t : Token) (d : Data) → Begins t d → ((s : _) → t ≡ Number s → ⊥) → as_number d ≡ None
no_numeral t d b other = grind arith

pub no_object : (t : Token) (d : Data) → Begins t d → (t ≡ BeginObject → ⊥) → as_object d ≡ None
no_object t d b other = grind arith

pub no_array : (t : Token) (d : Data) → Begins t d → (t ≡ BeginArray → ⊥) → as_array d ≡ None
no_array t d b other = grind arith

-- ---- an object that is read

pub object_read : {A : Type 0} (f : Data → A) (depth below : ℕ) (ts s r : List spec.Token) (a : A) → next_value depth ts ≡ parse_map object (next_members below no_members s)
    → ReadsMembers (λ ms. f (object ms)) below no_members s a r → ReadsValue f depth ts a r
object_read f depth below ts s r a opened read = (object read.0, opened ∙ ap (parse_map object) read.1, read.2)
