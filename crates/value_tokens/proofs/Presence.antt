-- Which keys an object has, as members are put into it one after another.
use Rattle.std.proofs.Common.{◌≡◌, ℕ, List, length, cond, bytes_eq, Some, arith}
use Rattle.std.proofs.lemmas.Option.{option_and_then_some}
use Rattle.std.proofs.lemmas.Slice.Eq.{bytes_eq-Decides}
use Rattle.json.specs.Token.{Token}
use Rattle.json.specs.Json as json
use Rattle.json.specs.Json.{members, value}
use Rattle.serde_json.specs.Data.{Data, Members, put}
use Rattle.serde_json.specs.Find.{get_member}
use Rattle.serde_json.specs.Read.{of_members}
use Rattle.serde_json.proofs.Views.{get_member-put, get_member-put_other}
use Rattle.value_tokens.specs.Next.{next_value, next_members, next_after}
use Rattle.value_tokens.specs.Presence.{Has}
use Rattle.value_tokens.proofs.Turns.{converted_some}

-- a value that is put is at its key, and the other keys are as they were
pub get_member-put_at : (q k : List ℕ) (d : Data) (found : Members) → get_member q (put k d found) ≡ cond (bytes_eq q k) (Some d) (get_member q found)
get_member-put_at q k d found = grind (arith, bytes_eq-Decides, get_member-put, get_member-put_other)

has_put : (q k : List ℕ) (d : Data) (found : Members) → Has q found → Has q (put k d found)
has_put q k d found h = grind (arith, get_member-put_at)

pub has_new : (k : List ℕ) (d : Data) (found : Members) → Has k (put k d found)
has_new k d found = grind (arith, get_member-put)

kept_in : (js : json.Members) (q : List ℕ) (found ms : Members) → of_members js found ≡ Some ms → Has q found → Has q ms
kept_in json.no_members q found ms e h = grind arith
kept_in (json.member k j js) q found ms e h = let again = λ (d : Data). kept_in js q (put k d found) ms in grind (arith, again, has_put)

-- a key that was there is still there when all members are read
pub kept : (depth : ℕ) (q : List ℕ) (found ms : Members) (ts r : List Token) → next_members depth found ts ≡ Some (ms, r) → Has q found → Has q ms
kept depth q found ms ts r e h = let j = converted_some (λ js. of_members js found) (members (value depth) (length ts) ts) ms r e in kept_in j.0 q found ms j.2 h

-- a key that was read is there then
pub has_taken : (depth : ℕ) (k : List ℕ) (found ms : Members) (ts r : List Token) → next_after depth found k ts ≡ Some (ms, r) → Has k ms
has_taken depth k found ms ts r e = option_and_then_some _ (next_value depth ts) (ms, r) e (λ p _ next. kept depth k (put k p.0 found) ms p.1 r next (has_new k p.0 found))
