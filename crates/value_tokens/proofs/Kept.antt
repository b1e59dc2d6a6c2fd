-- The members of a value that was read: what `serde_json` reads of each.
use Rattle.std.proofs.Common.{◌≡◌, ℕ, List, Bool, true, false, Option, None, Some, IfSome, cond, bytes_eq, option_map, option_and_then, refl, sym, ap, subst, ◌∙◌, arith}
use Rattle.std.specs.Cmp.Lexicographic.{nat_list_eq_equiv}
use Rattle.std.proofs.lemmas.Option.{option_and_then_some}
use Rattle.json.specs.Json as json
use Rattle.json.specs.Find as find
use Rattle.json.specs.Tree.{HasNumbers}
use Rattle.json.proofs.Numbered.{HasNumbers-get}
use Rattle.serde_json.specs.Data.{Data, number, array, object, Members, no_members, put}
use Rattle.serde_json.specs.Find.{get, get_member}
use Rattle.serde_json.specs.Read.{of_json, of_items, of_members, number_of}
use Rattle.value_tokens.proofs.Presence.{get_member-put_at}

-- what is read of the value is there, or without a value what was there before
abbrev Kept : Option json.Json → Option Data → Option Data → Type 0
Kept None before after = after ≡ before
Kept (Some j) before after = (d : Data) × (of_json j ≡ Some d) × (after ≡ Some d)

-- what is read of the value, if there is one
abbrev pub Reads : Option json.Json → Option Data → Type 0
Reads o found = Kept o None found

last : (b : Bool) (j : json.Json) (d : Data) (before after : Option Data) → of_json j ≡ Some d → after ≡ cond b (Some d) before → Kept (cond b (Some j) None) before after
last true j d before after is e = (d, is, e)
last false j d before after is e = e

turn : (o : Option json.Json) (k l : List ℕ) (j : json.Json) (d : Data) (before put_in after : Option Data) → of_json j ≡ Some d → put_in ≡ cond (bytes_eq k l) (Some d) before → Kept o put_in after
    → Kept (find.later_or o (cond (bytes_eq l k) (Some j) None)) before after
turn (Some i) k l j d before put_in after is e h = h
turn None k l j d before put_in after is e h = last (bytes_eq l k) j d before after is (h ∙ e ∙ ap (λ b. cond b (Some d) before) (nat_list_eq_equiv.symm k l))

members_read : (js : json.Members) (k : List ℕ) (before ms : Members) → of_members js before ≡ Some ms → Kept (find.get_member k js) (get_member k before) (get_member k ms)
members_read json.no_members k before ms e = let same : before ≡ ms = grind arith in ap (get_member k) (sym same)
members_read (json.member l j js) k before ms e =
    option_and_then_some (λ d. of_members js (put l d before)) (of_json j) ms e
    (λ d is next. turn (find.get_member k js) k l j d (get_member k before) (get_member k (put l d before)) (get_member k ms) is (get_member-put_at k l d before) (members_read js k (put l d before) ms next))

object_read : (k : List ℕ) (js : json.Members) (o : Option Members) (d : Data) → of_members js no_members ≡ o → option_map object o ≡ Some d → Reads (find.get_member k js) (get k d)
object_read k js None d is e = absurd (cc)
object_read k js (Some ms) d is e =
    let same : object ms ≡ d = grind arith in
    subst (λ v. Reads (find.get_member k js) (get k v)) same (members_read js k no_members ms is)

no_member : {A : Type 0} (k : List ℕ) (f : A → Data) (o : Option A) (d : Data) → ((a : A) → get k (f a) ≡ None) → option_map f o ≡ Some d → get k d ≡ None
no_member k f None d h e = absurd (cc)
no_member k f (Some a) d h e = let same : f a ≡ d = grind arith in ap (get k) (sym same) ∙ h a

pub value_read : (k : List ℕ) (j : json.Json) (d : Data) → of_json j ≡ Some d → Reads (find.get k j) (get k d)
value_read k json.null d e = grind arith
value_read k (json.boolean b) d e = grind arith
value_read k (json.number s) d e = no_member k number (number_of s) d (λ n. refl) e
value_read k (json.string s) d e = grind arith
value_read k (json.array js) d e = no_member k array (of_items js) d (λ ds. refl) e
value_read k (json.object js) d e = object_read k js (of_members js no_members) d refl e

reads_same : (o : Option json.Json) (found : Option Data) → Reads o found → option_and_then of_json o ≡ found
reads_same None found e = sym e
reads_same (Some j) found (d, is, e) = is ∙ sym e

pub member_read : (k : List ℕ) (j : json.Json) (d : Data) → of_json j ≡ Some d → option_and_then of_json (find.get k j) ≡ get k d
member_read k j d e = reads_same (find.get k j) (get k d) (value_read k j d e)

-- what is found in a value has the numbers of a value
pub found_numbers : {V : Type 0} (f : V → json.Json) (o : Option V) (k : List ℕ) (j : json.Json) → HasNumbers j → option_map f o ≡ find.get k j → IfSome o (λ v. HasNumbers (f v))
found_numbers f None k j h e = tt
found_numbers f (Some v) k j h e = HasNumbers-get k j (f v) h e
