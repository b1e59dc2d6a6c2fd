-- The members of an object in the ascending order of their keys.
use Rattle.std.specs.Prelude.{Bool, true, false, bytes_eq, List, [], ◌∷◌, codes, Option, None, Some, map, option_and_then}
use Rattle.std.specs.Borrow.{Bor}
use Rattle.std.specs.List.{list_any}
use Rattle.std.specs.Ordering.{nat_cmp, match_ordering}
use Rattle.std.specs.Cmp.Lexicographic.{slice_cmp}
use Rattle.std.specs.declared.alloc.Global.{Global}
use Rattle.json.specs.Json.{Json, Members, no_members, member}
use Rattle.json.specs.Find.{get, as_object}
use Rattle.json.specs.Value.{value_view}
use Rattle.json.specs.declared.value.Value.{Value}
use Rattle.arrow_values.specs.Tree.{Text}

-- the members, with the value at the key: a key that is there takes the value, and a new one goes to its place in the order of bytes
abbrev pub put_member : Text → Json → List (Text × Json) → List (Text × Json)
put_member key j [] = (key, j) ∷ []
put_member key j (m ∷ ms) =
    match_ordering (slice_cmp nat_cmp key m.0) ((key, j) ∷ m ∷ ms) ((m.0, j) ∷ ms) (m ∷ put_member key j ms)

-- members, put one after another
abbrev pub put_members : Members → List (Text × Json) → List (Text × Json)
put_members no_members ordered = ordered
put_members (member key j ms) ordered = put_members ms (put_member key j ordered)

-- the members in the ascending order of their keys, each key once, with its last value
abbrev pub ordered_members : Members → List (Text × Json)
ordered_members ms = put_members ms []

abbrev pub members_in : Option Members → List (Text × Json)
members_in None = []
members_in (Some ms) = ordered_members ms

-- the members of `columns`, where it is an object
abbrev pub columns_of : Json → List (Text × Json)
columns_of j = members_in (option_and_then as_object (get (codes "columns") j))

-- whether there are members, and whether one has that key
abbrev pub are_some : List (Text × Json) → Bool
are_some [] = false
are_some (m ∷ ms) = true

abbrev pub has_member : Text → List (Text × Json) → Bool
has_member name ms = list_any (λ m. bytes_eq name m.0) ms

-- ---- for private contracts

abbrev pub member_view : Bor Text × Bor (Value Global) → Text × Json
member_view e = (e.0.now, value_view e.1.now)

abbrev pub members_entries : List (Bor Text × Bor (Value Global)) → List (Text × Json)
members_entries es = map member_view es
