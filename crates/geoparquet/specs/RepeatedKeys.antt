-- Keys that stand several times in an object of the metadata (docs/FORMAT.md, 5).
use Rattle.std.specs.Prelude.{◌≡◌, ◌&&◌, ℕ, ◌+◌, Bool, true, false, ⊤, is_some, bytes_eq, List, [], ◌∷◌, ◌++◌, codes, flat_map, length, map, nat_lt, take, Option, None, Some, if◌then◌else◌}
use Rattle.std.specs.Bool.{beq}
use Rattle.std.specs.Borrow.{Bor}
use Rattle.std.specs.BTreeMap.{BTreeMap, get_by}
use Rattle.std.specs.Cmp.Lexicographic.{slice_cmp}
use Rattle.std.specs.Ordering.{nat_cmp}
use Rattle.std.specs.declared.vec.Vec.{Vec}
use Rattle.std.specs.declared.alloc.Global.{Global}
use Rattle.json.specs.Json.{Json, null, boolean, number, string, array, object, Items, no_items, item, Members, no_members, member}
use Rattle.json.specs.Value.{value_view}
use Rattle.arrow_values.specs.Tree.{Text}
use Rattle.parquet_columns.specs.Findings.{values_text}
use Rattle.geoparquet.specs.Findings.{Finding, finding, member_place, item_place}
use Rattle.geoparquet.specs.Ordered.{ordered_members}
use Rattle.geoparquet.specs.declared.code.GeoCode.TheVariants.{RepeatedKey}
use Rattle.geoparquet.specs.declared.fact_sources.FactSource.TheVariants.{Geo}
use Rattle.geoparquet.specs.declared.finding.GeoFinding.{GeoFinding}
use Rattle.geoparquet.specs.declared.repeated_keys.Step.{Step as StepOf}
use Rattle.geoparquet.specs.declared.repeated_keys.Step.TheVariants as steps
use Rattle.geoparquet.specs.declared.repeated_keys.Way.{Way, Whole, Member', Item'}
use Rattle.geoparquet.specs.declared.same_values.Held.{Held}

-- ---- the way from the whole down to a value: at each step the key of a member, or the index of an item

pub data Step : Type 0 where
  key : Text → Step
  index : ℕ → Step

-- the pointer to its end
abbrev pub step_text : Step → Text
step_text (key k) = member_place [] k
step_text (index n) = item_place [] n

abbrev pub pointer : List Step → Text
pointer way = flat_map step_text way

-- the key of the member of `columns` that it leads to or through
abbrev pub column_on : List Step → Option Text
column_on (key c ∷ key k ∷ way) = if bytes_eq c (codes "columns") then Some k else None
column_on way = None

-- ---- values that are equal: the same texts, numbers as they are written, members in their order

abbrev mutual
  pub are_one : Json → Json → Bool
  are_one null null = true
  are_one (boolean b) (boolean c) = beq b c
  are_one (number s) (number t) = bytes_eq s t
  are_one (string s) (string t) = bytes_eq s t
  are_one (array is) (array js) = items_are_one is js
  are_one (object ms) (object ns) = members_are_one ms ns
  are_one _ _ = false

  pub items_are_one : Items → Items → Bool
  items_are_one no_items no_items = true
  items_are_one (item i is) (item j js) = are_one i j && items_are_one is js
  items_are_one _ _ = false

  pub members_are_one : Members → Members → Bool
  members_are_one no_members no_members = true
  members_are_one (member k i ms) (member l j ns) = (bytes_eq k l && are_one i j) && members_are_one ms ns
  members_are_one _ _ = false

-- all values are equal to that one; to the first of them
abbrev pub all_one : Json → List Json → Bool
all_one i [] = true
all_one i (j ∷ js) = are_one i j && all_one i js

abbrev pub are_equal : List Json → Bool
are_equal [] = true
are_equal (i ∷ js) = all_one i js

-- ---- what is found

-- the values of a key, in their order
abbrev pub values_at : Text → Members → List Json
values_at k no_members = []
values_at k (member l j ms) = if bytes_eq l k then j ∷ values_at k ms else values_at k ms

-- of a key at the end of a way, by how many values it has, and whether they are equal
abbrev pub repeated_finding : List Step → ℕ → Bool → Finding
repeated_finding way n same =
    record { code = RepeatedKey; column = column_on way; source = Geo; pointer = pointer way; found = Some (values_text n same); wanted = None; more = 0 }

abbrev pub several : List Step → ℕ → Bool → List Finding
several way n same = if nat_lt 1 n then repeated_finding way n same ∷ [] else []

abbrev pub key_findings : List Step → List Json → List Finding
key_findings way js = several way (length js) (are_equal js)

-- of an object: of its keys, each once, in their ascending order
abbrev pub own_findings : List Step → Members → List (Text × Json) → List Finding
own_findings way all ms = flat_map (λ m. key_findings (way ++ key m.0 ∷ []) (values_at m.0 all)) ms

-- of a value: of an object its own keys, then what is below it, as it stands there
abbrev mutual
  pub repeated_in : List Step → Json → List Finding
  repeated_in way (array js) = repeated_in_items way 0 js
  repeated_in way (object ms) = own_findings way ms (ordered_members ms) ++ repeated_in_members way ms
  repeated_in way _ = []

  pub repeated_in_items : List Step → ℕ → Items → List Finding
  repeated_in_items way n no_items = []
  repeated_in_items way n (item j js) = repeated_in (way ++ index n ∷ []) j ++ repeated_in_items way (n + 1) js

  pub repeated_in_members : List Step → Members → List Finding
  repeated_in_members way no_members = []
  repeated_in_members way (member k j ms) = repeated_in (way ++ key k ∷ []) j ++ repeated_in_members way ms

-- of the whole: a hundred at most are told
abbrev pub told : List Finding → List Finding
told fs = take 100 fs

abbrev pub repeated_findings : Json → List Finding
repeated_findings j = told (repeated_in [] j)

-- ---- for private contracts

-- found are those findings, as far as they are told
abbrev pub AreTold : List GeoFinding → List GeoFinding → List Finding → Type 0
AreTold old new fs = told (map finding new) ≡ told (map finding old ++ fs)

abbrev pub step_view : StepOf → Step
step_view (steps.Key k) = key k.now
step_view (steps.Index n) = index n

abbrev pub steps_on : Way → List Step
steps_on Whole = []
steps_on (Member' p way k) = steps_on way ++ key k.now ∷ []
steps_on (Item' p way n) = steps_on way ++ index n ∷ []

-- no key has several values
abbrev pub AreDistinct : Members → Type 0
AreDistinct ms = (k : Text) → nat_lt 1 (length (values_at k ms)) ≡ false

-- whether a map has a key
abbrev pub has_key : BTreeMap (Bor Text) ⊤ → Text → Bool
has_key seen k = is_some (get_by (λ l. slice_cmp nat_cmp k l.now) seen)

-- the values that a map has at a key
abbrev pub held : Held → Json
held it = value_view it.value.now

abbrev pub values_of : Option (Vec Held Global) → List Json
values_of None = []
values_of (Some vs) = map held vs.items

abbrev pub values_in : BTreeMap (Bor Text) (Vec Held Global) → Text → List Json
values_in values k = values_of (get_by (λ l. slice_cmp nat_cmp k l.now) values)

-- the value, if the key is that one
abbrev pub value_at : Text → Text → Json → List Json
value_at k l j = if bytes_eq l k then j ∷ [] else []

-- the values of a key, where those of another are taken
abbrev pub left_at : Text → Text → List Json → List Json
left_at k l js = if bytes_eq l k then [] else js
