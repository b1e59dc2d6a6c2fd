-- The members of a union: their ids, and what the calls make of them.
use Rattle.std.specs.Prelude.{◌≡◌, length, ℤ, pos, Bool, true, IsTrue, not, cond, ◌&&◌, List, [], ◌∷◌, map, Option, Some, None, int_le}
use Rattle.std.specs.Ordering.{int_eq}
use Rattle.std.specs.List.{list_any, list_all, filter}
use Rattle.arrow_values.specs.Tree.{FieldTree, Members}
use Rattle.arrow_values.specs.declared.tree.union_fields.UnionIter.{UnionIter}

-- a type id is 0 to 127
abbrev pub is_type_id : ℤ → Bool
is_type_id i = int_le (pos 0) i && int_le i (pos 127)

-- i is among the ids
abbrev pub has : ℤ → List ℤ → Bool
has i is = list_any (λ j. int_eq j i) is

-- each id stands once
abbrev pub are_distinct : List ℤ → Bool
are_distinct [] = true
are_distinct (i ∷ is) = not (has i is) && are_distinct is

-- the ids of a union: each 0 to 127, and each once
abbrev pub are_type_ids : List ℤ → Bool
are_type_ids is = list_all is_type_id is && are_distinct is

abbrev pub ids_of : Members → List ℤ
ids_of ms = map (λ m. m.0) ms

abbrev pub HasTypeIds : Members → Type 0
HasTypeIds ms = IsTrue (are_type_ids (ids_of ms))

-- ids and fields of which a union is made: as many of one as of the other, each id 0 to 127, and each once
abbrev pub AreUnionParts : List ℤ → List FieldTree → Type 0
AreUnionParts ids fields = (length ids ≡ length fields) × IsTrue (are_type_ids ids)

abbrev pub has_id : ℤ → Members → Bool
has_id i ms = list_any (λ m. int_eq m.0 i) ms

-- the members whose id is among is
abbrev pub retained : List ℤ → Members → Members
retained is ms = filter (λ m. has m.0 is) ms

-- the first id of ns that ms has too
abbrev pub shared_id : Members → Members → Option ℤ
shared_id ms [] = None
shared_id ms (n ∷ ns) = cond (has_id n.0 ms) (Some n.0) (shared_id ms ns)

-- what an iterator over a union has left
abbrev pub union_rest : UnionIter → Members
union_rest iterator = iterator.rest.now
