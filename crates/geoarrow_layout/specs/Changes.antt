-- What a union is read as when members are dropped or joined; the mode never matters.
use Rattle.std.specs.Prelude.{◌≢◌, ◌↔◌, ◌⊎◌}
use Rattle.geoarrow_layout.specs.Words.{union, FieldTree, Members, member_trees, [], ℤ, Contains, UnionMode, CoordType, Dimension}
use Rattle.geoarrow_layout.specs.Shapes.{Geometry, Mixed}
use Rattle.geoarrow_layout.specs.Alike.{Alike}

-- a union of these members is a geometry, in either mode
abbrev pub GeometryUnion : CoordType → Members → Type 0
GeometryUnion c ms = (mode : UnionMode) → Geometry (union (member_trees ms) mode) c

-- a union of these members is the union in a collection, in either mode
abbrev pub MixedUnion : CoordType → Dimension → Members → Type 0
MixedUnion c d ms = (mode : UnionMode) → Mixed (union (member_trees ms) mode) c d

-- unions of ms and of ns are alike, in either mode
abbrev pub AlikeUnions : Members → Members → Type 0
AlikeUnions ms ns = (m n : UnionMode) → Alike (union (member_trees ms) m) (union (member_trees ns) n)

-- there is a joined member, and P holds for each of the two parts that has members
abbrev pub EachOf : (Members → Type 0) → Members → Members → Members → Type 0
EachOf P ms ns joined = (joined ≢ []) × (ms ≢ [] → P ms) × (ns ≢ [] → P ns)

-- the members are exactly those of the two parts, in any order
abbrev pub AreJust : Members → Members → Members → Type 0
AreJust ms ns all = (m : ℤ × FieldTree) → Contains all m ↔ (Contains ms m ⊎ Contains ns m)
