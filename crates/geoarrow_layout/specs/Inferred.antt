-- Which kind is inferred from a data type without an extension name: a point, well-known binary or well-known text.
use Rattle.std.specs.Prelude.{◌≡◌, ◌↔◌, ◌∷◌, ◌&&◌}
use Rattle.geoarrow_layout.specs.Words.{Text, Tree, plain, float64, fixed_size_list, struct, FieldTrees, no_fields, field, ℤ, pos, List, [], length, codes, Bool, true, false, Option, Some, CoordType, Interleaved, Separated, Dimension, XYZ, XYM, Kind, Native, Point, Wkb, Wkt}
use Rattle.geoarrow_layout.specs.Kinds.{size_of}
use Rattle.geoarrow_layout.specs.Shapes.{SameNames, names_of, IsSeparatedAs, IsBytes, IsText}

-- the result is the coordinate type and dimension for which R holds, or none if it holds for none
abbrev pub YieldsSome : Option (CoordType × Dimension) → (CoordType → Dimension → Type 0) → Type 0
YieldsSome r R = (c : CoordType) (d : Dimension) → (r ≡ Some (c, d)) ↔ R c d

-- whether the data type is `Float64`
abbrev pub is_float64 : Tree → Bool
is_float64 (plain float64) = true
is_float64 _ = false

-- whether all fields are `Float64`
abbrev pub are_float64 : FieldTrees → Bool
are_float64 no_fields = true
are_float64 (field n t b m fs) = is_float64 t && are_float64 fs

-- fields with these names are inferred as a coordinate: as they are read, but that any three but x, y and m are x, y and z
abbrev pub IsInferredAs : Dimension → List Text → Type 0
IsInferredAs XYZ names = (length names ≡ 3) × ¬ SameNames names (codes "x" ∷ codes "y" ∷ codes "m" ∷ [])
IsInferredAs d names = IsSeparatedAs d names

-- so is a fixed size list: its size gives the dimension, and if that is three, the name of the inner field
abbrev pub IsInferredSize : Dimension → Text → ℤ → Type 0
IsInferredSize XYZ name size = (size ≡ pos 3) × ¬ (name ≡ codes "xym")
IsInferredSize XYM name size = (size ≡ pos 3) × (name ≡ codes "xym")
IsInferredSize d name size = size ≡ pos (size_of d)

-- the data type is inferred as a point: all its numbers are `Float64`
abbrev pub Inferred : Tree → CoordType → Dimension → Type 0
Inferred (struct fs) Separated d = (are_float64 fs ≡ true) × IsInferredAs d (names_of fs)
Inferred (fixed_size_list name t b m size) Interleaved d = (is_float64 t ≡ true) × IsInferredSize d name size
Inferred _ c d = ⊥

-- the tree is well-known binary or text, in some width
abbrev pub IsStored : Tree → Kind → Type 0
IsStored t (Wkb w) = IsBytes w t
IsStored t (Wkt w) = IsText w t
IsStored t _ = ⊥

-- the kind is inferred from the tree: a point, well-known binary or well-known text
abbrev pub InferredAs : Tree → Kind → Type 0
InferredAs t (Native Point c d) = Inferred t c d
InferredAs t k = IsStored t k

-- the result is the one kind that is inferred from the tree, or `None` if there is none
abbrev pub YieldsInferred : Tree → Option Kind → Type 0
YieldsInferred t r = (k : Kind) → (r ≡ Some k) ↔ InferredAs t k
