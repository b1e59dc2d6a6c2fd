-- What a summary says of its data type, and what the steps of the walk and of the readers do.
use Rattle.std.specs.Prelude.{◌≤◌, ◌≡◌, ◌↔◌, ◌<◌, ◌⊎◌, ◌∷◌, ◌≢◌, ◌^◌, ◌++◌}
use Rattle.geoarrow_layout.specs.Words.{Text, Tree, plain, list, large_list, fixed_size_list, struct, union, FieldTrees, MemberTrees, ℕ, zero, suc, ℤ, pos, false, cond, Option, Some, None, MatchOption, List, [], length, codes, bit_at, bytes_eq, CoordType, Interleaved, Separated, Dimension, LayoutFault, UnexpectedType, ListWidth, Lists, LargeLists, Bottom, FixedSizeList, Struct, Union, OtherWidth, Deep, Other, Summary, Bool, true, Result, Ok, Err, MatchResult, MixedWidths, EmptyUnion, SeveralCoordTypes, SeveralDimensions, NativeKind}
use Rattle.geoarrow_layout.specs.Kinds.{interleaved_name, order_of, type_id_of}
use Rattle.geoarrow_layout.specs.Shapes.{names_of, ListsOver, Member, GeometryMember, HasMembers, AllMembers, SomeMember, OverLeaf, Native}
use Rattle.geoarrow_layout.specs.Inferred.{is_float64, are_float64}
use Rattle.geoarrow_layout.specs.FaultAt.{Faults, HasFault, FirstFault, MemberFault, GeometryMemberFault, Path, Located, OverLeafFault, PartFault, NativeFault, MixedFault, GeometryFault}

-- bit i of the number, counted from the lowest, is set exactly if P holds for i
unfoldable pub IsBits : ℕ → (ℕ → Type 0) → Type 0
IsBits bits P = (i : ℕ) → (bit_at bits i ≡ 1) ↔ P i

-- the place of a name among names, from 0; their number if it is not there
abbrev pub place_in : Text → List Text → ℕ
place_in n [] = 0
place_in n (m ∷ ms) = cond (bytes_eq n m) 0 (suc (place_in n ms))

-- the field names that some reader looks for
abbrev pub known_names : List Text
known_names = codes "x" ∷ codes "y" ∷ codes "z" ∷ codes "m" ∷ codes "zmin" ∷ codes "zmax" ∷ codes "mmin" ∷ codes "mmax" ∷ []

-- some of the names has that place among the known ones; an unknown name has place 8
abbrev pub SomeAt : ℕ → List Text → Type 0
SomeAt i [] = ⊥
SomeAt i (n ∷ ns) = (place_in n known_names ≡ i) ⊎ SomeAt i ns

-- the number of a coordinate type in a summary's bits
abbrev pub place_of : CoordType → ℕ
place_of Interleaved = 0
place_of Separated = 1

-- the bottom describes a fixed size list of size n, whose inner field has that name and the data type t
abbrev pub IsFixedSize : Bottom → Text → Tree → ℤ → Type 0
IsFixedSize (FixedSizeList named size all_floats) name t n = ((d : Dimension) → (named ≡ Some d) ↔ (name ≡ interleaved_name d)) × (size ≡ n) × (all_floats ≡ is_float64 t)
IsFixedSize _ name t n = ⊥

-- the bottom describes a struct with these fields
abbrev pub IsStruct : Bottom → FieldTrees → Type 0
IsStruct (Struct count names all_floats) fs = (count ≡ length (names_of fs)) × IsBits names (λ i. SomeAt i (names_of fs)) × (all_floats ≡ are_float64 fs)
IsStruct _ fs = ⊥

-- there is no fault where R holds for every member, in some coordinate type and dimension; otherwise it is that of the first member at fault
abbrev pub IsFaultOf : (ℤ → Tree → CoordType → Dimension → Type 0) → (ℤ → Faults) → Option LayoutFault → MemberTrees → Type 0
IsFaultOf R F fault ms = MatchOption fault (AllMembers (λ i t. (c : CoordType) × (d : Dimension) × R i t c d) ms) (HasFault (FirstFault R F ms))

-- what the walk finds of members that are tried by R: their type ids below 64, the coordinate types and dimensions of
-- those for which R holds, and the fault of the first of the others, as F says it
pub record Seen (R : ℤ → Tree → CoordType → Dimension → Type 0) (F : ℤ → Faults) (ids coord_types dimensions : ℕ) (fault : Option LayoutFault) (ms : MemberTrees) : Type 0 where
  pub id_bits : IsBits ids (λ i. (i < 64) × SomeMember (λ j t. j ≡ pos i) ms)
  pub coord_bits : IsBits coord_types (λ i. (c : CoordType) × (i ≡ place_of c) × SomeMember (λ j t. (d : Dimension) × R j t c d) ms)
  pub dimension_bits : IsBits dimensions (λ i. (d : Dimension) × (i ≡ order_of d) × SomeMember (λ j t. (c : CoordType) × R j t c d) ms)
  pub fault_found : IsFaultOf R F fault ms

-- the bottom describes a union that is the whole data type; its members are tried as those of a geometry
abbrev pub IsRootUnion : Bottom → MemberTrees → Type 0
IsRootUnion (Union empty ids coord_types dimensions mixed_fault geometry_fault) ms =
    ((empty ≡ false) ↔ HasMembers ms) × Seen GeometryMember GeometryMemberFault ids coord_types dimensions geometry_fault ms × IsFaultOf Member MemberFault mixed_fault ms
IsRootUnion _ ms = ⊥

-- the bottom describes a union below lists; its members are tried as those of a collection
abbrev pub IsInnerUnion : Bottom → MemberTrees → Type 0
IsInnerUnion (Union empty ids coord_types dimensions mixed_fault geometry_fault) ms =
    ((empty ≡ false) ↔ HasMembers ms) × Seen Member MemberFault ids coord_types dimensions mixed_fault ms × (geometry_fault ≡ Some UnexpectedType)
IsInnerUnion _ ms = ⊥

-- the bottom describes a union below that many lists
abbrev pub IsUnion : ℕ → Bottom → MemberTrees → Type 0
IsUnion zero b ms = IsRootUnion b ms
IsUnion (suc levels) b ms = IsInnerUnion b ms

abbrev pub other_width : ListWidth → ListWidth
other_width Lists = LargeLists
other_width LargeLists = Lists

-- the bottom describes a list of width v that is not a level: it is of the other width, or would be the fourth level
abbrev pub IsList : ListWidth → Option ListWidth → ℕ → Bottom → Type 0
IsList v w levels b = ((w ≡ Some (other_width v)) × (b ≡ OtherWidth)) ⊎ ((w ≡ Some v) × (levels ≡ 3) × (b ≡ Deep))

-- the bottom describes the data type below the levels; U says when it describes a union
abbrev pub IsBottom : (ℕ → Bottom → MemberTrees → Type 0) → Option ListWidth → ℕ → Bottom → Tree → Type 0
IsBottom U w levels b (fixed_size_list n t nullable m size) = IsFixedSize b n t size
IsBottom U w levels b (struct fs) = IsStruct b fs
IsBottom U w levels b (union ms mode) = U levels b ms
IsBottom U w levels b (list n t nullable m) = IsList Lists w levels b
IsBottom U w levels b (large_list n t nullable m) = IsList LargeLists w levels b
IsBottom U w levels b (plain p) = b ≡ Other

-- the data type t is that many lists over u, of that width and at most three
abbrev pub AreLevels : Option ListWidth → ℕ → Tree → Tree → Type 0
AreLevels None levels t u = (levels ≡ 0) × (t ≡ u)
AreLevels (Some w) levels t u = (0 < levels) × (levels ≤ 3) × ListsOver w levels t u

-- the summary is that of the data type; U says when a bottom describes a union
abbrev pub SummarizesBy : (ℕ → Bottom → MemberTrees → Type 0) → Summary → Tree → Type 0
SummarizesBy U s t = (u : Tree) × AreLevels s.width s.levels t u × IsBottom U s.width s.levels s.bottom u

-- the summary is that of the data type
abbrev pub Summarizes : Summary → Tree → Type 0
Summarizes s t = SummarizesBy IsUnion s t

-- ---- steps

-- `more` has the bits of `bits`, and those for which P holds
unfoldable pub AddsBits : ℕ → (ℕ → Type 0) → ℕ → Type 0
AddsBits bits P more = (i : ℕ) → (bit_at more i ≡ 1) ↔ ((bit_at bits i ≡ 1) ⊎ P i)

-- of a union the bottom says only that it is neither a coordinate nor a list
abbrev pub IsNoLeaf : ℕ → Bottom → MemberTrees → Type 0
IsNoLeaf levels (FixedSizeList named size all_floats) ms = ⊥
IsNoLeaf levels (Struct count names all_floats) ms = ⊥
IsNoLeaf levels OtherWidth ms = ⊥
IsNoLeaf levels _ ms = Unit {0}

-- the levels end at this data type: it is not a list of their width, or would be the fourth level
abbrev pub Ended : Option ListWidth → ℕ → Tree → Type 0
Ended None levels (list n t b m) = ⊥
Ended None levels (large_list n t b m) = ⊥
Ended (Some Lists) levels (list n t b m) = levels ≡ 3
Ended (Some LargeLists) levels (large_list n t b m) = levels ≡ 3
Ended w levels t = Unit {0}

-- the bottom describes a union below lists; of a union that is the whole data type it says only that it is neither a coordinate nor a list
abbrev pub IsNested : ℕ → Bottom → MemberTrees → Type 0
IsNested zero b ms = IsNoLeaf 0 b ms
IsNested (suc levels) b ms = IsInnerUnion b ms

-- the width of a list is the one that is asked for, if one is
abbrev pub IsWidth : Option ListWidth → ListWidth → Type 0
IsWidth asked w = (asked ≡ None) ⊎ (asked ≡ Some w)

-- where collections are allowed or not: the summary is that of the data type, except for what it says of a union that is the whole data type, or of any union
abbrev pub ShowsIn : Bool → Summary → Tree → Type 0
ShowsIn true s t = SummarizesBy IsNested s t
ShowsIn false s t = SummarizesBy IsNoLeaf s t

-- what is read there, and the faults of a native kind and of a member
abbrev pub NativeIn : Bool → Tree → NativeKind → CoordType → Dimension → Type 0
NativeIn true = Native
NativeIn false = OverLeaf

abbrev pub NativeFaultIn : Bool → NativeKind → Faults
NativeFaultIn true = NativeFault
NativeFaultIn false = OverLeafFault

-- the faults of the union in a collection, which holds no collections, and of a geometry, which does
abbrev pub UnionFaultIn : Bool → Faults
UnionFaultIn true = GeometryFault
UnionFaultIn false = MixedFault

abbrev pub MemberIn : Bool → ℤ → Tree → CoordType → Dimension → Type 0
MemberIn b i t c d = (k : NativeKind) × (i ≡ pos (type_id_of k d)) × NativeIn b t k c d

abbrev pub MemberFaultIn : Bool → ℤ → Faults
MemberFaultIn b i t p f = PartFault (NativeIn b) (NativeFaultIn b) i t p f

-- the answer is a value for which R holds, or else the fault that F says
abbrev pub Tells : {X : Type 0} → Result X LayoutFault → (X → Type 0) → Located → Type 0
Tells r R F = MatchResult r R (HasFault F)

-- the same, of a coordinate type and a dimension
abbrev pub TellsBoth : Result (CoordType × Dimension) LayoutFault → (CoordType → Dimension → Type 0) → Located → Type 0
TellsBoth r R F = Tells r (λ x. R x.0 x.1) F

-- where F says a fault, `after` is `before` with the path to it
abbrev pub LeadsTo : Located → Path → Path → Type 0
LeadsTo F before after = (p : Path) (f : LayoutFault) → F p f → after ≡ before ++ p

-- a fault of the data type itself
abbrev pub StaysHere : Located → Type 0
StaysHere F = (p : Path) (f : LayoutFault) → F p f → p ≡ []

-- the first member with a fault and its fault, or, where each is read, the union itself
abbrev pub FirstOrNone : (ℤ → Tree → CoordType → Dimension → Type 0) → (ℤ → Faults) → MemberTrees → Located
FirstOrNone R F ms p f = FirstFault R F ms p f ⊎ (AllMembers (λ i t. (c : CoordType) × (d : Dimension) × R i t c d) ms × (p ≡ []))

-- the fault of a data type with too few list levels
abbrev pub missing_fault : Bottom → LayoutFault
missing_fault OtherWidth = MixedWidths
missing_fault _ = UnexpectedType

-- the fault of a data type whose list levels are not so many
abbrev pub IsLevelFault : Summary → ℕ → LayoutFault → Type 0
IsLevelFault s n f = ((s.levels < n) × (f ≡ missing_fault s.bottom)) ⊎ ((n < s.levels) × (f ≡ UnexpectedType))

-- the first fault, with one member more
abbrev pub first_fault : Option LayoutFault → Result (CoordType × Dimension) LayoutFault → Option LayoutFault
first_fault (Some f) part = Some f
first_fault None (Err f) = Some f
first_fault None (Ok x) = None

-- by what the walk found of a union's members, they are without a fault and all of this coordinate type
abbrev pub AreOf : Bool → Option LayoutFault → ℕ → CoordType → Type 0
AreOf empty fault coord_types c = (empty ≡ false) × (fault ≡ None) × (coord_types ≡ 2 ^ place_of c)

-- by what the walk found, this is the fault of a union as one of one coordinate type
abbrev pub IsCoordFault : Bool → Option LayoutFault → ℕ → LayoutFault → Type 0
IsCoordFault empty fault coord_types f =
    ((empty ≡ true) × (f ≡ EmptyUnion))
    ⊎ (((empty ≡ false) × (fault ≡ Some f))
    ⊎ ((empty ≡ false) × (fault ≡ None) × ((c : CoordType) → coord_types ≢ 2 ^ place_of c) × (f ≡ SeveralCoordTypes)))

-- the result is the one coordinate type and dimension of the members of a union in a collection, by what the walk found, or else their fault
abbrev pub MixedSays : Bottom → Result (CoordType × Dimension) LayoutFault → Type 0
MixedSays (Union empty ids coord_types dimensions fault geometry) r =
    MatchResult r (λ x. AreOf empty fault coord_types x.0 × (dimensions ≡ 2 ^ order_of x.1))
    (λ f. IsCoordFault empty fault coord_types f ⊎ (((c : CoordType) × AreOf empty fault coord_types c) × ((d : Dimension) → dimensions ≢ 2 ^ order_of d) × (f ≡ SeveralDimensions)))
MixedSays _ r = r ≡ Err UnexpectedType

-- i is the number of what was read
abbrev pub ReadAt : (CoordType × Dimension → ℕ) → Result (CoordType × Dimension) LayoutFault → ℕ → Type 0
ReadAt number r i = (x : CoordType × Dimension) × (r ≡ Ok x) × (i ≡ number x)
