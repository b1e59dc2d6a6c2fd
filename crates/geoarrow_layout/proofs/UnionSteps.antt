-- What was seen of members says what the union is; ids and members are each read in one way.
use Rattle.geoarrow_layout.proofs.Terms.{ShowsIn, ◌≡◌, ◌≢◌, ◌↔◌, ◌<◌, ◌+◌, ◌^◌, ◌⊎◌, inl, inr, ℕ, zero, suc, ℤ, pos, Result, Ok, Err, Option, Some, None, MatchOption, MatchResult, Bool, true, false, [], ◌∷◌, ◌++◌, take, length, get_or, refl, sym, ap, subst, ◌∙◌, arith, bit_at, cases_eq, same_from_bits, bit_at-pow_same, bit_at-pow_other, bit_at-lt, Tree, union, FieldTree, MemberTrees, no_members, member, member_trees, CoordType, Interleaved, Dimension, LayoutFault, ListWidth, Bottom, Union, Summary, order_of, Mixed, Geometry, Member, GeometryMember, OverLeaf, Native, NativeKind, GeometryCollection, AllMembers, SomeMember, HasMembers, Yields, Path, Faults, HasFault, FirstFault, UnionFault, MemberFault, MixedFault, GeometryMemberFault, GeometryFault, IsFaultOf, Seen, place_of, IsBottom, IsUnion, Summarizes, ReadAt, Tells, TellsBoth, IsNested, IsNoLeaf, ReadsFirst, coords_in, member_first, geometry_member_first, DimensionsFault, IsBits, AddsBits, first_fault, AreOf, IsCoordFault, MixedSays, IsRootUnion, IsInnerUnion, IsLevelFault, BadTypeId, MemberDimension, type_id_of, levels_of, Leaf, Under, CoordinateFault, LevelsFault, PartFault, OverLeafFault, NativeIn, NativeFaultIn, ListsOver, IsErrAnd}
use Rattle.geoarrow_layout.proofs.Readings.{Answer, exactly, Items, all_map, all_inside, all_some, first_some, all_both, some_more, one_more, IsPartsOf, some_parts, refused, refused_as, RefusesLists, are_levels, at_bottom, no_union, level_fault}
use Rattle.geoarrow_layout.proofs.FaultLaws.{Read, SoleMember, MemberReads, order_same, KindReads}
use Rattle.geoarrow_layout.proofs.Structs.{bits_like, bits_added, no_bits, bit_is}

abbrev pub OneReading : MemberReads → Type 0
OneReading R = (i : ℤ) → ReadsFirst (R i)

-- one bit alone
is_pow : (n j : ℕ) → IsBits n (λ i. i ≡ j) → n ≡ 2 ^ j
is_pow n j h = same_from_bits n (2 ^ j) (λ i. elim (cases_eq i j) [
  | inl e ↦ let one : bit_at (2 ^ j) i ≡ 1 = ap (bit_at (2 ^ j)) e ∙ bit_at-pow_same j in (bit_is n (λ k. k ≡ j) i h).1 e ∙ sym one
  | inr e ↦ let none : bit_at n i ≢ 1 = λ one. e ((bit_is n (λ k. k ≡ j) i h).0 one) in omega (arith, bit_at-lt n i, bit_at-pow_other j i e)
])

place_same : (c b : CoordType) → place_of c ≡ place_of b → c ≡ b
place_same Interleaved Interleaved h = refl
place_same _ _ h = grind arith

-- the bits of keys for which S holds of some member
abbrev Keyed : (K : Type 0) → (K → ℕ) → (K → ℤ → Tree → Type 0) → MemberTrees → ℕ → Type 0
Keyed K place S ms i = (k : K) × (i ≡ place k) × SomeMember (S k) ms

keyed_only : (K : Type 0) (place : K → ℕ) (S : K → ℤ → Tree → Type 0) → ((a b : K) → place a ≡ place b → a ≡ b) → (n : ℕ) (ms : MemberTrees) (k : K) → IsBits n (Keyed K place S ms) → n ≡ 2 ^ place k → (b : K) → SomeMember (S b) ms → b ≡ k
keyed_only K place S one n ms k bits is b some =
    let bit : bit_at n (place b) ≡ 1 = (bit_is n (Keyed K place S ms) (place b) bits).1 (b, refl, some) in
    elim (cases_eq (place b) (place k)) [ inl e ↦ one b k e | inr e ↦ let z : bit_at n (place b) ≡ 0 = ap (λ m. bit_at m (place b)) is ∙ bit_at-pow_other (place k) (place b) e in absurd (omega arith) ]

keyed_pow : (K : Type 0) (place : K → ℕ) (S : K → ℤ → Tree → Type 0) (key : Tree → K) → ((i : ℤ) (t : Tree) (k : K) → S k i t → key t ≡ k) → (n : ℕ) (ms : MemberTrees) (k : K) → IsBits n (Keyed K place S ms) → HasMembers ms → AllMembers (S k) ms → n ≡ 2 ^ place k
keyed_pow K place S key one n ms k bits some all =
    is_pow n (place k) (bits_like n (Keyed K place S ms) (λ i. i ≡ place k)
    (λ i h. h.1 ∙ ap place (all_some (S k) (S h.0) (h.0 ≡ k) (λ j t p q. sym (one j t h.0 q) ∙ one j t k p) ms all h.2))
    (λ i h. (k, h, first_some (S k) ms some all)) bits)

abbrev AtCoord : MemberReads → CoordType → ℤ → Tree → Type 0
AtCoord R c i t = (d : Dimension) × R i t c d

abbrev AtDimension : MemberReads → Dimension → ℤ → Tree → Type 0
AtDimension R d i t = (c : CoordType) × R i t c d

abbrev CoordBits : MemberReads → ℕ → MemberTrees → Type 0
CoordBits R n ms = IsBits n (Keyed CoordType place_of (AtCoord R) ms)

-- members that the walk finds to be of one coordinate type
of_one : (R S : MemberReads) → ((i : ℤ) (t : Tree) (c : CoordType) (d : Dimension) → R i t c d → S i t c d) → (F : ℤ → Faults) (empty : Bool) (fault : Option LayoutFault) (coords : ℕ) (ms : MemberTrees) (c : CoordType)
    → AreOf empty fault coords c → CoordBits S coords ms → IsFaultOf R F fault ms → AllMembers (Read R) ms × ((i : ℤ) (t : Tree) (x : Read R i t) → ((W : ℤ → Tree → Type 0) → W i t → SomeMember W ms) → x.0 ≡ c)
of_one R S sub F empty fault coords ms c h coord_bits first = (
  subst (λ o. MatchOption o (AllMembers (Read R) ms) (HasFault (FirstFault R F ms))) h.1 first,
  (λ i t x inside. keyed_only CoordType place_of (AtCoord S) place_same coords ms c coord_bits h.2 x.0 (inside (AtCoord S x.0) (x.1, sub i t x.0 x.1 x.2))),
)

-- the fault of a union as one of one coordinate type
coord_fault : (R S : MemberReads) → ((i : ℤ) (t : Tree) (c : CoordType) (d : Dimension) → R i t c d → S i t c d) → OneReading S → (F : ℤ → Faults) (empty : Bool) (fault : Option LayoutFault) (coords : ℕ) (f : LayoutFault) (ms : MemberTrees)
    → IsCoordFault empty fault coords f → ((empty ≡ false) ↔ HasMembers ms) → CoordBits S coords ms → IsFaultOf R F fault ms → HasFault (UnionFault R F ms) f
coord_fault R S sub one F empty fault coords f no_members (inl e) some bits first = ([], (refl, e.1))
coord_fault R S sub one F empty fault coords f no_members (inr e) some bits first = absurd (elim e [ inl x ↦ some.0 x.0 | inr x ↦ some.0 x.0 ])
coord_fault R S sub one F empty fault coords f (member i n t b m ms) (inl e) some bits first = let no = some.1 tt in let bad : true ≡ false = sym e.0 ∙ no in cc
coord_fault R S sub one F empty fault coords f (member i n t b m ms) (inr (inl e)) some bits first =
    let found : HasFault (FirstFault R F (member i n t b m ms)) f = subst (λ o. IsFaultOf R F o (member i n t b m ms)) e.1 first in
    (found.0, inl found.1)
coord_fault R S sub one F empty fault coords f (member i n t b m ms) (inr (inr e)) some bits first =
    let all : AllMembers (Read R) (member i n t b m ms) = subst (λ o. IsFaultOf R F o (member i n t b m ms)) e.1 first in
    ([], inr (all, (λ c same. e.2 c (keyed_pow CoordType place_of (AtCoord S) (λ u. (coords_in u).0) (λ j u b x. ap (λ p. p.0) (one j u b x.0 x.1)) coords (member i n t b m ms) c bits tt (all_map (AtCoord R c) (AtCoord S c) (λ j u x. (x.0, sub j u c x.0 x.1)) (member i n t b m ms) same))), (refl, e.3)))

-- members of one coordinate type and dimension
mixed_from : (S : MemberReads) → OneReading S → ((i : ℤ) (t : Tree) (c : CoordType) (d : Dimension) → Member i t c d → S i t c d)
    → (empty : Bool) (ids coords dims : ℕ) (fault geometry : Option LayoutFault) (r : Answer) (ms : MemberTrees)
    → MixedSays (Union empty ids coords dims fault geometry) r → ((empty ≡ false) ↔ HasMembers ms) → CoordBits S coords ms → IsBits dims (Keyed Dimension order_of (AtDimension S) ms)
    → IsFaultOf Member MemberFault fault ms → TellsBoth r (λ c d. HasMembers ms × AllMembers (λ i t. Member i t c d) ms) (λ p f. UnionFault Member MemberFault ms p f ⊎ DimensionsFault ms p f)
mixed_from S one sub empty ids coords dims fault geometry (Ok x) ms says some coord_bits dimension_bits first =
    let of = of_one Member S sub MemberFault empty fault coords ms x.0 says.0 coord_bits first in (
      some.0 says.0.0,
      all_inside (Read Member) (λ i t. Member i t x.0 x.1) ms (λ i t p inside.
          let dimension = keyed_only Dimension order_of (AtDimension S) order_same dims ms x.1 dimension_bits says.1 p.1 (inside (AtDimension S p.1) (p.0, sub i t p.0 p.1 p.2)) in
          subst (λ b. Member i t b x.1) (of.1 i t p inside) (subst (λ e. Member i t p.0 e) dimension p.2)) of.0,
    )
mixed_from S one sub empty ids coords dims fault geometry (Err f) ms (inl says) some coord_bits dimension_bits first =
    let found = coord_fault Member S sub one MemberFault empty fault coords f ms says some coord_bits first in
    (found.0, inl found.1)
mixed_from S one sub empty ids coords dims fault geometry (Err f) ms (inr says) some coord_bits dimension_bits first =
    let c = says.0.0 in
    let of = of_one Member S sub MemberFault empty fault coords ms c says.0.1 coord_bits first in (
      [],
      inr (
        (c, all_inside (Read Member) (AtCoord Member c) ms (λ i t p inside. (p.1, subst (λ b. Member i t b p.1) (of.1 i t p inside) p.2)) of.0),
        (λ b d same. says.1 d (keyed_pow Dimension order_of (AtDimension S) (λ t. (coords_in t).1) (λ i t e x. ap (λ p. p.1) (one i t x.0 e x.1)) dims ms d dimension_bits (some.0 says.0.1.0) (all_map (λ i t. Member i t b d) (AtDimension S d) (λ i t p. (b, sub i t b d p)) ms same))),
        (refl, says.2),
      ),
    )

-- members of one coordinate type
one_from : (R : MemberReads) → OneReading R → (F : ℤ → Faults) (empty : Bool) (fault : Option LayoutFault) (coords : ℕ) (r : Result CoordType LayoutFault) (ms : MemberTrees)
    → MatchResult r (AreOf empty fault coords) (IsCoordFault empty fault coords) → ((empty ≡ false) ↔ HasMembers ms) → CoordBits R coords ms
    → IsFaultOf R F fault ms → Tells r (λ c. HasMembers ms × AllMembers (AtCoord R c) ms) (UnionFault R F ms)
one_from R one F empty fault coords (Ok c) ms says some coord_bits first =
    let of = of_one R R (λ i t b d x. x) F empty fault coords ms c says coord_bits first in
    (some.0 says.0, all_inside (Read R) (AtCoord R c) ms (λ i t p inside. (p.1, subst (λ b. R i t b p.1) (of.1 i t p inside) p.2)) of.0)
one_from R one F empty fault coords (Err f) ms says some coord_bits first = coord_fault R R (λ i t b d x. x) one F empty fault coords f ms says some coord_bits first

-- what the bottom says of a union, by a reading S of its members
abbrev SeenMixed : MemberReads → Bottom → MemberTrees → Type 0
SeenMixed S (Union empty ids coords dims fault geometry) ms = ((empty ≡ false) ↔ HasMembers ms) × CoordBits S coords ms × IsBits dims (Keyed Dimension order_of (AtDimension S) ms) × IsFaultOf Member MemberFault fault ms
SeenMixed S _ ms = ⊥

mixed_at : (S : MemberReads) → OneReading S
    → ((i : ℤ) (t : Tree) (c : CoordType) (d : Dimension) → Member i t c d → S i t c d) → (U : ℕ → Bottom → MemberTrees → Type 0) (n : ℕ) → ((b : Bottom) (ms : MemberTrees) → U n b ms → SeenMixed S b ms)
    → (w : Option ListWidth) (b : Bottom) (u : Tree) (r : Answer) → MixedSays b r → IsBottom U w n b u → TellsBoth r (Mixed u) (MixedFault u)
mixed_at S one sub U n sees w (Union empty ids coords dims fault geometry) u r says h =
    at_bottom U (λ x. TellsBoth r (Mixed x) (MixedFault x)) w n (Union empty ids coords dims fault geometry) tt (λ x t b m z k. absurd k) (λ fs k. absurd k)
    (λ ms mode k. let seen = sees _ ms k in mixed_from S one sub empty ids coords dims fault geometry r ms says seen.0 seen.1 seen.2 seen.3) u h
mixed_at S one sub U n sees w b u r says h = subst (λ x. TellsBoth x (Mixed u) (MixedFault u)) (sym says) (no_union U w n b u (sees b) h)

root_seen : (b : Bottom) (ms : MemberTrees) → IsRootUnion b ms → SeenMixed GeometryMember b ms
root_seen (Union empty ids coords dims fault geometry) ms h = (h.0, h.1.coord_bits, h.1.dimension_bits, h.2)
root_seen _ ms h = absurd h

inner_seen : (b : Bottom) (ms : MemberTrees) → IsInnerUnion b ms → SeenMixed Member b ms
inner_seen (Union empty ids coords dims fault geometry) ms h = (h.0, h.1.coord_bits, h.1.dimension_bits, h.1.fault_found)
inner_seen _ ms h = absurd h

as_native : (k : NativeKind) (t : Tree) (c : CoordType) (d : Dimension) → OverLeaf t k c d → Native t k c d
as_native GeometryCollection t c d h = absurd h
as_native k t c d h = h

pub root_mixed : (w : Option ListWidth) (b : Bottom) (u : Tree) (r : Answer) → MixedSays b r → IsBottom IsUnion w 0 b u → TellsBoth r (Mixed u) (MixedFault u)
root_mixed = mixed_at GeometryMember geometry_member_first (λ i t c d m. (m.0, m.1, as_native m.0 t c d m.2)) IsUnion 0 root_seen

pub nested_mixed : (w : Option ListWidth) (b : Bottom) (u : Tree) (r : Answer) → MixedSays b r → IsBottom IsNested w 1 b u → TellsBoth r (Mixed u) (MixedFault u)
nested_mixed = mixed_at Member member_first (λ i t c d m. m) IsNested 1 inner_seen

-- a summary says less of unions
less_said : (n : ℕ) (b : Bottom) (ms : MemberTrees) → (IsUnion n b ms → IsNested n b ms) × (IsNested n b ms → IsNoLeaf n b ms)
less_said zero (Union empty ids coords dims fault geometry) ms = (λ h. tt, λ h. tt)
less_said (suc n) (Union empty ids coords dims fault geometry) ms = (λ h. h, λ h. tt)
less_said _ _ ms = (λ h. search, λ h. search)

pub shows_of_inner : (s : Summary) (t : Tree) → ShowsIn true s t → ShowsIn false s t
shows_of_inner s t (union ms mode, levels, k) = (union ms mode, levels, (less_said s.levels s.bottom ms).1 k)
shows_of_inner s t (u, levels, k) = (u, levels, k)

pub inner_of : (s : Summary) (t : Tree) → Summarizes s t → ShowsIn true s t
inner_of s t (union ms mode, levels, k) = (union ms mode, levels, (less_said s.levels s.bottom ms).0 k)
inner_of s t (u, levels, k) = (u, levels, k)

-- ---- one more member

first_later : (R : MemberReads) (F : ℤ → Faults) (xs ys : Items) (p : Path) (f : LayoutFault) → FirstFault R F (member_trees xs) p f → FirstFault R F (member_trees (xs ++ ys)) p f
first_later R F (x ∷ xs) ys (zero ∷ p) f h = h
first_later R F (x ∷ xs) ys (suc j ∷ p) f h = (h.0, first_later R F xs ys (j ∷ p) f h.1)
first_later R F _ ys _ f h = absurd h

first_here : (R : MemberReads) (F : ℤ → Faults) (xs : Items) (x : ℤ × FieldTree) (p : Path) (f : LayoutFault) → AllMembers (Read R) (member_trees xs) → F x.0 x.1.tree p f → FirstFault R F (member_trees (xs ++ (x ∷ []))) (length xs ∷ p) f
first_here R F [] x p f all h = h
first_here R F (y ∷ xs) x p f all h = (all.0, first_here R F xs x p f all.1 h)

fault_added : (R : MemberReads) (F : ℤ → Faults) (fault : Option LayoutFault) (part : Answer) (xs : Items) (x : ℤ × FieldTree) → TellsBoth part (R x.0 x.1.tree) (F x.0 x.1.tree)
    → IsFaultOf R F fault (member_trees xs) → IsFaultOf R F (first_fault fault part) (member_trees (xs ++ (x ∷ [])))
fault_added R F (Some g) part xs x read before = (before.0, first_later R F xs (x ∷ []) before.0 g before.1)
fault_added R F None (Ok y) xs x read before = (all_both (Read R) xs (x ∷ [])).1 (before, ((y.0, y.1, read), tt))
fault_added R F None (Err g) xs x read before = (length xs ∷ read.0, first_here R F xs x read.0 g before read.1)

keyed_added : (K : Type 0) (place : K → ℕ) (S : K → ℤ → Tree → Type 0) (n more : ℕ) (A : ℕ → Type 0) (xs : Items) (x : ℤ × FieldTree) → AddsBits n A more
    → ((i : ℕ) → A i ↔ ((k : K) × (i ≡ place k) × S k x.0 x.1.tree)) → IsBits n (Keyed K place S (member_trees xs)) → IsBits more (Keyed K place S (member_trees (xs ++ (x ∷ []))))
keyed_added K place S n more A xs x adds is before =
    bits_added n more A (Keyed K place S (member_trees xs)) (Keyed K place S (member_trees (xs ++ (x ∷ [])))) adds (λ i. (
      (λ q. elim ((some_more (S q.0) xs x).0 q.2) [ inl s ↦ inl (q.0, q.1, s) | inr s ↦ inr ((is i).1 (q.0, q.1, s)) ]),
      (λ h. elim h [ inl p ↦ (p.0, p.1, (some_more (S p.0) xs x).1 (inl p.2)) | inr a ↦ let p = (is i).0 a in (p.0, p.1, (some_more (S p.0) xs x).1 (inr p.2)) ]),
    )) before

abbrev Ids : MemberTrees → ℕ → Type 0
Ids ms i = (i < 64) × SomeMember (λ j t. j ≡ pos i) ms

pub seen_more : (R : MemberReads) (F : ℤ → Faults) → OneReading R → SoleMember R F → (ids ids2 coords coords2 dims dims2 : ℕ) (fault fault2 : Option LayoutFault) (part : Answer) (xs : Items) (k : ℕ) (x : ℤ × FieldTree) (z : ℤ) → k < length xs → x ≡ get_or xs k x → z ≡ x.0
    → TellsBoth part (R z x.1.tree) (F z x.1.tree) → AddsBits ids (λ i. (i < 64) × (z ≡ pos i)) ids2 → AddsBits coords (ReadAt (λ y. place_of y.0) part) coords2 → AddsBits dims (ReadAt (λ y. order_of y.1) part) dims2
    → fault2 ≡ first_fault fault part → Seen R F ids coords dims fault (member_trees (take k xs)) → Seen R F ids2 coords2 dims2 fault2 (member_trees (take (k + 1) xs))
seen_more R F one sole ids ids2 coords coords2 dims dims2 fault fault2 part all k x z lt at id says add_id add_coord add_dim next before =
    let xs = take k all in
    let told = subst (λ i. TellsBoth part (R i x.1.tree) (F i x.1.tree)) id says in
    let read : Yields part (R x.0 x.1.tree) = exactly (coords_in x.1.tree) part (R x.0 x.1.tree) (F x.0 x.1.tree) (one x.0 x.1.tree) ((sole x.0).1 x.1.tree) told in
    subst (λ ys. Seen R F ids2 coords2 dims2 fault2 (member_trees ys)) (sym (one_more all k x lt at)) record {
      id_bits = bits_added ids ids2 (λ i. (i < 64) × (x.0 ≡ pos i)) (Ids (member_trees xs)) (Ids (member_trees (xs ++ (x ∷ [])))) (subst (λ (y : ℤ). AddsBits ids (λ i. (i < 64) × (y ≡ pos i)) ids2) id add_id) (λ i. let is = some_more (λ j t. j ≡ pos i) xs x in (
        (λ q. elim (is.0 q.1) [ inl s ↦ inl (q.0, s) | inr s ↦ inr (q.0, s) ]),
        (λ h. elim h [ inl p ↦ (p.0, is.1 (inl p.1)) | inr a ↦ (a.0, is.1 (inr a.1)) ]),
      )) before.id_bits;
      coord_bits = keyed_added CoordType place_of (AtCoord R) coords coords2 (ReadAt (λ y. place_of y.0) part) xs x add_coord
          (λ i. ((λ a. (a.0.0, a.2, (a.0.1, (read a.0.0 a.0.1).0 a.1))), (λ p. ((p.0, p.2.0), (read p.0 p.2.0).1 p.2.1, p.1)))) before.coord_bits;
      dimension_bits = keyed_added Dimension order_of (AtDimension R) dims dims2 (ReadAt (λ y. order_of y.1) part) xs x add_dim
          (λ i. ((λ a. (a.0.1, a.2, (a.0.0, (read a.0.0 a.0.1).0 a.1))), (λ p. ((p.2.0, p.0), (read p.2.0 p.0).1 p.2.1, p.1)))) before.dimension_bits;
      fault_found = subst (λ o. IsFaultOf R F o (member_trees (xs ++ (x ∷ [])))) (sym next) (fault_added R F fault part xs x told before.fault_found);
    }

pub seen_none : (R : MemberReads) (F : ℤ → Faults) (ids coords dims : ℕ) (fault : Option LayoutFault) → ids ≡ 0 → coords ≡ 0 → dims ≡ 0 → fault ≡ None → Seen R F ids coords dims fault no_members
seen_none R F ids coords dims fault no_ids no_coords no_dims no_fault = rw (no_ids, no_coords, no_dims, no_fault) record {
  id_bits = no_bits (Ids no_members) (λ i h. h.1);
  coord_bits = no_bits (Keyed CoordType place_of (AtCoord R) no_members) (λ i h. h.2);
  dimension_bits = no_bits (Keyed Dimension order_of (AtDimension R) no_members) (λ i h. h.2);
  fault_found = tt;
}

pub fault_next : (R : MemberReads) (F : ℤ → Faults) (fault more : Option LayoutFault) (part : Answer) (xs : Items) (k : ℕ) (x : ℤ × FieldTree) (z : ℤ) → k < length xs → x ≡ get_or xs k x → z ≡ x.0
    → TellsBoth part (R z x.1.tree) (F z x.1.tree) → more ≡ first_fault fault part → IsFaultOf R F fault (member_trees (take k xs)) → IsFaultOf R F more (member_trees (take (k + 1) xs))
fault_next R F fault more part xs k x z lt at id read next before =
    rw (one_more xs k x lt at, next) (fault_added R F fault part (take k xs) x (subst (λ i. TellsBoth part (R i x.1.tree) (F i x.1.tree)) id read) before)

-- ---- the root

pub at_root : (s : Summary) (b : Bottom) (t : Tree) → s.levels ≡ 0 → b ≡ s.bottom → Summarizes s t → IsBottom IsUnion s.width 0 b t
at_root s b t none is h = subst (λ u. IsBottom IsUnion s.width 0 b u) (sym (subst (λ n. ListsOver (are_levels s.width s.levels t h.0 h.1).0 n t h.0) none (are_levels s.width s.levels t h.0 h.1).1)) (rw (← none, is) h.2)

-- the exit of a `?` on what is below no lists
pub root_refused : {X : Type 0} (F : Faults) → RefusesLists F → (s : Summary) (r : Result X LayoutFault) (f : LayoutFault) (R : X → Type 0) → IsErrAnd r (λ e. e ≡ f) → IsLevelFault s 0 f → (t : Tree) → Summarizes s t → Tells r R (F t)
root_refused F refuses s r f R is e t h = refused_as r f R (F t) is (level_fault F refuses s 0 f (omega arith) e t (shows_of_inner s t (inner_of s t h)))

pub root_geometry : (w : Option ListWidth) (empty : Bool) (ids coords dims : ℕ) (fault geometry : Option LayoutFault) (u : Tree) (r : Result CoordType LayoutFault)
    → IsBottom IsUnion w 0 (Union empty ids coords dims fault geometry) u → MatchResult r (AreOf empty geometry coords) (IsCoordFault empty geometry coords) → Tells r (Geometry u) (GeometryFault u)
root_geometry w empty ids coords dims fault geometry u r k says =
    at_bottom IsUnion (λ x. Tells r (Geometry x) (GeometryFault x)) w 0 (Union empty ids coords dims fault geometry) tt (λ x t b m z h. absurd h) (λ fs h. absurd h)
    (λ ms mode h. (one_from GeometryMember geometry_member_first GeometryMemberFault empty geometry coords r ms says h.0 h.1.coord_bits h.1.fault_found)) u k

-- ---- ids and members: each is read in one way

-- the answer of a kind, if the dimension is that of the type id
pub part_answer : (N : KindReads) (F : NativeKind → Faults) (i z : ℤ) (t : Tree) (k : NativeKind) (d : Dimension) (read r : Answer) → z ≡ i → IsPartsOf z (some_parts k d) → MatchResult r (λ x. (read ≡ Ok x) × (x.1 ≡ d)) (λ f. (read ≡ Err f) ⊎ ((f ≡ MemberDimension) × (c : CoordType) × (e : Dimension) × (read ≡ Ok (c, e)) × (e ≢ d)))
    → TellsBoth read (N t k) (F k t) → TellsBoth r (λ c e. (l : NativeKind) × (i ≡ pos (type_id_of l e)) × N t l c e) (PartFault N F i t)
part_answer N F i z t k d read (Ok x) is parts h a = let read_is : N t k x.0 x.1 = subst (λ y. TellsBoth y (N t k) (F k t)) h.0 a in (k, sym is ∙ (parts k d).0 refl ∙ ap (λ e. pos (type_id_of k e)) (sym h.1), read_is)
part_answer N F i z t k d read (Err f) is parts (inl e) a = let fault : HasFault (F k t) f = subst (λ y. TellsBoth y (N t k) (F k t)) e a in (fault.0, inr (k, d, sym is ∙ (parts k d).0 refl, inl fault.1))
part_answer N F i z t k d read (Err f) is parts (inr e) a =
    let read_is : N t k e.1 e.2 = subst (λ y. TellsBoth y (N t k) (F k t)) e.3 a in
    ([], inr (k, d, sym is ∙ (parts k d).0 refl, inr (e.1, e.2, read_is, e.4, (refl, e.0))))

-- the lists of a kind other than a collection
pub over_leaf_answer : (b : Bool) (k : NativeKind) (n : ℕ) (s : Summary) (t : Tree) (r : Answer) → (k ≢ GeometryCollection) → n ≡ levels_of k → ((u : Tree) → ShowsIn false s u → TellsBoth r (Under Leaf n u) (LevelsFault CoordinateFault None n u)) → ShowsIn b s t → TellsBoth r (NativeIn b t k) (NativeFaultIn b k t)
over_leaf_answer b GeometryCollection n s t r other same says shown = absurd (other refl)
over_leaf_answer true k n s t r other same says shown = subst (λ m. TellsBoth r (Under Leaf m t) (LevelsFault CoordinateFault None m t)) same (says t (shows_of_inner s t shown))
over_leaf_answer false k n s t r other same says shown = subst (λ m. TellsBoth r (Under Leaf m t) (LevelsFault CoordinateFault None m t)) same (says t shown)

pub no_collection : (i z : ℤ) (t : Tree) (r : Option (NativeKind × Dimension)) (part : Answer) → z ≡ i → IsPartsOf z r → ((d : Dimension) → r ≡ some_parts GeometryCollection d → ⊥) → TellsBoth part (GeometryMember i t) (GeometryMemberFault i t) → TellsBoth part (Member i t) (MemberFault i t)
no_collection i z t r (Ok x) is parts other (GeometryCollection, id, m) = absurd (other x.1 ((parts GeometryCollection x.1).1 (is ∙ id)))
no_collection i z t r (Ok x) is parts other (k, id, m) = (k, id, m)
no_collection i z t r (Err f) is parts other (p, inl e) = (p, inl e)
no_collection i z t r (Err f) is parts other (p, inr (GeometryCollection, d, id, e)) = absurd (other d ((parts GeometryCollection d).1 (is ∙ id)))
no_collection i z t r (Err f) is parts other (p, inr (k, d, id, e)) = (p, inr (k, d, id, e))

pub a_collection : (i z : ℤ) (t : Tree) (k : NativeKind) (d : Dimension) → z ≡ i → IsPartsOf z (some_parts k d) → k ≡ GeometryCollection → TellsBoth (refused BadTypeId) (Member i t) (MemberFault i t)
a_collection i z t k d is parts same = ([], inr (k, d, sym is ∙ (parts k d).0 refl, inl (subst (λ x. OverLeafFault x t [] BadTypeId) (sym same) (refl, refl))))
