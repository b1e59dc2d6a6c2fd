-- A data type has one fault at most under a name, and none if it is accepted; the path to it, step by step.
use Rattle.geoarrow_layout.proofs.Terms.{◌≡◌, ◌≢◌, ◌*◌, Bool, true, false, inl, inr, ℕ, zero, suc, ℤ, pos, List, [], ◌∷◌, length, sym, ap, subst, ◌∙◌, ◌⊎◌, Text, Tree, list, large_list, fixed_size_list, struct, union, MemberTrees, no_members, member, CoordType, Interleaved, Separated, Dimension, XY, XYZ, NativeKind, GeometryCollection, Kind, OfNative, OfGeometry, OfRect, OfWkb, OfWkt, ListWidth, Lists, LargeLists, LayoutFault, UnexpectedType, BadFieldNames, BadTypeId, ExtensionName, size_of, type_id_of, extension_of, names_of, IsSeparatedAs, Leaf, ListsOver, levels_of, OverLeaf, Member, AllMembers, Mixed, Native, GeometryMember, Geometry, IsBoxAs, BoxShape, Accepted, Path, Located, Faults, InItem, CoordinateFault, BoxFault, LevelsFault, Option, None, Some, IsWidth, OverLeafFault, PartFault, FirstFault, UnionFault, MemberFault, MixedFault, NativeFault, GeometryMemberFault, GeometryFault, FaultAt, BadInterleavedName, BadSize, BadFieldCount, MixedWidths, MemberDimension, EmptyUnion, SeveralCoordTypes, SeveralDimensions, ReadsFirst, named_back, dimension_named, over_leaf_first, native_first, order_of, offset_of, arith, refl, ◌+◌, ◌≤◌, Point, NativeIn, NativeFaultIn, MemberIn, MemberFaultIn, Here, Under, UnionFaultIn, HasMembers, DimensionsFault, ◌<◌, MatchResult, ◌++◌, take, Result, OnOk, get_or, append-nil, append_assoc, Ok, Err, FieldTree, field_trees, member_trees, UnionMode, HasFault, LeadsTo, FirstOrNone, TellsBoth, field_at, member_at, StaysHere}
use Rattle.geoarrow_layout.specs.declared.names.ExtensionName.TheVariants as names
use Rattle.geoarrow_layout.proofs.Readings.{all_map, Answer, IsPartsOf, some_parts, Items}

-- a tree has one fault at most
abbrev pub One : Located → Type 0
One F = (p q : Path) (f g : LayoutFault) → F p f → F q g → (p ≡ q) × (f ≡ g)

abbrev pub Reads : Type 1
Reads = Tree → CoordType → Dimension → Type 0

-- what is read has no fault
abbrev pub Apart : Reads → Faults → Type 0
Apart R F = (t : Tree) (c : CoordType) (d : Dimension) (p : Path) (f : LayoutFault) → R t c d → F t p f → ⊥

-- both
abbrev pub Sole : Reads → Faults → Type 0
Sole R F = ((t : Tree) → One (F t)) × Apart R F

here_one : (a : LayoutFault) → One (Here a)
here_one a p q f g h k = (h.0 ∙ sym k.0, h.1 ∙ sym k.1)

in_item_one : (F : Located) → One F → One (InItem F)
in_item_one F one (zero ∷ p) (zero ∷ q) f g h k = let s = one p q f g h k in (ap (λ r. zero ∷ r) s.0, s.1)
in_item_one F one _ _ f g h k = search

-- a fault of one sort or another, which exclude each other
either_one : (A B : Located) → One A → One B → ((p q : Path) (f g : LayoutFault) → A p f → B q g → ⊥) → One (λ p f. A p f ⊎ B p f)
either_one A B one two apart p q f g h k = grind (arith, one, two, apart)

-- ---- coordinates and boxes

coordinate_one : (t : Tree) → One (CoordinateFault t)
coordinate_one (fixed_size_list n t b m z) = either_one _ _ (λ p q f g h k. here_one BadInterleavedName p q f g h.1 k.1) (λ p q f g h k. here_one BadSize p q f g h.3 k.3) (λ p q f g h k. h.0 k.0 k.1)
coordinate_one (struct fs) = either_one _ _ (λ p q f g h k. here_one BadFieldCount p q f g h.1 k.1) (λ p q f g h k. here_one BadFieldNames p q f g h.2 k.2) (λ p q f g h k. h.0 XYZ k.0)
coordinate_one _ = here_one UnexpectedType

-- the number of the fields of a coordinate, and of a box
pub lengths : (ns : List Text) (d : Dimension) → (IsSeparatedAs d ns → length ns ≡ size_of d) × (IsBoxAs d ns → length ns ≡ 2 * size_of d)
lengths ns XY = (λ h. h, λ h. h)
lengths ns _ = (λ h. search, λ h. search)

coordinate_apart : Apart Leaf CoordinateFault
coordinate_apart (fixed_size_list n t b m z) Interleaved d p f h (inl k) = k.0 d h.0
coordinate_apart (fixed_size_list n t b m z) Interleaved d p f h (inr k) = k.2 (h.1 ∙ ap (λ x. pos (size_of x)) (sym (named_back d) ∙ ap dimension_named (sym h.0 ∙ k.1) ∙ named_back k.0))
coordinate_apart (struct fs) Separated d p f h (inl k) = k.0 d ((lengths (names_of fs) d).0 h)
coordinate_apart (struct fs) Separated d p f h (inr k) = k.1 d h
coordinate_apart _ c d p f h k = absurd h

pub box_apart : (t : Tree) (d : Dimension) (p : Path) (f : LayoutFault) → BoxShape t d → BoxFault t p f → ⊥
box_apart (struct fs) d p f h (inl k) = k.0 d ((lengths (names_of fs) d).1 h)
box_apart (struct fs) d p f h (inr k) = k.1 d h
box_apart _ d p f h k = absurd h

-- ---- lists

levels_one : (F : Faults) → ((t : Tree) → One (F t)) → (w : Option ListWidth) (n : ℕ) (t : Tree) → One (LevelsFault F w n t)
levels_one F one w zero t = one t
levels_one F one (Some LargeLists) (suc n) (list x t b m) = here_one MixedWidths
levels_one F one (Some Lists) (suc n) (large_list x t b m) = here_one MixedWidths
levels_one F one w (suc n) (list x t b m) = in_item_one (LevelsFault F (Some Lists) n t) (levels_one F one (Some Lists) n t)
levels_one F one w (suc n) (large_list x t b m) = in_item_one (LevelsFault F (Some LargeLists) n t) (levels_one F one (Some LargeLists) n t)
levels_one F one w (suc n) _ = here_one UnexpectedType

levels_apart : (P : Reads) (F : Faults) → Apart P F → (w : Option ListWidth) (v : ListWidth) (n : ℕ) (t u : Tree) (c : CoordType) (d : Dimension) (p : Path) (f : LayoutFault) → IsWidth w v → ListsOver v n t u → P u c d → LevelsFault F w n t p f → ⊥
levels_apart P F apart w v zero t u c d p f is h r k = apart t c d p f (subst (λ x. P x c d) (sym h) r) k
levels_apart P F apart (Some LargeLists) Lists (suc n) (list x t b m) u c d p f is h r k = elim is [ inl e ↦ cc | inr e ↦ cc ]
levels_apart P F apart (Some Lists) LargeLists (suc n) (large_list x t b m) u c d p f is h r k = elim is [ inl e ↦ cc | inr e ↦ cc ]
levels_apart P F apart w Lists (suc n) (list x t b m) u c d (zero ∷ p) f is h r k = levels_apart P F apart (Some Lists) Lists n t u c d p f (inr refl) h r k
levels_apart P F apart w LargeLists (suc n) (large_list x t b m) u c d (zero ∷ p) f is h r k = levels_apart P F apart (Some LargeLists) LargeLists n t u c d p f (inr refl) h r k
levels_apart P F apart _ _ (suc n) _ u c d _ f is h r k = search

levels_sole : (P : Reads) (F : Faults) → Sole P F → (n : ℕ) → Sole (Under P n) (LevelsFault F None n)
levels_sole P F sole n = (levels_one F sole.0 None n, λ t c d p f h e. levels_apart P F sole.1 None h.1.0 n t h.0 c d p f (inl refl) h.1.1 h.2 e)

pub over_leaf_sole : (k : NativeKind) → Sole (λ t. OverLeaf t k) (OverLeafFault k)
over_leaf_sole GeometryCollection = ((λ t. here_one BadTypeId), (λ t c d p f h e. absurd h))
over_leaf_sole k = levels_sole Leaf CoordinateFault (coordinate_one, coordinate_apart) (levels_of k)

-- ---- unions

abbrev pub KindReads : Type 1
KindReads = Tree → NativeKind → CoordType → Dimension → Type 0

-- a type id is that of one kind and one dimension
pub order_same : (d e : Dimension) → order_of d ≡ order_of e → d ≡ e
order_same XY XY h = refl
order_same _ _ h = grind arith

offset_same : (k l : NativeKind) → offset_of k ≡ offset_of l → k ≡ l
offset_same Point Point h = refl
offset_same k l h = grind arith

offset_small : (k : NativeKind) → offset_of k ≤ 7
offset_small Point = omega arith
offset_small _ = omega arith

id_same : (i : ℤ) (k l : NativeKind) (d e : Dimension) → i ≡ pos (type_id_of k d) → i ≡ pos (type_id_of l e) → (k ≡ l) × (d ≡ e)
id_same i k l d e h g =
    let n : 10 * order_of d + offset_of k ≡ 10 * order_of e + offset_of l = cc in
    let one : order_of d ≡ order_of e = omega (arith, offset_small k, offset_small l) in
    (offset_same k l (omega arith), order_same d e one)

abbrev pub SoleNative : KindReads → (NativeKind → Faults) → Type 0
SoleNative N F = (k : NativeKind) → Sole (λ t. N t k) (F k)

-- what a member of the kind and dimension of its type id has
abbrev pub KindFault : KindReads → (NativeKind → Faults) → NativeKind → Dimension → Faults
KindFault N F k d t p f = F k t p f ⊎ ((c : CoordType) × (e : Dimension) × N t k c e × (e ≢ d) × Here MemberDimension p f)

-- a member whose type id is that of the kind and the dimension has their fault
pub kind_only : (N : KindReads) (F : NativeKind → Faults) (i : ℤ) (t : Tree) (k : NativeKind) (d : Dimension) (p : Path) (f : LayoutFault) → i ≡ pos (type_id_of k d) → PartFault N F i t p f → KindFault N F k d t p f
kind_only N F i t k d p f id (inl h) = absurd (h.0 k d id)
kind_only N F i t k d p f id (inr h) = let same = id_same i h.0 k h.1 d h.2 id in subst (λ x. KindFault N F k x t p f) same.1 (subst (λ x. KindFault N F x h.1 t p f) same.0 h.3)

part_sole : (N : KindReads) (F : NativeKind → Faults) → ((k : NativeKind) → ReadsFirst (λ t. N t k)) → SoleNative N F → (i : ℤ) → Sole (λ t c d. (k : NativeKind) × (i ≡ pos (type_id_of k d)) × N t k c d) (PartFault N F i)
part_sole N F first sole i = (
  (λ t. either_one _ _ (λ p q f g h l. here_one BadTypeId p q f g h.1 l.1) (λ p q f g h l. one h.0 h.1 t p q f g h.3 (kind_only N F i t h.0 h.1 q g h.2 (inr l))) (λ p q f g h l. h.0 l.0 l.1 l.2)),
  (λ t c d p f m e. elim (kind_only N F i t m.0 d p f m.1 e) [ inl x ↦ (sole m.0).1 t c d p f m.2 x | inr x ↦ x.3 (ap (λ y. y.1) (sym (first m.0 t x.0 x.1 x.2) ∙ first m.0 t c d m.2)) ]),
)
  where
    one : (k : NativeKind) (d : Dimension) (t : Tree) → One (KindFault N F k d t)
    one k d t = either_one _ _ ((sole k).0 t) (λ p q f g h l. here_one MemberDimension p q f g h.4 l.4) (λ p q f g h l. (sole k).1 t l.0 l.1 p f l.2 h)

abbrev pub MemberReads : Type 1
MemberReads = ℤ → Tree → CoordType → Dimension → Type 0

abbrev pub SoleMember : MemberReads → (ℤ → Faults) → Type 0
SoleMember R F = (i : ℤ) → Sole (R i) (F i)

abbrev pub Read : MemberReads → ℤ → Tree → Type 0
Read R i t = (c : CoordType) × (d : Dimension) × R i t c d

pub first_one : (R : MemberReads) (F : ℤ → Faults) → SoleMember R F → (ms : MemberTrees) → One (FirstFault R F ms)
first_one R F sole (member i n t b m ms) (zero ∷ p) (zero ∷ q) f g h k = let s = (sole i).0 t p q f g h k in (ap (λ r. zero ∷ r) s.0, s.1)
first_one R F sole (member i n t b m ms) (zero ∷ p) (suc j ∷ q) f g h k = absurd ((sole i).1 t k.0.0 k.0.1 p f k.0.2 h)
first_one R F sole (member i n t b m ms) (suc j ∷ p) (zero ∷ q) f g h k = absurd ((sole i).1 t h.0.0 h.0.1 q g h.0.2 k)
first_one R F sole (member i n t b m ms) (suc j ∷ p) (suc l ∷ q) f g h k = let s = first_one R F sole ms (j ∷ p) (l ∷ q) f g h.1 k.1 in (cc (s.0), s.1)
first_one R F sole _ _ _ f g h k = search

pub first_apart : (R : MemberReads) (F : ℤ → Faults) → SoleMember R F → (ms : MemberTrees) (p : Path) (f : LayoutFault) → AllMembers (Read R) ms → FirstFault R F ms p f → ⊥
first_apart R F sole (member i n t b m ms) (zero ∷ p) f h k = (sole i).1 t h.0.0 h.0.1 p f h.0.2 k
first_apart R F sole (member i n t b m ms) (suc j ∷ p) f h k = first_apart R F sole ms (j ∷ p) f h.1 k.1
first_apart R F sole _ _ f h k = absurd k

union_one : (R : MemberReads) (F : ℤ → Faults) → SoleMember R F → (ms : MemberTrees) → One (UnionFault R F ms)
union_one R F sole no_members = here_one EmptyUnion
union_one R F sole (member i n t b m ms) = either_one _ _ (first_one R F sole (member i n t b m ms)) (λ p q f g h k. here_one SeveralCoordTypes p q f g h.2 k.2)
    (λ p q f g h k. first_apart R F sole (member i n t b m ms) p f k.0 h)

-- members of one coordinate type, at least one, are at fault as no union
union_apart : (R : MemberReads) (F : ℤ → Faults) → SoleMember R F → (ms : MemberTrees) (c : CoordType) (p : Path) (f : LayoutFault) → HasMembers ms → AllMembers (λ i t. (d : Dimension) × R i t c d) ms → UnionFault R F ms p f → ⊥
union_apart R F sole no_members c p f some h k = absurd some
union_apart R F sole (member i n t b m ms) c p f some h (inl k) = first_apart R F sole (member i n t b m ms) p f (all_map (λ j u. (d : Dimension) × R j u c d) (Read R) (λ j u x. (c, x.0, x.1)) (member i n t b m ms) h) k
union_apart R F sole (member i n t b m ms) c p f some h (inr k) = k.1 c h

pub member_sole : SoleMember Member MemberFault
member_sole = part_sole OverLeaf OverLeafFault over_leaf_first over_leaf_sole

-- the members of a collection, which are of several dimensions, are no fault as a union
mixed_two : (ms : MemberTrees) (p q : Path) (f g : LayoutFault) → UnionFault Member MemberFault ms p f → DimensionsFault ms q g → ⊥
mixed_two no_members p q f g h k = k.1 Interleaved XY tt
mixed_two (member i n t b m ms) p q f g h k = union_apart Member MemberFault member_sole (member i n t b m ms) k.0.0 p f tt k.0.1 h

mixed_one : (t : Tree) → One (MixedFault t)
mixed_one (union ms mode) = either_one _ _ (union_one Member MemberFault member_sole ms) (λ p q f g h k. here_one SeveralDimensions p q f g h.2 k.2) (mixed_two ms)
mixed_one _ = here_one UnexpectedType

pub mixed_none : Apart Mixed MixedFault
mixed_none (union ms mode) c d p f h (inl k) = union_apart Member MemberFault member_sole ms c p f h.0 (all_map (λ i t. Member i t c d) (λ i t. (e : Dimension) × Member i t c e) (λ i t x. (d, x)) ms h.1) k
mixed_none (union ms mode) c d p f h (inr k) = k.1 c d h.1
mixed_none _ c d p f h k = absurd h

pub native_sole : (k : NativeKind) → Sole (λ t. Native t k) (NativeFault k)
native_sole GeometryCollection = levels_sole Mixed MixedFault (mixed_one, mixed_none) 1
native_sole k = over_leaf_sole k

pub geometry_member_sole : SoleMember GeometryMember GeometryMemberFault
geometry_member_sole = part_sole Native NativeFault native_first native_sole

-- the same where collections are allowed or not
pub native_sole_in : (b : Bool) → SoleNative (NativeIn b) (NativeFaultIn b)
native_sole_in true = native_sole
native_sole_in false = over_leaf_sole

pub member_sole_in : (b : Bool) → SoleMember (MemberIn b) (MemberFaultIn b)
member_sole_in true = geometry_member_sole
member_sole_in false = member_sole

pub geometry_apart : (t : Tree) (c : CoordType) (p : Path) (f : LayoutFault) → Geometry t c → GeometryFault t p f → ⊥
geometry_apart (union ms mode) c p f h k = union_apart GeometryMember GeometryMemberFault geometry_member_sole ms c p f h.0 h.1 k
geometry_apart _ c p f h k = absurd h

-- ---- by the extension name

pub one_fault : (n : ExtensionName) (t : Tree) → One (FaultAt n t)
one_fault (names.Native k) t = (native_sole k).0 t
one_fault names.Geometry (union ms mode) = union_one GeometryMember GeometryMemberFault geometry_member_sole ms
one_fault names.Geometry _ = here_one UnexpectedType
one_fault names.Rect (struct fs) = either_one _ _ (λ p q f g h k. here_one BadFieldCount p q f g h.1 k.1) (λ p q f g h k. here_one BadFieldNames p q f g h.2 k.2) (λ p q f g h k. h.0 XYZ k.0)
one_fault names.Rect _ = here_one UnexpectedType
one_fault _ t = λ p q f g h e. here_one UnexpectedType p q f g h.1 e.1

pub accepted_apart : (k : Kind) (t : Tree) (p : Path) (f : LayoutFault) → Accepted k t → FaultAt (extension_of k) t p f → ⊥
accepted_apart (OfNative k c d) t p f h e = (native_sole k).1 t c d p f h e
accepted_apart (OfGeometry c) t p f h e = geometry_apart t c p f h e
accepted_apart (OfRect d) t p f h e = box_apart t d p f h e
accepted_apart (OfWkb w) t p f h e = e.0 w h
accepted_apart (OfWkt w) t p f h e = e.0 w h

-- ---- the path to a fault

pub stays : (F : Located) (before : Path) → StaysHere F → LeadsTo F before before
stays F before here = λ p f h. sym (append-nil before) ∙ ap (λ q. before ++ q) (sym (here p f h))

-- one step down
pub step_down : (F : Located) (before after : Path) (i : ℕ) (p : Path) (f : LayoutFault) → LeadsTo F (before ++ (i ∷ [])) after → F p f → after ≡ before ++ (i ∷ p)
step_down F before after i p f h e = h p f e ∙ append_assoc before (i ∷ []) p

pub into_item : (F : Located) (before between after : Path) → between ≡ before ++ (0 ∷ []) → LeadsTo F between after → LeadsTo (InItem F) before after
into_item F before between after is h (zero ∷ p) f e = step_down F before after 0 p f (subst (λ b. LeadsTo F b after) is h) e
into_item F before between after is h _ f e = absurd e

-- levels are gone down
level_item : (w : Option ListWidth) (v : ListWidth) (n : ℕ) (t u : Tree) (p : Path) (f : LayoutFault) → IsWidth w v → ListsOver v 1 t u → LevelsFault CoordinateFault w (suc n) t p f → InItem (LevelsFault CoordinateFault (Some v) n u) p f
level_item (Some Lists) LargeLists n t u p f is one h = elim is [ inl e ↦ cc | inr e ↦ cc ]
level_item (Some LargeLists) Lists n t u p f is one h = elim is [ inl e ↦ cc | inr e ↦ cc ]
level_item w Lists n (list x t b m) u p f is one h = subst (λ z. InItem (LevelsFault CoordinateFault (Some Lists) n z) p f) one h
level_item w LargeLists n (large_list x t b m) u p f is one h = subst (λ z. InItem (LevelsFault CoordinateFault (Some LargeLists) n z) p f) one h
level_item _ _ n _ u p f is one h = absurd one

pub level_leads : (w : Option ListWidth) (v : ListWidth) (levels n : ℕ) (t u : Tree) (before between after : Path) → levels ≡ suc n → IsWidth w v → ListsOver v 1 t u → between ≡ before ++ (0 ∷ [])
    → LeadsTo (LevelsFault CoordinateFault (Some v) n u) between after → LeadsTo (LevelsFault CoordinateFault w levels t) before after
level_leads w v levels n t u before between after same is one pushed h = rw same (λ p f e. into_item (LevelsFault CoordinateFault (Some v) n u) before between after pushed h p f (level_item w v n t u p f is one e))

-- ---- members

-- the first member at fault is the one at k, if each before it is read
first_at : (R : MemberReads) (F : ℤ → Faults) (xs : Items) (k : ℕ) (x : ℤ × FieldTree) (p : Path) (f : LayoutFault) → k < length xs → x ≡ get_or xs k x → AllMembers (Read R) (member_trees (take k xs)) → F x.0 x.1.tree p f → FirstFault R F (member_trees xs) (k ∷ p) f
first_at R F [] k x p f lt at all bad = absurd (omega arith)
first_at R F (y ∷ xs) zero x p f lt at all bad = subst (λ z. F z.0 z.1.tree p f) at bad
first_at R F (y ∷ xs) (suc k) x p f lt at all bad = (all.0, first_at R F xs k x p f (omega arith) at all.1 bad)

pub at_member : (R : MemberReads) (F : ℤ → Faults) → SoleMember R F → (xs : Items) (k : ℕ) (x : ℤ × FieldTree) (before between after : Path) → k < length xs → x ≡ get_or xs k x → AllMembers (Read R) (member_trees (take k xs)) → (g : LayoutFault) × HasFault (F x.0 x.1.tree) g
    → between ≡ before ++ (k ∷ []) → LeadsTo (F x.0 x.1.tree) between after → LeadsTo (FirstOrNone R F (member_trees xs)) before after
at_member R F sole xs k x before between after lt at all (g, bad) is h = λ p f e.
    let here = first_at R F xs k x bad.0 g lt at all bad.1 in
    let down = step_down (F x.0 x.1.tree) before after k bad.0 g (subst (λ b. LeadsTo (F x.0 x.1.tree) b after) is h) bad.1 in
    elim e [ inl first ↦ down ∙ ap (λ r. before ++ r) (first_one R F sole (member_trees xs) (k ∷ bad.0) p g f here first).0 | inr none ↦ absurd (first_apart R F sole (member_trees xs) (k ∷ bad.0) g none.0 here) ]

union_first : (R : MemberReads) (F : ℤ → Faults) (ms : MemberTrees) (p : Path) (f : LayoutFault) → UnionFault R F ms p f → FirstOrNone R F ms p f
union_first R F no_members p f h = inr (tt, h.0)
union_first R F (member i n t b m ms) p f (inl h) = inl h
union_first R F (member i n t b m ms) p f (inr h) = inr (h.0, h.2.0)

pub union_leads : (b : Bool) (t : Tree) (ms ns : Items) (mode : UnionMode) (before after : Path) → t ≡ union (member_trees ms) mode → ns ≡ ms → LeadsTo (FirstOrNone (MemberIn b) (MemberFaultIn b) (member_trees ns)) before after → LeadsTo (UnionFaultIn b t) before after
union_leads b t ms ns mode before after is same h = subst (λ u. LeadsTo (UnionFaultIn b u) before after) (sym is)
    (λ p f e. subst (λ xs. LeadsTo (FirstOrNone (MemberIn b) (MemberFaultIn b) (member_trees xs)) before after) same h p f (first b p f e))
  where
    first : (b : Bool) (p : Path) (f : LayoutFault) → UnionFaultIn b (union (member_trees ms) mode) p f → FirstOrNone (MemberIn b) (MemberFaultIn b) (member_trees ms) p f
    first true p f u = union_first GeometryMember GeometryMemberFault (member_trees ms) p f u
    first false p f (inl u) = union_first Member MemberFault (member_trees ms) p f u
    first false p f (inr d) = inr (all_map (λ i t. (x : Dimension) × Member i t d.0.0 x) (Read Member) (λ i t y. (d.0.0, y.0, y.1)) (member_trees ms) d.0.1, d.2.0)

pub native_leads : {X E : Type 0} (b : Bool) (r : Result X E) (k : NativeKind) (n : ℕ) (t : Tree) (before after : Path) → (k ≡ GeometryCollection → ⊥) → n ≡ levels_of k → OnOk r (LeadsTo (LevelsFault CoordinateFault None n t) before after) → OnOk r (LeadsTo (NativeFaultIn b k t) before after)
native_leads b r GeometryCollection n t before after other same h = absurd (other refl)
native_leads true r k n t before after other same h = subst (λ m. OnOk r (LeadsTo (LevelsFault CoordinateFault None m t) before after)) same h
native_leads false r k n t before after other same h = subst (λ m. OnOk r (LeadsTo (LevelsFault CoordinateFault None m t) before after)) same h

-- ---- one member

-- a member that is read as one of its kind has no fault inside, and one that is not has that of its kind
pub kind_inside : (N : KindReads) (F : NativeKind → Faults) → SoleNative N F → (i z : ℤ) (t : Tree) (k : NativeKind) (d : Dimension) (r : Answer) → z ≡ i → IsPartsOf z (some_parts k d) → TellsBoth r (N t k) (F k t)
    → MatchResult r (λ x. StaysHere (PartFault N F i t)) (λ g. (p : Path) (f : LayoutFault) → PartFault N F i t p f → F k t p f)
kind_inside N F sole i z t k d (Ok x) same parts h = λ p f e. elim (kind_only N F i t k d p f (sym same ∙ (parts k d).0 refl) e) [ inl y ↦ absurd ((sole k).1 t x.0 x.1 p f h y) | inr y ↦ y.4.0 ]
kind_inside N F sole i z t k d (Err g) same parts h = λ p f e. elim (kind_only N F i t k d p f (sym same ∙ (parts k d).0 refl) e) [ inl x ↦ x | inr x ↦ absurd ((sole k).1 t x.0 x.1 h.0 g x.2 h.1) ]

-- ---- the field at a place

pub field_there : (fs : List FieldTree) (i : ℕ) (x : FieldTree) → i < length fs → x ≡ get_or fs i x → field_at (field_trees fs) i ≡ Some x
field_there [] i x lt at = absurd (omega arith)
field_there (f ∷ fs) zero x lt at = ap (λ g. Some g) (sym at)
field_there (f ∷ fs) (suc i) x lt at = field_there fs i x (omega arith) at

pub no_field_there : (fs : List FieldTree) (i : ℕ) → length fs ≤ i → field_at (field_trees fs) i ≡ None
no_field_there [] i le = refl
no_field_there (f ∷ fs) zero le = absurd (omega arith)
no_field_there (f ∷ fs) (suc i) le = no_field_there fs i (omega arith)

pub member_there : (ms : Items) (i : ℕ) (x : ℤ × FieldTree) → i < length ms → x ≡ get_or ms i x → member_at (member_trees ms) i ≡ Some x.1
member_there [] i x lt at = absurd (omega arith)
member_there (m ∷ ms) zero x lt at = ap (λ y. Some y.1) (sym at)
member_there (m ∷ ms) (suc i) x lt at = member_there ms i x (omega arith) at

pub no_member_there : (ms : Items) (i : ℕ) → length ms ≤ i → member_at (member_trees ms) i ≡ None
no_member_there [] i le = refl
no_member_there (m ∷ ms) zero le = absurd (omega arith)
no_member_there (m ∷ ms) (suc i) le = no_member_there ms i (omega arith)
