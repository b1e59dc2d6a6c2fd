-- What a reader answers; what holds of all members of a union, or of some; what stands below the lists, and which fault it is.
use Rattle.geoarrow_layout.proofs.Terms.{◌≡◌, ◌↔◌, sym, subst, ℤ, pos, Result, Ok, Err, Option, Some, ap, ◌∙◌, IfErr, CoordType, Dimension, LayoutFault, NativeKind, type_id_of, Yields, YieldsOne, Path, Located, HasFault, Tells, TellsBoth, IsErrAnd, IsOkAnd, MatchResult, ◌<◌, ◌+◌, ◌⊎◌, inl, inr, ℕ, List, [], ◌∷◌, ◌++◌, take, length, get_or, add-one, take-suc, Tree, FieldTree, MemberTrees, no_members, member, member_trees, AllMembers, SomeMember, HasMembers, Bool, ◌≤◌, zero, suc, ◌-◌, refl, arith, None, same_Some, Text, Metadata, plain, list, large_list, fixed_size_list, struct, union, FieldTrees, UnionMode, UnexpectedType, ListWidth, Lists, LargeLists, Bottom, OtherWidth, Deep, Other, Summary, ListsOver, Faults, MixedFault, LevelsFault, IsBottom, AreLevels, SummarizesBy, Under, IsFixedSize, IsStruct, missing_fault, IsWidth, IsNoLeaf, IsLevelFault, ShowsIn, false}
use Rattle.std.proofs.Math.Nat.{add-zero, suc-add, zero-add}

abbrev pub Answer : Type 0
Answer = Result (CoordType × Dimension) LayoutFault

abbrev pub ok : {X : Type 0} → X → Result X LayoutFault
ok x = Ok x

pub ok_same : {X : Type 0} (x y : X) → ok x ≡ ok y → x ≡ y
ok_same x y h = cc

abbrev pub some_parts : NativeKind → Dimension → Option (NativeKind × Dimension)
some_parts k d = Some (k, d)

abbrev pub refused : LayoutFault → Answer
refused e = Err e

-- the parts of an id
abbrev pub IsPartsOf : ℤ → Option (NativeKind × Dimension) → Type 0
IsPartsOf i r = (k : NativeKind) (d : Dimension) → (r ≡ some_parts k d) ↔ (i ≡ pos (type_id_of k d))

-- what holds for one value alone, and for none where there is a fault, is answered exactly
pub exactly_one : {X : Type 0} (r : Result X LayoutFault) (R : X → Type 0) (F : Located) → ((x y : X) → R x → R y → x ≡ y) → ((x : X) (p : Path) (f : LayoutFault) → R x → F p f → ⊥) → Tells r R F → YieldsOne r R
exactly_one (Ok x) R F one apart h y = (λ e. subst R (ok_same x y e) h, λ k. ap ok (one x y h k))
exactly_one (Err f) R F one apart h y = (λ e. cc, λ k. absurd (apart y h.0 f k h.1))

pub exactly : (v : CoordType × Dimension) (r : Answer) (R : CoordType → Dimension → Type 0) (F : Located) → ((c : CoordType) (d : Dimension) → R c d → v ≡ (c, d)) → ((c : CoordType) (d : Dimension) (p : Path) (f : LayoutFault) → R c d → F p f → ⊥) → TellsBoth r R F → Yields r R
exactly v r R F first apart h = let all = exactly_one r (λ x. R x.0 x.1) F (λ x y h k. sym (first x.0 x.1 h) ∙ first y.0 y.1 k) (λ x. apart x.0 x.1) h in λ c d. all (c, d)

pub told_fault : {X : Type 0} (r : Result X LayoutFault) (R : X → Type 0) (F : Located) → Tells r R F → IfErr r (HasFault F)
told_fault (Ok x) R F h = tt
told_fault (Err f) R F h = h

-- what is told of a value is told of what is made of it
pub told_map : {X Y : Type 0} (r : Result X LayoutFault) (q : Result Y LayoutFault) (f : X → Y) (R : X → Type 0) (S : Y → Type 0) (F : Located) → MatchResult r (λ x. IsOkAnd q (λ y. y ≡ f x)) (λ e. q ≡ Err e) → ((x : X) → R x → S (f x)) → Tells r R F → Tells q S F
told_map (Ok x) (Ok y) f R S F is moves h = subst S (sym is) (moves x h)
told_map (Ok x) (Err e) f R S F is moves h = absurd is
told_map (Err e) q f R S F is moves h = subst (λ z. Tells z S F) (sym is) h

-- the exit of a `?` is the fault that it met
pub refused_as : {X : Type 0} (r : Result X LayoutFault) (f : LayoutFault) (R : X → Type 0) (F : Located) → IsErrAnd r (λ e. e ≡ f) → HasFault F f → Tells r R F
refused_as (Ok x) f R F is h = absurd is
refused_as (Err e) f R F is h = subst (HasFault F) (sym is) h

-- ---- the members of a union: what holds of all of them, or of some

abbrev pub Items : Type 0
Items = List (ℤ × FieldTree)

pub all_map : (P Q : ℤ → Tree → Type 0) → ((i : ℤ) (t : Tree) → P i t → Q i t) → (ms : MemberTrees) → AllMembers P ms → AllMembers Q ms
all_map P Q f no_members h = tt
all_map P Q f (member i n t b m ms) h = (f i t h.0, all_map P Q f ms h.1)

-- the same where a member with W is some member with W
pub all_inside : (P Q : ℤ → Tree → Type 0) (ms : MemberTrees) → ((i : ℤ) (t : Tree) → P i t → ((W : ℤ → Tree → Type 0) → W i t → SomeMember W ms) → Q i t) → AllMembers P ms → AllMembers Q ms
all_inside P Q no_members f h = tt
all_inside P Q (member i n t b m ms) f h = (f i t h.0 (λ W w. inl w), all_inside P Q ms (λ j u p inside. f j u p (λ W w. inr (inside W w))) h.1)

pub all_some : (P Q : ℤ → Tree → Type 0) (X : Type 0) → ((i : ℤ) (t : Tree) → P i t → Q i t → X) → (ms : MemberTrees) → AllMembers P ms → SomeMember Q ms → X
all_some P Q X f no_members h k = absurd k
all_some P Q X f (member i n t b m ms) h (inl q) = f i t h.0 q
all_some P Q X f (member i n t b m ms) h (inr k) = all_some P Q X f ms h.1 k

pub first_some : (P : ℤ → Tree → Type 0) (ms : MemberTrees) → HasMembers ms → AllMembers P ms → SomeMember P ms
first_some P no_members some h = absurd some
first_some P (member i n t b m ms) some h = inl h.0

-- of two parts
pub all_both : (P : ℤ → Tree → Type 0) (xs ys : Items) → AllMembers P (member_trees (xs ++ ys)) ↔ (AllMembers P (member_trees xs) × AllMembers P (member_trees ys))
all_both P [] ys = (λ h. (tt, h), λ h. h.1)
all_both P (x ∷ xs) ys = let rest = all_both P xs ys in (λ h. let r = rest.0 h.1 in ((h.0, r.0), r.1), λ h. (h.0.0, rest.1 (h.0.1, h.1)))

pub or_more : {A B C D : Type 0} → A ↔ (B ⊎ C) → (D ⊎ A) ↔ ((D ⊎ B) ⊎ C)
or_more is = (
  (λ h. elim h [ inl d ↦ inl (inl d) | inr a ↦ elim (is.0 a) [ inl b ↦ inl (inr b) | inr x ↦ inr x ] ]),
  (λ h. elim h [ inl e ↦ elim e [ inl d ↦ inl d | inr b ↦ inr (is.1 (inl b)) ] | inr x ↦ inr (is.1 (inr x)) ]),
)

-- with one more at the end
pub some_more : (P : ℤ → Tree → Type 0) (xs : Items) (x : ℤ × FieldTree) → SomeMember P (member_trees (xs ++ (x ∷ []))) ↔ (SomeMember P (member_trees xs) ⊎ P x.0 x.1.tree)
some_more P [] x = (λ h. elim h [ inl p ↦ inr p | inr e ↦ inl e ], λ h. elim h [ inl e ↦ inr e | inr p ↦ inl p ])
some_more P (y ∷ xs) x = or_more (some_more P xs x)

-- the element that a loop is at is one more
pub one_more : {X : Type 0} (xs : List X) (k : ℕ) (x : X) → k < length xs → x ≡ get_or xs k x → take (k + 1) xs ≡ take k xs ++ (x ∷ [])
one_more xs k x lt at = rw add-one (take-suc xs k x lt ∙ ap (λ y. take k xs ++ (y ∷ [])) (sym at))

-- ---- what stands below the lists

-- one level more
lists_more : (v : ListWidth) (n : ℕ) (t x u : Tree) → ListsOver v n t x → ListsOver v 1 x u → ListsOver v (suc n) t u
lists_more v zero t x u h one = subst (λ y. ListsOver v 1 y u) (sym h) one
lists_more Lists (suc n) (list nm t b m) x u h one = lists_more Lists n t x u h one
lists_more LargeLists (suc n) (large_list nm t b m) x u h one = lists_more LargeLists n t x u h one
lists_more _ (suc n) _ x u h one = absurd h

pub level_more : (w : Option ListWidth) (v : ListWidth) (n : ℕ) (root t u : Tree) → n < 3 → IsWidth w v → ListsOver v 1 t u → AreLevels w n root t → AreLevels (Some v) (n + 1) root u
level_more None v n root t u few is one h = rw (h.0, h.1) (omega arith, omega arith, one)
level_more (Some w) v n root t u few (inl is) one h = cc
level_more (Some w) v n root t u few (inr is) one h = (omega arith, omega arith, rw add-one (lists_more v n root t u (subst (λ z. ListsOver z n root t) (same_Some w v is) h.2) one))

-- a bottom that is entered, that of a fixed size list, a struct or a union, stands at such a tree alone
abbrev IsEntered : Bottom → Type 0
IsEntered OtherWidth = ⊥
IsEntered Deep = ⊥
IsEntered Other = ⊥
IsEntered _ = Unit {0}

pub at_bottom : (U : ℕ → Bottom → MemberTrees → Type 0) (Q : Tree → Type 0) (w : Option ListWidth) (n : ℕ) (b : Bottom) → IsEntered b → ((x : Text) (t : Tree) (k : Bool) (m : Metadata) (z : ℤ) → IsFixedSize b x t z → Q (fixed_size_list x t k m z))
    → ((fs : FieldTrees) → IsStruct b fs → Q (struct fs)) → ((ms : MemberTrees) (mode : UnionMode) → U n b ms → Q (union ms mode)) → (u : Tree) → IsBottom U w n b u → Q u
at_bottom U Q w n b entered sizes structs unions (fixed_size_list x t k m z) h = sizes x t k m z h
at_bottom U Q w n b entered sizes structs unions (struct fs) h = structs fs h
at_bottom U Q w n b entered sizes structs unions (union ms mode) h = unions ms mode h
at_bottom U Q w n b entered sizes structs unions (plain p) h = absurd (subst IsEntered h entered)
at_bottom U Q w n b entered sizes structs unions _ h = absurd (elim h [ inl e ↦ subst IsEntered e.1 entered | inr e ↦ subst IsEntered e.2 entered ])

-- ---- lists of which F says the fault below

-- a list is at fault itself, as an unexpected type
abbrev pub RefusesLists : Faults → Type 0
RefusesLists F = (x : Text) (t : Tree) (b : Bool) (m : Metadata) → F (list x t b m) [] UnexpectedType × F (large_list x t b m) [] UnexpectedType

-- below k lists of one width, the fault of what is there, with k levels less
level_walk : (F : Faults) (w : ListWidth) (k m : ℕ) (t u : Tree) (f : LayoutFault) → ListsOver w k t u → HasFault (LevelsFault F (Some w) m u) f → HasFault (LevelsFault F (Some w) (k + m) t) f
level_walk F w zero m t u f h r = rw zero-add (subst (λ x. HasFault (LevelsFault F (Some w) m x) f) (sym h) r)
level_walk F Lists (suc k) m (list x t b a) u f h r = let s = level_walk F Lists k m t u f h r in rw suc-add (zero ∷ s.0, s.1)
level_walk F LargeLists (suc k) m (large_list x t b a) u f h r = let s = level_walk F LargeLists k m t u f h r in rw suc-add (zero ∷ s.0, s.1)
level_walk F _ (suc k) m _ u f h r = absurd h

-- there are more
level_above : (F : Faults) → RefusesLists F → (w : ListWidth) (k n : ℕ) (t u : Tree) → ListsOver w k t u → n < k → HasFault (LevelsFault F (Some w) n t) UnexpectedType
level_above F lacks w zero n t u h lt = absurd (omega arith)
level_above F lacks Lists (suc k) zero (list x t b m) u h lt = ([], (lacks x t b m).0)
level_above F lacks LargeLists (suc k) zero (large_list x t b m) u h lt = ([], (lacks x t b m).1)
level_above F lacks Lists (suc k) (suc n) (list x t b m) u h lt = let s = level_above F lacks Lists k n t u h (omega arith) in (zero ∷ s.0, s.1)
level_above F lacks LargeLists (suc k) (suc n) (large_list x t b m) u h lt = let s = level_above F lacks LargeLists k n t u h (omega arith) in (zero ∷ s.0, s.1)
level_above F lacks _ (suc k) _ _ u h lt = absurd h

-- the outermost list gives the width
outermost : (F : Faults) (w : ListWidth) (k n : ℕ) (t u : Tree) (f : LayoutFault) → 0 < k → ListsOver w k t u → HasFault (LevelsFault F (Some w) n t) f → HasFault (LevelsFault F None n t) f
outermost F w k zero t u f some h r = r
outermost F w zero (suc n) t u f some h r = absurd (omega arith)
outermost F Lists (suc k) (suc n) (list x t b m) u f some h r = r
outermost F LargeLists (suc k) (suc n) (large_list x t b m) u f some h r = r
outermost F _ (suc k) (suc n) _ u f some h r = absurd h

-- ---- the fault where a level is missing

not_other : (b : Bottom) → (b ≡ OtherWidth → ⊥) → missing_fault b ≡ UnexpectedType
not_other OtherWidth h = absurd (h refl)
not_other _ h = refl

missing_below : (F : Faults) (w : Option ListWidth) (n : ℕ) (b : Bottom) (u : Tree) (m : ℕ) → n < 3 → IsBottom IsNoLeaf w n b u → LevelsFault F w (suc m) u [] (missing_fault b)
missing_below F (Some Lists) n b (large_list x t k a) m few (inl e) = (refl, ap missing_fault e.1)
missing_below F (Some LargeLists) n b (list x t k a) m few (inl e) = (refl, ap missing_fault e.1)
missing_below F w n b (list x t k a) m few (inl e) = let bad = e.0 in cc
missing_below F w n b (large_list x t k a) m few (inl e) = let bad = e.0 in cc
missing_below F w n b (fixed_size_list x t k a z) m few h = (refl, not_other b (λ e. subst (λ y. IsFixedSize y x t z) e h))
missing_below F w n b (struct fs) m few h = (refl, not_other b (λ e. subst (λ y. IsStruct y fs) e h))
missing_below F w n b (union ms mode) m few h = (refl, not_other b (λ e. subst (λ y. IsNoLeaf n y ms) e h))
missing_below F w n b (plain p) m few h = (refl, ap missing_fault h)
missing_below F w n b _ m few (inr e) = absurd (omega (arith, few, e.1))

-- m levels are wanted below those that there are
below_levels : (F : Faults) (w : Option ListWidth) (k m : ℕ) (t u : Tree) (f : LayoutFault) → AreLevels w k t u → HasFault (LevelsFault F w m u) f → HasFault (LevelsFault F None (k + m) t) f
below_levels F None k m t u f h r = rw (h.0, h.1, zero-add) r
below_levels F (Some w) k m t u f h r = outermost F w k (k + m) t u f h.0 h.2 (level_walk F w k m t u f h.2 r)

above_lists : (F : Faults) → RefusesLists F → (w : Option ListWidth) (k n : ℕ) (t u : Tree) → AreLevels w k t u → n < k → HasFault (LevelsFault F None n t) UnexpectedType
above_lists F lacks None k n t u h lt = absurd (omega (arith, h.0))
above_lists F lacks (Some w) k n t u h lt = outermost F w k n t u UnexpectedType h.0 h.2 (level_above F lacks w k n t u h.2 lt)

pub are_levels : (w : Option ListWidth) (n : ℕ) (t u : Tree) → AreLevels w n t u → (v : ListWidth) × ListsOver v n t u
are_levels None n t u h = (Lists, rw h.0 h.1)
are_levels (Some w) n t u h = (w, h.2)

-- ---- what a reader of m levels answers

pub under_same : (U : ℕ → Bottom → MemberTrees → Type 0) (P : Tree → CoordType → Dimension → Type 0) (F : Faults) (s : Summary) (m : ℕ) (b : Bottom) (r : Answer) → s.levels ≡ m → b ≡ s.bottom
    → ((u : Tree) → IsBottom U s.width m b u → TellsBoth r (P u) (F u)) → (t : Tree) → SummarizesBy U s t → TellsBoth r (Under P m t) (LevelsFault F None m t)
under_same U P F s m b r same is says t h =
    told r (says h.0 (subst (λ n. IsBottom U s.width n b h.0) same (subst (λ x. IsBottom U s.width s.levels x h.0) (sym is) h.2)))
  where
    told : (r : Answer) → TellsBoth r (P h.0) (F h.0) → TellsBoth r (Under P m t) (LevelsFault F None m t)
    told (Ok x) a = (h.0, are_levels s.width m t h.0 (subst (λ n. AreLevels s.width n t h.0) same h.1), a)
    told (Err f) a = subst (λ n. HasFault (LevelsFault F None n t) f) (add-zero m) (below_levels F s.width m 0 t h.0 f (subst (λ n. AreLevels s.width n t h.0) same h.1) a)

-- there are fewer levels or more
pub level_fault : (F : Faults) → RefusesLists F → (s : Summary) (n : ℕ) (f : LayoutFault) → n ≤ 3 → IsLevelFault s n f → (t : Tree) → ShowsIn false s t → HasFault (LevelsFault F None n t) f
level_fault F lacks s n f few (inl e) t h =
    let m = n - suc s.levels in
    let same : s.levels + suc m ≡ n = omega (arith, e.0) in
    rw e.1 (subst (λ i. HasFault (LevelsFault F None i t) (missing_fault s.bottom)) same (below_levels F s.width s.levels (suc m) t h.0 (missing_fault s.bottom) h.1 ([], missing_below F s.width s.levels s.bottom h.0 m (omega (arith, e.0, few)) h.2)))
level_fault F lacks s n f few (inr e) t h = rw e.1 (above_lists F lacks s.width s.levels n t h.0 h.1 e.0)

-- where no union stands below, the union in a collection is at fault there
pub no_union : (U : ℕ → Bottom → MemberTrees → Type 0) (w : Option ListWidth) (n : ℕ) (b : Bottom) (u : Tree) → ((ms : MemberTrees) → U n b ms → ⊥) → IsBottom U w n b u → HasFault (MixedFault u) UnexpectedType
no_union U w n b (union ms mode) lacks h = absurd (lacks ms h)
no_union U w n b _ lacks h = ([], (refl, refl))
