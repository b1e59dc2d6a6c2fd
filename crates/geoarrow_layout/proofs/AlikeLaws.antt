-- `Alike` is an equivalence, and alike trees are of the same kinds; members that go or come, and what they leave of a union.
use Rattle.geoarrow_layout.proofs.Terms.{PlainType, ◌≡◌, inl, inr, ℤ, List, refl, sym, ◌∙◌, subst, ◌↔◌, ℕ, zero, suc, codes, ap, Text, Tree, plain, list, large_list, fixed_size_list, struct, union, MemberTrees, no_members, member, names_of, AllMembers, SomeMember, Leaf, ListsOver, levels_of, OverLeaf, Member, Mixed, HasMembers, Native, GeometryMember, IsBoxAs, Accepted, AlikeNames, Alike, EachHasAlike, HasAlike, CoordType, Interleaved, Separated, Dimension, XYZ, XYM, NativeKind, GeometryCollection, Kind, OfNative, OfGeometry, OfRect, OfWkb, OfWkt, ListWidth, Lists, LargeLists, Narrow, Under, ◌≢◌, ◌⊎◌, Bool, true, cond, [], ◌∷◌, ◌++◌, arith, filter, Contains, cond_both, All-contains, All-contains_itself, All-filter, Contains-append_left, Contains-append_right, Contains-append_cases, FieldTree, Members, member_trees, UnionMode, Dense, retained, has, AlikeUnions, EachOf, AreJust}
use Rattle.geoarrow_layout.specs.Shapes.{SameNames}
use Rattle.geoarrow_layout.proofs.Readings.{all_map, all_some, all_both, all_inside}

any_map : (P Q : ℤ → Tree → Type 0) → ((i : ℤ) (t : Tree) → P i t → Q i t) → (ms : MemberTrees) → SomeMember P ms → SomeMember Q ms
any_map P Q f no_members h = h
any_map P Q f (member i n t b m ms) (inl p) = inl (f i t p)
any_map P Q f (member i n t b m ms) (inr h) = inr (any_map P Q f ms h)

-- some member of ns has the type id i and a data type that t is alike to
abbrev pub Among : ℤ → Tree → MemberTrees → Type 0
Among i t ns = SomeMember (λ j u. (i ≡ j) × Alike t u) ns

-- the words of `Alike` on members, as what holds of all of them and of some
each_is : (ms ns : MemberTrees) → EachHasAlike ms ns ≡ AllMembers (λ i t. Among i t ns) ms
each_is no_members ns = refl
each_is (member i n t b m ms) ns = ap (λ (X : Type 0). Among i t ns × X) (each_is ms ns)

has_is : (ms : MemberTrees) (j : ℤ) (u : Tree) → HasAlike ms j u ≡ SomeMember (λ i t. (i ≡ j) × Alike t u) ms
has_is no_members j u = refl
has_is (member i n t b m ms) j u = ap (λ (X : Type 0). ((i ≡ j) × Alike t u) ⊎ X) (has_is ms j u)

mutual
  unfolding SameNames

  pub alike_refl : (t : Tree) → Alike t t
  alike_refl (plain p) = refl
  alike_refl (list n t b m) = alike_refl t
  alike_refl (large_list n t b m) = alike_refl t
  alike_refl (fixed_size_list n t b m s) = (refl, refl)
  alike_refl (struct fs) = (refl, λ h n. refl)
  alike_refl (union ms mode) = rw (each_is ms ms) (
    all_inside (λ i t. Alike t t) (λ i t. Among i t ms) ms (λ i t p inside. inside (λ j u. (i ≡ j) × Alike t u) (refl, p)) (each_refl ms),
    all_inside (λ i t. Alike t t) (HasAlike ms) ms (λ i t p inside. rw (has_is ms i t) (inside (λ j u. (j ≡ i) × Alike u t) (refl, p))) (each_refl ms),
  )

  each_refl : (ms : MemberTrees) → AllMembers (λ i t. Alike t t) ms
  each_refl no_members = tt
  each_refl (member i n t b m ms) = (alike_refl t, each_refl ms)

mutual
  unfolding SameNames

  -- two that one is alike to are alike
  alike_both : (t u v : Tree) → Alike t u → Alike t v → Alike u v
  alike_both (plain p) (plain q) (plain r) h k = sym h ∙ k
  alike_both (list n t b m) (list o u c k) (list p v d l) h e = alike_both t u v h e
  alike_both (large_list n t b m) (large_list o u c k) (large_list p v d l) h e = alike_both t u v h e
  alike_both (fixed_size_list n t b m s) (fixed_size_list o u c k r) (fixed_size_list p v d l q) h e = (sym h.0 ∙ e.0, sym h.1 ∙ e.1)
  alike_both (struct fs) (struct gs) (struct hs) h e = (sym h.0 ∙ e.0, λ k n. sym (h.1 (elim k [ inl f ↦ inl (h.0 ∙ f) | inr f ↦ inr (h.0 ∙ f) ]) n) ∙ e.1 (elim k [ inl f ↦ inl (h.0 ∙ f) | inr f ↦ inr (h.0 ∙ f) ]) n)
  alike_both (union ms mode) (union ns mode') (union ps mode'') h e =
      rw (each_is ns ps) (all_map (HasAlike ms) (λ i t. Among i t ps) (λ i t x. (met ms ps e.0 i t x).0) ns h.1, all_map (HasAlike ms) (HasAlike ns) (λ i t x. (met ms ns h.0 i t x).1) ps e.1)
  alike_both _ _ _ h e = search

  met : (ms ns : MemberTrees) → EachHasAlike ms ns → (k : ℤ) (v : Tree) → HasAlike ms k v → Among k v ns × HasAlike ns k v
  met no_members ns e k v h = absurd h
  met (member i n t b m ms) ns e k v (inl x) = (
    any_map (λ j u. (i ≡ j) × Alike t u) (λ j u. (k ≡ j) × Alike v u) (λ j u y. (sym x.0 ∙ y.0, alike_both t v u x.1 y.1)) ns e.0,
    rw (has_is ns k v) (any_map (λ j u. (i ≡ j) × Alike t u) (λ j u. (j ≡ k) × Alike u v) (λ j u y. (sym y.0 ∙ x.0, alike_both t u v y.1 x.1)) ns e.0),
  )
  met (member i n t b m ms) ns e k v (inr h) = met ms ns e.1 k v h

pub alike_sym : (t u : Tree) → Alike t u → Alike u t
alike_sym t u h = alike_both t u t h (alike_refl t)

pub alike_trans : (t u v : Tree) → Alike t u → Alike u v → Alike t v
alike_trans t u v h e = alike_both u t v (alike_sym t u h) e

pub has_among : (ms : MemberTrees) (j : ℤ) (u : Tree) → HasAlike ms j u ↔ Among j u ms
has_among ms j u = rw (has_is ms j u) (any_map _ _ (λ i t x. (sym x.0, alike_sym t u x.1)) ms, any_map _ _ (λ i t x. (sym x.0, alike_sym u t x.1)) ms)

-- ---- kinds

alike_box : (xs ys : List Text) (d : Dimension) → AlikeNames xs ys → IsBoxAs d xs → IsBoxAs d ys
unfolding SameNames
alike_box xs ys XYZ h k =
    let same = h.1 (inr k.0) in
    (sym h.0 ∙ k.0, (λ b. k.1 (same (codes "mmin") ∙ b.0, same (codes "mmax") ∙ b.1)), (sym (same (codes "zmin")) ∙ k.2.0, sym (same (codes "zmax")) ∙ k.2.1))
alike_box xs ys XYM h k = let same = h.1 (inr k.0) in (sym h.0 ∙ k.0, (sym (same (codes "mmin")) ∙ k.1.0, sym (same (codes "mmax")) ∙ k.1.1))
alike_box xs ys _ h k = sym h.0 ∙ k

-- leaves
alike_leaf : (t u : Tree) (c : CoordType) (d : Dimension) → Alike t u → Leaf t c d → Leaf u c d
unfolding SameNames
alike_leaf (fixed_size_list n t b m s) (fixed_size_list o u e k r) Interleaved d h l = (sym h.0 ∙ l.0, sym h.1 ∙ l.1)
alike_leaf (struct fs) (struct gs) Separated XYZ h l = (sym h.0 ∙ l.0, λ n. sym (h.1 (inl l.0) n) ∙ l.1 n)
alike_leaf (struct fs) (struct gs) Separated XYM h l = (sym h.0 ∙ l.0, λ n. sym (h.1 (inl l.0) n) ∙ l.1 n)
alike_leaf (struct fs) (struct gs) Separated _ h l = sym h.0 ∙ l
alike_leaf _ _ c d h l = search

-- lists: what is below them is alike too
alike_lists : (w : ListWidth) (n : ℕ) (t u x : Tree) → Alike t u → ListsOver w n t x → (y : Tree) × ListsOver w n u y × Alike x y
alike_lists w zero t u x h l = (u, refl, subst (λ z. Alike z u) l h)
alike_lists Lists (suc n) (list nm t b m) (list o u e k) x h l = alike_lists Lists n t u x h l
alike_lists LargeLists (suc n) (large_list nm t b m) (large_list o u e k) x h l = alike_lists LargeLists n t u x h l
alike_lists _ _ _ _ x h l = search

alike_below : (P : Tree → CoordType → Dimension → Type 0) → ((t u : Tree) (c : CoordType) (d : Dimension) → Alike t u → P t c d → P u c d) → (n : ℕ) (t u : Tree) (c : CoordType) (d : Dimension) → Alike t u → Under P n t c d → Under P n u c d
alike_below P moves n t u c d h l =
    let y = alike_lists l.1.0 n t u l.0 h l.1.1 in
    (y.0, (l.1.0, y.1), moves l.0 y.0 c d y.2 l.2)

alike_over : (k : NativeKind) (t u : Tree) (c : CoordType) (d : Dimension) → Alike t u → OverLeaf t k c d → OverLeaf u k c d
alike_over GeometryCollection t u c d h l = absurd l
alike_over k t u c d h l = alike_below Leaf alike_leaf (levels_of k) t u c d h l

-- unions: what alike trees share, said of each member
alike_all : (P : ℤ → Tree → Type 0) → ((i : ℤ) (t u : Tree) → Alike t u → P i t → P i u) → (ms ns : MemberTrees) → AllMembers (HasAlike ms) ns → AllMembers P ms → AllMembers P ns
alike_all P shared ms ns h all = all_map (HasAlike ms) P
    (λ j u one. all_some P (λ i t. (i ≡ j) × Alike t u) (P j u) (λ i t p x. subst (λ k. P k u) x.0 (shared i t u x.1 p)) ms all (rw (has_is ms j u) at one)) ns h

alike_some : (ms ns : MemberTrees) → EachHasAlike ms ns → HasMembers ms → HasMembers ns
alike_some (member i n t b m ms) (member j o u c k ns) h some = tt
alike_some _ _ h some = search

alike_mixed : (t u : Tree) (c : CoordType) (d : Dimension) → Alike t u → Mixed t c d → Mixed u c d
alike_mixed (union ms mode) (union ns mode') c d h l = (alike_some ms ns h.0 l.0, alike_all (λ i t. Member i t c d) (λ i t u e m. (m.0, m.1, alike_over m.0 t u c d e m.2)) ms ns h.1 l.1)
alike_mixed _ _ c d h l = search

alike_native : (k : NativeKind) (t u : Tree) (c : CoordType) (d : Dimension) → Alike t u → Native t k c d → Native u k c d
alike_native GeometryCollection t u c d h l = alike_below Mixed alike_mixed 1 t u c d h l
alike_native k t u c d h l = alike_over k t u c d h l

-- only a plain data type is that of well-known binary or text, and it is alike to itself alone
plain_same : (p : PlainType) (t u : Tree) → Alike t u → t ≡ plain p → u ≡ plain p
plain_same p (plain q) (plain r) h e = ap (λ x. plain x) (sym h) ∙ e
plain_same p (plain q) _ h e = absurd h
plain_same p _ u h e = cc

pub alike_accepted : (k : Kind) (t u : Tree) → Alike t u → Accepted k t → Accepted k u
alike_accepted (OfNative k c d) t u h a = alike_native k t u c d h a
alike_accepted (OfGeometry c) (union ms mode) (union ns mode') h a = (alike_some ms ns h.0 a.0, alike_all (λ i t. (d : Dimension) × GeometryMember i t c d) (λ i t u e m. (m.0, (m.1.0, m.1.1, alike_native m.1.0 t u c m.0 e m.1.2))) ms ns h.1 a.1)
alike_accepted (OfRect d) (struct fs) (struct gs) h a = alike_box (names_of fs) (names_of gs) d h a
alike_accepted (OfWkb Narrow) t u h a = plain_same _ t u h a
alike_accepted (OfWkt Narrow) t u h a = plain_same _ t u h a
alike_accepted _ t u h a = search plain_same

-- ---- members that go or come, and what they leave of a union

-- members, at least one, that all have P
abbrev Filled : (ℤ → Tree → Type 0) → Members → Type 0
Filled P ms = (mode : UnionMode) → HasMembers (member_trees ms) × AllMembers P (member_trees ms)

some_members : (ms : Members) → ms ≢ [] ↔ HasMembers (member_trees ms)
some_members [] = (λ h. absurd (h refl), λ h. absurd h)
some_members (m ∷ ms) = (λ h. tt, λ h e. cc)

-- some of them are left
all_kept : (P : ℤ → Tree → Type 0) (p : ℤ × FieldTree → Bool) (ms : Members) → AllMembers P (member_trees ms) → AllMembers P (member_trees (filter p ms))
all_kept P p [] h = tt
all_kept P p (m ∷ ms) h =
    let rest = all_kept P p ms h.1 in
    cond_both (p m) (m ∷ filter p ms) (filter p ms) (λ xs. AllMembers P (member_trees xs)) (λ e. (h.0, rest)) (λ e. rest)

pub filled_kept : (P : ℤ → Tree → Type 0) (is : List ℤ) (ms ns : Members) → ns ≡ retained is ms → ns ≢ [] → Filled P ms → Filled P ns
filled_kept P is ms ns is_kept some h = λ mode. ((some_members ns).0 some, subst (λ x. AllMembers P (member_trees x)) (sym is_kept) (all_kept P (λ m. has m.0 is) ms (h mode).1))

-- both are joined
all_of : (P : ℤ → Tree → Type 0) (ms : Members) → (ms ≢ [] → Filled P ms) → AllMembers P (member_trees ms)
all_of P [] h = tt
all_of P (m ∷ ms) h = (h (λ e. cc) Dense).1

pub filled_joined : (P : ℤ → Tree → Type 0) (ms ns all : Members) → all ≡ ms ++ ns → Filled P all ↔ EachOf (Filled P) ms ns all
filled_joined P ms ns all joined = (
  (λ h. let each = (all_both P ms ns).0 (subst (λ x. AllMembers P (member_trees x)) joined (h Dense).1) in
      ((some_members all).1 (h Dense).0, (λ some mode. ((some_members ms).0 some, each.0)), (λ some mode. ((some_members ns).0 some, each.1)))),
  (λ h mode. ((some_members all).0 h.0, subst (λ x. AllMembers P (member_trees x)) (sym joined) ((all_both P ms ns).1 (all_of P ms h.1, all_of P ns h.2)))),
)

-- unions of the same members are alike
contained : (ns : Members) (m : ℤ × FieldTree) → Contains ns m → Among m.0 m.1.tree (member_trees ns)
contained [] m h = absurd (omega (arith, h.1))
contained (x ∷ xs) m (zero, lt, is) = inl (ap (λ y. y.0) (sym is), subst (λ y. Alike m.1.tree y.1.tree) (sym is) (alike_refl m.1.tree))
contained (x ∷ xs) m (suc n, lt, is) = inr (contained xs m (n, omega (arith, lt), is))

each_contained : (ms ns : Members) → ((m : ℤ × FieldTree) → Contains ms m → Contains ns m) → AllMembers (λ i t. Among i t (member_trees ns)) (member_trees ms)
each_contained [] ns f = tt
each_contained (m ∷ ms) ns f = (contained ns m (f m (0, omega arith, refl)), each_contained ms ns (λ x c. f x (suc c.0, omega (arith, c.1), c.2)))

pub same_members_alike : (ms ns : Members) → ((m : ℤ × FieldTree) → Contains ms m → Contains ns m) → ((m : ℤ × FieldTree) → Contains ns m → Contains ms m) → AlikeUnions ms ns
same_members_alike ms ns to from =
    λ x y. rw (each_is (member_trees ms) (member_trees ns)) (each_contained ms ns to, all_map (λ i t. Among i t (member_trees ms)) (HasAlike (member_trees ms)) (λ i t. (has_among (member_trees ms) i t).1) (member_trees ns) (each_contained ns ms from))

pub joined_alike : (ms ns all : Members) → all ≡ ms ++ ns → (others : Members) → AreJust ms ns others → AlikeUnions all others
joined_alike ms ns all joined others just = same_members_alike all others
    (λ m h. (just m).1 (Contains-append_cases ms ns m (subst (λ x. Contains x m) joined h)))
    (λ m h. subst (λ x. Contains x m) (sym joined) (elim ((just m).0 h) [ inl e ↦ Contains-append_left ms ns m e | inr e ↦ Contains-append_right ms ns m e ]))

-- parts of a union that together have all its members
kept_all : (p : ℤ × FieldTree → Bool) (ms : Members) (m : ℤ × FieldTree) → Contains (filter p ms) m → Contains ms m
kept_all p ms m h = All-contains (Contains ms) (filter p ms) m (All-filter p (Contains ms) ms (All-contains_itself ms)) h

all_kept_of : (p : ℤ × FieldTree → Bool) (ms : Members) (m : ℤ × FieldTree) → p m ≡ true → Contains ms m → Contains (filter p ms) m
all_kept_of p [] m passes h = h
all_kept_of p (x ∷ xs) m passes (zero, lt, is) = subst (λ b. Contains (cond b (x ∷ filter p xs) (filter p xs)) m) (sym passes ∙ ap p (sym is)) (0, omega arith, is)
all_kept_of p (x ∷ xs) m passes (suc n, lt, is) =
    let rest = all_kept_of p xs m passes (n, omega (arith, lt), is) in
    cond_both (p x) (x ∷ filter p xs) (filter p xs) (λ ys. Contains ys m) (λ e. (suc rest.0, omega (arith, rest.1), rest.2)) (λ e. rest)

pub split_and_joined : (ms : Members) (is js : List ℤ) → ((m : ℤ × FieldTree) → Contains ms m → (has m.0 is ≡ true) ⊎ (has m.0 js ≡ true)) → AlikeUnions (retained is ms ++ retained js ms) ms
split_and_joined ms is js all = joined_alike (retained is ms) (retained js ms) (retained is ms ++ retained js ms) refl ms (λ m. (
  (λ h. elim (all m h) [ inl e ↦ inl (all_kept_of (λ x. has x.0 is) ms m e h) | inr e ↦ inr (all_kept_of (λ x. has x.0 js) ms m e h) ]),
  (λ h. elim h [ inl e ↦ kept_all (λ x. has x.0 is) ms m e | inr e ↦ kept_all (λ x. has x.0 js) ms m e ]),
))
