use Rattle.geoarrow_layout.proofs.Lemmas.{◌≡◌, ◌↔◌, inl, inr, ℕ, zero, suc, ◌<◌, ◌+◌, ◌*◌, ◌∙◌, ℤ, List, [], ◌∷◌, length, get_or, drop, drop_more, sym, ap, subst, true≢false, arith, FieldTree, Tree, MemberTrees, no_members, member, depth, members_size, member_trees, AllMembers, SomeMember, Alike, EachHasAlike, HasAlike, all_some, has_among}
use Rattle.geoarrow_layout.proofs.alike_types.+same.Goals as goal

-- a member lies less deep than its union
element_depth : (xs : List (ℤ × FieldTree)) (k : ℕ) (x : ℤ × FieldTree) → k < length xs → x ≡ get_or xs k x → depth x.1.tree < members_size xs
element_depth [] k x lt at = absurd (omega arith)
element_depth (y ∷ xs) zero x lt at = let same : depth x.1.tree ≡ depth y.1.tree = ap (λ z. depth z.1.tree) at in omega (arith, same)
element_depth (y ∷ xs) (suc k) x lt at = let h : depth x.1.tree < members_size xs = element_depth xs k x (omega arith) at in omega (arith, h)

-- where the loop stands: the first of the members that are left has an alike one, and the rest have
each_left : (xs : List (ℤ × FieldTree)) (ns : MemberTrees) (k : ℕ) (x : ℤ × FieldTree) → k < length xs → x ≡ get_or xs k x → EachHasAlike (member_trees (drop k xs)) ns ↔ (SomeMember (λ j u. (x.0 ≡ j) × Alike x.1.tree u) ns × EachHasAlike (member_trees (drop (k + 1) xs)) ns)
each_left xs ns k x lt at =
    subst (λ ys. EachHasAlike (member_trees ys) ns ↔ (SomeMember (λ j u. (x.0 ≡ j) × Alike x.1.tree u) ns × EachHasAlike (member_trees (drop (k + 1) xs)) ns))
    (sym (drop_more xs k x lt ∙ ap (λ y. y ∷ drop (k + 1) xs) (sym at))) (λ h. h, λ h. h)

pub each_has_same-returns-then-not-any_same : goal.each_has_same-returns-then-not-any_same
each_has_same-returns-then-not-any_same t c =
    let left = each_left _ _ _ _ c.loop-member-test.true c.member-item.is in
    (λ h. absurd (true≢false (sym h)), λ h. sym c.if-not-any_same.true ∙ c.any_same.ensures.1 (left.0 (c.loop-member.invariant.1 h)).0)

pub each_has_same-loop-member-preserved : goal.each_has_same-loop-member-preserved
each_has_same-loop-member-preserved t c =
    let left = each_left _ _ _ _ c.loop-member-test.true c.member-item.is in
    (λ h. c.loop-member.invariant.0 (left.1 (c.any_same.ensures.0 c.if-not-any_same.false, h)), λ h. (left.0 (c.loop-member.invariant.1 h)).1)

-- where each member of ms has an alike one in ns, and u alone stands under the id j there, a member with this id is alike to u
only_alike : (ms ns : MemberTrees) (j : ℤ) (u : Tree) → EachHasAlike ms ns → AllMembers (λ k v. k ≡ j → v ≡ u) ns → SomeMember (λ i t. i ≡ j) ms ↔ HasAlike ms j u
only_alike no_members ns j u each only = (λ h. h, λ h. h)
only_alike (member i n t b m ms) ns j u each only =
    let rest = only_alike ms ns j u each.1 only in
    let alike : i ≡ j → Alike t u =
    λ e. all_some (λ k v. k ≡ j → v ≡ u) (λ k v. (i ≡ k) × Alike t v) (Alike t u) (λ k v is p. subst (λ x. Alike t x) (is (sym p.0 ∙ e)) p.1) ns only each.0 in
    (λ h. elim h [ inl e ↦ inl (e, alike e) | inr s ↦ inr (rest.0 s) ], λ h. elim h [ inl p ↦ inl p.0 | inr s ↦ inr (rest.1 s) ])

pub is_met-returns-then-is_only : goal.is_met-returns-then-is_only
is_met-returns-then-is_only t c =
    let by = only_alike _ _ _ _ c.requires (c.is_only.ensures.0 c.if-is_only.true) in
    (λ h. by.0 (c.has_id.ensures.0 h), λ h. c.has_id.ensures.1 (by.1 h))

pub same-returns-then-each_has_same : goal.same-returns-then-each_has_same
same-returns-then-each_has_same t c =
    rw (c.in-Union-Union.is-0, c.in-Union-Union.is-1) (λ h. (c.each_has_same.ensures.0 c.if-each_has_same.true, c.all_are_met.ensures.0 h), λ h. c.all_are_met.ensures.1 h.1)

pub is_met-returns-else-is_only : goal.is_met-returns-else-is_only
is_met-returns-else-is_only t c = let by = has_among _ _ _ in (λ h. by.1 (c.any_same.ensures.0 h), λ h. c.any_same.ensures.1 (by.0 h))

pub each_has_same-any_same-requires : goal.each_has_same-any_same-requires
each_has_same-any_same-requires t c =
    let h = element_depth _ _ _ c.loop-member-test.true c.member-item.is in
    let d : 2 * (members_size c.args.members.now + members_size c.args.others.now) ≡ t = c.decreases in
    (omega (arith, h, ap members_size c.as_slice-member-items.ensures, d), tt)

pub any_same-same-requires : goal.any_same-same-requires
any_same-same-requires t c =
    let h = element_depth _ _ _ c.loop-id-test.true c.loop-id-item.is in
    let e = ap depth c.data_type.ensures in
    let f = ap depth c.data_type-then-member-id.ensures in
    let d : 2 * (depth c.args.member.now.1.tree + members_size c.args.others.now) ≡ t = c.decreases in
    (omega (arith, h, ap members_size c.as_slice-id-items.ensures, e, f, d), tt)

pub all_are_met-is_met-requires : goal.all_are_met-is_met-requires
all_are_met-is_met-requires t c =
    let h = element_depth _ _ _ c.loop-other-test.true c.other-item.is in
    let d : 2 * (members_size c.args.members.now + members_size c.args.others.now) ≡ t = c.decreases in
    (omega (arith, h, ap members_size c.as_slice-other-items.ensures, d), c.requires)
