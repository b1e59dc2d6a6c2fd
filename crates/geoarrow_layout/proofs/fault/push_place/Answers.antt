use Rattle.geoarrow_layout.proofs.Lemmas.{◌≡◌, ◌∙◌, sym, ap, ◌++◌, ◌∷◌, [], subst, take, rules, w8, to_z, of_z, to_z-of_z, take_all, member_trees, HasFault, LeadsTo, inl, inr, FirstOrNone, MemberIn, MemberFaultIn, all_both, one_more, first_apart, member_sole_in, at_member, Read, stays}
use Rattle.geoarrow_layout.proofs.fault.push_place.Goals as goal

pub returns-in-Err : goal.returns-in-Err
returns-in-Err c =
    let b = c.args.collections in
    let x = c.index-members-place.result in
    let id_is : to_z w8 (of_z w8 x.0) ≡ x.0 = search (rules, to_z-of_z) in
    let bad = subst (λ i. HasFault (MemberFaultIn b i x.1.tree) c.in-Err.field-0) id_is (c.in-Err.ensures x.1.tree (rw c.data_type.ensures at c.member_summary-below.ensures)) in
    λ end leads. at_member (MemberIn b) (MemberFaultIn b) (member_sole_in b) c.args.members.now c.loop-place.place x c.args.path.now.items c.push.new.self.items end
    c.loop-place-test.true c.index-members-place.is c.loop-place.invariant.read (c.in-Err.field-0, bad) (c.in_ok-push.ensures.items ∙ ap (λ p. p ++ (c.loop-place.place ∷ [])) c.loop-place.invariant.same) leads

pub loop-place-preserved : goal.loop-place-preserved
loop-place-preserved c =
    let b = c.args.collections in
    let x = c.index-members-place.result in
    let y = c.in_default.field-0 in
    let id_is : to_z w8 (of_z w8 x.0) ≡ x.0 = search (rules, to_z-of_z) in
    let read = subst (λ i. MemberIn b i x.1.tree y.0 y.1) id_is (c.in_default.ensures x.1.tree (rw c.data_type.ensures at c.member_summary-below.ensures)) in
    record {
      read = rw (one_more c.args.members.now c.loop-place.place x c.loop-place-test.true c.index-members-place.is) ((all_both (Read (MemberIn b)) (take c.loop-place.place c.args.members.now) (x ∷ [])).1 (c.loop-place.invariant.read, ((y.0, y.1, read), tt)));
      same = c.loop-place.invariant.same;
    }

pub returns : goal.returns
returns c =
    let b = c.args.collections in
    let all = rw (take_all _ _ c.loop-place-test.false) at c.loop-place.invariant.read in
    subst (λ q. LeadsTo (FirstOrNone (MemberIn b) (MemberFaultIn b) (member_trees c.args.members.now)) c.args.path.now.items q) (sym c.loop-place.invariant.same)
    (stays _ _ (λ p f e. elim e [ inl first ↦ absurd (first_apart (MemberIn b) (MemberFaultIn b) (member_sole_in b) (member_trees c.args.members.now) p f all first) | inr none ↦ none.1 ]))
