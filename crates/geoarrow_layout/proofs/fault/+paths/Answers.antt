use Rattle.geoarrow_layout.proofs.Lemmas.{◌≡◌, on_ok_weaker, ap, arith, rules, w8, to_z, of_z, to_z-of_z, tree, ok, refused, native_sole_in, native_leads, union_leads, stays, kind_inside}
use Rattle.geoarrow_layout.proofs.fault.+paths.Goals as goal

pub push_native-returns-in_default : goal.push_native-returns-in_default
push_native-returns-in_default t c = native_leads c.args.collections c.push_levels.result _ _ _ _ _ c.in_default.not-GeometryCollection-0 (omega arith) c.push_levels.ensures

pub push_member-returns-in-Ok : goal.push_member-returns-in-Ok
push_member-returns-in-Ok t c = stays _ _ (kind_inside _ _ (native_sole_in c.args.collections) c.args.id _ (tree c.args.data_type.now) c.in-Some.kind _ (ok c.in-Ok.field-0)
    (search (rules, to_z-of_z)) c.in-Some.ensures (c.in-Ok.ensures _ c.member_summary.ensures))

pub push_member-returns-in-Err : goal.push_member-returns-in-Err
push_member-returns-in-Err t c =
    let inside = kind_inside _ _ (native_sole_in c.args.collections) c.args.id _ (tree c.args.data_type.now) c.in-Some.kind _ (refused c.in-Err.field-0)
    (search (rules, to_z-of_z)) c.in-Some.ensures (c.in-Err.ensures _ c.member_summary.ensures) in
    on_ok_weaker c.push_native.result (λ h p f e. h p f (inside p f e)) c.push_native.ensures

pub push_union-returns-in-Some : goal.push_union-returns-in-Some
push_union-returns-in-Some t c =
    let id_is : to_z w8 (of_z w8 c.in-Some.item.now.0) ≡ c.in-Some.item.now.0 = search (rules, to_z-of_z) in
    let goes_on = rw c.in-Some.is at c.in_ok-item.ensures in
    on_ok_weaker c.push_member.result (λ h. union_leads _ _ c.in-Union.members _ c.in-Union.field-1 _ _ (ap tree c.in-Union.is) c.as_slice.ensures (goes_on _ h))
    (rw (id_is, c.data_type.ensures) at c.push_member.ensures)

pub push_union-returns-in-None : goal.push_union-returns-in-None
push_union-returns-in-None t c = union_leads _ _ c.in-Union.members _ c.in-Union.field-1 _ _ (ap tree c.in-Union.is) c.as_slice.ensures (rw c.in-None.is at c.in_ok-item.ensures)
