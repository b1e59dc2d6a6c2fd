use Rattle.geoarrow_layout.proofs.Lemmas.{length, refl, arith, Leaf, Mixed, CoordinateFault, MixedFault, IsNoLeaf, IsNested, under_same, level_fault, refused_as, over_leaf_answer, nested_mixed, shows_of_inner}
use Rattle.geoarrow_layout.proofs.read.native.Goals as goal

pub returns-in_ok-bottom_below-in-GeometryCollection : goal.returns-in_ok-bottom_below-in-GeometryCollection
returns-in_ok-bottom_below-in-GeometryCollection c =
    let below = c.in_ok-bottom_below-in-GeometryCollection.ensures in
    rw (c.if-collections.true, c.in-GeometryCollection.is) (under_same IsNested Mixed MixedFault c.args.summary.now 1 _ _ below.0 below.1 (λ u. nested_mixed _ _ u _ c.mixed_bottom.ensures))

pub returns-in_err-bottom_below-in-GeometryCollection : goal.returns-in_err-bottom_below-in-GeometryCollection
returns-in_err-bottom_below-in-GeometryCollection c = rw (c.if-collections.true, c.in-GeometryCollection.is) (λ t h. refused_as _ _ _ _ c.from_residual.ensures.1
    (level_fault MixedFault (λ x t b m. ((refl, refl), (refl, refl))) c.args.summary.now 1 _ (omega arith) c.in_err-bottom_below-in-GeometryCollection.ensures t (shows_of_inner _ t h)))

pub returns-in_ok-bottom_below-in_default : goal.returns-in_ok-bottom_below-in_default
returns-in_ok-bottom_below-in_default c = λ t h.
    let below = c.in_ok-bottom_below-in_default.ensures in
    over_leaf_answer c.args.collections c.args.kind (length c.list_names.result.now) c.args.summary.now t _ c.in_default.not-GeometryCollection (omega arith)
    (under_same IsNoLeaf Leaf CoordinateFault c.args.summary.now (length c.list_names.result.now) _ _ below.0 below.1 (c.leaf.ensures _ _)) h

pub returns-in_err-bottom_below-in_default : goal.returns-in_err-bottom_below-in_default
returns-in_err-bottom_below-in_default c = λ t h.
    over_leaf_answer c.args.collections c.args.kind (length c.list_names.result.now) c.args.summary.now t _ c.in_default.not-GeometryCollection (omega arith)
    (λ u k. refused_as _ _ _ _ c.from_residual-in_err-bottom_below-in_default.ensures.1
    (level_fault CoordinateFault (λ x t b m. ((refl, refl), (refl, refl))) c.args.summary.now (length c.list_names.result.now) _ (omega arith) c.in_err-bottom_below-in_default.ensures u k)) h
