use Rattle.geoarrow_layout.proofs.Lemmas.{refl, OfGeometry, OfRect, inner_of, refused_as, told_map}
use Rattle.geoarrow_layout.proofs.read.kind_under.Goals as goal

pub returns-in_err-pair-in-Native-clause-told : goal.returns-in_err-pair-in-Native-clause-told
returns-in_err-pair-in-Native-clause-told c = rw c.in-Native.is (λ other t h. refused_as _ _ _ _ c.from_residual.ensures.1 (c.in_err-pair-in-Native.ensures t (inner_of c.args.summary.now t h)))

pub returns-in-Geometry-clause-told : goal.returns-in-Geometry-clause-told
returns-in-Geometry-clause-told c = rw c.in-Geometry.is (λ other t h. told_map _ _ (λ x. OfGeometry x) _ _ _ c.map.ensures.cases (λ x a. (refl, a)) (c.geometry.ensures t h))

pub returns-in-Rect-clause-told : goal.returns-in-Rect-clause-told
returns-in-Rect-clause-told c = rw c.in-Rect.is (λ other t h. told_map _ _ (λ x. OfRect x) _ _ _ c.map-in-Rect.ensures.cases (λ x a. (refl, a)) (c.boxed.ensures t h))
