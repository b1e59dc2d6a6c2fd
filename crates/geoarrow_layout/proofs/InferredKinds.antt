-- A tree is inferred as one kind: bytes are no text, and neither is a point.
use Rattle.geoarrow_layout.proofs.Terms.{◌≡◌, ◌∙◌, sym, ap, subst, arith, Option, Some, None, Result, Ok, same_Some, Tree, CoordType, Dimension, LayoutFault, Point, Width, Kind, OfNative, OfWkb, IsBytes, Inferred, InferredAs, YieldsInferred, YieldsOne, YieldsSome}

pub bytes_inferred : (t : Tree) (p : Option (CoordType × Dimension)) (w : Width) (r : Result Width LayoutFault) → p ≡ None → YieldsSome p (Inferred t) → r ≡ Ok w → YieldsOne r (λ v. IsBytes v t) → YieldsInferred t (Some (OfWkb w))
bytes_inferred t p w r none point is a = λ k. (λ e. subst (InferredAs t) (same_Some (OfWkb w) k e) ((a w).0 is), λ h. back k h)
  where
    back : (k : Kind) → InferredAs t k → Some (OfWkb w) ≡ Some k
    back (OfNative Point c d) h = cc ((point c d).1 h)
    back (OfWkb v) h = cc ((a v).1 h)
    back _ h = absurd (grind (arith, (a w).0 is, h))

pub point_inferred : (t : Tree) (p : CoordType × Dimension) (r : Option (CoordType × Dimension)) → r ≡ Some p → YieldsSome r (Inferred t) → YieldsInferred t (Some (OfNative Point p.0 p.1))
point_inferred t p r is a = λ k. (λ e. subst (InferredAs t) (same_Some (OfNative Point p.0 p.1) k e) here, λ h. back k h)
  where
    here : Inferred t p.0 p.1
    here = (a p.0 p.1).0 is

    back : (k : Kind) → InferredAs t k → Some (OfNative Point p.0 p.1) ≡ Some k
    back (OfNative Point b e) h = ap (λ x. Some (OfNative Point x.0 x.1)) (same_Some p (b, e) (sym is ∙ (a b e).1 h))
    back _ h = absurd (grind (arith, here, h))
