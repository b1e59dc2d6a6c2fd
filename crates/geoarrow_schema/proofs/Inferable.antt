-- What is written of points, well-known binary and text is taken for that.
use Rattle.geoarrow_schema.proofs.Terms.{◌≡◌, ◌∙◌, refl, sym, subst, arith, true, false, codes, FieldTree, CoordType, Dimension, Point, Kind, Native, Inferred, layout, leaf_layout}
use Rattle.geoarrow_schema.proofs.Terms.{DenotesMetadata, empty, GeoArrowType, kind_of, meta_of, InfersAs, Infers, InferredAs, IsInferable, IsBareColumn}
use Rattle.std.proofs.lemmas.Bool.{false≢true}
use Rattle.std.proofs.lemmas.Slice.Eq.{bytes_eq-Decides}
use Rattle.geoarrow_layout.specs.declared.dimensions.CoordType.TheVariants.{Interleaved, Separated}
use Rattle.geoarrow_layout.specs.declared.dimensions.Dimension.TheVariants.{XYZ, XYM}
use Rattle.geoarrow_layout.specs.Shapes.{SameNames}

leaf_inferred : (c : CoordType) (d : Dimension) → Inferred (leaf_layout c d) c d
unfolding SameNames
leaf_inferred Interleaved XYZ = (refl, (refl, λ same. false≢true ((bytes_eq-Decides _ _).1 same)))
leaf_inferred Interleaved XYM = (refl, (refl, refl))
leaf_inferred Separated XYZ = (refl, (refl, λ same. let e : true ≡ false = same (codes "z") in absurd cc))
leaf_inferred Separated XYM = (refl, (refl, λ n. refl))
leaf_inferred _ _ = (refl, refl)

layout_inferred : (k : Kind) → IsInferable k → InferredAs (layout k) k
layout_inferred (Native Point c d) h = leaf_inferred c d
layout_inferred _ h = grind arith

pub bare_inferred : (f : FieldTree) (g : GeoArrowType) → IsInferable (kind_of g) → IsBareColumn f (kind_of g) → meta_of g ≡ empty → Infers f g
unfolding InfersAs
bare_inferred f g inferable bare default = (
  (λ named. let e = sym bare.0 ∙ named.1 in absurd cc),
  subst (λ t. DenotesMetadata t (meta_of g)) (sym bare.1) default,
  subst (λ t. InferredAs t (kind_of g)) (sym bare.2) (layout_inferred (kind_of g) inferable),
)
