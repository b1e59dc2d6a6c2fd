use Rattle.geoarrow_layout.proofs.Lemmas.{inl, inr, refl, tree, iff_false, LineString, Polygon, MultiPolygon, GeometryCollection, Point, second_kind, accepted_ok, alone, both, without, as_other, no_names}
use Rattle.geoarrow_layout.specs.declared.names.ExtensionName.TheVariants as names
use Rattle.geoarrow_layout.proofs.read.candidates.Goals as goal

pub returns-then-is_ok : goal.returns-then-is_ok
returns-then-is_ok c = alone names.Wkb _ refl refl ((accepted_ok _ _ _ _ c.is_ok.ensures.value c.parse_kind.ensures.exact).0 c.if-is_ok.true)

pub returns-then-is_ok-2 : goal.returns-then-is_ok-2
returns-then-is_ok-2 c = alone names.Wkt _ refl refl ((accepted_ok _ _ _ _ c.is_ok-2.ensures.value c.parse_kind-2.ensures.exact).0 c.if-is_ok-2.true)

pub returns-then-is_point : goal.returns-then-is_point
returns-then-is_point c = both (names.Native Point) _ refl ((c.is_kind-is_point.ensures _ c.summarize-summary.ensures).0 c.if-is_point.true) ((c.is_kind.ensures _ c.summarize-summary.ensures).0 c.if-is_kind.true)

pub returns-else-is_point : goal.returns-else-is_point
returns-else-is_point c = without names.Rect (names.Native Point) _ (λ n x. elim x [ inl e ↦ inr e | inr e ↦ inl e ]) ((c.is_kind.ensures _ c.summarize-summary.ensures).0 c.if-is_kind.true) (iff_false (c.is_kind-is_point.ensures _ c.summarize-summary.ensures) c.if-is_point.false)

pub returns-then-is_point-2 : goal.returns-then-is_point-2
returns-then-is_point-2 c = without (names.Native Point) names.Rect _ (λ n x. x) ((c.is_kind-is_point.ensures _ c.summarize-summary.ensures).0 c.if-is_point-2.true) (iff_false (c.is_kind.ensures _ c.summarize-summary.ensures) c.if-is_kind.false)

pub returns-then-is_kind-2 : goal.returns-then-is_kind-2
returns-then-is_kind-2 c = let h = (c.is_kind-else-is_point-2.ensures _ c.summarize-summary.ensures).0 c.if-is_kind-2.true in both (names.Native LineString) _ refl h (as_other LineString (second_kind LineString) _ (λ b d x. x) h)

pub returns-then-is_kind-3 : goal.returns-then-is_kind-3
returns-then-is_kind-3 c = let h = (c.is_kind-else-is_kind-2.ensures _ c.summarize-summary.ensures).0 c.if-is_kind-3.true in both (names.Native Polygon) _ refl h (as_other Polygon (second_kind Polygon) _ (λ b d x. x) h)

pub returns-then-is_kind-4 : goal.returns-then-is_kind-4
returns-then-is_kind-4 c = alone (names.Native MultiPolygon) _ refl refl ((c.is_kind-else-is_kind-3.ensures _ c.summarize-summary.ensures).0 c.if-is_kind-4.true)

pub returns-then-is_kind-5 : goal.returns-then-is_kind-5
returns-then-is_kind-5 c = alone (names.Native GeometryCollection) _ refl refl ((c.is_kind-else-is_kind-4.ensures _ c.summarize-summary.ensures).0 c.if-is_kind-5.true)

pub returns-then-is_kind-6 : goal.returns-then-is_kind-6
returns-then-is_kind-6 c = alone names.Geometry _ refl refl ((c.is_kind-else-is_kind-5.ensures _ c.summarize-summary.ensures).0 c.if-is_kind-6.true)

pub returns-else-is_kind-6 : goal.returns-else-is_kind-6
returns-else-is_kind-6 c =
    let t = tree c.args.data_type.now in
    let s = c.summarize-summary.ensures in
    no_names t (iff_false (c.is_kind-is_point.ensures t s) c.if-is_point-2.false) (iff_false (c.is_kind-else-is_point-2.ensures t s) c.if-is_kind-2.false) (iff_false (c.is_kind-else-is_kind-2.ensures t s) c.if-is_kind-3.false)
    (iff_false (c.is_kind-else-is_kind-3.ensures t s) c.if-is_kind-4.false) (iff_false (c.is_kind-else-is_kind-4.ensures t s) c.if-is_kind-5.false) (iff_false (c.is_kind-else-is_kind-5.ensures t s) c.if-is_kind-6.false) (iff_false (c.is_kind.ensures t s) c.if-is_kind.false)
    (iff_false (accepted_ok _ _ _ _ c.is_ok.ensures.value c.parse_kind.ensures.exact) c.if-is_ok.false) (iff_false (accepted_ok _ _ _ _ c.is_ok-2.ensures.value c.parse_kind-2.ensures.exact) c.if-is_ok-2.false)
