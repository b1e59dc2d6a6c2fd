use Rattle.geoarrow_layout.proofs.Terms.{refl, sym, subst, Leaf, Lists, tree}
use Rattle.geoarrow_layout.proofs.read.parse_point.Goals as goal

-- a coordinate below no lists is a coordinate
pub returns-clause-exact : goal.returns-clause-exact
returns-clause-exact c = λ b d.
    let read = c.parse_native.ensures.exact b d in
    (λ e. let l = read.0 e in subst (λ x. Leaf x b d) (sym l.1.1) l.2, λ l. read.1 (tree c.args.data_type.now, (Lists, refl), l))
