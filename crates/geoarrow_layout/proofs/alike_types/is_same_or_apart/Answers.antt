use Rattle.geoarrow_layout.proofs.Terms.{◌≡◌, ◌∙◌, sym, ap, rules, w8, to_z, of_z, to_z-of_z}
use Rattle.geoarrow_layout.proofs.alike_types.is_same_or_apart.Goals as goal

pub returns-else-member-other : goal.returns-else-member-other
returns-else-member-other c =
    let m : to_z w8 (of_z w8 c.args.member.now.0) ≡ c.args.member.now.0 = search (rules, to_z-of_z) in
    let o : to_z w8 (of_z w8 c.args.other.now.0) ≡ c.args.other.now.0 = search (rules, to_z-of_z) in
    let second = c.data_type-else-member-other.ensures in
    (λ h e. sym c.data_type.ensures ∙ c.eq.ensures.same.0 h ∙ second, λ f. c.eq.ensures.same.1 (c.data_type.ensures ∙ f (sym m ∙ ap (to_z w8) c.if-member-other.false ∙ o) ∙ sym second))
