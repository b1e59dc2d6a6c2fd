use Rattle.geoarrow_layout.proofs.Lemmas.{ap, rules, tree, Dense, mixed_members, union_same}
use Rattle.geoarrow_layout.proofs.write.is_mixed.Goals as goal

pub returns : goal.returns
returns c = let u = c.in-Union-default-Dense in union_same _ _ (mixed_members c.args.leaf.0 c.args.leaf.1) u.field-1 Dense _ (ap tree u.is) (search rules) (rw (← c.as_slice.ensures) c.are_members_over.ensures)
