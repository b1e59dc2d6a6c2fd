use Rattle.geoarrow_layout.proofs.Lemmas.{ap, rules, tree, Dense, geometry_members, union_same}
use Rattle.geoarrow_layout.proofs.write.is_geometry.Goals as goal

pub returns : goal.returns
returns c = let u = c.in-Union-default-Dense in union_same _ _ (geometry_members c.args.coord_type) u.field-1 Dense _ (ap tree u.is) (search rules) (rw (← c.as_slice.ensures) c.are_in.ensures)
