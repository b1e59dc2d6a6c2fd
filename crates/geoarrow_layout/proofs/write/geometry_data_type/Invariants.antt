use Rattle.geoarrow_layout.proofs.Terms.{◌≡◌, take, members_in, DIMENSIONS}
use Rattle.geoarrow_layout.proofs.write.geometry_data_type.Given as goal

abbrev pub invariant-loop-dimension : goal.invariant-loop-dimension
invariant-loop-dimension l = l.members.items ≡ members_in (take l.dimension-index DIMENSIONS) l.coord_type
