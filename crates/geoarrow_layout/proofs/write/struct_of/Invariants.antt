use Rattle.geoarrow_layout.proofs.Terms.{◌≡◌, map, take, fixed_text, coordinate}
use Rattle.geoarrow_layout.proofs.write.struct_of.Given as goal

abbrev pub invariant-loop-name : goal.invariant-loop-name
invariant-loop-name l = l.fields.items ≡ map coordinate (map fixed_text (take l.name-index l.names))
