use Rattle.geoarrow_layout.proofs.Lemmas.{ALL, AllWithin, Told}
use Rattle.geoarrow_layout.proofs.laws.read_alike.Given as goal

abbrev pub invariant-loop-kind : goal.invariant-loop-kind
invariant-loop-kind l = AllWithin (Told l.summary) ALL 0 l.kind-index
