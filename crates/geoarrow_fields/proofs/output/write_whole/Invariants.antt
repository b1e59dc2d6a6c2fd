use Rattle.std.proofs.Common.{◌≡◌, ◌++◌, length}
use Rattle.geoarrow_fields.proofs.Terms.{AppendsSome}
use Rattle.geoarrow_fields.proofs.output.write_whole.Given as goal

abbrev pub invariant-loop-rest : goal.invariant-loop-rest
invariant-loop-rest g l = AppendsSome (λ done. l.initial.rest ≡ done ++ l.rest) (g.W.Write.contents l.initial.writer) (g.W.Write.contents l.writer)

abbrev pub decreases-loop-rest : goal.decreases-loop-rest
decreases-loop-rest g l = length l.rest
