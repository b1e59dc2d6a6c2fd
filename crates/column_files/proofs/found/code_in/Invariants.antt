use Rattle.std.proofs.Common.{◌≡◌, length}
use Rattle.column_files.specs.ForeignFound.{code_in}
use Rattle.column_files.proofs.found.code_in.Given as goal

abbrev pub invariant-loop-rest : goal.invariant-loop-rest
invariant-loop-rest l = code_in l.rest ≡ code_in l.initial.rest

abbrev pub decreases-loop-rest : goal.decreases-loop-rest
decreases-loop-rest l = length l.rest
