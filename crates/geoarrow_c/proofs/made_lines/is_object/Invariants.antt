use Rattle.std.proofs.Common.{◌≡◌, length}
use Rattle.column_files.specs.Forms.{behind_blanks}
use Rattle.geoarrow_c.proofs.made_lines.is_object.Given as goal

abbrev pub invariant-loop-rest : goal.invariant-loop-rest
invariant-loop-rest l = behind_blanks l.rest ≡ behind_blanks l.initial.rest

abbrev pub decreases-loop-rest : goal.decreases-loop-rest
decreases-loop-rest l = length l.rest
