use Rattle.std.proofs.Common.{string_bytes}
use Rattle.geoarrow_c.specs.Canonical.{AreLinesOf}
use Rattle.geoarrow_c.proofs.canonical.lines_of.Given as goal

abbrev pub invariant-loop-said : goal.invariant-loop-said
invariant-loop-said l = AreLinesOf l.yielded (string_bytes l.lines)
