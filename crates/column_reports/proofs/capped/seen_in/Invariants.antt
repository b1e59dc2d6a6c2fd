use Rattle.std.proofs.Common.{take}
use Rattle.column_reports.specs.Capped.{AreSeen}
use Rattle.column_reports.proofs.capped.seen_in.Given as goal

abbrev pub invariant-loop-found : goal.invariant-loop-found
invariant-loop-found l = AreSeen l.by l.most (take l.found-index l.findings) l.seen
