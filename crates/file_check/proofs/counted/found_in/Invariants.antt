use Rattle.std.proofs.Common.{take}
use Rattle.file_check.specs.Wants.{AreFoundIn}
use Rattle.file_check.proofs.counted.found_in.Given as goal

abbrev pub invariant-loop-want : goal.invariant-loop-want
invariant-loop-want l = AreFoundIn (take l.want-index l.wants) l.columns l.found.items
