use Rattle.std.proofs.Common.{take, string_bytes}
use Rattle.file_check.specs.Wants.{IsFoundIn}
use Rattle.file_check.proofs.counted.found_of.Given as goal

abbrev pub invariant-loop-said : goal.invariant-loop-said
invariant-loop-said l = IsFoundIn (string_bytes l.want.column) (string_bytes l.want.want) (take l.said-index l.columns) l.found
