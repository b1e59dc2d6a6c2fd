use Rattle.std.proofs.Common.{◌≡◌}
use Rattle.column_files.proofs.KeyFaults.{hold_texts}
use Rattle.column_files.proofs.line.are_texts.Given as goal

abbrev pub invariant-loop-entry : goal.invariant-loop-entry
invariant-loop-entry l = hold_texts l.members.entries ≡ hold_texts l.entry-iterator
