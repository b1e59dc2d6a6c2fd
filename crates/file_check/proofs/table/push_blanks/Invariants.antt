use Rattle.std.proofs.Common.{◌≡◌, ◌*◌, ◌++◌, replicate, string_bytes}
use Rattle.file_check.proofs.table.push_blanks.Given as goal

abbrev pub invariant-loop : goal.invariant-loop
invariant-loop l = string_bytes l.text ≡ string_bytes l.initial.text ++ replicate (40 * l.counter) 32
