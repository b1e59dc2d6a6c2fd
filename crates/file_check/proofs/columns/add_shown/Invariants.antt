use Rattle.std.proofs.Common.{◌≡◌, ◌++◌, map, take, string_bytes}
use Rattle.file_check.specs.Shown.{shown}
use Rattle.file_check.proofs.columns.add_shown.Given as goal

abbrev pub invariant-loop-word : goal.invariant-loop-word
invariant-loop-word l = map string_bytes l.notes.items ≡ map string_bytes l.initial.notes.items ++ map shown (map string_bytes (take l.word-index l.words))
