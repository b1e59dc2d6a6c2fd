use Rattle.std.proofs.Common.{◌≡◌, map, take, string_bytes}
use Rattle.column_reports.specs.FindingWords.{finding_words}
use Rattle.file_check.proofs.columns.words_of.Given as goal

abbrev pub invariant-loop-finding : goal.invariant-loop-finding
invariant-loop-finding l = map string_bytes l.words.items ≡ map finding_words (take l.finding-index l.found)
