use Rattle.std.proofs.Common.{string_bytes}
use Rattle.file_check.proofs.Fits.{FitsTo}
use Rattle.file_check.proofs.cell.fitting.Given as goal

abbrev pub invariant-loop-character : goal.invariant-loop-character
invariant-loop-character l = FitsTo l.room l.characters l.character-index l.left (string_bytes l.text)
