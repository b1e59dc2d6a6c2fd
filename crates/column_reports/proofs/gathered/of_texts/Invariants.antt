use Rattle.std.proofs.Common.{◌≡◌, take}
use Rattle.column_reports.specs.Gathered.{of_texts}
use Rattle.column_reports.proofs.gathered.of_texts.Given as goal

abbrev pub invariant-loop-text : goal.invariant-loop-text
invariant-loop-text l = l.all.items ≡ of_texts (take l.text-index l.texts)
