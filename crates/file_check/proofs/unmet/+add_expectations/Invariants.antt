use Rattle.std.proofs.Common.{length}
use Rattle.file_check.proofs.unmet.+add_expectations.Given as goal

abbrev pub decreases-add_expectations : goal.decreases-add_expectations
decreases-add_expectations l = length l.wants.now
