use Rattle.std.proofs.Common.{length}
use Rattle.type_rows.proofs.layouts.found.+say_path.Given as goal

abbrev pub decreases-say_path : goal.decreases-say_path
decreases-say_path l = length l.path.now
