use Rattle.geoarrow_layout.proofs.Terms.{length}
use Rattle.geoarrow_layout.proofs.write.+lists_over.Given as goal

abbrev pub decreases-lists_over : goal.decreases-lists_over
decreases-lists_over l = length l.names.now
