use Rattle.geoarrow_layout.proofs.Terms.{length}
use Rattle.geoarrow_layout.proofs.write.+are_in.Given as goal

abbrev pub decreases-are_in : goal.decreases-are_in
decreases-are_in l = length l.dimensions.now
