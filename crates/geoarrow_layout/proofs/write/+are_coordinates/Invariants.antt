use Rattle.geoarrow_layout.proofs.Terms.{length}
use Rattle.geoarrow_layout.proofs.write.+are_coordinates.Given as goal

abbrev pub decreases-are_coordinates : goal.decreases-are_coordinates
decreases-are_coordinates l = length l.names.now
