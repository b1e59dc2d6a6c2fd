use Rattle.geoarrow_layout.proofs.Terms.{length}
use Rattle.geoarrow_layout.proofs.write.+are_members_over.Given as goal

abbrev pub decreases-are_members_over : goal.decreases-are_members_over
decreases-are_members_over l = length l.kinds.now
