use Rattle.geoarrow_layout.proofs.KindSteps.{two_at_most, which_two, both_accepted}
use Rattle.geoarrow_layout.proofs.names.two_names_at_most.Goals as goal

pub returns : goal.returns
returns c = record { two = two_at_most; which = which_two; both = both_accepted }
