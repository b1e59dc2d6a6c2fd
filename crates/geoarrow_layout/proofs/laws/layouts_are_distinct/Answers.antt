use Rattle.geoarrow_layout.proofs.Written as law
use Rattle.geoarrow_layout.proofs.laws.layouts_are_distinct.Goals as goal

pub returns : goal.returns
returns c = λ j k h. law.layouts_are_distinct j k h
