use Rattle.field_makers.proofs.TypeTold.{told_fits}
use Rattle.field_makers.proofs.laws.told_type_fits.Goals as goal

pub returns : goal.returns
returns c = told_fits
