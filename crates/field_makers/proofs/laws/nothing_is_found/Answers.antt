use Rattle.field_makers.proofs.Quiet.{only_notes, nothing_found}
use Rattle.field_makers.proofs.laws.nothing_is_found.Goals as goal

pub returns-clause-notes : goal.returns-clause-notes
returns-clause-notes c = only_notes c.made_is_found.ensures c.made_is_canonical.ensures c.canonical_keeps_warnings.ensures

pub returns-clause-nothing : goal.returns-clause-nothing
returns-clause-nothing c = nothing_found c.made_is_found.ensures c.made_is_canonical.ensures c.canonical_keeps_warnings.ensures
