use Rattle.geoparquet.proofs.Putting.{some_entries}
use Rattle.geoparquet.proofs.ordered.are_some.Goals as goal

pub returns : goal.returns
returns c = some_entries c.args.members.now.entries c.is_empty.result c.is_empty.ensures
