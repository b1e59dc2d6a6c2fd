use Rattle.json.specs.Value.{value_view}
use Rattle.geoparquet.proofs.Putting.{item_read}
use Rattle.geoparquet.proofs.covering.item_at.Goals as goal

pub returns-clause-read : goal.returns-clause-read
returns-clause-read c = item_read c.args.index (value_view c.args.value.now) c.at.result c.requires c.at.ensures
