use Rattle.json.specs.Value.{value_view}
use Rattle.column_check.proofs.Reading.{item_read}
use Rattle.column_check.proofs.malformed.item_at.Goals as goal

pub returns-clause-readable : goal.returns-clause-readable
returns-clause-readable c = item_read c.args.index (value_view c.args.value.now) c.at.result c.requires c.at.ensures
