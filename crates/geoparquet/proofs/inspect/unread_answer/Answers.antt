use Rattle.std.proofs.Common.{map}
use Rattle.arrow_columns.specs.Column.{column_tree}
use Rattle.geoparquet.specs.Sources.{element_view}
use Rattle.geoparquet.proofs.Marking.{all_stay}
use Rattle.geoparquet.proofs.inspect.unread_answer.Goals as goal

pub returns-clause-columns : goal.returns-clause-columns
returns-clause-columns c = all_stay (map column_tree c.args.columns.items) (map element_view c.args.elements.now)
