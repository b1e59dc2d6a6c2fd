use Rattle.std.proofs.Common.{rules}
use Rattle.geoarrow_columns.proofs.Reports.{taken_for}
use Rattle.geoarrow_columns.proofs.check.find_column.Goals as goal

pub returns-clause-ok : goal.returns-clause-ok
returns-clause-ok c = taken_for _ _ _ _ _ _ c.data_type.ensures c.infer_kind.ensures c.in-Some-infer_kind.is c.from_kind.ensures.kind c.from_kind.ensures.metadata (search rules) (search rules)
