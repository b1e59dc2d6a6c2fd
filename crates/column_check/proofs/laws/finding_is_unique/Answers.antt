use Rattle.arrow_columns.specs.Column.{column_tree}
use Rattle.column_check.proofs.Unicity.{one_finding}
use Rattle.column_check.proofs.laws.finding_is_unique.Goals as goal

pub returns : goal.returns
returns c = λ infer. one_finding (column_tree c.args.column.now) c.names_are_distinct.ensures c.one_kind.ensures c.one_fault.ensures c.no_fault_if_accepted.ensures c.one_kind_inferred.ensures infer c.args._one.now c.args._other.now
