use Rattle.canonical_columns.proofs.Ported.{agrees_in_value}
use Rattle.canonical_columns.proofs.laws.agrees_in_value.Goals as goal

pub returns : goal.returns
returns c = agrees_in_value c.names_are_distinct.ensures c.one_kind.ensures c.kind_or_fault.ensures c.metadata_is_unique.ensures.values c.metadata_is_unique.ensures.values_or_fault
