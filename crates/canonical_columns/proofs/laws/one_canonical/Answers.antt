use Rattle.canonical_columns.proofs.Stays.{one_canonical}
use Rattle.canonical_columns.proofs.laws.one_canonical.Goals as goal

pub returns : goal.returns
returns c = one_canonical c.names_are_distinct.ensures c.one_kind.ensures c.kind_or_fault.ensures c.metadata_is_unique.ensures.values c.metadata_is_unique.ensures.values_or_fault
