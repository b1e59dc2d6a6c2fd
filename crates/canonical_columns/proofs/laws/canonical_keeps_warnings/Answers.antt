use Rattle.canonical_columns.proofs.Warnings.{keeps_warnings}
use Rattle.canonical_columns.proofs.laws.canonical_keeps_warnings.Goals as goal

pub returns : goal.returns
returns c = keeps_warnings c.names_are_distinct.ensures c.one_kind.ensures c.kind_or_fault.ensures c.metadata_is_unique.ensures.values c.metadata_is_unique.ensures.values_or_fault
