use Rattle.field_makers.proofs.Found.{is_found}
use Rattle.field_makers.proofs.laws.made_is_found.Goals as goal

pub returns : goal.returns
returns c = is_found c.layouts_read_back.ensures c.names_are_distinct.ensures c.one_kind.ensures c.kind_or_fault.ensures c.metadata_is_unique.ensures.values c.metadata_is_unique.ensures.values_or_fault
