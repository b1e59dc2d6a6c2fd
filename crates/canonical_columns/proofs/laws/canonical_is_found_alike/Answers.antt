use Rattle.canonical_columns.proofs.Stays.{found_alike}
use Rattle.canonical_columns.proofs.laws.canonical_is_found_alike.Goals as goal

pub returns : goal.returns
returns c =
    let text = c.metadata_is_unique.ensures in
    found_alike c.names_are_distinct.ensures c.one_kind.ensures c.kind_or_fault.ensures text.values text.values_or_fault c.layouts_read_back.ensures
