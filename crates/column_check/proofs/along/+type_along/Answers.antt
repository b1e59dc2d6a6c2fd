use Rattle.std.proofs.Common.{rules, ◌≡◌, None, sym, slice_index_or}
use Rattle.arrow_columns.specs.Below.{ref_tree}
use Rattle.column_check.specs.ReasonFindings.{child_of}
use Rattle.column_check.proofs.Paths.{no_child_no_type}
use Rattle.column_check.proofs.along.+type_along.Goals as goal

pub returns-in_default-child : goal.returns-in_default-child
returns-in_default-child t c =
    let none : child_of (ref_tree c.args.column_type) (slice_index_or c.args.path.now 0 0) ≡ None = search rules in
    sym (no_child_no_type (ref_tree c.args.column_type) c.args.path.now c.in-len1-up.len_at_least none)
