use Rattle.std.proofs.Common.{rules, ◌≡◌, ◌++◌, None, map, string_bytes, sym, ap, ◌∙◌, append-nil, slice_index}
use Rattle.arrow_columns.specs.Below.{ref_tree}
use Rattle.column_check.specs.ReasonFindings.{child_of}
use Rattle.column_check.proofs.Paths.{no_child_no_names}
use Rattle.column_check.proofs.along.+push_names.Goals as goal

pub returns-in_default-child : goal.returns-in_default-child
returns-in_default-child t c =
    let none : child_of (ref_tree c.args.column_type) (slice_index c.args.path.now 0) ≡ None = search rules in
    sym (append-nil _) ∙ ap (λ names. map string_bytes c.args.names.now.items ++ names) (sym (no_child_no_names (ref_tree c.args.column_type) c.args.path.now none))
