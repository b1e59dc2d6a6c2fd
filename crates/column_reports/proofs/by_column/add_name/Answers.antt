use Rattle.std.proofs.Common.{◌≡◌, [], Some, bytes_eq, string_bytes, subst, if◌then◌else◌}
use Rattle.arrow_values.specs.Tree.{Text}
use Rattle.column_reports.specs.ByColumn.{found_at}
use Rattle.column_reports.proofs.ByColumn.{updated}
use Rattle.column_reports.proofs.by_column.add_name.Goals as goal

pub returns : goal.returns
returns c =
    let old = c.args.named.now in
    let new = c.insert.new.self in
    subst (λ name. (k : Text) → found_at new k ≡ (if bytes_eq name k then Some [] else found_at old k)) c.in_ok-key.ensures.ok
    (subst (λ fs. (k : Text) → found_at new k ≡ (if bytes_eq (string_bytes c.in_ok-key.key) k then Some fs else found_at old k)) c.new.ensures.items
    (updated (string_bytes c.in_ok-key.key) old new (Some c.new.result) c.in_ok-insert.ensures.updates))
