use Rattle.std.proofs.Common.{◌≡◌, [], ◌∷◌, ◌++◌, None, bytes_eq, string_bytes, subst, ap, ◌∙◌, if◌then◌else◌}
use Rattle.arrow_values.specs.Tree.{Text}
use Rattle.column_reports.specs.ByColumn.{found_at, or_nothing}
use Rattle.column_reports.proofs.ByColumn.{put_back}
use Rattle.column_reports.proofs.by_column.put.Goals as goal

pub returns : goal.returns
returns c =
    let name = string_bytes c.args.name in
    let old = c.args.named.now in
    let between = c.own_of-own.new.named in
    put_back name c.args.finding old between c.insert.new.self c.push.new.self
    (subst (λ q. (k : Text) → found_at between k ≡ (if bytes_eq q k then None else found_at old k)) c.as_str.ensures.value c.own_of-own.ensures.left)
    (c.in_ok-push.ensures.items ∙ ap (λ xs. xs ++ c.args.finding ∷ []) (c.own_of-own.ensures.own ∙ ap (λ q. or_nothing (found_at old q)) c.as_str.ensures.value))
    c.in_ok-insert.ensures.updates
