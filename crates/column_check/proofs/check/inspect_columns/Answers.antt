use Rattle.std.proofs.Common.{rules, ◌≡◌, ◌+◌, [], ◌∷◌, ◌++◌, take, ◌∙◌, sym, ap}
use Rattle.std.proofs.lemmas.List.{take_more}
use Rattle.arrow_columns.specs.Column.{column_tree}
use Rattle.column_check.specs.Finding.{IsFinding}
use Rattle.column_check.proofs.Findings.{findings_next}
use Rattle.column_check.proofs.check.inspect_columns.Goals as goal

pub loop-column-preserved : goal.loop-column-preserved
loop-column-preserved c =
    let columns = c.args.columns.now in
    let column = c.column-item.result in
    let finding = c.in_ok-inspect_column.field-0 in
    let taken : take (c.loop-column.column-index + 1) columns ≡ take c.loop-column.column-index columns ++ column ∷ [] =
    take_more columns c.loop-column.column-index _ c.loop-column-test.true ∙ ap (λ x. take c.loop-column.column-index columns ++ x ∷ []) (sym c.column-item.is) in
    let pushed : c.push.new.self.items ≡ c.loop-column.findings.items ++ finding ∷ [] = search rules in
    let here : IsFinding c.args.infer (column_tree column) finding = search rules in
    findings_next c.args.infer columns c.loop-column.column-index c.loop-column.findings.items c.push.new.self.items column finding taken pushed c.loop-column.invariant here
