use Rattle.std.proofs.Common.{◌++◌, Some, codes, ap, ◌∙◌}
use Rattle.json.specs.Tree.{json_tokens}
use Rattle.arrow_values.specs.Texts.{text_of}
use Rattle.column_reports.specs.FindingLines.{finding_value}
use Rattle.value_tokens.proofs.Adding.{whole_text}
use Rattle.column_reports.proofs.finding_json.finding_line.Goals as goal

pub returns-clause-text : goal.returns-clause-text
returns-clause-text c =
    let added = c.in_ok-put_finding.ensures in
    let tokens = json_tokens (finding_value (Some (codes "finding")) (text_of c.args.file) c.args.found.now) in
    let are = added.tokens ∙ ap (λ xs. xs ++ tokens) c.new-out.ensures.tokens in
    whole_text _ _ _ _ (added.before ∙ c.new-out.ensures.before ∙ c.new.ensures.items) are c.text_of.ensures.text
