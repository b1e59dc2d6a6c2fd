use Rattle.std.proofs.Common.{◌≡◌, ◌≤◌, ◌++◌, length, refl, inr, string_bytes, ap, ◌∙◌, subst, arith}
use Rattle.arrow_values.specs.Texts.{text_of}
use Rattle.column_reports.specs.FileReport.{line_of}
use Rattle.column_reports.proofs.Reported.{goes_on, ends, is_part}
use Rattle.column_reports.proofs.lines.column_lines.Goals as goal

pub loop-said-preserved : goal.loop-said-preserved
loop-said-preserved c =
    let l = c.loop-said in
    let file = text_of c.args.file in
    let next = string_bytes c.add_line.new.text in
    let adds : next ≡ string_bytes l.text ++ line_of file l.said-index c.said-item.result =
    c.in_ok-add_line.ensures ∙ ap (λ i. string_bytes l.text ++ line_of file i c.said-item.result) l.invariant.1 in
    let on = goes_on file c.args.columns.now l.said-index (string_bytes l.text) l.invariant.0 c.said-item.result c.loop-said-test.true c.said-item.is next adds in
    (on, omega (arith, l.invariant.1), c.if-is_past.ensures)

pub returns-then-is_past : goal.returns-then-is_past
returns-then-is_past c =
    let l = c.loop-said in
    let file = text_of c.args.file in
    let next = string_bytes c.add_line.new.text in
    let adds : next ≡ string_bytes l.text ++ line_of file l.said-index c.said-item.result =
    c.in_ok-add_line.ensures ∙ ap (λ i. string_bytes l.text ++ line_of file i c.said-item.result) l.invariant.1 in
    let on = goes_on file c.args.columns.now l.said-index (string_bytes l.text) l.invariant.0 c.said-item.result c.loop-said-test.true c.said-item.is next adds in
    inr (refl, omega (arith, c.if-is_past.ensures, is_part file c.args.columns.now _ next on))

pub returns : goal.returns
returns c =
    let l = c.loop-said in
    let all = ends (text_of c.args.file) c.args.columns.now l.said-index (string_bytes l.text) l.invariant.0 (omega arith) in
    (all, subst (λ t. length t ≤ c.args.limit) all l.invariant.2)
