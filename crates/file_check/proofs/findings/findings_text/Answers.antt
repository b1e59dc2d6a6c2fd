use Rattle.std.proofs.Common.{◌≡◌, ◌+◌, [], ◌∷◌, ◌++◌, take, flat_map, sym, ap, ◌∙◌, arith}
use Rattle.std.proofs.lemmas.List.{take_more, take_all, flat_map_more}
use Rattle.file_check.specs.Findings.{finding_line, findings_text}
use Rattle.file_check.proofs.findings.findings_text.Goals as goal

pub loop-finding-preserved : goal.loop-finding-preserved
loop-finding-preserved c =
    let l = c.loop-finding in
    let findings = c.args.findings.now in
    let line = finding_line in
    let done = take l.finding-index findings in
    let finding = c.finding-item.result in
    let taken : take (l.finding-index + 1) findings ≡ done ++ finding ∷ [] =
    take_more findings l.finding-index finding c.loop-finding-test.true ∙ ap (λ f. done ++ f ∷ []) (sym c.finding-item.is) in
    c.in_ok-push_line.ensures ∙ ap (λ t. t ++ line finding) l.invariant ∙ flat_map_more line [] done finding ∙ ap (flat_map line) (sym taken)

pub returns : goal.returns
returns c =
    let l = c.loop-finding in
    l.invariant ∙ ap findings_text (take_all l.finding-index c.args.findings.now (omega arith))
