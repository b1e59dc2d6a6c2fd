use Rattle.std.proofs.Common.{arith, ◌≡◌, ◌≢◌, ◌+◌, [], ◌∷◌, ◌++◌, List, None, map, take, codes, rules, refl, sym, ap, subst, ◌∙◌}
use Rattle.std.proofs.lemmas.List.{take_more, take_all}
use Rattle.value_tokens.proofs.Adding.{sent}
use Rattle.column_reports.specs.FindingLines.{finding_value, findings_in}
use Rattle.column_reports.specs.Objects.{array_of, member_if, AddsMembers, AddsValues}
use Rattle.column_reports.specs.declared.weighed.Weighed.{Weighed}
use Rattle.column_reports.proofs.Adding.{finished, array, named, one, one_more}
use Rattle.column_reports.proofs.finding_json.put_findings.Goals as goal

some_member : (fs : List Weighed) → fs ≢ [] → member_if (codes "findings") (findings_in fs) ≡ (codes "findings", array_of (map (finding_value None None) fs)) ∷ []
some_member [] some = absurd (some refl)
some_member (f ∷ fs) some = refl

pub loop-finding-preserved : goal.loop-finding-preserved
loop-finding-preserved c =
    let fs = c.args.findings.now in
    let i = c.loop-finding.finding-index in
    let taken : take (i + 1) fs ≡ take i fs ++ c.finding-item.result ∷ [] = take_more fs i _ c.loop-finding-test.true ∙ ap (λ x. take i fs ++ x ∷ []) (sym c.finding-item.is) in
    one_more (finding_value None None) fs i c.finding-item.result taken c.loop-finding.invariant (one (finding_value None None c.finding-item.result) c.in_ok-put_finding.ensures)

pub returns : goal.returns
returns c =
    let fs = c.args.findings.now in
    let some : fs ≢ [] = search rules in
    let all : take c.loop-finding.finding-index fs ≡ fs = take_all c.loop-finding.finding-index fs (omega arith) in
    let values = subst (λ xs. AddsValues (map (finding_value None None) xs) c.begin_array.new.self c.loop-finding.out) all c.loop-finding.invariant in
    finished c.end_array.result (λ e. subst (λ ms. AddsMembers ms c.args.out.now c.end_array.new.self) (sym (some_member fs some))
    (named (sent c.in_ok-key.ensures) (array (sent c.in_ok-begin_array.ensures) values e))) c.end_array.ensures
