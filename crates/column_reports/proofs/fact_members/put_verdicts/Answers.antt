use Rattle.std.proofs.Common.{◌≡◌, true, codes, option_map, sym, ◌∙◌, subst}
use Rattle.geoparquet.specs.Facts.{facts_view}
use Rattle.column_reports.specs.FactMembers.{are_some, verdict_members, verdicts_in}
use Rattle.column_reports.specs.Objects.{AddsMembers, member_if}
use Rattle.value_tokens.proofs.Adding.{sent}
use Rattle.column_reports.proofs.Adding.{finished, named, object}
use Rattle.column_reports.proofs.Verdicts.{member_some}
use Rattle.column_reports.proofs.fact_members.put_verdicts.Goals as goal

pub returns : goal.returns
returns c =
    let fs = facts_view c.in-Some.facts.now in
    let there : are_some (verdict_members fs) ≡ true = sym c.has_verdicts.ensures ∙ c.if-not-has_verdicts.false in
    finished c.end_object.result
    (λ e. subst (λ o. AddsMembers (member_if (codes "verdicts") (verdicts_in (option_map (λ f. facts_view f.now) o))) c.args.out.now c.end_object.new.self) (sym c.in-Some.is)
    (subst (λ ms. AddsMembers ms c.args.out.now c.end_object.new.self) (sym (member_some (codes "verdicts") (verdict_members fs) there))
    (named (sent c.in_ok-key.ensures) (object (sent c.in_ok-begin_object.ensures) c.in_ok-put_facts.ensures e)))) c.end_object.ensures
