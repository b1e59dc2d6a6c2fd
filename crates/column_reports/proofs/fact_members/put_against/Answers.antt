use Rattle.std.proofs.Common.{◌≡◌, true, option_map, sym, ◌∙◌, subst}
use Rattle.column_reports.specs.FactMembers.{against_if, against_members, are_some}
use Rattle.column_reports.specs.Objects.{AddsMembers}
use Rattle.value_tokens.proofs.Adding.{sent}
use Rattle.column_reports.proofs.Adding.{finished, named, object}
use Rattle.column_reports.proofs.Verdicts.{against_some}
use Rattle.column_reports.proofs.fact_members.put_against.Goals as goal

pub returns : goal.returns
returns c =
    let a = c.in-Some.against.now in
    let there : are_some (against_members a) ≡ true = sym c.has_verdict.ensures ∙ c.if-not-has_verdict.false in
    finished c.end_object.result
    (λ e. subst (λ o. AddsMembers (against_if c.args.key.now (option_map (λ x. x.now) o)) c.args.out.now c.end_object.new.self) (sym c.in-Some.is)
    (subst (λ ms. AddsMembers ms c.args.out.now c.end_object.new.self) (sym (against_some c.args.key.now a there))
    (named (sent c.in_ok-key.ensures) (object (sent c.in_ok-begin_object.ensures) c.in_ok-put_each.ensures e)))) c.end_object.ensures
