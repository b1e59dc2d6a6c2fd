use Rattle.std.proofs.Common.{◌≡◌, ◌∷◌, ◌++◌, [], Some, bytes_eq, option_map, string_bytes, sym, ap, ◌∙◌, subst, if◌then◌else◌}
use Rattle.std.proofs.lemmas.Result.{on_ok_weaker}
use Rattle.arrow_values.specs.Tree.{Text}
use Rattle.column_reports.specs.Found.{column_in}
use Rattle.column_reports.specs.ByColumn.{found_at, or_nothing}
use Rattle.column_reports.proofs.ByColumn.{none_passed, one_passed, one_put, passed}
use Rattle.column_reports.proofs.by_column.add.Goals as goal

pub returns-then-not-names_one-clause-named : goal.returns-then-not-names_one-clause-named
returns-then-not-names_one-clause-named c = λ names fs are.
    one_passed names fs c.args.finding c.args.named.now (sym (c.names_one.ensures names fs are) ∙ c.if-not-names_one.true) are

pub returns-then-not-names_one-clause-others : goal.returns-then-not-names_one-clause-others
returns-then-not-names_one-clause-others c = λ names fs are.
    passed names c.args.finding c.args.others.now.items c.push.new.self.items
    (sym (c.names_one.ensures names fs are) ∙ c.if-not-names_one.true) c.in_ok-push.ensures.items

pub returns-in-Some-clause-named : goal.returns-in-Some-clause-named
returns-in-Some-clause-named c =
    let name = string_bytes c.in-Some.name in
    let old = c.args.named.now in
    let new = c.put.new.named in
    let is : column_in c.args.finding ≡ Some name = sym c.parted-name.ensures.name ∙ ap (option_map string_bytes) c.in-Some.is in
    on_ok_weaker c.put.result
    (λ put. λ names fs are. one_put names fs c.args.finding name old new is
    (sym (c.names_one.ensures names fs are) ∙ c.if-not-names_one.false)
    (subst (λ g. (k : Text) → found_at new k ≡ (if bytes_eq name k then Some (or_nothing (found_at old k) ++ g ∷ []) else found_at old k)) c.parted-name.ensures.finding put) are) c.put.ensures

pub returns-in-Some-clause-others : goal.returns-in-Some-clause-others
returns-in-Some-clause-others c =
    on_ok_weaker c.put.result
    (λ put. λ names fs are. none_passed names c.args.finding c.args.others.now.items
    (sym (c.names_one.ensures names fs are) ∙ c.if-not-names_one.false)) c.put.ensures

pub returns-in-None-clause-others : goal.returns-in-None-clause-others
returns-in-None-clause-others c = λ names fs are.
    none_passed names c.args.finding c.args.others.now.items
    (sym (c.names_one.ensures names fs are) ∙ c.if-not-names_one.false)
