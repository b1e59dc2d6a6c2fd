use Rattle.std.proofs.Common.{◌≡◌, length, map, take, option_map, Ok, Err, map-id, sym, subst, ◌∙◌, rules, arith}
use Rattle.std.proofs.lemmas.Iterator.Adapters.{YieldsList-from_vec}
use Rattle.std.proofs.lemmas.Iterator.Consumers.{YieldsList-so_far, YieldsList-turn, YieldsList-end}
use Rattle.arrow_columns.specs.Column.{column_tree}
use Rattle.parquet_footer.specs.Element.{element}
use Rattle.parquet_columns.specs.Marks.{IsMarked, AreMarked}
use Rattle.parquet_columns.proofs.Children.{one_more, one_said}
use Rattle.parquet_columns.proofs.Spending.{place_of, one_paid, marked_fails, all_paid}
use Rattle.parquet_columns.proofs.Steps.{handed}
use Rattle.parquet_columns.proofs.marks.marked_within.Goals as goal

pub loop-column-preserved : goal.loop-column-preserved
loop-column-preserved c =
    let l = c.loop-column in
    let ps = c.args.values.now in
    let es = map element c.args.children.now in
    let place = c.len-at.ensures ∙ l.made.ok.0 in
    let child = option_map (λ e. element e.now) c.child_at-child.result in
    let is = subst (λ v. IsMarked v child (column_tree c.in-Some.column) l.left (Ok (c.in_ok-new.new, c.in_ok-new.said, c.in_ok-new.rest))) l.invariant.same c.in_ok-new.ensures.made in
    let k = place_of ps es l.made.items l.yielded c.len-at.result l.invariant.so_far place in
    record {
      same = c.in_ok-new.ensures.same ∙ l.invariant.same;
      so_far = one_more ps es l.made.items _ l.yielded c.in_ok-new.new c.in-Some.column child c.len-at.result l.invariant.so_far place c.child_at-child.ensures is.0 c.in_ok-push.ensures.items;
      said = one_said ps es l.elements.items _ l.yielded c.in_ok-new.said c.in-Some.column child c.len-at.result l.invariant.said k c.child_at-child.ensures is.1 c.in_ok-push-2.ensures.items;
      paid = one_paid ps es l.yielded c.in-Some.column child c.len-at.result l.left c.in_ok-new.rest c.args.amount l.invariant.paid k c.child_at-child.ensures is.2;
    }

pub returns-in_err-new : goal.returns-in_err-new
returns-in_err-new c =
    let l = c.loop-column in
    let ps = c.args.values.now in
    let es = map element c.args.children.now in
    let all = c.args.columns.items in
    let place = c.len-at.ensures ∙ l.made.ok.0 in
    let child = option_map (λ e. element e.now) c.child_at-child.result in
    let e = c.in_err-new.field-0.0 in
    let is = subst (λ v. IsMarked v child (column_tree c.in-Some.column) l.left (Err e)) l.invariant.same c.in_err-new.ensures.made in
    let road = YieldsList-from_vec {s = c.into_iter-column-iterator.result} all (search rules) (search rules) in
    let front : l.yielded ≡ take (length l.yielded) all = sym (map-id l.yielded) ∙ YieldsList-so_far road l.yielded l.column-iterator l.yielded_by in
    let turn = YieldsList-turn road l.yielded l.column-iterator l.yielded_by c.next.result c.next.new.self c.in-Some.column c.in-Some.is c.next.ensures.steps in
    handed (AreMarked ps es (map column_tree all) c.args.amount) c.from_residual.result e (grind arith)
    (marked_fails ps es l.yielded all c.in-Some.column child c.len-at.result l.left c.args.amount e l.invariant.paid (place_of ps es l.made.items l.yielded c.len-at.result l.invariant.so_far place)
    c.child_at-child.ensures front turn.0 turn.1 is)

pub returns : goal.returns
returns c =
    let l = c.loop-column in
    let ps = c.args.values.now in
    let es = map element c.args.children.now in
    let road = YieldsList-from_vec {s = c.into_iter-column-iterator.result} c.args.columns.items (search rules) (search rules) in
    let end = YieldsList-end road l.yielded l.column-iterator l.yielded_by c.next.result c.next.new.self c.in-None.is c.next.ensures.steps in
    all_paid ps es (record { columns = l.made; elements = l.elements }) l.yielded c.args.columns.items l.left c.args.amount (sym (map-id l.yielded) ∙ end.0) l.invariant.so_far l.invariant.said l.invariant.paid
