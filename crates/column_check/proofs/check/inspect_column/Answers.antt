use Rattle.std.proofs.Common.{rules, ◌≡◌, Some}
use Rattle.arrow_columns.specs.Column.{column_tree, name_on}
use Rattle.column_check.proofs.check.inspect_column.Goals as goal

pub returns-in-Some-from_text : goal.returns-in-Some-from_text
returns-in-Some-from_text c = c.check_named.ensures c.args.infer

pub returns-in-None-from_text : goal.returns-in-None-from_text
returns-in-None-from_text c =
    let named : name_on (column_tree c.args.column.now) ≡ Some c.in-Some.text.now = search rules in
    c.other_name.ensures c.args.infer (column_tree c.args.column.now) named

pub returns-then-infer : goal.returns-then-infer
returns-then-infer c = c.check_unnamed.ensures c.args.infer c.if-infer.true
