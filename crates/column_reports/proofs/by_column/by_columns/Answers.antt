use Rattle.std.proofs.Common.{map}
use Rattle.arrow_columns.specs.Column.{column_tree}
use Rattle.column_reports.specs.ByColumn.{names_of}
use Rattle.column_reports.proofs.ByColumn.{none_of_nothing, others_more}
use Rattle.column_reports.proofs.by_column.by_columns.Goals as goal

pub loop-finding-init : goal.loop-finding-init
loop-finding-init c = record {
  named = c.in_ok-named.ensures;
  others = none_of_nothing (names_of (map column_tree c.args.columns.now)) c.new-others.result.items c.new-others.ensures.items;
}

pub loop-finding-preserved : goal.loop-finding-preserved
loop-finding-preserved c =
    let names = names_of (map column_tree c.args.columns.now) in
    let l = c.loop-finding in
    record {
      named = c.in_ok-add.ensures.named names l.yielded l.invariant.named;
      others = others_more names l.yielded c.in-Some.finding l.others.items c.add.new.others.items l.invariant.others (c.in_ok-add.ensures.others names l.yielded l.invariant.named);
    }
