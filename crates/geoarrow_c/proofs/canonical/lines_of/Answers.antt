use Rattle.std.proofs.Common.{rules, string_bytes}
use Rattle.arrow_columns.specs.Column.{column_tree}
use Rattle.geoarrow_c.proofs.Written.{no_lines, lines_more}
use Rattle.geoarrow_c.proofs.canonical.lines_of.Goals as goal

pub loop-said-init : goal.loop-said-init
loop-said-init c = no_lines (search rules)

pub loop-said-preserved : goal.loop-said-preserved
loop-said-preserved c =
    let l = c.loop-said in
    lines_more l.yielded c.in-Some.said (column_tree c.in_ok-column.column) (string_bytes l.lines) (string_bytes c.add_line.new.lines) l.invariant c.in_ok-column.ensures c.in_ok-add_line.ensures
