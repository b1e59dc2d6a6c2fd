use Rattle.std.proofs.Common.{[], map, take, string_bytes, subst, sym}
use Rattle.arrow_columns.specs.Column.{column_tree}
use Rattle.column_reports.specs.ByColumn.{names_of, AreBy}
use Rattle.column_reports.proofs.ByColumn.{one_name, names_next}
use Rattle.column_reports.proofs.by_column.names_in.Goals as goal

pub loop-column-preserved : goal.loop-column-preserved
loop-column-preserved c =
    let cs = c.args.columns.now in
    let i = c.loop-column.column-index in
    let name = string_bytes c.column-item.result.name in
    subst (λ ns. AreBy ns [] c.add_name.new.named) (sym (names_next cs i c.column-item.result c.loop-column-test.true c.column-item.is))
    (one_name (names_of (map column_tree (take i cs))) name c.loop-column.named c.add_name.new.named (rw c.as_str.ensures.value at c.in_ok-add_name.ensures) c.loop-column.invariant)
