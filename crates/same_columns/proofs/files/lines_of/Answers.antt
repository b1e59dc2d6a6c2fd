use Rattle.std.proofs.Common.{map, ap}
use Rattle.std.proofs.lemmas.Result.{IfOk-weaker}
use Rattle.same_columns.specs.Unlike.{unlike_view}
use Rattle.same_columns.proofs.Compared.{are_lines}
use Rattle.same_columns.proofs.files.lines_of.Goals as goal

pub returns : goal.returns
returns c =
    let columns = c.as_slice-columns.ensures.value in
    let others = c.as_slice-others.ensures.value in
    let told = ap (map unlike_view) c.as_slice.ensures.value in
    IfOk-weaker c.unlike_lines.result _ _
    (λ lines are. are_lines c.in_ok-first.first c.in_ok-other.other _ c.in_ok-first.ensures c.in_ok-other.ensures c.new-weights.ensures columns others c.in_ok-unlike.ensures told are)
    c.unlike_lines.ensures
