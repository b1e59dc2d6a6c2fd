use Rattle.std.proofs.Common.{codes}
use Rattle.std.proofs.lemmas.Result.{on_ok_weaker}
use Rattle.column_reports.specs.FindingLines.{path_if}
use Rattle.column_reports.specs.Objects.{string_if, number_if}
use Rattle.column_reports.proofs.Adding.{then, for}
use Rattle.column_reports.proofs.finding_json.put_place.Goals as goal

pub returns : goal.returns
returns c =
    let column = for (string_if (codes "column")) c.in_ok-put_text_if.ensures c.column.ensures in
    let path = for path_if c.in_ok-put_path.ensures c.path.ensures in
    let part = for (string_if (codes "in")) c.in_ok-put_text_if-2.ensures c.part.ensures in
    let pointer = for (string_if (codes "pointer")) c.in_ok-put_text_if-3.ensures c.pointer.ensures in
    on_ok_weaker c.put_number_if.result
    (λ byte. then (then (then (then column path) part) pointer) (for (number_if (codes "byte")) byte c.byte.ensures)) c.put_number_if.ensures
