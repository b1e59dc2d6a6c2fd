use Rattle.std.proofs.Common.{codes, Some}
use Rattle.std.proofs.lemmas.Result.{on_ok_weaker}
use Rattle.column_reports.specs.Objects.{string_if}
use Rattle.column_reports.proofs.Adding.{then, for}
use Rattle.column_reports.proofs.line.put_state.Goals as goal

pub returns : goal.returns
returns c =
    let state = for (λ s. string_if (codes "state") (Some s)) c.in_ok-put_text.ensures c.state_word.ensures in
    let from = for (string_if (codes "type_from")) c.in_ok-put_text_if.ensures c.encoding_word.ensures in
    let before = then (then state c.in_ok-put_text-2.ensures) from in
    on_ok_weaker c.put_text_if-2.result (λ name. then before (for (string_if (codes "extension")) name c.extension_type_name.ensures)) c.put_text_if-2.ensures
