use Rattle.std.proofs.Common.{codes, Some}
use Rattle.std.proofs.lemmas.Result.{on_ok_weaker}
use Rattle.value_tokens.specs.Values.{or_null}
use Rattle.value_tokens.proofs.Adding.{sent}
use Rattle.column_reports.specs.Objects.{member_if, string_if}
use Rattle.column_reports.proofs.Adding.{then, named, for}
use Rattle.column_reports.proofs.fact_members.put_crs_fact.Goals as goal

pub returns : goal.returns
returns c =
    let crs = for (λ v. member_if (codes "crs") (Some (or_null v))) (named (sent c.in_ok-key.ensures) c.in_ok-put_json.ensures) c.as_ref.ensures.value in
    let type = for (string_if (codes "crs_type")) c.in_ok-put_text_if.ensures c.as_deref.ensures.value in
    on_ok_weaker c.put_text.result (λ t. then (then crs type) (for (λ s. string_if (codes "crs_from") (Some s)) t c.word.ensures)) c.put_text.ensures
