use Rattle.std.proofs.Common.{◌≡◌, [], None, IfOk, map, sym, subst, inl, inr, if◌then◌else◌, unwrap_or}
use Rattle.std.proofs.lemmas.Result.{IfOk-weaker}
use Rattle.json.specs.Json.{null}
use Rattle.arrow_columns.specs.Column.{column_tree}
use Rattle.crs_identity.specs.Forms.{json_in}
use Rattle.geoparquet.specs.Facts.{facts_behind, facts_view}
use Rattle.geoparquet.specs.Findings.{finding}
use Rattle.geoparquet.specs.GeoColumns.{AreGeoColumns}
use Rattle.geoparquet.specs.GeoFindings.{AreTextFindings}
use Rattle.geoparquet.specs.Sources.{element_view, with_elements}
use Rattle.geoparquet.proofs.Answered.{both}
use Rattle.geoparquet.proofs.Utf8.{utf8_is, utf8_is_not}
use Rattle.geoparquet.proofs.inspect.value_answer.Goals as goal

pub returns-in-Ok-clause-findings : goal.returns-in-Ok-clause-findings
returns-in-Ok-clause-findings c =
    let text = c.in-Ok.ensures.cases in
    let columns = map column_tree c.args.columns.items in
    let all = with_elements columns (map element_view c.args.elements.now) in
    IfOk-weaker c.text_answer.result _ _
    (λ answer are. inl (text.1, subst (λ s. AreTextFindings s columns all answer.report.version (map finding answer.report.findings.items)) text.0 are))
    c.text_answer.ensures.findings

pub returns-in-Ok-clause-facts : goal.returns-in-Ok-clause-facts
returns-in-Ok-clause-facts c =
    let bytes = c.args.bytes.now in
    let all = with_elements (map column_tree c.args.columns.items) (map element_view c.args.elements.now) in
    let text = c.in-Ok.ensures.cases in
    subst (λ b. IfOk c.text_answer.result (λ answer. map facts_view answer.facts.items ≡ facts_behind (unwrap_or (if b then json_in bytes else None) null) [] all)) (sym (utf8_is bytes text.1))
    (subst (λ s. IfOk c.text_answer.result (λ answer. map facts_view answer.facts.items ≡ facts_behind (unwrap_or (json_in s) null) [] all)) text.0 c.text_answer.ensures.facts)

pub returns-in-Ok-clause-columns : goal.returns-in-Ok-clause-columns
returns-in-Ok-clause-columns c =
    let bytes = c.args.bytes.now in
    let all = with_elements (map column_tree c.args.columns.items) (map element_view c.args.elements.now) in
    let text = c.in-Ok.ensures.cases in
    subst (λ b. IfOk c.text_answer.result (λ answer. AreGeoColumns (unwrap_or (if b then json_in bytes else None) null) [] all (map column_tree answer.columns.items))) (sym (utf8_is bytes text.1))
    (subst (λ s. IfOk c.text_answer.result (λ answer. AreGeoColumns (unwrap_or (json_in s) null) [] all (map column_tree answer.columns.items))) text.0 c.text_answer.ensures.columns)

pub returns-in-Err-clause-findings : goal.returns-in-Err-clause-findings
returns-in-Err-clause-findings c =
    let said = c.unread_answer.ensures in
    IfOk-weaker c.unread_answer.result _ _ (λ answer are. inr (c.in-Err.ensures.cases.0, are.0, are.1)) (both c.unread_answer.result _ _ said.version said.findings)

pub returns-in-Err-clause-facts : goal.returns-in-Err-clause-facts
returns-in-Err-clause-facts c =
    let bytes = c.args.bytes.now in
    let all = with_elements (map column_tree c.args.columns.items) (map element_view c.args.elements.now) in
    subst (λ b. IfOk c.unread_answer.result (λ answer. map facts_view answer.facts.items ≡ facts_behind (unwrap_or (if b then json_in bytes else None) null) [] all))
    (sym (utf8_is_not bytes c.in-Err.ensures.cases.0)) c.unread_answer.ensures.facts

pub returns-in-Err-clause-columns : goal.returns-in-Err-clause-columns
returns-in-Err-clause-columns c =
    let bytes = c.args.bytes.now in
    let all = with_elements (map column_tree c.args.columns.items) (map element_view c.args.elements.now) in
    subst (λ b. IfOk c.unread_answer.result (λ answer. AreGeoColumns (unwrap_or (if b then json_in bytes else None) null) [] all (map column_tree answer.columns.items)))
    (sym (utf8_is_not bytes c.in-Err.ensures.cases.0)) c.unread_answer.ensures.columns
