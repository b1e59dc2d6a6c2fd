use Rattle.std.proofs.Common.{◌≡◌, Err, [], Option, None, IfOk, cond, is_some, map, sym, ap, subst, inl, unwrap_or}
use Rattle.std.proofs.lemmas.Result.{IfOk-weaker}
use Rattle.json.specs.Json.{document, null}
use Rattle.json.specs.Value.{value_view}
use Rattle.serde_json.specs.Data.{Data}
use Rattle.arrow_columns.specs.Column.{column_tree}
use Rattle.geoparquet.specs.Facts.{facts_behind, facts_view}
use Rattle.geoparquet.specs.GeoColumns.{AreGeoColumns}
use Rattle.geoparquet.specs.Sources.{element_view, with_elements}
use Rattle.geoparquet.proofs.Answered.{both}
use Rattle.geoparquet.proofs.Claims.{json_read}
use Rattle.geoparquet.proofs.inspect.text_answer.Goals as goal

pub json_answer-requires-clause-read : goal.json_answer-requires-clause-read
json_answer-requires-clause-read c = (c.in-Ok.ensures.readable, (c.in-Ok.ensures.read.0, c.in-Ok.ensures.read.1))

pub returns-in-Ok-clause-facts : goal.returns-in-Ok-clause-facts
returns-in-Ok-clause-facts c =
    let all = with_elements (map column_tree c.args.columns.items) (map element_view c.args.elements.now) in
    subst (λ o. IfOk c.json_answer.result (λ answer. map facts_view answer.facts.items ≡ facts_behind (unwrap_or o null) [] all))
    (json_read c.args.geo.now (value_view c.in-Ok.json) c.in-Ok.ensures.tokens c.in-Ok.ensures.readable c.in-Ok.ensures.read) c.json_answer.ensures.facts

pub returns-in-Ok-clause-columns : goal.returns-in-Ok-clause-columns
returns-in-Ok-clause-columns c =
    let all = with_elements (map column_tree c.args.columns.items) (map element_view c.args.elements.now) in
    subst (λ o. IfOk c.json_answer.result (λ answer. AreGeoColumns (unwrap_or o null) [] all (map column_tree answer.columns.items)))
    (json_read c.args.geo.now (value_view c.in-Ok.json) c.in-Ok.ensures.tokens c.in-Ok.ensures.readable c.in-Ok.ensures.read) c.json_answer.ensures.columns

pub returns-in-Err-Text-clause-findings : goal.returns-in-Err-Text-clause-findings
returns-in-Err-Text-clause-findings c =
    let none = c.in-Err-Text.ensures.text (ap Err c.in-Err-Text.field-0-is) in
    let said = c.unread_answer.ensures in
    IfOk-weaker c.unread_answer.result _ _ (λ answer are. inl (none, are.0, are.1)) (both c.unread_answer.result _ _ said.version said.findings)

pub returns-in-Err-Text-clause-facts : goal.returns-in-Err-Text-clause-facts
returns-in-Err-Text-clause-facts c =
    let all = with_elements (map column_tree c.args.columns.items) (map element_view c.args.elements.now) in
    let none = ap (λ (o : Option Data). cond (is_some o) (document c.args.geo.now) None) (c.in-Err-Text.ensures.text (ap Err c.in-Err-Text.field-0-is)) in
    subst (λ o. IfOk c.unread_answer.result (λ answer. map facts_view answer.facts.items ≡ facts_behind (unwrap_or o null) [] all)) (sym none) c.unread_answer.ensures.facts

pub returns-in-Err-Text-clause-columns : goal.returns-in-Err-Text-clause-columns
returns-in-Err-Text-clause-columns c =
    let all = with_elements (map column_tree c.args.columns.items) (map element_view c.args.elements.now) in
    let none = ap (λ (o : Option Data). cond (is_some o) (document c.args.geo.now) None) (c.in-Err-Text.ensures.text (ap Err c.in-Err-Text.field-0-is)) in
    subst (λ o. IfOk c.unread_answer.result (λ answer. AreGeoColumns (unwrap_or o null) [] all (map column_tree answer.columns.items))) (sym none) c.unread_answer.ensures.columns
