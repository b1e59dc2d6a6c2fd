use Rattle.std.proofs.Common.{◌≡◌, ◌≢◌, ◌++◌, All, codes, option_map, sym, ap, ◌∙◌, subst}
use Rattle.std.specs.Str.{IsUtf8}
use Rattle.std.proofs.lemmas.Str.{IsUtf8-nil}
use Rattle.json.specs.Print.{print}
use Rattle.json.specs.Tree.{json_tokens}
use Rattle.arrow_values.specs.Texts.{text_of}
use Rattle.arrow_columns.specs.Column.{column_tree}
use Rattle.value_tokens.specs.Adds.{Adds}
use Rattle.value_tokens.proofs.Adding.{sent, whole_text}
use Rattle.column_check.specs.States.{geometry_in}
use Rattle.geoparquet.specs.Facts.{facts_view}
use Rattle.column_reports.specs.FactMembers.{facts_in}
use Rattle.column_reports.specs.FindingLines.{findings_in}
use Rattle.column_reports.specs.Objects.{member_if}
use Rattle.column_reports.specs.Report.{type_word, state_of, crs_of, more_facts_of, report}
use Rattle.column_reports.proofs.Adding.{then, object, for}
use Rattle.column_reports.proofs.line.json_line.Goals as goal

pub text_of-requires : goal.text_of-requires
text_of-requires c =
    let before = then (then c.in_ok-put_names.ensures c.in_ok-put_state.ensures) c.in_ok-put_crs_and_edges.ensures in
    let members = then (then before c.in_ok-put_facts.ensures) c.in_ok-put_findings.ensures in
    let all = object (sent c.in_ok-begin_object.ensures) members (sent c.in_ok-end_object.ensures) in
    subst IsUtf8 (sym (all.before ∙ c.new-out.ensures.before ∙ c.in_ok-with_capacity.ensures.items)) IsUtf8-nil

pub returns : goal.returns
returns c =
    let said = c.args.said.now in
    let tree = column_tree said.column in
    let f = said.finding in
    let found = c.geometry-geometry.ensures in
    let facts = c.facts_in-facts.ensures ∙ ap (λ g. facts_in g (facts_view said.facts)) found in
    let word = c.as_str.ensures.value ∙ c.in_ok-type_word.ensures ∙ ap (type_word tree) found in
    let state = for (state_of tree f (type_word tree (geometry_in f)))
    (for (λ s. state_of tree f s (option_map (λ fs. facts_view fs.now) c.facts_in-facts.result)) c.in_ok-put_state.ensures word) facts in
    let crs = for crs_of c.in_ok-put_crs_and_edges.ensures facts in
    let own = for (more_facts_of said.by f) c.in_ok-put_facts.ensures facts in
    let shown = for (λ ws. member_if (codes "findings") (findings_in ws)) c.in_ok-put_findings.ensures c.as_slice.ensures.value in
    let end = c.end_object.new.self in
    let tokens = json_tokens (report (text_of c.args.file) c.args.index said) in
    let all : Adds tokens c.new-out.result end = object (sent c.in_ok-begin_object.ensures) (then (then (then (then c.in_ok-put_names.ensures state) crs) own) shown) (sent c.in_ok-end_object.ensures) in
    let none = all.before ∙ c.new-out.ensures.before ∙ c.in_ok-with_capacity.ensures.items in
    let only : end.tokens ≡ tokens = all.tokens ∙ ap (λ ts. ts ++ tokens) c.new-out.ensures.tokens in
    let text = c.text_of.ensures.text in
    record {
      text = whole_text end.before _ end.tokens tokens none only text;
      one_line = subst (All (λ b. b ≢ 10)) (sym (text ∙ ap (λ bytes. bytes ++ print end.tokens) none)) c.text_of.ensures.one_line;
    }
