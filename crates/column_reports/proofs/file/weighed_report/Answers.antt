use Rattle.std.proofs.Common.{refl, map, ap, ap₂, subst, ◌∙◌, rules}
use Rattle.arrow_columns.specs.Column.{column_tree}
use Rattle.parquet_columns.specs.Layouts.{root_element}
use Rattle.std.specs.List.{zip}
use Rattle.geoparquet.specs.Facts.{facts_of}
use Rattle.geoparquet.specs.Findings.{finding}
use Rattle.geoparquet.specs.GeoColumns.{AreColumnsBy}
use Rattle.geoparquet.specs.GeoFindings.{AreGeoFindings}
use Rattle.geoparquet.specs.Sources.{source}
use Rattle.column_reports.specs.ByColumn.{names_of}
use Rattle.column_reports.specs.Capped.{kept_of_file}
use Rattle.column_reports.specs.FileReport.{AreReported, is_lines, source_in}
use Rattle.column_reports.specs.Gathered.{of_file, told_before, told_behind}
use Rattle.column_reports.specs.Named.{all_known, all_named, named_view, nobody_where}
use Rattle.column_reports.specs.Weighed.{weighed}
use Rattle.column_reports.specs.Weights.{weighing}
use Rattle.column_reports.proofs.file.weighed_report.Goals as goal

pub returns : goal.returns
returns c =
    let answer = c.in_ok-answer.answer in
    let said = c.in_ok-answer.ensures in
    let given = map column_tree c.args.opened.columns.items in
    let made = map column_tree answer.columns.items in
    record {
      form = refl;
      by = made;
      are_by =
          subst (λ s. AreColumnsBy s given (map root_element c.args.opened.elements.items) made) c.source_of-source.ensures
          (subst (λ es. AreColumnsBy (source c.source_of-source.result) given (map root_element es) made) c.as_slice-3.ensures.value said.columns);
      columns =
          let facts = said.facts ∙ ap (λ s. facts_of s given (map root_element c.as_slice-3.result.now)) c.source_of-source.ensures
          ∙ ap (λ es. facts_of (source_in c.args.opened.form c.args.opened.geo) given (map root_element es)) c.as_slice-3.ensures.value in
          let named = c.in_ok-named.ensures ∙ ap (λ rs. nobody_where rs (all_named (map column_tree c.as_slice.result.now) (map root_element c.as_slice-2.result.now))) c.as_slice-flags.ensures.value
          ∙ ap (λ cs. nobody_where c.args.opened.refuted.items (all_named (map column_tree cs) (map root_element c.as_slice-2.result.now))) c.as_slice.ensures.value
          ∙ ap (λ es. nobody_where c.args.opened.refuted.items (all_named given (map root_element es))) c.as_slice-2.ensures.value in
          let known = ap (λ fs. all_known fs (map named_view c.in_ok-named.named.items)) facts
          ∙ ap (all_known (facts_of (source_in c.args.opened.form c.args.opened.geo) given (map root_element c.args.opened.elements.items))) named in
          let names = ap (λ cs. names_of (map column_tree cs)) c.as_slice-4.ensures.value in
          let before = c.in_ok-before.ensures.before ∙ ap (λ ns. told_before ns c.args.opened.findings.items) names in
          let behind = c.in_ok-before.ensures.behind ∙ ap (λ ns. told_behind c.args.opened.form ns c.args.opened.findings.items answer.report) names in
          subst (λ ks. AreReported c.args.infer (weighing c.args.weights.now) (is_lines c.args.opened.form) ks c.in_ok-columns.columns.items)
          (ap₂ (λ ks ts. zip (zip made ks) ts) known (ap₂ zip before behind)) (rw c.is_lines.ensures at c.in_ok-columns.ensures);
      geo = answer.report;
      is_geo =
          let v = answer.report.version in
          let fs = map finding answer.report.findings.items in
          subst (λ s. AreGeoFindings s given (map root_element c.args.opened.elements.items) v fs) c.source_of-source.ensures
          (subst (λ es. AreGeoFindings (source c.source_of-source.result) given (map root_element es) v fs) c.as_slice-3.ensures.value said.findings);
      findings =
          c.in_ok-findings.ensures ∙ ap kept_of_file (c.in_ok-shown.ensures ∙ ap (weighed (weighing c.args.weights.now)) (c.in_ok-before.ensures.file
          ∙ ap (λ cs. of_file c.args.opened.form (names_of (map column_tree cs)) c.args.opened.texts.items c.args.opened.findings.items answer.report) c.as_slice-4.ensures.value));
      bad_lines = refl;
      summary = record { geometry = search rules; failed = search rules; bad_lines = search rules };
    }
