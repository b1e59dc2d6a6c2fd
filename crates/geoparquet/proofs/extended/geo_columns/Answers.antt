use Rattle.std.proofs.Common.{[], ◌∷◌, ◌++◌, map, option_map, ap, sym, subst, ◌∙◌}
use Rattle.std.proofs.lemmas.List.{map-append}
use Rattle.json.specs.Value.{value_view}
use Rattle.arrow_columns.specs.Column.{column_tree}
use Rattle.geoparquet.specs.GeoColumns.{AreGeoColumns, IsGeoColumn}
use Rattle.geoparquet.specs.Sources.{element_view, with_elements}
use Rattle.geoparquet.specs.Versions.{version_of}
use Rattle.geoparquet.proofs.Marking.{IsSplit, left_behind, left_is_read, one_pushed, split_behind}
use Rattle.geoparquet.proofs.extended.geo_columns.Goals as goal

pub geo_column-requires : goal.geo_column-requires
geo_column-requires c =
    let j = value_view c.args.value.now in
    let name = (column_tree c.in-Some.column).name in
    let left = ap (option_map (λ v. value_view v.now)) (rw c.as_str.ensures.value at c.remove-member.ensures.value) ∙ c.loop-column.invariant.left name in
    left_is_read j (map column_tree c.loop-column.yielded) name c.remove-member.result c.requires left

pub loop-column-preserved : goal.loop-column-preserved
loop-column-preserved c =
    let j = value_view c.args.value.now in
    let way = c.loop-column.invariant in
    let before = map column_tree c.loop-column.yielded in
    let column = column_tree c.in-Some.column in
    let new = c.in_ok-geo_column.field-0 in
    let es = map element_view c.args.elements.now in
    let said = map element_view c.loop-column.said.now in
    let others = map element_view c.next_element.result.1.now in
    let e = option_map (λ e. element_view e.now) c.next_element.result.0 in
    let next = c.next_element.ensures column in
    let more = sym (map-append column_tree c.loop-column.yielded (c.in-Some.column ∷ [])) in
    let left = ap (option_map (λ v. value_view v.now)) (rw c.as_str.ensures.value at c.remove-member.ensures.value) ∙ way.left column.name in
    let is = subst (λ m. IsGeoColumn (version_of j) m column e (column_tree new)) left
    (subst (λ v. IsGeoColumn v (option_map (λ v. value_view v.now) c.remove-member.result) column e (column_tree new)) c.version_of-version.ensures c.in_ok-geo_column.ensures) in
    let pushed = ap (map column_tree) c.in_ok-push.ensures.items ∙ map-append column_tree c.loop-column.made.items (new ∷ []) in
    let are = one_pushed es said others before column e next way.split j (map column_tree c.loop-column.made.items) (column_tree new) way.so_far is in
    record {
      left = left_behind j c.loop-column.yielded c.in-Some.column c.loop-column.members c.remove-member.new.self (rw c.as_str.ensures.value at c.remove-member.ensures.updates) way.left;
      split = subst (λ cs. IsSplit es cs others) more (split_behind es said others before column e next way.split);
      so_far =
          subst (λ ds. AreGeoColumns j [] (with_elements (map column_tree (c.loop-column.yielded ++ c.in-Some.column ∷ [])) es) ds) (sym pushed)
          (subst (λ cs. AreGeoColumns j [] (with_elements cs es) (map column_tree c.loop-column.made.items ++ column_tree new ∷ [])) more are);
    }
