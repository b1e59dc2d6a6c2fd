use Rattle.std.proofs.Common.{ap, map, option_and_then, option_map, sym, take, ◌∙◌}
use Rattle.json.specs.Find.{as_object}
use Rattle.json.specs.Value.{value_view}
use Rattle.geoparquet.specs.Facts.{column_facts, if_object}
use Rattle.geoparquet.specs.GeoColumns.{left_for}
use Rattle.geoparquet.specs.Ordered.{columns_of, members_in}
use Rattle.geoparquet.specs.Sources.{sourced}
use Rattle.geoparquet.specs.Undeclared.{is_covered}
use Rattle.geoparquet.specs.Versions.{version_of}
use Rattle.geoparquet.proofs.FactLists.{facts_end, facts_next, readable, tree_of, trees_more}
use Rattle.geoparquet.proofs.Marking.{left_is_read, tree_left_behind}
use Rattle.geoparquet.proofs.facts.facts_by.Goals as goal

pub if_object-member-requires : goal.if_object-member-requires
if_object-member-requires c =
    let j = value_view c.args.value.now in
    let name = (tree_of c.it-item.result).name in
    let before = map tree_of (take c.columns.it-index c.args.all.now) in
    let left = ap (option_map (λ v. value_view v.now)) (rw c.as_str-name.ensures.value at c.remove.ensures.value) ∙ c.columns.invariant.left name in
    readable c.remove.result (left_is_read j before name c.remove.result c.requires left)

pub columns-preserved : goal.columns-preserved
columns-preserved c =
    let j = value_view c.args.value.now in
    let ss = c.args.all.now in
    let i = c.columns.it-index in
    let s = c.it-item.result in
    let name = (tree_of s).name in
    let before = map tree_of (take i ss) in
    let left = ap (option_map (λ v. value_view v.now)) (rw c.as_str-name.ensures.value at c.remove.ensures.value) ∙ c.columns.invariant.left name in
    let member = c.if_object-member.ensures.value ∙ ap if_object left in
    let named = rw c.as_str-name.ensures.value at c.contains_key-is_covered.ensures in
    let all = c.in_ok-by_key.ensures ∙ ap (λ o. members_in (option_and_then as_object o)) c.member_of-columns.ensures.value in
    let covered = named ∙ c.in_ok-covered.ensures name ∙ ap (is_covered name) all in
    let own = option_map (λ w. value_view w.now) c.if_object-member.result in
    let said = c.in_ok-facts.ensures ∙ ap (λ v. column_facts v c.contains_key-is_covered.result own (tree_of s) (sourced s).1) c.version_of-version.ensures
    ∙ ap (λ b. column_facts (version_of j) b own (tree_of s) (sourced s).1) covered ∙ ap (λ m. column_facts (version_of j) (is_covered name (columns_of j)) m (tree_of s) (sourced s).1) member in
    let behind = tree_left_behind j before (tree_of s) c.columns.members c.remove.new.self (rw c.as_str-name.ensures.value at c.remove.ensures.updates) c.columns.invariant.left in
    record {
      left = λ n. behind n ∙ ap (λ ts. left_for j ts n) (sym (trees_more ss i s c.columns-test.true c.it-item.is));
      so_far = facts_next j ss i c.columns.made.items c.columns.invariant.so_far s c.in_ok-facts.facts c.push.new.self.items c.columns-test.true c.it-item.is c.in_ok-push.ensures.items said;
    }

pub returns : goal.returns
returns c = facts_end (value_view c.args.value.now) c.args.all.now c.columns.it-index c.columns.made.items c.columns.invariant.so_far c.columns-test.false
