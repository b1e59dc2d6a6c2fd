use Rattle.std.proofs.Common.{map, take, subst, sym, ap, ◌∙◌, ◌≡◌, [], ◌∷◌, ◌++◌, string_bytes, bytes_eq, cond, Some, true, option_map}
use Rattle.std.specs.BTreeMap.{get_by_text}
use Rattle.std.proofs.lemmas.List.{take_more, map-append}
use Rattle.std.proofs.lemmas.Map.Text.{btree_map_updates_text}
use Rattle.arrow_columns.specs.Column.{column_tree}
use Rattle.arrow_columns.specs.Names.{AreNamed, named_at}
use Rattle.arrow_columns.proofs.Named.{put_behind, shown, with_one}
use Rattle.arrow_columns.proofs.names.ColumnNames.new.Goals as goal
use Rattle.arrow_columns.proofs.names.ColumnNames.new.Goals.{in-Some, in-None}

pub columns-preserved : goal.columns-preserved
columns-preserved c =
    let cs = c.args.columns.now in
    let i = c.columns.column-index in
    let item = column_tree c.column-item.result in
    let name = c.as_str-name.result.now in
    let found = shown c.match-get.found in
    let old = named_at c.columns.named name in
    let first : Some found ≡ with_one true item old = elim c.match-get.branch as (λ _. Some found ≡ with_one true item old) [
      | in-Some w ↦ ap (λ f. Some (shown f)) w.found-is ∙ ap (λ o. with_one true item (option_map shown o)) w.in-Some.ensures.value
      | in-None w ↦ ap (λ f. Some (shown f)) w.found-is ∙ ap (λ o. with_one true item (option_map shown o)) w.in-None.ensures.value
    ] in
    let put = btree_map_updates_text (string_bytes c.in_ok-from_str.field-0) c.columns.named c.insert.new.self (Some c.match-get.found) c.in_ok-insert.ensures.updates in
    let put_here = subst (λ key. (q : _) → get_by_text c.insert.new.self q ≡ cond (bytes_eq key q) (Some c.match-get.found) (get_by_text c.columns.named q)) c.in_ok-from_str.ensures.ok put in
    let are = subst (λ key. ((q : _) → get_by_text c.insert.new.self q ≡ cond (bytes_eq key q) (Some c.match-get.found) (get_by_text c.columns.named q)) → Some found ≡ with_one true item (named_at c.columns.named key) → AreNamed (map column_tree (take i cs) ++ item ∷ []) c.insert.new.self)
    (sym c.as_str-name.ensures.value) (λ p f. put_behind (map column_tree (take i cs)) item c.columns.named c.insert.new.self c.match-get.found p f c.columns.invariant) put_here first in
    subst (λ xs. AreNamed xs c.insert.new.self) (sym (map-append column_tree (take i cs) (c.column-item.result ∷ [])) ∙ ap (map column_tree) (sym (take_more cs i _ c.columns-test.true ∙ ap (λ x. take i cs ++ x ∷ []) (sym c.column-item.is)))) are
