use Rattle.std.proofs.Common.{◌≡◌, [], ◌∷◌, None, bytes_eq, map, take, string_bytes, subst, sym, ap, ◌∙◌, if◌then◌else◌}
use Rattle.std.proofs.lemmas.List.{map-append}
use Rattle.std.specs.declared.vec.Vec.{Vec}
use Rattle.std.specs.Global.{Global}
use Rattle.arrow_columns.specs.Column.{column_tree}
use Rattle.arrow_values.specs.Tree.{Text}
use Rattle.column_reports.specs.ByColumn.{by_columns, found_at, names_of, or_nothing}
use Rattle.column_reports.specs.declared.finding.Finding.{Finding}
use Rattle.column_reports.proofs.ByColumn.{AreLeft, known_at, names_next, one_taken}
use Rattle.column_reports.proofs.by_column.taken.Goals as goal

pub loop-column-preserved : goal.loop-column-preserved
loop-column-preserved c = λ fs are.
    let cs = c.args.columns.now in
    let i = c.loop-column.column-index in
    let names = names_of (map column_tree cs) in
    let name = string_bytes c.column-item.result.name in
    let items = λ (own : Vec Finding Global). own.items in
    let all = c.loop-column.all.items in
    let more = c.push.new.self.items in
    let old = c.loop-column.named in
    let new = c.own_of.new.named in
    let own = c.own_of.ensures.own ∙ ap (λ q. or_nothing (found_at old q)) c.as_str.ensures.value in
    let left = subst (λ q. (k : Text) → found_at new k ≡ (if bytes_eq q k then None else found_at old k)) c.as_str.ensures.value c.own_of.ensures.left in
    subst (λ ns. AreLeft names ns fs new × (map items more ≡ by_columns ns fs)) (sym (names_next cs i c.column-item.result c.loop-column-test.true c.column-item.is))
    (one_taken names (names_of (map column_tree (take i cs))) name fs old new c.own_of.result.items (map items all) (map items more)
    (known_at cs i c.column-item.result c.loop-column-test.true c.column-item.is) own left
    (ap (map items) c.in_ok-push.ensures.items ∙ map-append items all (c.own_of.result ∷ [])) (c.loop-column.invariant fs are))
