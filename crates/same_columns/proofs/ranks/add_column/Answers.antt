use Rattle.std.proofs.Common.{[], ◌∷◌, ◌++◌, map, ap, sym, subst, ◌∙◌}
use Rattle.std.proofs.lemmas.List.{map-append}
use Rattle.same_columns.specs.Ranks.{AreNamed, ranked_view}
use Rattle.same_columns.specs.declared.ranks.Ranked.{Ranked as RankedColumn}
use Rattle.same_columns.proofs.Naming.{one_more}
use Rattle.same_columns.proofs.ranks.add_column.Goals as goal

pub returns-clause-named : goal.returns-clause-named
returns-clause-named c = λ are.
    let column : RankedColumn = record { place = c.len.result; before = c.len-2.result; report = c.args.report } in
    let x = ranked_view column in
    let made = ap (map ranked_view) c.in_ok-push.ensures.items ∙ map-append ranked_view c.taken-of_name.result.items (column ∷ []) ∙ ap (λ ys. ys ++ x ∷ []) c.taken-of_name.ensures.taken in
    let all = ap (map ranked_view) c.in_ok-push-2.ensures.items ∙ map-append ranked_view c.args.all.now.items (column ∷ []) in
    subst (λ ys. AreNamed ys c.insert.new.self) (sym all)
    (one_more (map ranked_view c.args.all.now.items) x c.as_str-name.result.now c.args.by_name.now c.taken-of_name.new.by_name c.insert.new.self c.push.new.self
    (sym c.as_str-name.ensures.value) c.taken-of_name.ensures.left made c.in_ok-insert.ensures.updates are)
