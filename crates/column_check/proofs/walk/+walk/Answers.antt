use Rattle.std.proofs.Common.{◌≡◌, ◌++◌, cond, [], ◌∷◌, true, false, refl, sym, ap, ap₂, ◌∙◌, arith, rules}
use Rattle.arrow_values.specs.Tree.{depth, fields_depth, members_depth}
use Rattle.arrow_values.specs.View.{field_trees, member_trees}
use Rattle.column_check.specs.Walk.{names_on, own_spots, goes_below, found, found_of, found_among, found_at, code_of, telling, tell_all}
use Rattle.column_check.proofs.Ways.{falls}
use Rattle.column_check.proofs.Telling.{tell_item, tell_more}
use Rattle.column_check.proofs.walk.+walk.Goals as goal

pub push_fields-push_at-requires : goal.push_fields-push_at-requires
push_fields-push_at-requires t c =
    let low = falls (λ f. depth f.tree) (λ fs. fields_depth (field_trees fs)) (λ x xs. refl) _ _ _ refl c.loop-field-test.true c.field-item.is in
    (omega arith, tt)

pub push_members-push_at-requires : goal.push_members-push_at-requires
push_members-push_at-requires t c =
    let low = falls (λ m. depth m.1.tree) (λ ms. members_depth (member_trees ms)) (λ x xs. refl) _ _ _ refl c.loop-member-test.true c.member-item.is in
    (omega arith, tt)

pub push_fields-loop-field-preserved : goal.push_fields-loop-field-preserved
push_fields-loop-field-preserved t c =
    let sought = c.args.sought in
    let way = names_on c.args.way.now in
    let now = telling c.loop-field.warnings.items c.loop-field.rest in
    tell_item (code_of sought) (λ fs. found_of sought way (field_trees fs)) (λ f. found_at sought way f.nullable f) (λ x xs. refl) now _ _ _ _
    c.field-item.is c.loop-field-test.true (c.in_ok-push_at.ensures ∙ ap (λ b. tell_all (code_of sought) now (found_at sought way b c.field-item.result)) c.is_nullable.ensures) ∙ c.loop-field.invariant

pub push_members-loop-member-preserved : goal.push_members-loop-member-preserved
push_members-loop-member-preserved t c =
    let sought = c.args.sought in
    let way = names_on c.args.way.now in
    tell_item (code_of sought) (λ ms. found_among sought way (member_trees ms)) (λ m. found_at sought way false m.1) (λ x xs. refl) (telling c.loop-member.warnings.items c.loop-member.rest) _ _ _ _
    c.member-item.is c.loop-member-test.true c.in_ok-push_at.ensures ∙ c.loop-member.invariant

pub push_at-returns : goal.push_at-returns
push_at-returns t c =
    let sought = c.args.sought in
    let code = code_of sought in
    let field = c.args.field.now in
    let way = names_on c.args.way.now in
    let old = telling c.args.warnings.now.items c.args.rest.now in
    let between = telling c.tell_own.new.warnings.items c.tell_own.new.rest in
    let own = own_spots sought (way ++ field.name ∷ []) c.args.nullable field.metadata in
    let inside = found sought (way ++ field.name ∷ []) field.tree in
    let first = c.in_ok-tell_own.ensures ∙ ap (λ n. tell_all code old (own_spots sought (way ++ n ∷ []) c.args.nullable field.metadata)) c.name.ensures in
    let behind = c.in_ok-push_found.ensures ∙ ap₂ (λ n u. tell_all code between (found sought (way ++ n ∷ []) u)) c.name.ensures c.data_type.ensures in
    let goes : goes_below sought c.args.nullable ≡ true = search rules in
    behind ∙ ap (λ told. tell_all code told inside) first ∙ sym (tell_more code old own inside)
    ∙ ap (λ b. tell_all code old (own ++ cond b inside [])) (sym goes)
