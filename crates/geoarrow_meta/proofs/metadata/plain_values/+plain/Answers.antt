use Rattle.std.proofs.Common.{◌≡◌, true, ◌∷◌, ◌++◌, [], length, Some, refl, sym, ap, ◌∙◌, append_assoc, append-nil, arith}
use Rattle.std.proofs.lemmas.Grind.{common_steps}
use Rattle.json.specs.Json.{after_end_array, parse_map, read_key}
use Rattle.json.specs.Lex.{fresh}
use Rattle.serde_json.specs.Data.{item}
use Rattle.serde_json.specs.View.{view, items_view, members_view}
use Rattle.value_tokens.specs.Next.{next_value, next_members}
use Rattle.value_tokens.proofs.Turns.{item_read, items_over, member_read, members_over, value_takes}
use Rattle.geoarrow_meta.specs.PlainTokens.{tokens_left}
use Rattle.geoarrow_meta.proofs.PlainValues.{text_read, null_read, number_read, object_read, array_read, not_ended, item_added, member_put}
use Rattle.geoarrow_meta.proofs.metadata.plain_values.+plain.Goals as goal

pub plain_value-returns-in_ok-from_str-in-Some-clause-value : goal.plain_value-returns-in_ok-from_str-in-Some-clause-value
plain_value-returns-in_ok-from_str-in-Some-clause-value t c =
    text_read c.args.text.now c.args.depth c.args.at c.after_spaces-at.result _ c.after_spaces-at.ensures.same _ c.in_ok-word-in-34.word _ c.in_ok-word-in-34.ensures c.in-Some.is c.in_ok-from_str-in-Some.ensures.ok

pub plain_value-returns-in-None-clause-value : goal.plain_value-returns-in-None-clause-value
plain_value-returns-in-None-clause-value t c =
    null_read c.args.text.now c.args.depth c.args.at c.after_spaces-at.result _ c.after_spaces-at.ensures.same c.in_ok-word-in-34.word c.in_ok-word-in-34.ensures c.in-None.is

pub plain_value-returns-in_ok-members-in-123-clause-value : goal.plain_value-returns-in_ok-members-in-123-clause-value
plain_value-returns-in_ok-members-in-123-clause-value t c =
    object_read c.args.text.now c.args.depth c.args.at c.after_spaces-at.result _ c.after_spaces-at.ensures.same _ c.if-depth-gt0.true (sym c.byte_at.ensures ∙ c.in-123.is) c.in_ok-members-in-123.ensures.members c.in_ok-members-in-123.ensures.within

pub plain_value-returns-in_ok-items-in-91-clause-value : goal.plain_value-returns-in_ok-items-in-91-clause-value
plain_value-returns-in_ok-items-in-91-clause-value t c =
    array_read c.args.text.now c.args.depth c.args.at c.after_spaces-at.result _ c.after_spaces-at.ensures.same _ c.if-depth-gt0-2.true (sym c.byte_at.ensures ∙ c.in-91.is) c.in_ok-items-in-91.ensures.items c.in_ok-items-in-91.ensures.within

pub plain_value-returns-in_ok-number-in_default-clause-value : goal.plain_value-returns-in_ok-number-in_default-clause-value
plain_value-returns-in_ok-number-in_default-clause-value t c =
    number_read c.args.text.now c.args.depth c.args.at c.after_spaces-at.result _ c.after_spaces-at.ensures.same c.in_ok-numeral-in_default.numeral.now _ c.in_ok-numeral-in_default.ensures (grind arith)

pub plain_items-items-preserved : goal.plain_items-items-preserved
plain_items-items-preserved t c =
    let l = c.items in
    let v = c.in_ok-item.item in
    let place = c.in_ok-more.ensures.item c.if-not-more.false in
    let read = ap (next_value c.args.depth) place.2 ∙ c.in_ok-item.ensures.value.0 place.0 place.1 in
    let turn = item_read c.args.depth _ _ (view v) (not_ended c.args.depth _ _ (view v) read) read in
    let pushed : c.push.new.self.items ≡ l.found.items ++ v ∷ [] = grind (arith, common_steps) in (
      record {
        some = λ rest r e. rw (pushed, append_assoc l.found.items (v ∷ []) rest) (l.invariant.0.some (v ∷ rest) r (turn ∙ ap (parse_map (item (view v))) e));
        floats = λ none. let here = c.in_ok-item.ensures.floats none in let before = l.invariant.0.floats here.0 in (before.0, rw pushed (item_added l.found.items v before.1 here.1));
      },
      c.in_ok-item.ensures.value.1,
    )

pub plain_items-returns-then-not-more-clause-items : goal.plain_items-returns-then-not-more-clause-items
plain_items-returns-then-not-more-clause-items t c =
    let l = c.items in
    let left = tokens_left true c.args.text.now c.in_ok-more.place in
    let ended = ap after_end_array (c.in_ok-more.ensures.end c.if-not-more.true) in
    l.invariant.0.some [] left (items_over c.args.depth _ left ended) ∙ ap (λ vs. Some (items_view vs, left)) (append-nil l.found.items)

pub plain_members-members-preserved : goal.plain_members-members-preserved
plain_members-members-preserved t c =
    let l = c.members in
    let named = ap read_key (rw c.in-Some.is at c.in_ok-key.ensures.key) in
    let read = c.in_ok-member.ensures.value.0 fresh refl in
    let left = tokens_left true c.args.text.now c.in_ok-member.next in
    let found = members_view l.found.entries in
    let member = view c.in_ok-member.member in
    let turn = member_read c.args.depth found c.in-Some.name.now _ _ left member named read in (
      record {
        decides = l.invariant.0.decides ∙ turn ∙ ap (λ ms. next_members c.args.depth ms left) (sym c.in_ok-put_member.ensures);
        floats = λ none. let here = c.in_ok-member.ensures.floats none in let before = l.invariant.0.floats here.0 in (before.0, rw c.in_ok-put_member.ensures (member_put c.in-Some.name.now member found before.1 here.1));
      },
      c.in_ok-member.ensures.value.1,
    )

pub plain_members-returns-in_default-clause-members : goal.plain_members-returns-in_default-clause-members
plain_members-returns-in_default-clause-members t c =
    c.members.invariant.0.decides ∙ members_over c.args.depth (members_view c.members.found.entries) _ _ (ap read_key (rw c.in_default.is at c.in_ok-key.ensures.key))

pub plain_items-items-smaller : goal.plain_items-items-smaller
plain_items-items-smaller t c =
    let place = c.in_ok-more.ensures.item c.if-not-more.false in
    omega (arith, ap length place.2, value_takes c.args.depth _ _ _ (c.in_ok-item.ensures.value.0 place.0 place.1))

pub plain_members-members-smaller : goal.plain_members-members-smaller
plain_members-members-smaller t c =
    let key = rw c.in-Some.is at c.in_ok-key.ensures.key in
    omega (arith, ap length key, value_takes c.args.depth _ _ _ (c.in_ok-member.ensures.value.0 fresh refl))
