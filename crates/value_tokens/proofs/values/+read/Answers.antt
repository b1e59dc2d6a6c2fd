use Rattle.std.proofs.Common.{[], ◌∷◌, Some, ap, ◌∙◌, append_assoc, append-nil, arith}
use Rattle.json.specs.Json.{parse_map}
use Rattle.json.proofs.Grammar.{read_key-shorter}
use Rattle.serde_json.specs.Data.{item}
use Rattle.serde_json.specs.View.{view, items_view}
use Rattle.value_tokens.proofs.Turns.{item_read, items_over, member_read}
use Rattle.value_tokens.proofs.values.+read.Goals as goal

pub read_items-items-preserved : goal.read_items-items-preserved
read_items-items-preserved t c =
    let l = c.items in
    let v = c.in_ok-item.item in
    let turn = item_read c.args.depth l.reader c.read_value.new.reader (view v) (grind arith) (grind (arith, c.in_ok-item.ensures.ok)) in
    record {
      some = λ rest r e. rw (c.in_ok-push.ensures.items, append_assoc l.found.items (v ∷ []) rest) (l.invariant.some (v ∷ rest) r (turn ∙ ap (parse_map (item (view v))) e));
      none = λ e. l.invariant.none (turn ∙ ap (parse_map (item (view v))) e);
      fewer = grind arith;
    }

pub read_items-returns-clause-ok : goal.read_items-returns-clause-ok
read_items-returns-clause-ok t c =
    let l = c.items in
    let r = c.take_end_array.new.self in
    l.invariant.some [] r (items_over c.args.depth l.reader r (grind arith)) ∙ ap (λ vs. Some (items_view vs, r)) (append-nil l.found.items)

pub read_members-members-preserved : goal.read_members-members-preserved
read_members-members-preserved t c = record { decides = grind (arith, member_read, c.in_ok-put_member.ensures); fewer = grind (arith, read_key-shorter) }
