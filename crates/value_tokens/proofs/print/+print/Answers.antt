use Rattle.std.proofs.Common.{◌≡◌, ◌+◌, [], ◌∷◌, ◌++◌, Some, false, drop, string_bytes, string_cmp, option_and_then, sym, ap, ◌∙◌, subst, arith, append_assoc, append-nil}
use Rattle.std.proofs.lemmas.Bool.{or_parts}
use Rattle.std.proofs.lemmas.List.{drop_more, drop_all}
use Rattle.std.proofs.lemmas.Result.{on_ok_weaker}
use Rattle.std.specs.List.Sorted.{IsStrictlySortedBy}
use Rattle.std.specs.Map.{keys_of}
use Rattle.json.specs.Tree.{members_tokens}
use Rattle.serde_json.specs.Data.{put}
use Rattle.serde_json.specs.Read.{of_members}
use Rattle.serde_json.specs.View.{view, items_view, members_view}
use Rattle.serde_json.specs.Written.{members_outline, has_float, items_have_float, members_have_float}
use Rattle.serde_json.proofs.Views.{Entry, put_last}
use Rattle.value_tokens.specs.Adds.{Adds, PrintsItems}
use Rattle.value_tokens.proofs.Adding.{added, sent, then, prints_end, prints_item}
use Rattle.value_tokens.proofs.print.+print.Goals as goal

pub print_items-loop-item-preserved : goal.print_items-loop-item-preserved
print_items-loop-item-preserved t c =
    let l = c.loop-item in
    let xs = c.deref-item-items.result.now in
    let x = c.item-item.result in
    let here : drop l.item-index xs ≡ x ∷ drop (l.item-index + 1) xs = drop_more xs l.item-index x (omega arith) ∙ ap (λ y. y ∷ drop (l.item-index + 1) xs) (sym c.item-item.is) in
    record {
      no_float = (or_parts (has_float (view x)) _ (subst (λ vs. items_have_float (items_view vs) ≡ false) here l.invariant.no_float)).1;
      prints = λ end rest. l.invariant.prints end (subst (λ vs. PrintsItems (items_view vs) l.out end) (sym here) (prints_item c.in_ok-print_value.ensures rest));
    }

pub print_items-returns : goal.print_items-returns
print_items-returns t c =
    let l = c.loop-item in
    let xs = c.deref-item-items.result.now in
    let end = c.end_array.new.self in
    let none : drop l.item-index xs ≡ [] = drop_all l.item-index xs (omega arith) in
    on_ok_weaker c.end_array.result (λ e.
    subst (λ vs. PrintsItems (items_view vs) c.args.out.now end) c.deref-item-items.ensures.value
    (l.invariant.prints end (subst (λ vs. PrintsItems (items_view vs) l.out end) (sym none) (prints_end e)))
    ) (added c.end_array.result _ _ _ c.end_array.ensures)

pub print_members-loop-key-preserved : goal.print_members-loop-key-preserved
print_members-loop-key-preserved t c =
    let l = c.loop-key in
    let done = l.invariant.done in
    let e : Entry = (c.in-Some.key.now, c.in-Some.member.now) in
    let k = string_bytes c.in-Some.key.now in
    let left = c.next.new.self in
    let step : l.key-iterator ≡ e ∷ left = c.in-Some.ensures.steps in
    let all : c.args.members.now.entries ≡ done ++ e ∷ left = l.invariant.all ∙ ap (λ es. done ++ es) step in
    let last = put_last done e left (subst (λ es. IsStrictlySortedBy string_cmp (keys_of es)) all c.iter-key-items.ensures.ordered) in
    record {
      no_float = (or_parts (has_float (view c.in-Some.member.now)) _ (subst (λ es. members_have_float (members_view es) ≡ false) step l.invariant.no_float)).1;
      done = done ++ e ∷ [];
      all = all ∙ sym (append_assoc done (e ∷ []) left);
      prints = λ end rest back.
          let this = then (sent c.in_ok-key.ensures) (then c.in_ok-print_value.ensures.adds rest) in
          l.invariant.prints end (subst (λ es. Adds (members_tokens (members_outline (members_view es))) l.out end) (sym step) (rw (← c.as_str.ensures.value) this))
          (ap (λ es. of_members (members_outline (members_view es)) (members_view done)) step
          ∙ ap (option_and_then (λ d. of_members (members_outline (members_view left)) (put k d (members_view done)))) c.in_ok-print_value.ensures.reads_back
          ∙ ap (of_members (members_outline (members_view left))) last ∙ back);
    }

pub print_members-returns : goal.print_members-returns
print_members-returns t c =
    let l = c.loop-key in
    let end = c.end_object.new.self in
    let none = c.in-None.ensures.steps.0 in
    let all : c.args.members.now.entries ≡ l.invariant.done = l.invariant.all ∙ ap (λ es. l.invariant.done ++ es) none ∙ append-nil l.invariant.done in
    on_ok_weaker c.end_object.result (λ e.
    l.invariant.prints end (subst (λ es. Adds (members_tokens (members_outline (members_view es))) l.out end) (sym none) e)
    (ap (λ es. of_members (members_outline (members_view es)) (members_view l.invariant.done)) none ∙ ap (λ es. Some (members_view es)) (sym all))
    ) (added c.end_object.result _ _ _ c.end_object.ensures)
