use Rattle.std.proofs.Common.{◌≡◌, false, ◌++◌, drop, List, Some}
use Rattle.json.specs.Tree.{members_tokens}
use Rattle.json.specs.Written.{Written}
use Rattle.serde_json.specs.Read.{of_members}
use Rattle.serde_json.specs.View.{items_view, members_view}
use Rattle.serde_json.specs.Written.{members_outline, items_have_float, members_have_float}
use Rattle.serde_json.proofs.Views.{Entry}
use Rattle.value_tokens.specs.Adds.{Adds, PrintsItems, PrintsMembers}
use Rattle.value_tokens.proofs.print.+print.Given as goal

-- what prints the items that are left prints all from the start
abbrev pub invariant-print_items-loop-item : goal.invariant-print_items-loop-item
invariant-print_items-loop-item l = record {
  no_float : items_have_float (items_view (drop l.item-index l.item-items)) ≡ false;
  prints : (end : Written) → PrintsItems (items_view (drop l.item-index l.item-items)) l.out end → PrintsItems (items_view l.item-items) l.initial.out end;
}

-- what prints the members that are left, and reads them back after those that are done, prints all from the start
abbrev pub invariant-print_members-loop-key : goal.invariant-print_members-loop-key
invariant-print_members-loop-key l = record {
  no_float : members_have_float (members_view l.key-iterator) ≡ false;
  done : List Entry;
  all : l.members.entries ≡ done ++ l.key-iterator;
  prints : (end : Written) → Adds (members_tokens (members_outline (members_view l.key-iterator))) l.out end
      → of_members (members_outline (members_view l.key-iterator)) (members_view done) ≡ Some (members_view l.members.entries) → PrintsMembers (members_view l.members.entries) l.initial.out end;
}
