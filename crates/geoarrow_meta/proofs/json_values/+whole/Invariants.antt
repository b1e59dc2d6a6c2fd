use Rattle.std.proofs.Common.{◌≡◌, drop}
use Rattle.std.specs.List.Sorted.{IsStrictlySortedBy}
use Rattle.std.specs.Map.{keys_of}
use Rattle.std.specs.String.{string_cmp}
use Rattle.serde_json.specs.View.{items_view, members_view}
use Rattle.serde_json.specs.Written.{items_have_float, members_have_float}
use Rattle.geoarrow_meta.specs.Whole.{items_are_whole, members_are_whole}
use Rattle.geoarrow_meta.proofs.json_values.+whole.Given as goal

-- what is left decides
abbrev pub invariant-items_hold_whole-loop-item : goal.invariant-items_hold_whole-loop-item
invariant-items_hold_whole-loop-item l = record {
  integers : items_are_whole (items_view l.items.items) ≡ items_are_whole (items_view (drop l.item-index l.item-items));
  no_float : items_have_float (items_view l.items.items) ≡ items_have_float (items_view (drop l.item-index l.item-items));
}

abbrev pub invariant-members_hold_whole-loop-key : goal.invariant-members_hold_whole-loop-key
invariant-members_hold_whole-loop-key l = record {
  ordered : IsStrictlySortedBy string_cmp (keys_of l._key-iterator);
  integers : members_are_whole (members_view l.members.entries) ≡ members_are_whole (members_view l._key-iterator);
  no_float : members_have_float (members_view l.members.entries) ≡ members_have_float (members_view l._key-iterator);
}
