use Rattle.std.proofs.Common.{◌≡◌, ◌++◌, drop, map}
use Rattle.json.specs.Value.{items_view}
use Rattle.crs_identity.specs.Identifiers.{name_of, of_items}
use Rattle.crs_identity.proofs.identifiers.add_items.Given as goal

abbrev pub invariant-loop-item : goal.invariant-loop-item
invariant-loop-item l = map name_of l.found.items ++ of_items (items_view (drop l.item-index l.items)) ≡ map name_of l.initial.found.items ++ of_items (items_view l.items)
