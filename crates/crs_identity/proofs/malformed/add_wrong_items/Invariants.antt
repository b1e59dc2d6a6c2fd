use Rattle.std.proofs.Common.{◌≡◌, ◌++◌, drop}
use Rattle.json.specs.Value.{items_view}
use Rattle.crs_identity.specs.Malformed.{wrong_items}
use Rattle.crs_identity.proofs.malformed.add_wrong_items.Given as goal

abbrev pub invariant-loop-place : goal.invariant-loop-place
invariant-loop-place l = l.parts.items ++ wrong_items l.place (items_view (drop l.place l.items)) ≡ l.initial.parts.items ++ wrong_items 0 (items_view l.items)
