use Rattle.std.proofs.Common.{◌≡◌, ◌+◌, ◌*◌, ◌++◌, ◌∷◌, length, map, drop}
use Rattle.arrow_ipc.specs.Blocks.{table_size, places}
use Rattle.arrow_ipc.proofs.Linked.{items}
use Rattle.arrow_ipc.proofs.write.table_block.Given as goal

-- the numbers and the vtable so far, before the slots that are left
abbrev pub invariant-slots : goal.invariant-slots
invariant-slots l =
    l.rest.items ++ places (drop l.slot-index l.slots) ≡ l.numbers ++ ((4 + 2 * length l.slots) ∷ 0 ∷ table_size (map items l.blocks) l.numbers ∷ 0 ∷ places l.slots)
