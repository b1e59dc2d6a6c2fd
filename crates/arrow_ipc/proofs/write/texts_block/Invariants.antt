use Rattle.std.proofs.Common.{map}
use Rattle.arrow_values.specs.View.{texts_of}
use Rattle.arrow_ipc.specs.Blocks.{Holds, entry_read}
use Rattle.arrow_ipc.specs.Rooms.{texts_room}
use Rattle.arrow_ipc.proofs.Linked.{items}
use Rattle.arrow_ipc.proofs.Blocks.{Made}
use Rattle.arrow_ipc.proofs.write.texts_block.Given as goal

-- the blocks of the entries so far, before those that are left
abbrev pub invariant-entries : goal.invariant-entries
invariant-entries l = Made (Holds entry_read) texts_room (map items l.blocks.items) (texts_of l.key-iterator) (texts_of l.initial.key-iterator)
