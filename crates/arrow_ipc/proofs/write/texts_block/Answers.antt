use Rattle.std.proofs.Common.{◌≡◌, map, refl, rules}
use Rattle.arrow_values.specs.View.{texts_of}
use Rattle.arrow_ipc.specs.Blocks.{Holds, entry_read, texts_read}
use Rattle.arrow_ipc.specs.Rooms.{texts_room}
use Rattle.arrow_ipc.proofs.Linked.{items}
use Rattle.arrow_ipc.proofs.Blocks.{made_gives, texts_hold}
use Rattle.arrow_ipc.proofs.write.texts_block.Goals as goal

pub returns : goal.returns
returns c =
    let es = c.args.texts.now.entries in
    let all : c.into_iter-key-iterator.result ≡ es = search rules in
    made_gives (Holds entry_read) texts_room texts_read (texts_of es) _ (map items c.entries.blocks.items) (texts_of es) refl (rw (c.in-None.ensures.steps.0, all) at c.entries.invariant) (texts_hold es c.iter-key-items.ensures.ordered (map items c.entries.blocks.items))
    c.vector_block.result (rw c.as_slice.ensures.value at c.vector_block.ensures)
