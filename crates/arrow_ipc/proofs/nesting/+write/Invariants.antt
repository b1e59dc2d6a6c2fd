use Rattle.std.proofs.Common.{◌+◌, ◌*◌, map, drop}
use Rattle.arrow_ipc.specs.Blocks.{Holds, child_in}
use Rattle.arrow_ipc.specs.Shapes.{column_of}
use Rattle.arrow_ipc.specs.Rooms.{columns_room}
use Rattle.arrow_ipc.proofs.Linked.{items}
use Rattle.arrow_ipc.proofs.Blocks.{Made}
use Rattle.arrow_ipc.proofs.nesting.+write.Given as goal

abbrev pub decreases-data_block : goal.decreases-data_block
decreases-data_block l = 2 * l.levels

abbrev pub decreases-children_block : goal.decreases-children_block
decreases-children_block l = 2 * l.levels + 1

-- the blocks of the columns so far, before those that are left
abbrev pub invariant-children_block-columns : goal.invariant-children_block-columns
invariant-children_block-columns l =
    Made (Holds (child_in l.levels)) columns_room (map items l.blocks.items) (map (λ f. column_of f.now) (drop l.field-index l.fields)) (map (λ f. column_of f.now) l.fields)
