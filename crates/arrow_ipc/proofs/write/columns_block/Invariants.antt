use Rattle.std.proofs.Common.{map, drop}
use Rattle.arrow_columns.specs.Column.{column_tree}
use Rattle.arrow_ipc.specs.Blocks.{Holds, child_in}
use Rattle.arrow_ipc.specs.Rooms.{columns_room}
use Rattle.arrow_ipc.proofs.Linked.{items}
use Rattle.arrow_ipc.proofs.Blocks.{Made}
use Rattle.arrow_ipc.proofs.write.columns_block.Given as goal

-- the blocks of the columns so far, before those that are left
abbrev pub invariant-columns : goal.invariant-columns
invariant-columns l = Made (Holds (child_in 61)) columns_room (map items l.blocks.items) (map column_tree (drop l.i l.columns)) (map column_tree l.columns)
