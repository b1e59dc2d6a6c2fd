use Rattle.std.proofs.Common.{append-nil, append_assoc, arith}
use Rattle.std.proofs.lemmas.List.{drop_all, drop_more, length-append, length-map}
use Rattle.arrow_ipc.specs.Blocks.{offsets, linked}
use Rattle.arrow_ipc.proofs.Linked.{long_linked, zeros_put}
use Rattle.arrow_ipc.proofs.write.linked_block.Goals as goal

pub offsets-preserved : goal.offsets-preserved
unfolding offsets
offsets-preserved c = grind (arith, drop_more, append_assoc, length-append)

pub bodies-init : goal.bodies-init
unfolding offsets linked
bodies-init c = grind (arith, zeros_put, drop_all, append-nil, append_assoc, length-map)

pub returns : goal.returns
returns c = grind (arith, long_linked, drop_all, append-nil)
