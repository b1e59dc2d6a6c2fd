use Rattle.std.proofs.Common.{◌∷◌, [], arith}
use Rattle.arrow_ipc.proofs.Linked.{length_table}
use Rattle.arrow_ipc.proofs.Blocks.{entry_holds, gives}
use Rattle.arrow_ipc.proofs.write.entry_block.Goals as goal

pub returns : goal.returns
returns c =
    let k = c.in_ok-first.ensures in
    let t = c.in_ok-second.ensures in
    gives c.table_block.result _ _ _ _ c.table_block.ensures (λ small. entry_holds _ _ c.args.key.now c.args.text.now k.0 t.0 (omega (arith, small))) (omega (arith, length_table (4 ∷ 8 ∷ []) [] (c.in_ok-first.first.items ∷ c.in_ok-second.second.items ∷ []), k.1, t.1))
