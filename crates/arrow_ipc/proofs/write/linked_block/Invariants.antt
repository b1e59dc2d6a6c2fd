use Rattle.std.proofs.Common.{◌≡◌, ◌+◌, ◌*◌, ◌≤◌, ◌++◌, length, map, drop}
use Rattle.std.specs.List.{concat}
use Rattle.arrow_ipc.specs.Blocks.{lengths, word, rounded, offsets, linked}
use Rattle.arrow_ipc.proofs.Linked.{items}
use Rattle.arrow_ipc.proofs.write.linked_block.Given as goal

-- the number and the offsets so far, before those that are left
abbrev pub invariant-offsets : goal.invariant-offsets
invariant-offsets l = record {
  decides : l.block.items ++ offsets (length l.block.items) l.end (map items (drop l.one-index l.blocks)) ≡ word l.first ++ offsets 4 (rounded (4 + (4 * length l.blocks + length l.rest))) (map items l.blocks);
  placed : length l.block.items ≡ 4 + 4 * l.one-index;
  lies : l.end + lengths (map items (drop l.one-index l.blocks)) ≡ rounded (4 + (4 * length l.blocks + length l.rest)) + lengths (map items l.blocks);
  high : rounded (4 + (4 * length l.blocks + length l.rest)) ≤ l.end;
}

-- the blocks so far, before those that are left
abbrev pub invariant-bodies : goal.invariant-bodies
invariant-bodies l = l.block.items ++ concat (map items (drop l.piece-index l.blocks)) ≡ linked l.first (map items l.blocks) l.rest
