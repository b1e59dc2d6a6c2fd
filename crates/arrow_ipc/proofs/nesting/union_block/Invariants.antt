use Rattle.std.proofs.Common.{◌≡◌, ◌++◌, [], drop}
use Rattle.arrow_values.specs.View.{member_trees}
use Rattle.arrow_ipc.specs.Blocks.{id_words}
use Rattle.arrow_ipc.specs.Shapes.{member_ids, are_ids}
use Rattle.arrow_ipc.proofs.nesting.union_block.Given as goal

-- the ids so far, before those that are left
abbrev pub invariant-each : goal.invariant-each
invariant-each l = record {
  written : l.words.items ++ id_words (member_ids (member_trees (drop l.member-index l.members))) ≡ id_words (member_ids (member_trees l.members));
  sound : are_ids l.ids.items (member_ids (member_trees (drop l.member-index l.members))) ≡ are_ids [] (member_ids (member_trees l.members));
}
