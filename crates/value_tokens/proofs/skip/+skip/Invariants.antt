use Rattle.std.proofs.Common.{◌≡◌, ◌+◌, ◌*◌, ◌≤◌, length}
use Rattle.serde_json.specs.Data.{Members}
use Rattle.value_tokens.specs.Next.{next_items, next_members, after}
use Rattle.value_tokens.proofs.skip.+skip.Given as goal

abbrev pub decreases-skip_rest : goal.decreases-skip_rest
decreases-skip_rest l = 2 * l.depth

abbrev pub decreases-skip_items : goal.decreases-skip_items
decreases-skip_items l = 2 * l.depth + 1

abbrev pub invariant-skip_items-items : goal.invariant-skip_items-items
invariant-skip_items-items l = record {
  same : after (next_items l.depth l.initial.reader) ≡ after (next_items l.depth l.reader);
  fewer : length l.reader ≤ length l.initial.reader;
}

abbrev pub decreases-skip_items-items : goal.decreases-skip_items-items
decreases-skip_items-items l = length l.reader

abbrev pub decreases-skip_members : goal.decreases-skip_members
decreases-skip_members l = 2 * l.depth + 1

abbrev pub invariant-skip_members-members : goal.invariant-skip_members-members
invariant-skip_members-members l = record {
  same : (found : Members) → after (next_members l.depth found l.initial.reader) ≡ after (next_members l.depth found l.reader);
  fewer : length l.reader ≤ length l.initial.reader;
}

abbrev pub decreases-skip_members-members : goal.decreases-skip_members-members
decreases-skip_members-members l = length l.reader
