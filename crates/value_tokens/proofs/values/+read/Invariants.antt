use Rattle.std.proofs.Common.{◌≡◌, ◌+◌, ◌*◌, ◌≤◌, ◌++◌, length, List, Some, None}
use Rattle.json.specs.Token.{Token}
use Rattle.serde_json.specs.Data.{no_members}
use Rattle.serde_json.specs.View.{items_view, members_view}
use Rattle.serde_json.specs.declared.value.Value.{Value}
use Rattle.value_tokens.specs.Next.{next_items, next_members}
use Rattle.value_tokens.proofs.values.+read.Given as goal

abbrev pub decreases-read_value : goal.decreases-read_value
decreases-read_value l = 2 * l.depth

abbrev pub decreases-read_items : goal.decreases-read_items
decreases-read_items l = 2 * l.depth + 1

-- the items that are left go behind those so far
abbrev pub invariant-read_items-items : goal.invariant-read_items-items
invariant-read_items-items l = record {
  some : (rest : List Value) (r : List Token) → next_items l.depth l.reader ≡ Some (items_view rest, r) → next_items l.depth l.initial.reader ≡ Some (items_view (l.found.items ++ rest), r);
  none : next_items l.depth l.reader ≡ None → next_items l.depth l.initial.reader ≡ None;
  fewer : length l.reader ≤ length l.initial.reader;
}

abbrev pub decreases-read_items-items : goal.decreases-read_items-items
decreases-read_items-items l = length l.reader

abbrev pub decreases-read_members : goal.decreases-read_members
decreases-read_members l = 2 * l.depth + 1

-- what is left is put into the members so far
abbrev pub invariant-read_members-members : goal.invariant-read_members-members
invariant-read_members-members l = record {
  decides : next_members l.depth no_members l.initial.reader ≡ next_members l.depth (members_view l.found.entries) l.reader;
  fewer : length l.reader ≤ length l.initial.reader;
}

abbrev pub decreases-read_members-members : goal.decreases-read_members-members
decreases-read_members-members l = length l.reader
