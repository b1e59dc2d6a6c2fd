use Rattle.std.proofs.Common.{◌+◌, ◌*◌, ◌≤◌, false, length}
use Rattle.serde_json.specs.View.{members_view}
use Rattle.geoarrow_meta.specs.PlainTokens.{tokens_left}
use Rattle.geoarrow_meta.proofs.PlainValues.{AreItemsSoFar, AreMembersSoFar}
use Rattle.geoarrow_meta.proofs.metadata.plain_values.+plain.Given as goal

abbrev pub decreases-plain_value : goal.decreases-plain_value
decreases-plain_value l = 2 * l.depth

abbrev pub decreases-plain_items : goal.decreases-plain_items
decreases-plain_items l = 2 * l.depth + 1

abbrev pub invariant-plain_items-items : goal.invariant-plain_items-items
invariant-plain_items-items l = AreItemsSoFar l.depth (tokens_left false l.text l.initial.at) (tokens_left l.after_item l.text l.at) l.found.items l.initial.float_read l.float_read × (l.at ≤ length l.text)

abbrev pub decreases-plain_items-items : goal.decreases-plain_items-items
decreases-plain_items-items l = length (tokens_left l.after_item l.text l.at)

abbrev pub decreases-plain_members : goal.decreases-plain_members
decreases-plain_members l = 2 * l.depth + 1

abbrev pub invariant-plain_members-members : goal.invariant-plain_members-members
invariant-plain_members-members l = AreMembersSoFar l.depth (tokens_left false l.text l.initial.at) (tokens_left l.after_member l.text l.at) (members_view l.found.entries) l.initial.float_read l.float_read × (l.at ≤ length l.text)

abbrev pub decreases-plain_members-members : goal.decreases-plain_members-members
decreases-plain_members-members l = length (tokens_left l.after_member l.text l.at)
