use Rattle.std.proofs.Common.{◌+◌, ◌*◌, ◌-◌, drop}
use Rattle.arrow_values.specs.View.{field_trees, member_trees}
use Rattle.record_writer.specs.Placed.{fields_within, members_within}
use Rattle.record_writer.proofs.Grows.{Done}
use Rattle.record_writer.proofs.trees.+write.Given as goal

-- at each call one less, up to the last level
abbrev pub decreases-with_part : goal.decreases-with_part
decreases-with_part l = 4 * (62 - l.part.now.level)

abbrev pub decreases-with_field : goal.decreases-with_field
decreases-with_field l = 4 * (62 - l.level) + 1

abbrev pub decreases-with_fields : goal.decreases-with_fields
decreases-with_fields l = 4 * (62 - l.level) + 2

abbrev pub decreases-with_members : goal.decreases-with_members
decreases-with_members l = 4 * (62 - l.level) + 2

abbrev pub decreases-with_inner : goal.decreases-with_inner
decreases-with_inner l = 4 * (62 - l.level) + 3

-- the records of the fields so far, before those that are left
abbrev pub invariant-with_fields-fields : goal.invariant-with_fields-fields
invariant-with_fields-fields l =
    Done l.initial.records l.records
    (fields_within l.level (field_trees (drop l.field-index l.fields)))
    (fields_within l.level (field_trees l.fields))

abbrev pub invariant-with_members-members : goal.invariant-with_members-members
invariant-with_members-members l =
    Done l.initial.records l.records
    (members_within l.level (member_trees (drop l.member-index l.members)))
    (members_within l.level (member_trees l.members))
