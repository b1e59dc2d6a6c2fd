use Rattle.std.proofs.Common.{IfSome, ◌+◌, ◌*◌, length, codes, option_map}
use Rattle.field_lines.proofs.Terms.{zip, AreMemberParts, keyed_at, tree, texts_of, field_trees, member_trees, fields_in, members_in, field_of_value, size_of_value, mode_of_value, members_of_value}
use Rattle.field_lines.proofs.TokenMembers.{ArePartsUnderWay, IsOnlyUnderWay, AreTwoUnderWay}
use Rattle.field_lines.proofs.TokenItems.{AreItemsTaken}
use Rattle.field_lines.proofs.tokens.+take.Given as goal

abbrev pub decreases-take_field : goal.decreases-take_field
decreases-take_field l = 8 * l.depth

abbrev pub decreases-take_boxed : goal.decreases-take_boxed
decreases-take_boxed l = 8 * l.depth + 1

abbrev pub decreases-take_members_of_field : goal.decreases-take_members_of_field
decreases-take_members_of_field l = 8 * l.depth + 7

abbrev pub decreases-take_parts : goal.decreases-take_parts
decreases-take_parts l = 8 * l.depth + 6

abbrev pub invariant-take_parts-parts : goal.invariant-take_parts-parts
invariant-take_parts-parts l = ArePartsUnderWay l.depth l.initial.reader l.reader (option_map (λ n. n.now) l.name) l.nullable (option_map tree l.types.0, option_map (λ n. n.now) l.types.1) (option_map (λ m. texts_of m.entries) l.metadata)

abbrev pub decreases-take_parts-parts : goal.decreases-take_parts-parts
decreases-take_parts-parts l = length l.reader

abbrev pub decreases-take_type : goal.decreases-take_type
decreases-take_type l = 8 * l.depth + 5

abbrev pub decreases-take_types : goal.decreases-take_types
decreases-take_types l = 8 * l.depth + 7

abbrev pub decreases-take_keys : goal.decreases-take_keys
decreases-take_keys l = 8 * l.depth + 6

abbrev pub decreases-take_only : goal.decreases-take_only
decreases-take_only l = 8 * l.depth + 5

abbrev pub invariant-take_only-only : goal.invariant-take_only-only
invariant-take_only-only l = IsOnlyUnderWay (keyed_at l.only) l.depth l.only l.fn.reader l.reader (option_map tree l.data_type)

abbrev pub decreases-take_only-only : goal.decreases-take_only-only
decreases-take_only-only l = length l.reader

abbrev pub decreases-take_keyed : goal.decreases-take_keyed
decreases-take_keyed l = 8 * l.depth + 4

abbrev pub decreases-take_fixed_size_list : goal.decreases-take_fixed_size_list
decreases-take_fixed_size_list l = 8 * l.depth + 5

abbrev pub invariant-take_fixed_size_list-keys : goal.invariant-take_fixed_size_list-keys
invariant-take_fixed_size_list-keys l =
    AreTwoUnderWay field_of_value size_of_value (codes "fixed_size_list") (codes "size") l.depth l.first l.fn.reader l.reader (option_map (λ s. s.now) l.next) (option_map (λ b. b.value) l.field) l.size

abbrev pub decreases-take_fixed_size_list-keys : goal.decreases-take_fixed_size_list-keys
decreases-take_fixed_size_list-keys l = length l.reader

abbrev pub decreases-take_union : goal.decreases-take_union
decreases-take_union l = 8 * l.depth + 5

abbrev pub invariant-take_union-keys : goal.invariant-take_union-keys
invariant-take_union-keys l =
    AreTwoUnderWay mode_of_value members_of_value (codes "mode") (codes "union") l.depth l.first l.fn.reader l.reader (option_map (λ s. s.now) l.next) l.mode
    (option_map (λ p. member_trees (zip p.0.items p.1.items)) l.members)
    × IfSome l.members (λ p. AreMemberParts p.0.items p.1.items)

abbrev pub decreases-take_union-keys : goal.decreases-take_union-keys
decreases-take_union-keys l = length l.reader

abbrev pub decreases-take_fields : goal.decreases-take_fields
decreases-take_fields l = 8 * l.depth + 3

abbrev pub invariant-take_fields-items : goal.invariant-take_fields-items
invariant-take_fields-items l = AreItemsTaken field_trees fields_in l.below l.initial.reader l.reader l.fields.items

abbrev pub decreases-take_fields-items : goal.decreases-take_fields-items
decreases-take_fields-items l = length l.reader

abbrev pub decreases-take_members : goal.decreases-take_members
decreases-take_members l = 8 * l.depth + 4

abbrev pub invariant-take_members-pairs : goal.invariant-take_members-pairs
invariant-take_members-pairs l = AreItemsTaken member_trees members_in l.below l.initial.reader l.reader (zip l.ids.items l.fields.items) × AreMemberParts l.ids.items l.fields.items

abbrev pub decreases-take_members-pairs : goal.decreases-take_members-pairs
decreases-take_members-pairs l = length l.reader

abbrev pub decreases-take_pair : goal.decreases-take_pair
decreases-take_pair l = 8 * l.depth + 2
