use Rattle.std.proofs.Common.{◌+◌, ◌∷◌, [], arith}
use Rattle.record_writer.specs.Placed.{within_type}
use Rattle.record_writer.specs.Views.{type_in, placed_in}
use Rattle.record_writer.proofs.Grows.{puts_then, few_below, field_more, field_refused}
use Rattle.record_writer.proofs.Grows.{member_more, member_refused}
use Rattle.record_writer.proofs.trees.+write.Goals as goal

pub with_fields-returns-in_err-records : goal.with_fields-returns-in_err-records
with_fields-returns-in_err-records t c =
    let refused = field_refused c.args.records c.fields.records c.args.level c.fields.field-index
    c.args.fields.now c.field-item.result c.fields-test.true c.field-item.is c.fields.invariant in
    grind (arith, refused)

pub with_fields-fields-preserved : goal.with_fields-fields-preserved
with_fields-fields-preserved t c =
    field_more c.args.records c.fields.records c.args.level c.fields.field-index
    c.args.fields.now c.field-item.result c.fields-test.true c.field-item.is c.fields.invariant
    c.in_ok-records.records c.in_ok-records.ensures

pub with_members-returns-in_err-records : goal.with_members-returns-in_err-records
with_members-returns-in_err-records t c =
    let refused = member_refused c.args.records c.members.records c.args.level
    c.members.member-index c.args.members.now c.member-item.result c.members-test.true
    c.member-item.is c.members.invariant in
    grind (arith, refused)

pub with_members-members-preserved : goal.with_members-members-preserved
with_members-members-preserved t c =
    member_more c.args.records c.members.records c.args.level c.members.member-index
    c.args.members.now c.member-item.result c.members-test.true c.member-item.is
    c.members.invariant c.in_ok-records.records c.in_ok-records.ensures

pub with_part-with_column-requires : goal.with_part-with_column-requires
with_part-with_column-requires t c =
    few_below c.args.records c.in_ok-records.records (c.args.part.now.level + 1)
    c.args.part.now.data_type c.in_ok-records.ensures c.in_ok-records.records.few

pub with_part-returns : goal.with_part-returns
with_part-returns t c =
    puts_then c.args.records c.in_ok-records.records
    (within_type (c.args.part.now.level + 1) (type_in c.args.part.now.data_type))
    (placed_in c.args.part.now ∷ []) c.with_column.result c.in_ok-records.ensures
    c.with_column.ensures
