use Rattle.std.proofs.Common.{arith}
use Rattle.record_writer.specs.Placed.{within_type}
use Rattle.record_writer.specs.Views.{type_in, column_in}
use Rattle.record_writer.specs.Writes.{Refuses}
use Rattle.record_writer.specs.declared.error.Refusal.{Refusal}
use Rattle.record_writer.proofs.Grows.{few_below}
use Rattle.record_writer.proofs.Whole.{holds_all, inner_refused}
use Rattle.record_writer.proofs.write.tree_of.Goals as goal

pub returns-in_err-records-clause-err : goal.returns-in_err-records-clause-err
returns-in_err-records-clause-err c =
    let p = c.args.part.now in let none = c.no_records-none.result in
    let refused = λ (e : Refusal) (r : Refuses e none.count (within_type 1 (type_in p.data_type))).
    inner_refused e none (column_in p) c.no_records-none.ensures.count r in
    grind (arith, refused)

pub finished_with-requires-clause-few : goal.finished_with-requires-clause-few
finished_with-requires-clause-few c =
    few_below c.no_records-none.result c.in_ok-records.records 1
    c.args.part.now.data_type c.in_ok-records.ensures c.in_ok-records.records.few

pub finished_with-requires-clause-held : goal.finished_with-requires-clause-held
finished_with-requires-clause-held c =
    holds_all c.no_records-none.result c.in_ok-records.records
    (within_type 1 (type_in c.args.part.now.data_type)) c.no_records-none.ensures.count
    c.no_records-none.ensures.bytes c.in_ok-records.ensures
