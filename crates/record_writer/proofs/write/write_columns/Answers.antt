use Rattle.std.proofs.Common.{◌≡◌, ◌+◌, length, map, ap, ◌∙◌, subst, sym, arith}
use Rattle.std.proofs.lemmas.List.{length-map}
use Rattle.arrow_columns.specs.Column.{column_tree}
use Rattle.record_wire.specs.Record.{Structure, structure}
use Rattle.record_wire.specs.Trees.{RefusesWhole}
use Rattle.record_writer.specs.Structures.{root_of}
use Rattle.record_writer.specs.Refusals.{with_index}
use Rattle.record_writer.specs.Writes.{RefusesColumns}
use Rattle.record_writer.specs.declared.error.Refusal.{Refusal}
use Rattle.record_writer.specs.declared.error.WriteError.{WriteError}
use Rattle.record_writer.proofs.Whole.{few_columns, columns_more, root_refused, schema_read}
use Rattle.record_writer.proofs.write.write_columns.Goals as goal

pub returns-in_err-records-clause-err : goal.returns-in_err-records-clause-err
returns-in_err-records-clause-err c =
    let cs = map column_tree c.args.columns.now in
    let refused = λ (e : WriteError) (r : RefusesColumns e 1 0 0 cs). columns_more e cs r in
    grind (arith, refused)

pub overflow_cast-count : goal.overflow_cast-count
overflow_cast-count c =
    let cs = map column_tree c.args.columns.now in
    let r = c.in_ok-records.records in
    let few = few_columns r 1 cs c.in_ok-records.ensures r.few in
    let n : length cs ≡ length c.args.columns.now = simp length-map in
    omega (arith, few, n)

pub returns-in-Ok-clause-read : goal.returns-in-Ok-clause-read
returns-in-Ok-clause-read c =
    let cs = map column_tree c.args.columns.now in
    let n : length cs ≡ length c.args.columns.now = simp length-map in
    let s = structure c.root_of-root.result in
    let is : s ≡ root_of cs = c.root_of-root.ensures cs (omega (arith, n)) in
    schema_read c.in_ok-records.records cs _ s c.in_ok-records.ensures is c.in-Ok.ensures.read

pub returns-in-Err-clause-err : goal.returns-in-Err-clause-err
returns-in-Err-clause-err c =
    let cs = map column_tree c.args.columns.now in
    let n : length cs ≡ length c.args.columns.now = simp length-map in
    let s = structure c.root_of-root.result in
    let is : s ≡ root_of cs = c.root_of-root.ensures cs (omega (arith, n)) in
    let r = c.in_ok-records.records in let e = c.in-Err.error in
    let whole = subst (λ (t : Structure). RefusesWhole e (r.count + 1) r.bytes.items t) is
    c.in-Err.ensures.err in
    let refused = root_refused e r cs c.in_ok-records.ensures whole in
    let same = c.with_index.ensures
    ∙ ap (λ (x : Refusal). with_index x 0) c.refusal_of.ensures in
    subst (λ (x : WriteError). RefusesColumns x 1 48 1 cs) (sym same) refused
