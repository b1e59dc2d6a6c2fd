use Rattle.std.proofs.Common.{◌≡◌, ◌+◌, ◌∷◌, [], ℕ, ap, ◌∙◌, subst, arith}
use Rattle.record_wire.specs.Record.{Structure, structure}
use Rattle.record_wire.specs.Trees.{RefusesWhole}
use Rattle.record_wire.specs.declared.write.WriteError.{WriteError}
use Rattle.record_writer.specs.Placed.{at}
use Rattle.record_writer.specs.Structures.{structure_of}
use Rattle.record_writer.specs.Views.{column_in, placed_in}
use Rattle.record_writer.specs.Writes.{Refuses}
use Rattle.record_writer.specs.declared.error.Refusal.{Refusal}
use Rattle.record_writer.proofs.Whole.{one_read, own_refused, last_refused}
use Rattle.record_writer.proofs.write.finished_with.Goals as goal

pub returns-in_err-own-clause-err : goal.returns-in_err-own-clause-err
returns-in_err-own-clause-err c =
    let p = c.args.part.now in
    let refused = λ (e : Refusal) (r : Refuses e 0 (placed_in p ∷ [])).
    own_refused e (column_in p)
    (subst (λ (l : ℕ). Refuses e 0 (at l (column_in p) ∷ [])) c.requires.level r) in
    grind (arith, refused)

pub returns-in_err-finished-clause-err : goal.returns-in_err-finished-clause-err
returns-in_err-finished-clause-err c =
    let p = c.args.part.now in let rs = c.args.records in
    let s = structure c.record_of-root.result in
    let is : s ≡ structure_of (at 0 (column_in p)) = c.record_of-root.ensures
    ∙ ap (λ (l : ℕ). structure_of (at l (column_in p))) c.requires.level in
    let refused = λ (e : WriteError) (r : RefusesWhole e (rs.count + 1) rs.bytes.items s).
    last_refused e rs (column_in p) c.requires.held
    (subst (λ (t : Structure). RefusesWhole e (rs.count + 1) rs.bytes.items t) is r) in
    grind (arith, refused)

pub returns-clause-read : goal.returns-clause-read
returns-clause-read c =
    let p = c.args.part.now in
    let s = structure c.record_of-root.result in
    let is : s ≡ structure_of (at 0 (column_in p)) = c.record_of-root.ensures
    ∙ ap (λ (l : ℕ). structure_of (at l (column_in p))) c.requires.level in
    one_read c.args.records (column_in p) _ s _ c.requires.held c.in_ok-own.ensures.format
    c.in_ok-own.ensures.texts is c.in_ok-finished.ensures.read
