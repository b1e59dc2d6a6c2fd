use Rattle.std.proofs.Common.{Bool, List, ◌++◌, map, codes, Some, Result, Ok, Err, OnOk, ap₂, ◌∙◌, append_assoc}
use Rattle.json.specs.Value.{value_view}
use Rattle.column_check.specs.KeyWarnings.{spots_in}
use Rattle.column_check.specs.Parts.{spot_in}
use Rattle.column_check.specs.Said.{Said, said, said_if, at_each}
use Rattle.column_check.specs.declared.code.WarningCode.TheVariants.{MetadataKeyCase, EdgesPlanar}
use Rattle.column_check.proofs.key_case.push_value.Goals as goal

on_ok : {A E : Type 0} {P Q : Type 0} (r : Result A E) → (P → Q) → OnOk r P → OnOk r Q
on_ok (Ok a) f h = f h
on_ok (Err e) f h = h

-- the warnings of edges that are planar by name, if they are
abbrev planar : Bool → List Said
planar holds = said_if EdgesPlanar holds (spot_in (codes "/edges") (Some (codes "\"planar\"")))

pub returns : goal.returns
returns c d read =
    let before = map said c.args.warnings.now.items in
    let keys = at_each MetadataKeyCase (spots_in (Some (value_view c.args.value.now))) in
    on_ok c.push_shown.result
    (λ h. h ∙ ap₂ (λ told holds. told ++ planar holds) c.in_ok-push_of.ensures (c.are_planar-holds.ensures d read) ∙ append_assoc before keys (planar _))
    c.push_shown.ensures
