use Rattle.std.proofs.Common.{◌≡◌, [], ◌∷◌, ◌++◌, map, arith}
use Rattle.std.proofs.lemmas.List.{map_push}
use Rattle.parquet_footer.specs.declared.fault.Stop.TheVariants as stops
use Rattle.parquet_footer.specs.Footer.{pairing, key_value_at}
use Rattle.parquet_footer.proofs.Lists.{stopped, all_go_on, all_stop, all_done}
use Rattle.parquet_footer.proofs.footer.key_values_at.Goals as goal

pub returns-in_err-item : goal.returns-in_err-item
returns-in_err-item c =
    let l = c.structs in
    stopped (λ v. map pairing v.items) _ c.from_residual.result (stops.Fault c.in_err-item.field-0.0) (grind arith)
    (all_stop (key_value_at c.args.size) (map pairing l.found.items) c.args.count l.i l.rest.now _ l.invariant _ c.structs-test.true c.in_err-item.ensures)

pub structs-preserved : goal.structs-preserved
structs-preserved c =
    let l = c.structs in
    let x = c.in_ok-item.item in
    let e : map pairing c.push.new.self.items ≡ map pairing l.found.items ++ pairing x ∷ [] = rw c.in_ok-push.ensures.items (map_push _ l.found.items x) in
    rw e (all_go_on (key_value_at c.args.size) (map pairing l.found.items) c.args.count l.i l.rest.now _ l.invariant (pairing x) c.in_ok-item.behind.now c.structs-test.true c.in_ok-item.ensures)

pub returns : goal.returns
returns c =
    let l = c.structs in
    all_done (key_value_at c.args.size) (map pairing l.found.items) c.args.count l.i l.rest.now _ l.invariant c.structs-test.false
