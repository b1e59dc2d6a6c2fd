use Rattle.std.proofs.Common.{rules, ◌≡◌, ◌&&◌, ◌==◌, true, false, length, map, sym, ap, ◌∙◌, arith}
use Rattle.std.specs.List.{list_all}
use Rattle.geoarrow_layout.specs.Shapes.{has_name}
use Rattle.column_check.proofs.Fields.{length_map}
use Rattle.column_check.proofs.coordinates.have_names.Goals as goal

pub returns-then-names-others : goal.returns-then-names-others
returns-then-names-others c =
    let ns = map (λ name. name.now) c.args.names.now in
    let os = map (λ name. name.now) c.args.others.now in
    let one = length_map (λ name. name.now) c.args.names.now in
    let two = length_map (λ name. name.now) c.args.others.now in
    let given = c.if-names-others.true in
    let same : (length ns == length os) ≡ true = first_of (search rules, grind arith) in
    c.have_each.ensures ∙ sym (ap (λ b. b && list_all (λ n. has_name n ns) os) same)

pub returns-else-names-others : goal.returns-else-names-others
returns-else-names-others c =
    let ns = map (λ name. name.now) c.args.names.now in
    let os = map (λ name. name.now) c.args.others.now in
    let one = length_map (λ name. name.now) c.args.names.now in
    let two = length_map (λ name. name.now) c.args.others.now in
    let given = c.if-names-others.false in
    let differ : (length ns == length os) ≡ false = first_of (search rules, grind arith) in
    let here : (length c.args.names.now == length c.args.others.now) ≡ false = first_of (search rules, grind arith) in
    here ∙ sym (ap (λ b. b && list_all (λ n. has_name n ns) os) differ)
