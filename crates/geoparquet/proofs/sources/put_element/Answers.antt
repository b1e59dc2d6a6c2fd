use Rattle.std.proofs.Common.{Some, sym, ◌∙◌}
use Rattle.std.proofs.lemmas.Map.Text.{btree_map_updates_str}
use Rattle.geoparquet.proofs.Sourcing.{element_stays, element_taken}
use Rattle.geoparquet.proofs.sources.put_element.Goals as goal

pub returns-then-contains_key : goal.returns-then-contains_key
returns-then-contains_key c = λ xs are.
    element_stays xs c.args.it.now c.args.named.now c.as_str-name.result.now c.as_str-name.ensures.value (sym c.contains_key.ensures ∙ c.if-contains_key.true) are

pub returns : goal.returns
returns c = λ xs are.
    let name = c.as_str-name.result.now in
    let put = btree_map_updates_str name c.args.named.now c.insert.new.self (Some c.args.it.now.element) c.in_ok-insert.ensures.updates in
    element_taken xs c.args.it.now c.args.named.now c.insert.new.self name c.as_str-name.ensures.value put (sym c.contains_key.ensures ∙ c.if-contains_key.false) are
