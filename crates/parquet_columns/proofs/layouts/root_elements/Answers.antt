use Rattle.std.proofs.Common.{◌≡◌, [], ap, map, map-id, sym, ◌∙◌, rules}
use Rattle.std.proofs.lemmas.Iterator.Adapters.{YieldsList-from_vec}
use Rattle.std.proofs.lemmas.Iterator.Consumers.{YieldsList-end}
use Rattle.std.proofs.lemmas.List.{append-nil}
use Rattle.parquet_footer.specs.Element.{element}
use Rattle.parquet_columns.specs.Claims.{claim}
use Rattle.parquet_columns.specs.Layouts.{joined, root_element, root_layouts}
use Rattle.parquet_columns.proofs.layouts.root_elements.Goals as goal

pub returns : goal.returns
returns c =
    let l = c.claims in
    let all = c.args.claims.items in
    let layouts = root_layouts (map element c.args.elements.now) in
    let road = YieldsList-from_vec {s = c.into_iter-claim-iterator.result} all (search rules) (search rules) in
    let end = YieldsList-end road l.yielded l.claim-iterator l.yielded_by c.next.result c.next.new.self c.in-None.is c.next.ensures.steps in
    let whole : l.yielded ≡ all = sym (map-id l.yielded) ∙ end.0 in
    sym (append-nil (map root_element l.made.items)) ∙ l.invariant []
    ∙ ap (λ cs. joined cs layouts) (append-nil (map claim l.yielded) ∙ ap (map claim) whole)
