use Rattle.std.proofs.Common.{◌-◌, map, sym, ◌∙◌, arith}
use Rattle.std.proofs.lemmas.List.{length-map}
use Rattle.geoparquet.specs.Findings.{finding}
use Rattle.geoparquet.proofs.Capping.{few, one_for_all}
use Rattle.geoparquet.proofs.capped.capped.Goals as goal

pub returns-then-len-le-MOST : goal.returns-then-len-le-MOST
returns-then-len-le-MOST c =
    let size = length-map c.args.findings.items finding in
    sym (few (map finding c.args.findings.items) (omega (arith, size)))

pub returns-in_ok-push-in-Some : goal.returns-in_ok-push-in-Some
returns-in_ok-push-in-Some c =
    let gs = c.args.findings.items in
    let ok = c.args.findings.ok.0 in
    one_for_all gs c.pop.new.self.items c.push.new.self.items c.in-Some.last c.standing_for.result (c.len-more.result - 16) (omega (arith, ok))
    (sym c.truncate.ensures.items ∙ c.in-Some.ensures.items) (omega (arith, ok)) c.standing_for.ensures c.in_ok-push-in-Some.ensures.items
