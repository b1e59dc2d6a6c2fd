use Rattle.std.proofs.Common.{◌≡◌, false, rules, arith}
use Rattle.geoparquet.specs.Facts.{facts_view}
use Rattle.file_check.specs.Wants.{unlike_view}
use Rattle.file_check.proofs.Parts.{goes_on, stops, ends}
use Rattle.file_check.proofs.wants.unmet_part.Goals as goal

pub loop-part-preserved : goal.loop-part-preserved
loop-part-preserved c =
    let l = c.loop-part in
    goes_on c.args.geometry.now.kind (facts_view c.args.facts.now) c.args.parts.now l.part-index l.invariant _ c.loop-part-test.true
    (c.in_ok-is_met.ensures.0 (search rules))

pub returns-then-not-is_met : goal.returns-then-not-is_met
returns-then-not-is_met c =
    let l = c.loop-part in
    stops c.args.geometry.now.kind (facts_view c.args.facts.now) c.args.parts.now l.part-index l.invariant _ c.loop-part-test.true
    (λ m. let fails : c.in_ok-is_met.is_met ≡ false = search rules in let holds = c.in_ok-is_met.ensures.1 m in cc)
    (unlike_view c.in_ok-unlike.unlike) c.in_ok-unlike.ensures

pub returns : goal.returns
returns c =
    let l = c.loop-part in
    ends c.args.geometry.now.kind (facts_view c.args.facts.now) c.args.parts.now l.part-index l.invariant (omega arith)
