use Rattle.std.proofs.Common.{ap, map, map-id, rules, subst, sym, ◌∙◌}
use Rattle.std.proofs.lemmas.Iterator.{YieldsList-from_zip}
use Rattle.std.proofs.lemmas.Iterator.Adapters.{YieldsList-from_vec}
use Rattle.std.proofs.lemmas.Iterator.Consumers.{YieldsList-at, YieldsList-end}
use Rattle.column_reports.specs.FileReport.{AreReported}
use Rattle.column_reports.specs.Weights.{weighing}
use Rattle.column_reports.proofs.Reported.{reported_next, viewed, zip_viewed}
use Rattle.column_reports.proofs.file.report_columns.Goals as goal

pub loop-column-preserved : goal.loop-column-preserved
loop-column-preserved c =
    let l = c.loop-column in
    reported_next c.args.infer (weighing c.args.weights.now) c.args.about.alone l.yielded l.reported.items c.push.new.self.items
    ((c.in-Some.column, (c.in-Some.facts, c.in-Some.named)), (c.in-Some.before, c.in-Some.behind)) c.in_ok-said.said l.invariant c.in_ok-said.ensures (search rules)

pub returns : goal.returns
returns c =
    let l = c.loop-column in
    let facts = YieldsList-from_vec {s = c.into_iter.result} c.args.about.facts.items (search rules) (search rules) in
    let named = YieldsList-from_vec {s = c.into_iter-2.result} c.args.about.named.items (search rules) (search rules) in
    let before = YieldsList-from_vec {s = c.into_iter-3.result} c.args.about.before.items (search rules) (search rules) in
    let behind = YieldsList-from_vec {s = c.into_iter-4.result} c.args.about.behind.items (search rules) (search rules) in
    let columns = YieldsList-from_vec {s = c.into_iter-5.result} c.args.columns.items (search rules) (search rules) in
    let about = YieldsList-from_zip (YieldsList-at c.zip-known.ensures.first facts) (YieldsList-at c.zip-known.ensures.second named) in
    let told = YieldsList-from_zip (YieldsList-at c.zip-told.ensures.first before) (YieldsList-at c.zip-told.ensures.second behind) in
    let known = YieldsList-from_zip (YieldsList-at c.zip-known-2.ensures.first columns) (YieldsList-at c.zip-known-2.ensures.second about) in
    let all = YieldsList-from_zip (YieldsList-at c.zip-column-items.ensures.first known) (YieldsList-at c.zip-column-items.ensures.second told) in
    let road = YieldsList-at c.into_iter-column-iterator.ensures.into_iter_gives all in
    let end = YieldsList-end road l.yielded l.column-iterator l.yielded_by c.next.result c.next.new.self c.in-None.is c.next.ensures.steps in
    subst (λ xs. AreReported c.args.infer (weighing c.args.weights.now) c.args.about.alone xs l.reported.items)
    (ap (map viewed) (sym (map-id l.yielded) ∙ end.0) ∙ zip_viewed c.args.columns.items c.args.about.facts.items c.args.about.named.items c.args.about.before.items c.args.about.behind.items) l.invariant
