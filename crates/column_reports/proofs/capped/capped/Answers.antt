use Rattle.std.proofs.Common.{[], ◌++◌, ap, sym, ◌∙◌, subst, arith}
use Rattle.column_reports.specs.Capped.{AreSeen, kept_of}
use Rattle.column_reports.proofs.Capping.{kept_more, short_stays}
use Rattle.column_reports.proofs.capped.capped.Goals as goal

pub returns-then-len-most : goal.returns-then-len-most
returns-then-len-most c = short_stays c.args.by c.args.most c.args.findings.items (omega arith)

pub loop-found-preserved : goal.loop-found-preserved
loop-found-preserved c =
    let l = c.loop-found in
    let fs = c.args.findings.items in
    let whole = subst (λ xs. AreSeen c.args.by c.args.most xs c.in_ok-all.all) c.as_slice.ensures.value c.in_ok-all.ensures in
    record {
      kept = c.in_ok-add_kept.ensures.kept l.yielded fs l.invariant.seen whole
          ∙ ap (λ xs. xs ++ kept_of c.args.by c.args.most fs l.yielded c.in-Some.found) l.invariant.kept
          ∙ sym (kept_more c.args.by c.args.most fs [] l.yielded c.in-Some.found);
      seen = c.in_ok-add_kept.ensures.seen l.yielded l.invariant.seen;
    }
