use Rattle.std.proofs.Common.{◌≡◌, []}
use Rattle.column_reports.specs.Capped.{AreSeen, kept_behind}
use Rattle.column_reports.proofs.capped.capped.Given as goal

abbrev pub invariant-loop-found : goal.invariant-loop-found
invariant-loop-found l = record {
  kept : l.kept.items ≡ kept_behind l.by l.most l.fn.findings.items [] l.yielded;
  seen : AreSeen l.by l.most l.yielded l.seen;
}
