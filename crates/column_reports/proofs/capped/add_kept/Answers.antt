use Rattle.std.proofs.Common.{◌≡◌, Some, option_map, string_bytes, ap, sym, ◌∙◌}
use Rattle.std.proofs.lemmas.Result.{on_ok_weaker}
use Rattle.column_reports.specs.Capped.{key_of}
use Rattle.column_reports.proofs.Capping.{seen_with}
use Rattle.column_reports.proofs.capped.add_kept.Goals as goal

pub returns-in_ok-count-in-Some-clause-seen : goal.returns-in_ok-count-in-Some-clause-seen
returns-in_ok-count-in-Some-clause-seen c =
    let key = string_bytes c.in-Some.key in
    let is : key_of c.args.by c.args.found ≡ Some key = sym c.in_ok-key.ensures ∙ ap (option_map string_bytes) c.in-Some.is in
    on_ok_weaker c.add_one.result
    (λ added. λ vs are. seen_with c.args.by c.args.most vs c.args.found key c.args.seen.now c.count.new.seen is (rw c.stands_for.ensures at c.in_ok-count-in-Some.ensures) are) c.add_one.ensures
