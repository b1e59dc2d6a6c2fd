use Rattle.std.proofs.Common.{◌≡◌, Some, option_map, string_bytes, ap, sym, ◌∙◌}
use Rattle.std.proofs.lemmas.Result.{on_ok_weaker}
use Rattle.column_reports.specs.Capped.{key_of}
use Rattle.column_reports.proofs.Capping.{seen_with}
use Rattle.column_reports.proofs.capped.add_seen.Goals as goal

pub returns-in-Some : goal.returns-in-Some
returns-in-Some c =
    let key = string_bytes c.in-Some.key in
    let is : key_of c.args.by c.args.found.now ≡ Some key = sym c.in_ok-key.ensures ∙ ap (option_map string_bytes) c.in-Some.is in
    on_ok_weaker c.count.result
    (λ put. λ ws are. seen_with c.args.by c.args.most ws c.args.found.now key c.args.seen.now c.count.new.seen is (rw c.stands_for.ensures at put) are) c.count.ensures
