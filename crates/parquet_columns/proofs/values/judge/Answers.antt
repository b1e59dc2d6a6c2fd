use Rattle.std.proofs.Common.{Some, is_some, ap, ◌∙◌}
use Rattle.std.proofs.lemmas.Map.Text.{btree_map_updates_str}
use Rattle.parquet_columns.specs.Values.{compact_of}
use Rattle.parquet_columns.proofs.Maps.{same_judged, judged_more}
use Rattle.parquet_columns.proofs.values.judge.Goals as goal

pub returns-in_err-insert-clause-stay : goal.returns-in_err-insert-clause-stay
returns-in_err-insert-clause-stay c = λ ps are is. same_judged ps c.args.judged.now c.insert.new.self c.in_err-insert.ensures.err are

pub returns-clause-stay : goal.returns-clause-stay
returns-clause-stay c = λ ps are is.
    let key = c.args.key.now in
    let put = btree_map_updates_str key c.args.judged.now c.insert.new.self (Some c.in_ok-found.found) c.in_ok-insert.ensures.updates in
    judged_more ps key c.in_ok-found.found c.args.judged.now c.insert.new.self put (c.in_ok-found.ensures ∙ ap compact_of is) are

pub returns-clause-known : goal.returns-clause-known
returns-clause-known c = ap is_some c.in_ok-insert.ensures.updates.1
