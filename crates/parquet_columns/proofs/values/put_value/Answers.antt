use Rattle.std.proofs.Common.{Option, Some, option_map, sym, ap, ◌∙◌}
use Rattle.std.specs.Borrow.{Bor}
use Rattle.std.proofs.lemmas.Map.Text.{btree_map_updates_str}
use Rattle.arrow_values.specs.Tree.{Text}
use Rattle.parquet_columns.proofs.Maps.{without_value, with_value}
use Rattle.parquet_columns.proofs.values.put_value.Goals as goal

abbrev seen : Option (Bor Text × Bor Text) → Option (Text × Text)
seen = option_map (λ q. (q.0.now, q.1.now))

pub returns-in-None : goal.returns-in-None
returns-in-None c = λ ps are. without_value ps c.args.pair.now c.args.last.now (sym c.text_pair.ensures ∙ ap seen c.in-None.is) are

pub returns-in_ok-insert-in-Some : goal.returns-in_ok-insert-in-Some
returns-in_ok-insert-in-Some c = λ ps are.
    let k = c.in-Some.key in
    let v = c.in-Some.value in
    let put = btree_map_updates_str k.now c.args.last.now c.insert.new.self (Some v) c.in_ok-insert-in-Some.ensures.updates in
    with_value ps c.args.pair.now k v c.args.last.now c.insert.new.self (sym c.text_pair.ensures ∙ ap seen c.in-Some.is) put are
