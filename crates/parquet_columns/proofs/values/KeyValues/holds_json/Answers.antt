use Rattle.std.proofs.Common.{◌≡◌, is_some, map, subst, ap, ◌∙◌}
use Rattle.parquet_footer.specs.Footer.{pairing}
use Rattle.parquet_columns.specs.Keys.{text_at}
use Rattle.parquet_columns.specs.Values.{compact_of}
use Rattle.parquet_columns.proofs.values.KeyValues.holds_json.Goals as goal

pub invariant_of-self : goal.invariant_of-self
invariant_of-self c =
    let key = c.args.key.now in
    (c.self.invariant.0, c.in_err-judge.ensures.stay c.self.inside.pairs.now c.self.invariant.1 (c.value_in-value.ensures ∙ c.self.invariant.0 key))

pub invariant_of-self-2 : goal.invariant_of-self-2
invariant_of-self-2 c =
    let key = c.args.key.now in
    (c.self.invariant.0, c.in_ok-judge.ensures.stay c.self.inside.pairs.now c.self.invariant.1 (c.value_in-value.ensures ∙ c.self.invariant.0 key))

pub returns-clause-is : goal.returns-clause-is
returns-clause-is c =
    let key = c.args.key.now in
    let ps = c.self.inside.pairs.now in
    let value = text_at key (map pairing ps) in
    let judged = c.in_ok-judge.ensures.stay ps c.self.invariant.1 (c.value_in-value.ensures ∙ c.self.invariant.0 key) in
    let found = c.judged_at-json.ensures (compact_of value) (judged key c.in_ok-judge.ensures.known) in
    subst (λ qs. c.is_there.result ≡ is_some (compact_of (text_at key qs))) c.self.view_is (c.is_there.ensures ∙ ap is_some found)
