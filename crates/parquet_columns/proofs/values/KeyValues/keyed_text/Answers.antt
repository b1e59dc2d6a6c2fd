use Rattle.std.proofs.Common.{◌≡◌, IfOk, map, string_bytes, subst, ◌∙◌}
use Rattle.parquet_footer.specs.Footer.{pairing}
use Rattle.parquet_columns.specs.Geometry.{keyed_crs, text_with}
use Rattle.parquet_columns.specs.Keys.{text_at}
use Rattle.parquet_columns.specs.Values.{compact_of}
use Rattle.parquet_columns.proofs.values.KeyValues.keyed_text.Goals as goal

pub invariant_of-self : goal.invariant_of-self
invariant_of-self c =
    let key = c.args.key.now in
    (c.self.invariant.0, c.in_err-judge.ensures.stay c.self.inside.pairs.now c.self.invariant.1 (c.value_in-value.ensures ∙ c.self.invariant.0 key))

pub invariant_of-self-2 : goal.invariant_of-self-2
invariant_of-self-2 c =
    let key = c.args.key.now in
    (c.self.invariant.0, c.in_ok-judge.ensures.stay c.self.inside.pairs.now c.self.invariant.1 (c.value_in-value.ensures ∙ c.self.invariant.0 key))

pub text_by-requires : goal.text_by-requires
text_by-requires c =
    let key = c.args.key.now in
    let ps = c.self.inside.pairs.now in
    let value = text_at key (map pairing ps) in
    let judged = c.in_ok-judge.ensures.stay ps c.self.invariant.1 (c.value_in-value.ensures ∙ c.self.invariant.0 key) in
    (value, c.judged_at-json.ensures (compact_of value) (judged key c.in_ok-judge.ensures.known))

pub returns-clause-text : goal.returns-clause-text
returns-clause-text c =
    let key = c.args.key.now in
    let ps = c.self.inside.pairs.now in
    let value = text_at key (map pairing ps) in
    let judged = c.in_ok-judge.ensures.stay ps c.self.invariant.1 (c.value_in-value.ensures ∙ c.self.invariant.0 key) in
    subst (λ qs. IfOk c.text_by.result (λ made. string_bytes made ≡ text_with (keyed_crs (text_at key qs)) c.args.edges)) c.self.view_is
    (c.text_by.ensures value (c.judged_at-json.ensures (compact_of value) (judged key c.in_ok-judge.ensures.known)))
