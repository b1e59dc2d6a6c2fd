use Rattle.std.proofs.Common.{◌<◌, length, arith, ap, ◌∙◌}
use Rattle.json.specs.Lex.{punctuate}
use Rattle.geoarrow_meta.proofs.PlainTexts.{number_lexed, number_stands}
use Rattle.geoarrow_meta.proofs.metadata.plain_members.plain_number.Goals as goal

pub returns : goal.returns
returns c =
    let end = c.word_end-end in
    let before_end : end.result < length c.args.text.now = omega (arith, end.ensures.within.1, c.if-end-text.false) in
    let number = number_lexed c.args.text.now _ c.args.at end.result end.ensures.within.0 before_end c.range-number.ensures.value (c.is_number.ensures.0 c.if-not-is_number.false) (end.ensures.ended before_end) in
    (λ p may. ap (punctuate p) number ∙ number_stands p _ _ may, end.ensures.within.1)
