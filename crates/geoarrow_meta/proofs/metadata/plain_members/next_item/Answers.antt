use Rattle.std.proofs.Common.{cond, arith, refl, sym, ap, ◌∙◌}
use Rattle.json.specs.Lex.{fresh, after_value, punctuate}
use Rattle.geoarrow_meta.specs.PlainTokens.{lexemes_at}
use Rattle.geoarrow_meta.proofs.PlainTexts.{operator_stands, array_ends}
use Rattle.geoarrow_meta.proofs.metadata.plain_members.next_item.Goals as goal

pub returns-then-byte_at-eq93 : goal.returns-then-byte_at-eq93
returns-then-byte_at-eq93 c =
    let text = c.args.text.now in
    let bracket = operator_stands text c.after_spaces-at.result 93 refl (sym c.byte_at.ensures ∙ c.if-byte_at-eq93.true) in
    let stands = ap (punctuate (cond c.args.after_item after_value fresh)) (sym c.after_spaces-at.ensures.same ∙ bracket.1) in
    record { end = λ _. stands ∙ array_ends c.args.after_item (lexemes_at text _); item = λ never. cc; within = omega (arith, bracket.0) }
