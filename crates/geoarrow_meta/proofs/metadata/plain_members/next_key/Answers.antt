use Rattle.std.proofs.Common.{cond, ◌∷◌, arith, refl, sym, ap, ◌∙◌}
use Rattle.json.specs.Lex.{fresh, after_value, punctuate, token}
use Rattle.json.specs.Token.{string}
use Rattle.geoarrow_meta.specs.PlainTokens.{lexemes_at}
use Rattle.geoarrow_meta.proofs.PlainTexts.{operator_stands, object_ends, key_stands}
use Rattle.geoarrow_meta.proofs.metadata.plain_members.next_key.Goals as goal

pub returns-then-byte_at-eq125 : goal.returns-then-byte_at-eq125
returns-then-byte_at-eq125 c =
    let text = c.args.text.now in
    let brace = operator_stands text c.after_spaces-at.result 125 refl (sym c.byte_at.ensures ∙ c.if-byte_at-eq125.true) in
    let stands = ap (punctuate (cond c.args.after_member after_value fresh)) (sym c.after_spaces-at.ensures.same ∙ brace.1) in
    record { key = stands ∙ object_ends c.args.after_member (lexemes_at text _); within = omega (arith, brace.0) }

pub returns-clause-key : goal.returns-clause-key
returns-clause-key c =
    let place = c.in_ok-key_place.ensures.place in
    let key = c.in_ok-key.ensures.0 ∙ ap (λ ls. token (string c.in_ok-key.key.now) ∷ ls) (sym c.after_spaces.ensures.same ∙ c.in_ok-at.ensures.0) in
    ap (punctuate (cond c.args.after_member after_value fresh)) (sym c.after_spaces-at.ensures.same) ∙ place.2 ∙ ap (punctuate place.0) key ∙ key_stands place.0 _ _ place.1
