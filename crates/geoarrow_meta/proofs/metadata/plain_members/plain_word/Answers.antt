use Rattle.std.proofs.Common.{◌∷◌, option_map, sym, ap, ◌∙◌}
use Rattle.json.specs.Lex.{token, punctuate}
use Rattle.geoarrow_meta.specs.PlainTokens.{word_token}
use Rattle.geoarrow_meta.proofs.PlainTexts.{no_colon, word_stands}
use Rattle.geoarrow_meta.proofs.metadata.plain_members.plain_word.Goals as goal

pub returns-in-44 : goal.returns-in-44
returns-in-44 c =
    let text = c.args.text.now in
    let word = sym c.after_spaces.ensures.same ∙ c.in_ok-word.ensures.0 ∙ ap (λ ls. token (word_token (option_map (λ s. s.now) c.in_ok-word.word)) ∷ ls) (sym c.after_spaces-at.ensures.same) in
    let ended = no_colon text c.after_spaces-at.result _ c.in-44.is (sym c.byte_at.ensures) in
    (λ p may. ap (punctuate p) word ∙ word_stands p _ _ may ended, c.after_spaces-at.ensures.within)
