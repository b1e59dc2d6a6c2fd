use Rattle.std.proofs.Common.{refl, sym, ap, ap₂, ◌∙◌, cond}
use Rattle.json.specs.Lex.{fresh, after_comma, after_value, punctuate}
use Rattle.geoarrow_meta.specs.PlainTokens.{tokens_left}
use Rattle.geoarrow_meta.proofs.metadata.plain_members.key_place.Goals as goal

pub returns-then-not-after_member-clause-place : goal.returns-then-not-after_member-clause-place
returns-then-not-after_member-clause-place c = (fresh, refl, ap (λ b. tokens_left b c.args.text.now c.args.at) c.if-not-after_member.true)

pub returns-clause-place : goal.returns-clause-place
unfolding punctuate
returns-clause-place c =
    (after_comma, refl, ap₂ (λ b ls. punctuate (cond b after_value fresh) ls) c.if-not-after_member.false c.in_ok-at.ensures.0 ∙ ap (punctuate after_comma) (sym c.after_spaces.ensures.same))
