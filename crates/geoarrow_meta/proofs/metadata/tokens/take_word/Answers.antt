use Rattle.std.proofs.Common.{arith, ◌≡◌, ◌∷◌, length, refl, ap, ◌∙◌}
use Rattle.json.specs.Token.{Token}
use Rattle.json.specs.Reads.{token_of}
use Rattle.value_tokens.specs.Next.{next_value}
use Rattle.value_tokens.proofs.Beginnings.{passed, next_string, next_null, no_text, no_null}
use Rattle.geoarrow_meta.proofs.KeyedValues.{no_word}
use Rattle.geoarrow_meta.proofs.metadata.tokens.take_word.Goals as goal

pub returns-in-String-clause-ok : goal.returns-in-String-clause-ok
returns-in-String-clause-ok c =
    let is : c.args.reader.now ≡ Token.string c.in-String.text.now ∷ c.next.new.self = grind arith in
    (_, ap (next_value c.args.depth) is ∙ next_string c.args.depth c.in-String.text.now c.next.new.self, refl)

pub returns-in-Null-clause-ok : goal.returns-in-Null-clause-ok
returns-in-Null-clause-ok c =
    let is : c.args.reader.now ≡ Token.null ∷ c.next.new.self = grind arith in
    (_, ap (next_value c.args.depth) is ∙ next_null c.args.depth c.next.new.self, refl)

pub returns-in_ok-skip_rest-in_default : goal.returns-in_ok-skip_rest-in_default
returns-in_ok-skip_rest-in_default c =
    let first : c.args.reader.now ≡ token_of c.in_ok-token.token ∷ c.next.new.self = grind arith in
    let d = passed c.args.depth c.in_ok-token.token c.args.reader.now c.next.new.self c.skip_rest.new.reader first c.in_ok-skip_rest-in_default.ensures.ok in
    let other = no_word d.0 (no_null c.in_ok-token.token d.0 d.2 c.in_default.not-Null) (no_text c.in_ok-token.token d.0 d.2 c.in_default.not-String) in
    record { ok = (d.0, d.1, other); shorter = omega (arith, ap length first, c.in_ok-skip_rest-in_default.ensures.shorter); text = λ never. cc }
