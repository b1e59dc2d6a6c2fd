use Rattle.std.proofs.Common.{◌≡◌, ◌++◌, drop, map}
use Rattle.crs_identity.specs.Tokens.{lexeme, lexemes, lexemes_from, place}
use Rattle.crs_identity.proofs.tokens.tokens_of.Given as goal

abbrev pub invariant-loop-b : goal.invariant-loop-b
invariant-loop-b l = map lexeme l.tokens.items ++ lexemes_from (place l.mode) (drop l.b-index l.b-items) ≡ lexemes l.text
