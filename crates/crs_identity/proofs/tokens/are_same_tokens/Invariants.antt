use Rattle.std.proofs.Common.{◌≡◌, drop, map}
use Rattle.std.specs.Slice.Iter.{iter_rest}
use Rattle.crs_identity.specs.Tokens.{are_same_lexemes, lexeme}
use Rattle.crs_identity.proofs.tokens.are_same_tokens.Given as goal

abbrev pub invariant-loop-x : goal.invariant-loop-x
invariant-loop-x l = are_same_lexemes (map lexeme l.a) (map lexeme l.b) ≡ are_same_lexemes (map lexeme (drop l.x-index l.a)) (map lexeme (iter_rest l.others))
