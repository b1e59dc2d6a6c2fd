use Rattle.std.proofs.Common.{length}
use Rattle.json.specs.Lex.{tokens}
use Rattle.value_tokens.proofs.Copies.{SoFar}
use Rattle.geoarrow_meta.proofs.text.put_json.Given as goal

abbrev pub invariant-tokens : goal.invariant-tokens
invariant-tokens l = SoFar (tokens l.text) l.initial.out l.out l.reader

abbrev pub decreases-tokens : goal.decreases-tokens
decreases-tokens l = length l.reader
