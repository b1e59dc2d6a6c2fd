use Rattle.std.proofs.Common.{length}
use Rattle.json.specs.Tree.{json_tokens}
use Rattle.value_tokens.proofs.Copies.{SoFar}
use Rattle.value_tokens.proofs.json_text.JsonText.put.Given as goal

abbrev pub invariant-tokens : goal.invariant-tokens
invariant-tokens l = SoFar (json_tokens l.self) l.initial.out l.out l.reader

abbrev pub decreases-tokens : goal.decreases-tokens
decreases-tokens l = length l.reader
