use Rattle.std.proofs.Common.{◌≡◌, ◌+◌, ◌≤◌, ◌++◌, length, map}
use Rattle.crs_identity.specs.Identifiers.{name_of}
use Rattle.crs_identity.specs.Tokens.{lexeme}
use Rattle.crs_identity.specs.Wkt.{identifiers_from}
use Rattle.crs_identity.proofs.wkt.wkt_identifiers.Given as goal

abbrev pub invariant-tokens : goal.invariant-tokens
invariant-tokens l = record {
  so_far : map name_of l.found.items ++ identifiers_from l.depth (map lexeme l.rest) ≡ map name_of l.initial.found.items ++ identifiers_from 0 (map lexeme l.tokens);
  shallow : l.depth + length l.rest ≤ length l.tokens;
}

abbrev pub decreases-tokens : goal.decreases-tokens
decreases-tokens l = length l.rest
