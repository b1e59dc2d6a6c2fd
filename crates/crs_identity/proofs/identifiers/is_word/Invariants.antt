use Rattle.std.proofs.Common.{◌≡◌, drop, bytes_eq}
use Rattle.std.specs.Slice.Iter.{iter_rest}
use Rattle.crs_identity.specs.Identifiers.{in_small}
use Rattle.crs_identity.proofs.identifiers.is_word.Given as goal

abbrev pub invariant-loop-b : goal.invariant-loop-b
invariant-loop-b l = bytes_eq (in_small l.word) l.small ≡ bytes_eq (in_small (drop l.b-index l.word)) (iter_rest l.others)
