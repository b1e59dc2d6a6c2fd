use Rattle.std.proofs.Common.{◌≡◌, drop}
use Rattle.std.specs.List.{list_all}
use Rattle.crs_identity.specs.Wkt.{is_word_byte}
use Rattle.crs_identity.proofs.wkt.are_word_bytes.Given as goal

abbrev pub invariant-loop-b : goal.invariant-loop-b
invariant-loop-b l = list_all is_word_byte (drop l.b-index l.word) ≡ list_all is_word_byte l.word
