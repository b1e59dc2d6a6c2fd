use Rattle.std.proofs.Common.{◌≡◌, flat_map, string_bytes, take}
use Rattle.geoparquet.specs.Spelled.{spelled_byte}
use Rattle.column_reports.proofs.bytes.spelled.Given as goal

abbrev pub invariant-loop-byte : goal.invariant-loop-byte
invariant-loop-byte l = string_bytes l.text ≡ flat_map spelled_byte (take l.byte-index l.bytes)
