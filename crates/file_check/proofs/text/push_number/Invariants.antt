use Rattle.std.proofs.Common.{◌≡◌, ◌++◌, string_bytes}
use Rattle.std.specs.Str.{encode_utf8_all}
use Rattle.std.specs.Char.Escape.{escape_unicode}
use Rattle.std.specs.Char.Iter.{escape_rest}
use Rattle.file_check.proofs.text.push_number.Given as goal

abbrev pub invariant-loop-part : goal.invariant-loop-part
invariant-loop-part l = record {
  text : string_bytes l.text ≡ string_bytes l.initial.text ++ encode_utf8_all l.yielded;
  rest : escape_unicode l.fn.character ≡ l.yielded ++ escape_rest l.part-iterator;
}
