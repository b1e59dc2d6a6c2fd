use Rattle.std.proofs.Common.{◌≡◌, ◌++◌, map, flat_map, take, string_bytes}
use Rattle.file_check.specs.Table.{note_text}
use Rattle.file_check.proofs.table.push_notes.Given as goal

abbrev pub invariant-loop-note : goal.invariant-loop-note
invariant-loop-note l = string_bytes l.text ≡ string_bytes l.initial.text ++ flat_map note_text (map string_bytes (take l.note-index l.notes))
