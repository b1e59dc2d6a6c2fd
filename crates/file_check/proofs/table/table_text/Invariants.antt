use Rattle.std.proofs.Common.{◌≡◌, ◌++◌, map, flat_map, take, string_bytes}
use Rattle.file_check.specs.Table.{line_of, line_text, head}
use Rattle.file_check.proofs.table.table_text.Given as goal

abbrev pub invariant-loop-row : goal.invariant-loop-row
invariant-loop-row l = string_bytes l.text ≡ line_text l.rooms head ++ flat_map (line_text l.rooms) (map line_of (take l.row-index l.rows))
