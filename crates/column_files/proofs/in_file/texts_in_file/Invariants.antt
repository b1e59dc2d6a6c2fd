use Rattle.std.proofs.Common.{◌≡◌, map, take}
use Rattle.parquet_footer.specs.Findings.{finding}
use Rattle.column_files.specs.InFile.{texts_in_file}
use Rattle.column_files.proofs.in_file.texts_in_file.Given as goal

abbrev pub invariant-loop-one : goal.invariant-loop-one
invariant-loop-one l = map finding l.told.items ≡ texts_in_file l.begin (map finding (take l.one-index l.found))
