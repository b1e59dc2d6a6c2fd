-- What calls answer of the end of a file.
use Rattle.std.specs.Prelude.{◌≡◌, ℕ, Result, Ok, Err, ⊤}
use Rattle.column_files.specs.Endings.{End, end_of}
use Rattle.column_files.specs.declared.columns.FileFault.{FileFault}
use Rattle.column_files.specs.declared.columns.FileFault.TheVariants.{End as OfEnd, OutOfMemory}

-- the file is refused by its end; or out of memory
abbrev pub IsEndFault : End → FileFault → Type 0
IsEndFault e (OfEnd fault) = end_of fault ≡ e
IsEndFault e OutOfMemory = ⊤
IsEndFault e fault = ⊥

-- the size of the footer, or why there is none
abbrev pub IsSized : Result ℕ End → Result ℕ FileFault → Type 0
IsSized (Ok size) (Ok told) = told ≡ size
IsSized (Err e) (Err fault) = IsEndFault e fault
IsSized _ _ = ⊥
