-- When what is read of the first and the last bytes of a file is what is read of the whole file.
use Rattle.std.specs.Prelude.{◌≡◌, ◌-◌, ◌≤◌, ◌↔◌, ℕ, List, ◌++◌, length, take, Option, None, Some, Result, ⊤}
use Rattle.column_files.specs.Forms.{IsForm, head_bytes, head_form}
use Rattle.column_files.specs.Files.{IsArrowRead, IsParquetRead, IsFileRead, HasFooter, IsEndOpened, IsOpened}
use Rattle.column_files.specs.declared.columns.FileFault.{FileFault}
use Rattle.column_files.specs.declared.form.Form.{Form}
use Rattle.column_files.specs.declared.form.Form.TheVariants.{ArrowFile, Parquet}
use Rattle.column_files.specs.declared.opening.File.{File}
use Rattle.wanted_ranges.specs.declared.ranges.Ranges.{Ranges}

-- the file begins so; where its size is known, it has that, and behind others these are its last bytes
abbrev pub IsGivenOf : List ℕ → List ℕ → Option ℕ → List ℕ → Type 0
IsGivenOf head tail (Some size) whole = (length whole ≡ size) × ((others : List ℕ) × (whole ≡ head ++ (others ++ tail)))
IsGivenOf head tail None whole = (others : List ℕ) × (whole ≡ head ++ others)

-- the bytes of it that are given
abbrev pub given : List ℕ → List ℕ → Option ℕ → List ℕ
given head tail (Some size) = head ++ tail
given head tail None = head

-- what is read of such bytes of a file in that format and of that size: of an Arrow or Parquet file by their end
abbrev pub IsReadOf : Form → ℕ → List ℕ → Result File FileFault → Type 0
IsReadOf ArrowFile size bytes r = IsArrowRead size bytes r
IsReadOf Parquet size bytes r = IsParquetRead size bytes r
IsReadOf form size bytes r = IsFileRead form bytes r

-- they tell the format of the whole, and what is read of them is what is read of the whole
abbrev pub AreReadAs : Form → List ℕ → List ℕ → Type 0
AreReadAs form bytes whole = IsForm whole form × ((r : Result File FileFault) → IsReadOf form (length whole) bytes r ↔ IsFileRead form whole r)

-- the end of a file, before which so many bytes stand, has the footer whose size it tells, or is the whole file; nothing is asked of a format without one
abbrev pub HasItsFooter : Form → ℕ → List ℕ → Type 0
HasItsFooter ArrowFile start end = HasFooter 10 start end
HasItsFooter Parquet start end = HasFooter 8 start end
HasItsFooter form start end = ⊤

-- what `open_end` opens of them, with as many bytes before them as are left out, is what `open` opens of the whole
abbrev pub AreOpenedAs : Form → List ℕ → List ℕ → Type 0
AreOpenedAs form bytes whole =
    (r : Result File FileFault) → HasItsFooter form (length whole - length bytes) bytes → IsEndOpened form (length whole - length bytes) bytes r → IsOpened whole r

-- so it is with each file that begins and ends so
abbrev pub IsCovered : List ℕ → List ℕ → Option ℕ → Type 0
IsCovered head tail size =
    (whole : List ℕ) → IsGivenOf head tail size whole
    → AreReadAs (head_form (take head_bytes head)) (given head tail size) whole × AreOpenedAs (head_form (take head_bytes head)) (given head tail size) whole

-- where as many bytes are given as are wanted
abbrev pub IsEnough : List ℕ → List ℕ → Option ℕ → Ranges → Type 0
IsEnough head tail size ranges = ranges.head ≤ length head → ranges.tail ≤ length tail → IsCovered head tail size
