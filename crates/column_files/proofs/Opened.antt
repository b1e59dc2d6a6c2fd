-- From what is read of a file to what is opened.
use Rattle.std.proofs.Common.{◌≡◌, ℕ, List, [], IfOk, Result, Ok, Err, refl, sym, subst, inr}
use Rattle.column_files.specs.Forms.{IsForm}
use Rattle.column_files.specs.Files.{IsFileRead, IsEndRead, IsOpened, IsEndOpened}
use Rattle.column_files.specs.declared.columns.FileFault.{FileFault}
use Rattle.column_files.specs.declared.form.Form.{Form}
use Rattle.column_files.specs.declared.form.Form.TheVariants.{ArrowFile, ArrowStream, Parquet, Lines, Foreign}
use Rattle.column_files.specs.declared.opening.File.{File}

-- what is read of an end, as a file of the format
pub end_opened : (form : Form) (start : ℕ) (end : List ℕ) (r : Result File FileFault) → IfOk r (λ file. file.form ≡ form) → IsEndRead form start end r → IsEndOpened form start end r
end_opened form start end (Ok file) same read = (same, read)
end_opened form start end (Err fault) same read = read

-- the end is the whole file, where nothing stands before it
whole : (form : Form) (bytes : List ℕ) (r : Result File FileFault) → IsEndRead form 0 bytes r → IsFileRead form bytes r
whole ArrowFile bytes r is = is [] refl (inr refl)
whole ArrowStream bytes r is = is
whole Parquet bytes r is = is [] refl (inr refl)
whole Lines bytes r is = is
whole (Foreign foreign) bytes r is = is

pub opened : (bytes : List ℕ) (form : Form) (r : Result File FileFault) → IsForm bytes form → IsEndOpened form 0 bytes r → IsOpened bytes r
opened bytes form (Ok file) is (same, read) =
    (subst (IsForm bytes) (sym same) is, subst (λ f. IsFileRead f bytes (Ok file)) (sym same) (whole form bytes (Ok file) read))
opened bytes form (Err fault) is read = (form, is, whole form bytes (Err fault) read)
