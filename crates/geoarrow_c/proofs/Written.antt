-- The lines of columns, as they are and in normal form: column by column, of a report, and of the bytes of a file.
use Rattle.std.proofs.Common.{◌≡◌, false, String, Global, List, [], ◌∷◌, ◌++◌, flat_map, map, Ok, string_bytes, sym, subst, ap, ◌∙◌, append-nil}
use Rattle.std.specs.List.{AllZip}
use Rattle.std.proofs.lemmas.List.Concat.{flat_map-append}
use Rattle.arrow_columns.specs.Types.{ColumnTree}
use Rattle.column_files.specs.Files.{IsOpened}
use Rattle.column_files.specs.declared.opening.File.{File}
use Rattle.column_reports.specs.FileReport.{IsReport}
use Rattle.column_reports.specs.Weights.{plain}
use Rattle.column_reports.specs.declared.file.FileReport.{FileReport}
use Rattle.column_reports.specs.declared.report.ColumnReport.{ColumnReport}
use Rattle.geoarrow_fields.specs.Lines.{Bytes}
use Rattle.geoarrow_c.specs.Canonical.{line_of, AreCanonical, AreLinesOf, AreLinesOfFile, IsWritten}
use Rattle.geoarrow_c.specs.FileLines.{AreFileLines, AreLinesAsRead, tree_of}

-- of no columns there are no lines
pub no_lines : {lines : Bytes} → lines ≡ [] → AreLinesOf [] lines
no_lines none = record { columns = []; are_written = tt; are = none }

written_more : (reports : List ColumnReport) (columns : List ColumnTree) (r : ColumnReport) (n : ColumnTree) → AllZip IsWritten reports columns → IsWritten r n → AllZip IsWritten (reports ++ r ∷ []) (columns ++ n ∷ [])
written_more [] [] r n are is = (is, tt)
written_more (q ∷ reports) (m ∷ columns) r n are is = (are.0, written_more reports columns r n are.1 is)
written_more [] (m ∷ columns) r n are is = absurd are
written_more (q ∷ reports) [] r n are is = absurd are

-- one more column has its line behind the others
pub lines_more : (reports : List ColumnReport) (r : ColumnReport) (n : ColumnTree) (old new : Bytes) → AreLinesOf reports old → IsWritten r n → new ≡ old ++ line_of n
    → AreLinesOf (reports ++ r ∷ []) new
lines_more reports r n old new so_far written adds =
    let columns = so_far.columns in
    record {
      columns = columns ++ n ∷ [];
      are_written = written_more reports columns r n so_far.are_written written;
      are = adds ∙ ap (λ t. t ++ line_of n) so_far.are ∙ ap (λ t. flat_map line_of columns ++ t) (sym (append-nil (line_of n))) ∙ sym (flat_map-append line_of columns (n ∷ []));
    }

-- the lines of a report of a file
pub are_of_file : {opened : File} {lines : Bytes} (report : FileReport) → IsReport false (plain false) opened report → AreLinesOf report.columns.items lines → AreLinesOfFile opened lines
are_of_file report is_report are = record { report = report; is_report = is_report; are = are }

-- the lines of a file by its bytes
pub are_canonical : {bytes lines : Bytes} (opened : File) (found : String Global) → IsOpened bytes (Ok opened) → AreLinesOfFile opened (string_bytes found) → lines ≡ string_bytes found → AreCanonical bytes lines
are_canonical opened found is_opened are is = record { opened = opened; is_opened = is_opened; are = subst (AreLinesOfFile opened) (sym is) are }

-- the lines of the columns of a report of a file, as they are
pub as_read : {opened : File} {lines : Bytes} (report : FileReport) → IsReport false (plain false) opened report → lines ≡ flat_map line_of (map tree_of report.columns.items)
    → AreLinesAsRead opened lines
as_read report is_report are = record { report = report; is_report = is_report; are = are }

-- and by its bytes
pub are_file_lines : {bytes lines : Bytes} (opened : File) (found : String Global) → IsOpened bytes (Ok opened) → AreLinesAsRead opened (string_bytes found) → lines ≡ string_bytes found → AreFileLines bytes lines
are_file_lines opened found is_opened are is = record { opened = opened; is_opened = is_opened; are = subst (AreLinesAsRead opened) (sym is) are }
