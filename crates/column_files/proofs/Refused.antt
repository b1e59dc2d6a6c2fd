-- From how a footer is refused to what is read of a file.
use Rattle.std.proofs.Common.{ℕ, List, Result, Err}
use Rattle.parquet_columns.specs.Reads as parquet
use Rattle.parquet_columns.specs.declared.error.SchemaError.{SchemaError}
use Rattle.column_files.specs.Files.{IsFooterFault, IsFooterRead}
use Rattle.column_files.specs.declared.columns.FileFault.{FileFault}
use Rattle.column_files.specs.declared.columns.FileFault.TheVariants.{NoField, Empty, Foreign, End, ReportTooLarge, Ipc, Footer, Tree, OutOfMemory}

pub refused : (begin : ℕ) (footer : Result (List ℕ) SchemaError) (error : SchemaError) (fault : FileFault)
    → parquet.IsFileRead footer (Err error) → IsFooterFault begin footer error fault → IsFooterRead begin footer (Err fault)
refused begin footer error (NoField n line) read is = (error, read, is)
refused begin footer error Empty read is = (error, read, is)
refused begin footer error (Foreign foreign found) read is = (error, read, is)
refused begin footer error (End end) read is = (error, read, is)
refused begin footer error ReportTooLarge read is = (error, read, is)
refused begin footer error (Ipc inner) read is = (error, read, is)
refused begin footer error (Footer rule at) read is = (error, read, is)
refused begin footer error (Tree rule byte) read is = (error, read, is)
refused begin footer error OutOfMemory read is = tt
