-- The error of a footer that is not read.
use Rattle.std.specs.Prelude.{Result, Ok, Err}
use Rattle.parquet_footer.specs.declared.fault.FooterError.{FooterError}
use Rattle.parquet_footer.specs.declared.fault.FooterError.TheVariants.{NotParquet, Encrypted, Invalid, Memory}
use Rattle.parquet_columns.specs.declared.error.SchemaError.{SchemaError}
use Rattle.parquet_columns.specs.declared.error.SchemaError.TheVariants.{Footer, OutOfMemory}

abbrev pub error_of : FooterError → SchemaError
error_of Memory = OutOfMemory
error_of NotParquet = Footer NotParquet
error_of Encrypted = Footer Encrypted
error_of (Invalid rule offset) = Footer (Invalid rule offset)

abbrev pub map_ok : {A B : Type 0} → (A → B) → Result A SchemaError → Result B SchemaError
map_ok f (Ok x) = Ok (f x)
map_ok f (Err e) = Err e
