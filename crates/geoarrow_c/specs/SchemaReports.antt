-- The report of a schema that lies in memory (docs/FORMAT.md, 2.5 to 2.8): that of an Arrow stream of it.
use Rattle.std.specs.Prelude.{◌≡◌, ◌⊎◌, ℕ, [], Option, None, Result, Ok, Err, String, string_bytes}
use Rattle.std.specs.Global.{Global}
use Rattle.arrow_values.specs.Texts.{text_at}
use Rattle.arrow_values.specs.View.{texts_of}
use Rattle.column_files.specs.Files.{HasNoBadLines, HasNoElements}
use Rattle.column_files.specs.Geo.{geo_of, of_schema}
use Rattle.column_files.specs.Refusals.{Told, told}
use Rattle.column_files.specs.declared.columns.FileFault.{FileFault}
use Rattle.column_files.specs.declared.columns.FileFault.TheVariants as files
use Rattle.column_files.specs.declared.form.Form.TheVariants.{ArrowStream}
use Rattle.column_files.specs.declared.opening.File.{File}
use Rattle.column_reports.specs.FileReport.{IsReport, IsWithin, report_text}
use Rattle.column_reports.specs.Weights.{plain}
use Rattle.column_reports.specs.declared.file.FileReport.{FileReport}
use Rattle.column_reports.specs.declared.report.Options.{Options}
use Rattle.geoarrow_fields.specs.Lines.{Bytes}
use Rattle.parquet_columns.specs.Budget.{budget}
use Rattle.parquet_columns.specs.Findings.{geo_key}
use Rattle.record_columns.specs.declared.schema.RecordSchema.{RecordSchema}
use Rattle.geoarrow_c.specs.Records.{Schema, IsRead}
use Rattle.geoarrow_c.specs.Refusals.{line_of, IsLineOfFile}
use Rattle.geoarrow_c.specs.Reports.{options_number}
use Rattle.geoarrow_c.specs.Walks.{walk_number}
use Rattle.geoarrow_c.specs.declared.records.Refusal.{Refusal}
use Rattle.geoarrow_c.specs.declared.records.Refusal.TheVariants as refusals
use Rattle.geoarrow_c.specs.declared.walk.Walk.{Walk}

-- what is opened of a schema: its columns, and what stands at the key `geo`; nothing else is found
pub record IsOpenedAs (s : RecordSchema) (file : File) : Type 0 where
  pub form : file.form ≡ ArrowStream
  pub columns : file.columns ≡ s.columns
  pub geo : geo_of file.geo ≡ of_schema (text_at geo_key (texts_of s.metadata.entries))
  pub no_findings : file.findings.items ≡ []
  pub no_elements : HasNoElements file
  pub no_bad_lines : HasNoBadLines file

-- the report of a schema
pub record IsReportOf (o : Options) (s : RecordSchema) (r : FileReport) : Type 0 where
  pub opened : File
  pub is : IsOpenedAs s opened
  pub said : IsReport o.infer (plain o.notes) opened r

-- its lines, within the budget of so many bytes; or why there are none
abbrev pub ReportsOf : Options → ℕ → RecordSchema → Result (String Global) FileFault → Type 0
ReportsOf o size s result = (r : FileReport) × IsReportOf o s r × IsWithin (budget size) (report_text None r) result

abbrev pub Reports : Options → ℕ → RecordSchema → Result (String Global) FileFault → Type 0
Reports o size s (Ok lines) = ReportsOf o size s (Ok lines)
Reports o size s (Err fault) = (fault ≡ files.OutOfMemory) ⊎ ReportsOf o size s (Err fault)

-- ---- of what was read

-- the text is the report of a schema that was read
abbrev pub IsReportRead : Options → ℕ → Result RecordSchema Refusal → Bytes → Type 0
IsReportRead o size (Ok s) text = (lines : String Global) × Reports o size s (Ok lines) × (text ≡ string_bytes lines)
IsReportRead o size (Err refusal) text = ⊥

-- the line says why there is no report
abbrev pub IsUnreported : Options → ℕ → Result RecordSchema Refusal → Bytes → Type 0
IsUnreported o size (Ok s) line = (fault : FileFault) × Reports o size s (Err fault) × IsLineOfFile None ArrowStream fault line
IsUnreported o size (Err (refusals.Told fault)) line = line ≡ line_of None (told fault)
IsUnreported o size (Err refusals.OutOfMemory) line = ⊥

-- ---- of a walk, after which `given` is what there is, by how it ended

-- the text is what `Is` says of what was read, under the options of the number
pub record IsOfWalk (Is : Options → ℕ → Result RecordSchema Refusal → Bytes → Type 0) (given : Walk → Option (Result Schema Told)) (size number ended : ℕ) (text : Bytes) : Type 0 where
  pub options : Options
  pub walk : Walk
  pub read : Result RecordSchema Refusal
  pub number_is : number ≡ options_number options
  pub walk_is : ended ≡ walk_number walk
  pub is_read : IsRead read (given walk)
  pub is : Is options size read text

-- the lines are the report of the schema; the line says why there is none
abbrev pub IsSchemaReport : (Walk → Option (Result Schema Told)) → ℕ → ℕ → ℕ → Bytes → Type 0
IsSchemaReport given size number ended lines = IsOfWalk IsReportRead given size number ended lines

abbrev pub IsSchemaUnreported : (Walk → Option (Result Schema Told)) → ℕ → ℕ → ℕ → Bytes → Type 0
IsSchemaUnreported given size number ended line = IsOfWalk IsUnreported given size number ended line
