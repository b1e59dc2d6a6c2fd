use Rattle.std.proofs.Common.{Err, sym, subst}
use Rattle.column_files.specs.Files.{IsEndOpened, IsArrowRead, IsParquetRead}
use Rattle.column_files.specs.declared.form.Form.TheVariants.{ArrowFile, ArrowStream, Parquet, Lines}
use Rattle.column_files.proofs.Footers.{of_arrow, of_parquet}
use Rattle.column_files.proofs.Opened.{end_opened}
use Rattle.column_files.proofs.opening.open_end.Goals as goal

pub returns-in-ArrowFile : goal.returns-in-ArrowFile
returns-in-ArrowFile c =
    let end = c.args.end.now in
    let r = c.open_arrow.result in
    let read = subst (λ n. IsArrowRead n end r) c.file_size.ensures c.open_arrow.ensures.is in
    subst (λ f. IsEndOpened f c.args.start end r) (sym c.in-ArrowFile.is)
    (end_opened ArrowFile c.args.start end r c.open_arrow.ensures.form (of_arrow c.args.start end r read))

pub returns-in-ArrowStream : goal.returns-in-ArrowStream
returns-in-ArrowStream c =
    let end = c.args.end.now in
    let r = c.open_stream.result in
    subst (λ f. IsEndOpened f c.args.start end r) (sym c.in-ArrowStream.is)
    (end_opened ArrowStream c.args.start end r c.open_stream.ensures.form c.open_stream.ensures.is)

pub returns-in-Parquet : goal.returns-in-Parquet
returns-in-Parquet c =
    let end = c.args.end.now in
    let r = c.open_parquet.result in
    let read = subst (λ n. IsParquetRead n end r) c.file_size-in-Parquet.ensures c.open_parquet.ensures.is in
    subst (λ f. IsEndOpened f c.args.start end r) (sym c.in-Parquet.is)
    (end_opened Parquet c.args.start end r c.open_parquet.ensures.form (of_parquet c.args.start end r read))

pub returns-in-Lines : goal.returns-in-Lines
returns-in-Lines c =
    let end = c.args.end.now in
    let r = c.file_of_lines.result in
    subst (λ f. IsEndOpened f c.args.start end r) (sym c.in-Lines.is)
    (end_opened Lines c.args.start end r c.file_of_lines.ensures.form c.file_of_lines.ensures.is)

pub returns-in-Foreign : goal.returns-in-Foreign
returns-in-Foreign c = subst (λ f. IsEndOpened f c.args.start c.args.end.now (Err c.foreign_fault.result)) (sym c.in-Foreign.is) c.foreign_fault.ensures
