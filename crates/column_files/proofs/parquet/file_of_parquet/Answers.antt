use Rattle.std.proofs.Common.{◌≡◌, map, option_map, refl, ap, ◌∙◌, rules}
use Rattle.parquet_footer.specs.Findings.{finding}
use Rattle.parquet_footer.specs.Spelled.{spelled}
use Rattle.column_files.specs.InFile.{texts_in_file}
use Rattle.column_files.proofs.parquet.file_of_parquet.Goals as goal

pub returns-in_ok-texts_in_file-in-Ok-clause-is : goal.returns-in_ok-texts_in_file-in-Ok-clause-is
returns-in_ok-texts_in_file-in-Ok-clause-is c =
    let read = c.in-Ok.read in
    let columns = rw c.in-Ok.is at c.requires.columns in
    let texts = rw c.in-Ok.is at c.requires.texts in
    let value = rw c.in-Ok.is at c.requires.value in (
      record { columns = read.columns; elements = read.elements; refuted = read.refuted; findings = read.findings },
      columns,
      (refl, refl, refl, c.in_ok-findings_in_file-in-Ok.ensures),
      (
        map finding read.texts.items,
        texts,
        c.in_ok-texts_in_file-in-Ok.ensures ∙ ap (λ l. texts_in_file c.args.begin (map finding l)) c.as_slice.ensures.value,
      ),
      (option_map spelled read.value, value, c.geo_of_footer.ensures),
      c.new.ensures,
    )
