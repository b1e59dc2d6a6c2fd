-- The lines of what of a file is not as in the first, by the steps that make them.
use Rattle.std.proofs.Common.{◌≡◌, List, Option, subst, ap, ◌∙◌}
use Rattle.arrow_values.specs.Tree.{Text}
use Rattle.column_files.specs.declared.opening.File.{File}
use Rattle.column_reports.specs.FileReport.{IsReport}
use Rattle.column_reports.specs.Weights.{Weighing, plain}
use Rattle.column_reports.specs.declared.file.FileReport.{FileReport}
use Rattle.column_reports.specs.declared.report.ColumnReport.{ColumnReport}
use Rattle.column_reports.specs.declared.report.Options.{Options}
use Rattle.same_columns.specs.Files.{AreLinesOf}
use Rattle.same_columns.specs.Lines.{unlike_lines}
use Rattle.same_columns.specs.Unlike.{AreUnlike, UnlikeOf}

pub are_lines : {file : Option Text} {o : Options} {first other : File} {lines : Text} {w : Weighing} {firsts others : List ColumnReport} {us : List UnlikeOf} (of_first of_other : FileReport) (found : List UnlikeOf)
    → IsReport o.infer (plain o.notes) first of_first → IsReport o.infer (plain o.notes) other of_other
    → w ≡ plain o.notes → firsts ≡ of_first.columns.items → others ≡ of_other.columns.items → AreUnlike w firsts others found
    → us ≡ found → lines ≡ unlike_lines file us → AreLinesOf file o first other lines
are_lines {file = file} {o = o} {w = w} {firsts = firsts} {others = others} of_first of_other found is_of_first is_of_other weighed firsts_are others_are are_found told are = record {
  of_first = of_first;
  of_other = of_other;
  found = found;
  is_of_first = is_of_first;
  is_of_other = is_of_other;
  are_found =
      subst (λ rs. AreUnlike (plain o.notes) of_first.columns.items rs found) others_are
      (subst (λ rs. AreUnlike (plain o.notes) rs others found) firsts_are
      (subst (λ w. AreUnlike w firsts others found) weighed are_found));
  are = are ∙ ap (unlike_lines file) told;
}
