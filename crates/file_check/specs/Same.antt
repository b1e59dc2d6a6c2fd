-- The status of a file by in what its columns are not those of the first file (docs/FORMAT.md, 2.9).
use Rattle.std.specs.Prelude.{◌≡◌, ℕ, Bool, List, Option, Some, if◌then◌else◌}
use Rattle.std.specs.List.{list_any}
use Rattle.std.specs.declared.vec.Vec.{Vec}
use Rattle.std.specs.declared.alloc.Global.{Global}
use Rattle.column_check.specs.Severities.{is_error_of}
use Rattle.column_reports.specs.Weights.{Weighing}
use Rattle.column_reports.specs.declared.report.ColumnReport.{ColumnReport}
use Rattle.same_columns.specs.Unlike.{AreUnlike, UnlikeOf}

abbrev pub is_error : UnlikeOf → Bool
is_error u = is_error_of u.severity

abbrev pub status_of : List UnlikeOf → ℕ
status_of us = if list_any is_error us then 1 else 0

-- the status of a file whose columns are kept, where those of the first file are kept too
abbrev pub IsStatus : Weighing → Option (Vec ColumnReport Global) → Option (Vec ColumnReport Global) → ℕ → Type 0
IsStatus w (Some firsts) (Some lasts) status = (us : List UnlikeOf) × AreUnlike w firsts.items lasts.items us × (status ≡ status_of us)
IsStatus w first last status = status ≡ 0
