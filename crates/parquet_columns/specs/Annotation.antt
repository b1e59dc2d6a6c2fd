-- What a group means: by its logical type, or where it has none by its converted type.
use Rattle.std.specs.Prelude.{ℕ, ℤ, pos, negsuc, Option, Some, None, ◌==◌, if◌then◌else◌}
use Rattle.parquet_footer.specs.Logical.{Logical, other}
use Rattle.parquet_footer.specs.Element.{Element}
use Rattle.parquet_columns.specs.declared.annotation.Annotation.{Annotation}
use Rattle.parquet_columns.specs.declared.annotation.Annotation.TheVariants.{Plain, List, Map}

-- logical types by their ids: 2 MAP, 3 LIST
abbrev pub logical_annotation : Logical → Annotation
logical_annotation (other id) =
    if id == 2 then Map else
    if id == 3 then List else Plain
logical_annotation _ = Plain

-- converted types: 1 MAP, 3 LIST
abbrev pub annotation_by_number : ℕ → Annotation
annotation_by_number n =
    if n == 1 then Map else
    if n == 3 then List else Plain

abbrev pub converted_annotation : ℤ → Annotation
converted_annotation (pos n) = annotation_by_number n
converted_annotation (negsuc n) = Plain

abbrev pub annotation_by : Option Logical → Option ℤ → Annotation
annotation_by (Some l) converted = logical_annotation l
annotation_by None (Some n) = converted_annotation n
annotation_by None None = Plain

abbrev pub annotation_of : Element → Annotation
annotation_of e = annotation_by e.logical_type e.converted_type
