-- What is found of keys, one after the other.
use Rattle.std.proofs.Common.{◌≡◌, Some, List, ◌++◌, ap, ◌∙◌, append_assoc}
use Rattle.arrow_values.specs.Tree.{Text}
use Rattle.arrow_values.specs.Texts.{name_key, metadata_key}
use Rattle.parquet_columns.specs.declared.code.FilePart.{FilePart}
use Rattle.parquet_columns.specs.Findings.{Finding}
use Rattle.parquet_columns.specs.Entries.{repeated_in, repeated_on}

-- of the two keys of a column's extension type
pub both_keys : (part : FilePart) (name : Text) (es : List (Text × Text)) (before middle after : List Finding) → middle ≡ before ++ repeated_in part (Some name) es name_key
    → after ≡ middle ++ repeated_in part (Some name) es metadata_key → after ≡ before ++ repeated_on part name es
both_keys part name es before middle after first second =
    second ∙ ap (λ xs. xs ++ repeated_in part (Some name) es metadata_key) first
    ∙ append_assoc before (repeated_in part (Some name) es name_key) (repeated_in part (Some name) es metadata_key)
