-- What is found of columns with an element that breaks a rule (docs/FORMAT.md, 4.5).
use Rattle.std.specs.Prelude.{ℕ, ◌-◌, List, [], map, take, drop, Option, Some, option_map}
use Rattle.std.specs.List.{slice_get}
use Rattle.arrow_values.specs.Tree.{Text}
use Rattle.parquet_footer.specs.Element.{Element}
use Rattle.parquet_columns.specs.Columns.{FaultTree}
use Rattle.parquet_columns.specs.Levels.{open_behind, path_in}
use Rattle.parquet_columns.specs.Rules.{rule_message, rule_wanted}
use Rattle.parquet_columns.specs.declared.code.FileCode.TheVariants.{ElementInvalid}
use Rattle.parquet_columns.specs.declared.code.FilePart.TheVariants.{Elements}
use Rattle.parquet_columns.specs.Findings.{Finding}

-- the byte of the element at a place, if there is one
abbrev pub byte_at : List Element → ℕ → Option ℕ
byte_at es at = option_map (λ e. e.byte) (slice_get es at)

-- the elements from a place on, before another
abbrev pub between : List Element → ℕ → ℕ → List Element
between es start at = take (at - start) (drop start es)

-- the path down from the column whose element has that place, through the groups that are open there
abbrev pub name_at : List Element → ℕ → Option Text
name_at es at = option_map (λ e. e.storage.name.bytes) (slice_get es at)

abbrev pub path_at : List Element → ℕ → ℕ → List Text
path_at es start at = path_in (open_behind [] (between es start at)) (name_at es at)

-- in the column: what is wrong, what the rule asks, and where the element is that breaks it
abbrev pub invalid : List Element → FaultTree → Finding
invalid es f = record {
  code = ElementInvalid;
  column = Some f.column;
  path = path_at es f.at f.fault.at;
  place = record { part = Elements; byte = byte_at es f.fault.at };
  found = Some (rule_message f.fault.rule);
  wanted = Some (rule_wanted f.fault.rule);
}

abbrev pub invalid_elements : List Element → List FaultTree → List Finding
invalid_elements es fs = map (invalid es) fs
