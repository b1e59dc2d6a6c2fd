-- What is found of the CRS that the geometry type of an element says beside a field with an extension name of its own (docs/FORMAT.md, 2.6 and 4.6).
use Rattle.std.specs.Prelude.{◌≡◌, true, false, List, [], codes, Option, None, Some}
use Rattle.arrow_values.specs.Tree.{Text, plain, binary}
use Rattle.arrow_values.specs.Texts.{set_extension}
use Rattle.arrow_columns.specs.Types.{ColumnTree, known}
use Rattle.column_check.specs.Finding.{IsFinding}
use Rattle.column_check.specs.Warnings.{AreWarnings}
use Rattle.column_check.specs.declared.finding.Finding.{Finding}
use Rattle.column_check.specs.declared.warning.Warning.{Warning}

-- the column that the element gives where its field has no name: well-known binary with those extension metadata
abbrev pub element_column : Text → ColumnTree
element_column text = record {
  name = [];
  data_type = known (plain binary);
  nullable = true;
  metadata = set_extension (codes "geoarrow.wkb") (Some text) [];
}

-- what is found of that column
abbrev pub AreOfElement : Text → List Warning → Type 0
AreOfElement text ws = (f : Finding) × IsFinding false (element_column text) f × AreWarnings false (element_column text) f ws

-- so beside a field, if the element says something beside it
abbrev pub AreBeside : Option Text → List Warning → Type 0
AreBeside None ws = ws ≡ []
AreBeside (Some text) ws = AreOfElement text ws
