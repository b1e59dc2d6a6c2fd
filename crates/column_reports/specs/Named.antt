-- Who gives a column its extension name and metadata, and what its element says beside them (docs/FORMAT.md, 2.6).
use Rattle.std.specs.Prelude.{◌&&◌, ◌||◌, not, Bool, true, false, List, [], ◌∷◌, map, Option, None, Some, is_some, if◌then◌else◌}
use Rattle.std.specs.List.{zip}
use Rattle.arrow_values.specs.Tree.{Text}
use Rattle.arrow_values.specs.Texts.{text_of}
use Rattle.arrow_columns.specs.Column.{name_on}
use Rattle.arrow_columns.specs.Types.{ColumnTree}
use Rattle.parquet_columns.specs.Claims.{Claim, silent, gives, beside}
use Rattle.parquet_columns.specs.Layouts.{RootElement}
use Rattle.parquet_columns.specs.Reserved.{is_reserved}
use Rattle.parquet_columns.specs.Unreadable.{is_unreadable}
use Rattle.geoparquet.specs.Sources.{with_elements}
use Rattle.geoparquet.specs.Facts.{FactsOf, facts_alone}
use Rattle.column_check.specs.declared.code.WarningCode.{WarningCode}
use Rattle.column_check.specs.declared.code.WarningCode.TheVariants.{NestedGeometry}
use Rattle.column_check.specs.declared.warning.Warning.{Warning}
use Rattle.column_reports.specs.declared.named.Named.{Named}
use Rattle.column_reports.specs.declared.named.NamedBy.{NamedBy}
use Rattle.column_reports.specs.declared.named.NamedBy.TheVariants.{Nobody, Field, Element, Geo}

-- nobody, where it is not read, or its element refutes the field; the geometry type of its element; or its field, where GeoArrow or OGC would have to give
-- the name; or the member of `columns`, if anything does
abbrev pub field_or_geo : Option Text → NamedBy
field_or_geo name = if is_reserved name then Field else Geo

abbrev pub named_beside : ColumnTree → Claim → NamedBy
named_beside c (gives names_crs edges) = Element
named_beside c e = field_or_geo (name_on c)

abbrev pub named_by : ColumnTree → Option RootElement → NamedBy
named_by c None = field_or_geo (name_on c)
named_by c (Some e) = if is_unreadable c.data_type then Nobody else named_beside c e.claim

-- the extension metadata that the geometry type of its element denotes beside a field with an extension name of its own
abbrev pub claimed_beside : Claim → Option Text
claimed_beside silent = None
claimed_beside (gives names_crs edges) = None
claimed_beside (beside text edges) = Some text

abbrev pub said_beside : Option RootElement → Option Text
said_beside None = None
said_beside (Some e) = claimed_beside e.claim

-- both
pub record NamedOf : Type 0 where
  pub by : NamedBy
  pub beside : Option Text

abbrev pub named_view : Named → NamedOf
named_view n = record { by = n.by; beside = text_of n.beside }

abbrev pub naming : ColumnTree → Option RootElement → NamedOf
naming c e = record { by = named_by c e; beside = said_beside e }

-- of the columns of a file, beside which its elements say that
abbrev pub all_named : List ColumnTree → List RootElement → List NamedOf
all_named cs es = map (λ x. naming x.0 x.1) (with_elements cs es)

-- nobody, where a flag of a column says that its element refutes the field; a flag that is missing does not
abbrev pub nobody_if : Bool → NamedOf → NamedOf
nobody_if true n = record { by = Nobody; beside = n.beside }
nobody_if false n = n

abbrev pub nobody_where : List Bool → List NamedOf → List NamedOf
nobody_where refuted [] = []
nobody_where [] (n ∷ ns) = n ∷ nobody_where [] ns
nobody_where (is ∷ refuted) (n ∷ ns) = nobody_if is n ∷ nobody_where refuted ns

-- ---- what is told of a column

-- what is known of a column beside itself: its facts, who gives it its extension name, and what its element says beside that
pub record Known : Type 0 where
  pub facts : FactsOf
  pub by : NamedBy
  pub beside : Option Text

abbrev pub known : FactsOf × NamedOf → Known
known x = record { facts = x.0; by = x.1.by; beside = x.1.beside }

abbrev pub all_known : List FactsOf → List NamedOf → List Known
all_known fs ns = map known (zip fs ns)

-- of a column alone
abbrev pub known_alone : ColumnTree → Known
known_alone c = record { facts = facts_alone c; by = Field; beside = None }

-- what its member of `columns` gives a column is judged there: the extension metadata; and the layout, where `GeoLayout` is found of it, but not what lies
-- below
abbrev pub is_nested : WarningCode → Bool
is_nested NestedGeometry = true
is_nested code = false

abbrev pub is_told_beside_geo : Bool → Warning → Bool
is_told_beside_geo contradicts w = not (is_some w.pointer) && (not contradicts || is_nested w.code)

abbrev pub is_told_by : NamedBy → Bool → ColumnTree → Warning → Bool
is_told_by Geo contradicts c w = not (is_some (name_on c)) || is_told_beside_geo contradicts w
is_told_by by contradicts c w = true

abbrev pub is_told : Known → ColumnTree → Warning → Bool
is_told k c w = is_told_by k.by k.facts.layout_contradicts c w
