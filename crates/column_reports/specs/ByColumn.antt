-- What is found of a file, by the columns that it is of (docs/FORMAT.md, 2.5).
use Rattle.std.specs.Prelude.{◌≡◌, not, List, [], ◌∷◌, map, Bool, Option, None, Some, String, option_map, if◌then◌else◌}
use Rattle.std.specs.BTreeMap.{BTreeMap, get_by_text}
use Rattle.std.specs.Global.{Global}
use Rattle.std.specs.List.{filter, list_any}
use Rattle.std.specs.declared.vec.Vec.{Vec}
use Rattle.arrow_values.specs.Tree.{Text}
use Rattle.arrow_columns.specs.Types.{ColumnTree}
use Rattle.parquet_columns.specs.declared.finding.FileFinding.{FileFinding}
use Rattle.geoparquet.specs.declared.finding.GeoFinding.{GeoFinding}
use Rattle.column_reports.specs.Capped.{is_key}
use Rattle.column_reports.specs.Found.{column_in}
use Rattle.column_reports.specs.declared.asked.AskedFinding.{AskedFinding}
use Rattle.column_reports.specs.declared.finding.Finding.{Finding}
use Rattle.column_reports.specs.declared.finding.Finding.TheVariants.{File, Geo, Asked}

-- in the report of a column, which has its name
abbrev pub nameless_file : FileFinding → FileFinding
nameless_file f = record { code = f.code; column = None; path = f.path; place = f.place; found = f.found; wanted = f.wanted }

abbrev pub nameless_geo : GeoFinding → GeoFinding
nameless_geo f = record { code = f.code; column = None; source = f.source; pointer = f.pointer; found = f.found; wanted = f.wanted; more = f.more }

abbrev pub nameless_asked : AskedFinding → AskedFinding
nameless_asked f = record { code = f.code; column = None; found = f.found; expected = f.expected; help = f.help }

abbrev pub nameless : Finding → Finding
nameless (File f) = File (nameless_file f)
nameless (Geo version f) = Geo version (nameless_geo f)
nameless (Asked f) = Asked (nameless_asked f)
nameless f = f

-- of the findings those that name a column, and the others
abbrev pub those_of : Text → List Finding → List Finding
those_of name fs = map nameless (filter (λ f. is_key name (column_in f)) fs)

abbrev pub others_than : Text → List Finding → List Finding
others_than name fs = filter (λ f. not (is_key name (column_in f))) fs

-- what is of each of some columns, in order: the first of a name has all that name it
abbrev pub by_columns : List Text → List Finding → List (List Finding)
by_columns [] fs = []
by_columns (name ∷ names) fs = those_of name fs ∷ by_columns names (others_than name fs)

-- what names none of them
abbrev pub of_no_column : List Text → List Finding → List Finding
of_no_column [] fs = fs
of_no_column (name ∷ names) fs = of_no_column names (others_than name fs)

abbrev pub names_of : List ColumnTree → List Text
names_of cs = map (λ c. c.name) cs

-- ---- for private contracts

-- whether a finding names one of some columns; one that names none of them
abbrev pub is_named : List Text → Option Text → Bool
is_named names column = list_any (λ name. is_key name column) names

abbrev pub if_unnamed : List Text → Finding → List Finding
if_unnamed names f = if is_named names (column_in f) then [] else f ∷ []

-- a map has at each of the names what is found that names it
abbrev pub ByName : Type 0
ByName = BTreeMap (String Global) (Vec Finding Global)

abbrev pub found_at : ByName → Text → Option (List Finding)
found_at m name = option_map (λ own. own.items) (get_by_text m name)

abbrev pub or_nothing : Option (List Finding) → List Finding
or_nothing None = []
or_nothing (Some fs) = fs

abbrev pub AreBy : List Text → List Finding → ByName → Type 0
AreBy names fs m = (name : Text) → found_at m name ≡ (if is_named names (Some name) then Some (those_of name fs) else None)
