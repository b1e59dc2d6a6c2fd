-- What a column is expected to hold, and what is not met of it.
use Rattle.std.specs.Prelude.{◌≡◌, ◌⊎◌, ◌==◌, ⊤, Bool, true, false, IsTrue, map, option_map, string_bytes, List, [], ◌∷◌, ◌++◌, length, codes, Option, None, Some, if◌then◌else◌}
use Rattle.std.specs.Char.{to_ascii_lowercase}
use Rattle.std.specs.List.{All, slice_split}
use Rattle.arrow_values.specs.Tree.{Text}
use Rattle.geoarrow_layout.specs.declared.native_kinds.Kind.{Kind}
use Rattle.geoarrow_layout.specs.declared.native_kinds.Kind.TheVariants.{Wkb, Wkt}
use Rattle.geoarrow_layout.specs.Kinds.{coord_type_of, dimension_of}
use Rattle.geoarrow_layout.specs.KindWords.{kind_word, coord_type_word, dimension_word}
use Rattle.column_check.specs.States.{geometry_in}
use Rattle.column_check.specs.declared.finding.Geometry.{Geometry as GeometryColumn}
use Rattle.geoparquet.specs.Facts.{CrsOf, FactsOf, facts_view}
use Rattle.same_columns.specs.Aspects.{is_of_crs}
use Rattle.file_check.specs.declared.asked.Want.{Want}
use Rattle.arrow_columns.specs.Column.{column_tree}
use Rattle.arrow_columns.specs.Types.{ColumnTree}
use Rattle.column_reports.specs.Report.{kind_text, type_word}
use Rattle.column_reports.specs.declared.report.ColumnReport.{ColumnReport}
use Rattle.file_check.specs.declared.wants.Found.{Found}
use Rattle.file_check.specs.declared.wants.Unlike.{Unlike}
use Rattle.file_check.specs.declared.wants.Found.TheVariants.{NoColumn, Looked}
use Rattle.file_check.specs.Crs.{crs_that_counts, edges_that_count}
use Rattle.column_check.specs.Shown.{shown}

-- the parts of an expectation stand between commas
abbrev pub parts_of : Text → List Text
parts_of want = slice_split (λ b. b == 44) want

-- the word of an encoding
abbrev pub encoding_word : Kind → Text
encoding_word (Wkb w) = codes "WKB"
encoding_word (Wkt w) = codes "WKT"
encoding_word k = codes "native"

-- letters of ASCII are alike
abbrev pub IsAlike : Text → Text → Type 0
IsAlike one other = map to_ascii_lowercase one ≡ map to_ascii_lowercase other

-- a part is the word of the encoding, the kind, the coordinate type or the dimension of geometries
abbrev pub IsWord : Kind → Text → Type 0
IsWord k part = IsAlike part (encoding_word k) ⊎ (IsAlike part (kind_word k) ⊎ (IsAlike part (coord_type_word (coord_type_of k)) ⊎ IsAlike part (dimension_word (dimension_of k))))

-- a part is their CRS, where they have one
abbrev pub is_crs : Option CrsOf → Text → Bool
is_crs None part = false
is_crs (Some crs) part = is_of_crs crs part

-- a part is met by the CRS of geometries, by their edges, or by a word of them
abbrev pub Meets : Kind → FactsOf → Text → Type 0
Meets k fs part = IsTrue (is_crs fs.crs part) ⊎ (IsAlike part (edges_that_count fs) ⊎ IsWord k part)

-- what a column is that is not what is expected: what it holds, beside what is wanted
pub record UnlikeOf : Type 0 where
  pub held : Text
  pub wanted : Text

abbrev pub unlike_view : Unlike → UnlikeOf
unlike_view u = record { held = string_bytes u.held; wanted = string_bytes u.wanted }

-- of geometries: their kind, their CRS and their edges, beside a part that is not met
abbrev pub crs_or_none : Text → Text
crs_or_none crs = if length crs == 0 then codes "no CRS" else crs

abbrev pub unmet : Kind → FactsOf → Text → UnlikeOf
unmet k fs part = record {
  held = kind_text k ++ (codes ", " ++ (crs_or_none (crs_that_counts fs) ++ (codes ", " ++ edges_that_count fs)));
  wanted = part;
}

-- beside the first part that is not met
abbrev pub IsUnmet : Kind → FactsOf → List Text → Option UnlikeOf → Type 0
IsUnmet k fs [] said = said ≡ None
IsUnmet k fs (part ∷ parts) said = (Meets k fs part × IsUnmet k fs parts said) ⊎ ((Meets k fs part → ⊥) × (said ≡ Some (unmet k fs part)))

-- of another column: its type, beside all that is wanted
abbrev pub no_geometries : ColumnTree → Text → UnlikeOf
no_geometries c want = record { held = shown (type_word c None); wanted = want }

-- what a column is that is expected to hold this, if it does not
abbrev pub IsUnlike : ColumnTree → Option GeometryColumn → FactsOf → Text → Option UnlikeOf → Type 0
IsUnlike c None fs want said = said ≡ Some (no_geometries c want)
IsUnlike c (Some g) fs want said = IsUnmet g.kind fs (parts_of want) said

-- what was found of a column that was looked at
abbrev pub IsLooked : Text → ColumnReport → Found → Type 0
IsLooked want r (Looked said) = IsUnlike (column_tree r.column) (geometry_in r.finding) (facts_view r.facts) want (option_map unlike_view said)
IsLooked want r (NoColumn near) = ⊥

-- no column of the name was looked at, whatever name is like it
abbrev pub is_none : Found → Bool
is_none (NoColumn near) = true
is_none (Looked said) = false

-- what is found of an expectation once one more column is looked at: only the first column of the name counts; for private contracts
abbrev pub IsFound : Text → Text → ColumnReport → Found → Found → Type 0
IsFound name want r (Looked said) new = new ≡ Looked said
IsFound name want r (NoColumn near) new = ((string_bytes r.column.name ≡ name → ⊥) × (is_none new ≡ true)) ⊎ ((string_bytes r.column.name ≡ name) × IsLooked want r new)

-- the first of the columns that has the name
pub record IsFirstNamed (name : Text) (rs : List ColumnReport) (r : ColumnReport) : Type 0 where
  pub before : List ColumnReport
  pub rest : List ColumnReport
  pub are : rs ≡ before ++ r ∷ rest
  pub others : All (λ b. string_bytes b.column.name ≡ name → ⊥) before
  pub name_is : string_bytes r.column.name ≡ name

-- what is found of an expectation once all of the columns were looked at
abbrev pub IsFoundIn : Text → Text → List ColumnReport → Found → Type 0
IsFoundIn name want rs (NoColumn near) = All (λ r. string_bytes r.column.name ≡ name → ⊥) rs
IsFoundIn name want rs (Looked said) = (r : ColumnReport) × IsFirstNamed name rs r × IsLooked want r (Looked said)

abbrev pub AreFoundIn : List Want → List ColumnReport → List Found → Type 0
AreFoundIn [] rs [] = ⊤
AreFoundIn (w ∷ ws) rs (f ∷ fs) = IsFoundIn (string_bytes w.column) (string_bytes w.want) rs f × AreFoundIn ws rs fs
AreFoundIn ws rs fs = ⊥

-- the expectation is not met: no column has the name, or the first that has it is not what is expected
abbrev pub is_unmet : Found → Bool
is_unmet (NoColumn near) = true
is_unmet (Looked None) = false
is_unmet (Looked (Some said)) = true
