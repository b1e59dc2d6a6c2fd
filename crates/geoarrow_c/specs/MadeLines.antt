-- What the call that makes a column of geometries means by its words and texts, and what it writes (docs/FORMAT.md, 2.7, 2.8 and 2.11).
use Rattle.std.specs.Prelude.{◌≡◌, ◌≢◌, ◌⊎◌, ◌<◌, ℕ, ◌==◌, [], ◌∷◌, Bool, true, false, Option, None, Some, codes}
use Rattle.std.specs.Str.{IsUtf8}
use mir.Val.{bool_byte}
use Rattle.arrow_values.specs.Tree.{Text}
use Rattle.column_files.specs.Forms.{behind_blanks}
use Rattle.column_files.specs.Refusals.{Told}
use Rattle.column_files.specs.declared.refusal.Place.TheVariants.{Column}
use Rattle.column_reports.specs.Report.{kind_text}
use Rattle.field_makers.specs.Made.{CanBeMade, IsRefusedFor, made}
use Rattle.field_makers.specs.Told.{told_type}
use Rattle.field_makers.specs.declared.error.MakeError.{MakeError}
use Rattle.field_makers.specs.declared.error.MakeError.TheVariants.{NotProjjson, TypeWithoutCrs, OutOfMemory}
use Rattle.field_makers.specs.declared.new_column.NewColumn.{NewColumn}
use Rattle.geoarrow_fields.specs.Lines.{Bytes}
use Rattle.geoarrow_layout.specs.declared.native_kinds.Kind.{Kind}
use Rattle.geoarrow_meta.specs.Read.{crs_type_text, edges_text}
use Rattle.geoarrow_meta.specs.declared.crs.crs_type.CrsType.{CrsType}
use Rattle.geoarrow_meta.specs.declared.crs_text.WrittenCrs.{WrittenCrs}
use Rattle.geoarrow_meta.specs.declared.crs_text.WrittenCrs.TheVariants as crs
use Rattle.geoarrow_meta.specs.declared.edges.Edges.{Edges}
use Rattle.geoarrow_c.specs.Canonical.{line_of}
use Rattle.geoarrow_c.specs.SchemaRecords.{IsLineOf}

-- ---- what is asked for

-- the first byte is `{`
abbrev pub is_brace_first : Bytes → Bool
is_brace_first [] = false
is_brace_first (b ∷ rest) = b == 123

-- the CRS of a text: none of no bytes, PROJJSON of one that begins with `{` behind blanks, and a text of any other
abbrev pub IsCrs : Bytes → WrittenCrs → Type 0
IsCrs text crs.Absent = text ≡ []
IsCrs text (crs.Text s) = (s.now ≡ text) × (text ≢ []) × (is_brace_first (behind_blanks text) ≡ false)
IsCrs text (crs.Json s) = (s.now ≡ text) × (is_brace_first (behind_blanks text) ≡ true)

-- the CRS type of a word; no bytes name none
abbrev pub IsCrsType : Bytes → Option CrsType → Type 0
IsCrsType word None = word ≡ []
IsCrsType word (Some t) = word ≡ crs_type_text t

-- the edges of a word; no bytes and `planar` name none
abbrev pub AreEdges : Bytes → Option Edges → Type 0
AreEdges word None = (word ≡ []) ⊎ (word ≡ codes "planar")
AreEdges word (Some e) = word ≡ edges_text e

-- the column that the words and texts say, of a kind by its words in a report (2.5)
pub record IsAsked (name kind : Bytes) (nullable : ℕ) (crs crs_type edges : Bytes) (n : NewColumn) : Type 0 where
  pub has_name : n.name.now ≡ name
  pub has_kind : kind ≡ kind_text n.kind
  pub is_nullable : nullable ≡ bool_byte n.nullable
  pub has_crs : IsCrs crs n.crs
  pub has_type : IsCrsType crs_type n.crs_type
  pub has_edges : AreEdges edges n.edges

-- they say none: a text is not UTF-8, or one of the others stands for nothing
abbrev pub SaysNone : Bytes → Bytes → ℕ → Bytes → Bytes → Bytes → Type 0
SaysNone name kind nullable crs crs_type edges =
    (¬ IsUtf8 name)
    ⊎ ((¬ IsUtf8 crs)
    ⊎ (((k : Kind) → kind ≢ kind_text k)
    ⊎ ((1 < nullable)
    ⊎ (((t : Option CrsType) → ¬ IsCrsType crs_type t)
    ⊎ ((e : Option Edges) → ¬ AreEdges edges e)))))

-- ---- what is made of it

-- the type of a CRS, or else the one that its form tells
abbrev pub type_or_told : Option CrsType → WrittenCrs → Option CrsType
type_or_told (Some t) c = Some t
type_or_told None c = told_type c

-- the column with that type
abbrev pub with_type : NewColumn → NewColumn
with_type n = record { name = n.name; nullable = n.nullable; kind = n.kind; crs = n.crs; crs_type = type_or_told n.crs_type n.crs; edges = n.edges }

-- the line is that of a column that is asked for
pub record IsMadeLine (Asked : NewColumn → Type 0) (line : Bytes) : Type 0 where
  pub new : NewColumn
  pub is_asked : Asked new
  pub can_be : CanBeMade (with_type new)
  pub is : line ≡ line_of (made (with_type new))

-- ---- why none is made

abbrev pub unmade_message : MakeError → Text
unmade_message NotProjjson = codes "a CRS that is no PROJJSON"
unmade_message TypeWithoutCrs = codes "a CRS type without a CRS"
unmade_message OutOfMemory = []

abbrev pub unmade_wanted : MakeError → Text
unmade_wanted NotProjjson = codes "an object of JSON that nests at most 126 levels"
unmade_wanted TypeWithoutCrs = codes "a CRS, or no type"
unmade_wanted OutOfMemory = []

abbrev pub unmade_for : MakeError → Told
unmade_for error = record {
  code = codes "BadSchema";
  place = Column 0;
  found = unmade_message error;
  expected = unmade_wanted error;
  help = None;
}

-- why a column is not made; nothing where memory is all that lacks
abbrev pub unmade_told : MakeError → Option Told
unmade_told NotProjjson = Some (unmade_for NotProjjson)
unmade_told TypeWithoutCrs = Some (unmade_for TypeWithoutCrs)
unmade_told OutOfMemory = None

-- the line says why a column that is asked for is not made
pub record IsUnmade (Asked : NewColumn → Type 0) (line : Bytes) : Type 0 where
  pub new : NewColumn
  pub error : MakeError
  pub is_asked : Asked new
  pub is_refused : IsRefusedFor (with_type new) error
  pub is : IsLineOf (unmade_told error) line
