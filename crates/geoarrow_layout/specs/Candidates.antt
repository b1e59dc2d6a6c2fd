-- The extension names under which a data type can be read.
use Rattle.std.specs.Prelude.{◌≡◌, ◌⊎◌}
use Rattle.geoarrow_layout.specs.Words.{Text, Tree, struct, length, NativeKind, Point, LineString, Polygon, Kind, Candidates}
use Rattle.geoarrow_layout.specs.declared.names.Candidates.TheVariants.{One}
use Rattle.geoarrow_layout.specs.declared.names.ExtensionName.TheVariants as names
use Rattle.geoarrow_layout.specs.Kinds.{name_text, second_kind}
use Rattle.geoarrow_layout.specs.Shapes.{names_of, Accepts}

-- the same variant, and for `One` the same name
abbrev pub SameCandidates : Candidates → Candidates → Type 0
SameCandidates (One name) (One other) = name.now ≡ other.now
SameCandidates a b = a ≡ b

-- under that extension name some kind accepts the data type
abbrev pub IsAccepted : Text → Tree → Type 0
IsAccepted n t = (k : Kind) × Accepts n t k

-- the data type is a struct of four fields
abbrev pub IsStructOfFour : Tree → Type 0
IsStructOfFour (struct fs) = length (names_of fs) ≡ 4
IsStructOfFour _ = ⊥

-- the names of a kind and of the second one with the same data types
abbrev pub AreBoth : NativeKind → Text → Text → Type 0
AreBoth k a b = (a ≡ name_text (names.Native k)) × (b ≡ name_text (names.Native (second_kind k)))

-- the two names that share the data type: those of line strings and of polygons with their second kinds', and of a struct of four fields those of points and boxes
abbrev pub Share : Tree → Text → Text → Type 0
Share t a b = AreBoth LineString a b ⊎ (AreBoth Polygon a b ⊎ ((a ≡ name_text (names.Native Point)) × (b ≡ name_text names.Rect) × IsStructOfFour t))
