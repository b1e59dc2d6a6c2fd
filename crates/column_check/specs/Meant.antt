-- The name that a text is most like, of a few, and the question whether it is meant (docs/FORMAT.md, 2.6).
use Rattle.std.specs.Prelude.{◌&&◌, ◌||◌, ◌==◌, ◌+◌, ℕ, Bool, true, false, List, [], ◌∷◌, codes, length, nat_le, nat_lt, Option, None, Some, if◌then◌else◌}
use Rattle.arrow_values.specs.Tree.{Text}

-- bytes that are one but for letters of ASCII
abbrev pub small : ℕ → ℕ
small b = if nat_le 65 b && nat_le b 90 then b + 32 else b

abbrev pub is_alike : ℕ → ℕ → Bool
is_alike a b = small a == small b

-- what two texts have behind the bytes that they begin with alike
abbrev pub rests : Text → Text → Text × Text
rests [] t = ([], t)
rests (a ∷ s) [] = (a ∷ s, [])
rests (a ∷ s) (b ∷ t) = if is_alike a b then rests s t else (a ∷ s, b ∷ t)

abbrev pub behind : Text → Text
behind [] = []
behind (b ∷ s) = s

-- nothing is left of either
abbrev pub are_done : Text × Text → Bool
are_done ([], []) = true
are_done r = false

abbrev pub are_same : Text → Text → Bool
are_same s t = are_done (rests s t)

-- one insertion, deletion or substitution of a byte leads from one to the other
abbrev pub is_left_one : Text × Text → Bool
is_left_one r = are_same (behind r.0) (behind r.1) || (are_same (behind r.0) r.1 || are_same r.0 (behind r.1))

abbrev pub is_within_one : Text → Text → Bool
is_within_one s t = is_left_one (rests s t)

-- two of them do
abbrev pub is_left_two : Text × Text → Bool
is_left_two r = is_within_one (behind r.0) (behind r.1) || (is_within_one (behind r.0) r.1 || is_within_one r.0 (behind r.1))

abbrev pub is_within_two : Text → Text → Bool
is_within_two s t = is_left_two (rests s t)

-- so many, and of two no fewer than eleven bytes in the name
abbrev pub is_within : ℕ → Text → Text → Bool
is_within edits found name =
    if edits == 0 then are_same found name
    else if edits == 1 then is_within_one found name
    else nat_lt 10 (length name) && is_within_two found name

-- the question of the first name that so many lead to
abbrev pub first_meant : ℕ → Text → List (Text × Text) → Option Text
first_meant edits found [] = None
first_meant edits found (name ∷ names) = if is_within edits found name.0 then Some name.1 else first_meant edits found names

abbrev pub else_help : Option Text → Option Text → Option Text
else_help (Some help) other = Some help
else_help None other = other

abbrev pub meant : Text → List (Text × Text) → Option Text
meant found names = else_help (first_meant 0 found names) (else_help (first_meant 1 found names) (first_meant 2 found names))

-- ---- names, each with its question

abbrev pub extension_names : List (Text × Text)
extension_names = (codes "geoarrow.point", codes "Did you mean geoarrow.point?") ∷ (codes "geoarrow.linestring", codes "Did you mean geoarrow.linestring?") ∷ (codes "geoarrow.polygon", codes "Did you mean geoarrow.polygon?") ∷ (codes "geoarrow.multipoint", codes "Did you mean geoarrow.multipoint?") ∷ (codes "geoarrow.multilinestring", codes "Did you mean geoarrow.multilinestring?") ∷ (codes "geoarrow.multipolygon", codes "Did you mean geoarrow.multipolygon?") ∷ (codes "geoarrow.geometrycollection", codes "Did you mean geoarrow.geometrycollection?") ∷ (codes "geoarrow.geometry", codes "Did you mean geoarrow.geometry?") ∷ (codes "geoarrow.box", codes "Did you mean geoarrow.box?") ∷ (codes "geoarrow.wkb", codes "Did you mean geoarrow.wkb?") ∷ (codes "geoarrow.wkt", codes "Did you mean geoarrow.wkt?") ∷ []

abbrev pub crs_type_names : List (Text × Text)
crs_type_names = (codes "\"projjson\"", codes "Did you mean \"projjson\"?") ∷ (codes "\"wkt2:2019\"", codes "Did you mean \"wkt2:2019\"?") ∷ (codes "\"authority_code\"", codes "Did you mean \"authority_code\"?") ∷ (codes "\"srid\"", codes "Did you mean \"srid\"?") ∷ []

abbrev pub edges_names : List (Text × Text)
edges_names = (codes "\"andoyer\"", codes "Did you mean \"andoyer\"?") ∷ (codes "\"karney\"", codes "Did you mean \"karney\"?") ∷ (codes "\"spherical\"", codes "Did you mean \"spherical\"?") ∷ (codes "\"thomas\"", codes "Did you mean \"thomas\"?") ∷ (codes "\"vincenty\"", codes "Did you mean \"vincenty\"?") ∷ []

-- what helps: the question whether one of these is meant, or else what is said of the code
abbrev pub meant_or : List (Text × Text) → Option Text → Option Text → Option Text
meant_or names help None = help
meant_or names help (Some found) = else_help (meant found names) help
