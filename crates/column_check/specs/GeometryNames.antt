-- The names of columns that are taken for well-known binary or text, where types are inferred
-- (docs/FORMAT.md, 2.6).
use Rattle.std.specs.Prelude.{nat_eq, ◌||◌, List, [], ◌∷◌, ◌++◌, bytes_eq, codes, Bool, true}
use Rattle.std.specs.List.{list_any, ends_with}
use Rattle.std.specs.Str.{str_to_ascii_lowercase}
use Rattle.arrow_values.specs.Tree.{Text}
use Rattle.geoarrow_layout.specs.declared.native_kinds.Kind.{Kind}
use Rattle.geoarrow_layout.specs.declared.native_kinds.Kind.TheVariants.{Wkb, Wkt}

-- the names
abbrev pub geometry_names : List Text
geometry_names =
    codes "geometry" ∷ codes "geom" ∷ codes "the_geom" ∷ codes "shape" ∷ codes "geography"
    ∷ codes "geog" ∷ codes "wkb" ∷ codes "wkb_geometry" ∷ codes "wkt" ∷ []

-- the text is the name, alone or behind `_`
abbrev pub is_alone_or_behind : Text → Text → Bool
is_alone_or_behind text name = bytes_eq text name || ends_with nat_eq text (codes "_" ++ name)

-- the text is one of the names in any letters of ASCII, alone or behind `_`
abbrev pub is_geometry_name : Text → Bool
is_geometry_name text = list_any (is_alone_or_behind (str_to_ascii_lowercase text)) geometry_names

-- a column of that name may be taken for that kind: for well-known binary or text only by its name
abbrev pub may_be_taken : Text → Kind → Bool
may_be_taken name (Wkb width) = is_geometry_name name
may_be_taken name (Wkt width) = is_geometry_name name
may_be_taken name kind = true
