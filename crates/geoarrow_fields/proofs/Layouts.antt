-- The data types that are written: a line can represent each, and its value is one that is read, and nests at most 19 levels.
use Rattle.std.proofs.Common.{◌≡◌, ◌≤◌, List, [], ◌∷◌, map, Bool, true, refl}
use Rattle.std.proofs.Math.Dec.{leb}
use Rattle.std.specs.List.{Contains, list_all}
use Rattle.std.specs.Str.{is_utf8, chars}
use Rattle.std.proofs.lemmas.Bool.{leb-true}
use Rattle.std.proofs.lemmas.List.Elements.{All-contains}
use Rattle.std.proofs.lemmas.List.Sums.{AllPass-from_list_all}
use Rattle.arrow_values.specs.View.{field_trees}
use Rattle.field_lines.specs.LineForm.{FieldsHaveLineForm}
use Rattle.geoarrow_layout.specs.declared.native_kinds.TheConstants.Kind.{ALL}
use Rattle.geoarrow_layout.specs.Layouts.{coordinate, coordinate_names, leaf_layout, mixed_layout, box_names}
use Rattle.geoarrow_fields.proofs.Terms.{depth, Text, CoordType, Interleaved, Separated, Dimension, XY, GeometryCollection, Plain, Kind, Native, OfGeometry, Rect, Wkb, Wkt, layout, type_value, HasLineForm, is_held}

abbrev pub AreListed : Type 0
AreListed = (k : Kind) → Contains ALL k

-- what a test says of the listed kinds it says of each
pub each_kind : AreListed → (test : Kind → Bool) → list_all test ALL ≡ true → (k : Kind) → test k ≡ true
each_kind listed test all k = All-contains (λ x. test x ≡ true) ALL k (AllPass-from_list_all test ALL all) (listed k)

-- a line can represent each
coordinates_form : (names : List Text) → FieldsHaveLineForm (field_trees (map coordinate names))
coordinates_form [] = tt
coordinates_form (name ∷ names) = (tt, coordinates_form names)

leaf_form : (c : CoordType) (d : Dimension) → HasLineForm (leaf_layout c d)
leaf_form Interleaved XY = (tt, refl)
leaf_form Interleaved _ = (tt, refl)
leaf_form Separated d = coordinates_form (coordinate_names d)

mixed_form : (c : CoordType) (d : Dimension) → HasLineForm (mixed_layout c d)
mixed_form c XY = let l = leaf_form c XY in ((l, (l, (l, (l, (l, (l, tt)))))), refl)
mixed_form c d = let l = leaf_form c d in ((l, (l, (l, (l, (l, (l, tt)))))), refl)

pub layout_form : (k : Kind) → HasLineForm (layout k)
layout_form (Native GeometryCollection c d) = mixed_form c d
layout_form (Native _ c d) = leaf_form c d
layout_form (OfGeometry c) = search (leaf_form, mixed_form)
layout_form (Rect d) = coordinates_form (box_names d)
layout_form (Wkb Plain) = tt
layout_form (Wkt Plain) = tt
layout_form _ = tt

pub layout_held : AreListed → (k : Kind) → is_held (type_value (layout k)) ≡ true
unfolding is_utf8 chars lib.Utf8.encode
layout_held listed = each_kind listed (λ k. is_held (type_value (layout k))) refl

pub layout_levels : AreListed → (k : Kind) → depth (type_value (layout k)) ≤ 19
layout_levels listed k = leb-true _ 19 (each_kind listed (λ k. leb (depth (type_value (layout k))) 19) refl k)
