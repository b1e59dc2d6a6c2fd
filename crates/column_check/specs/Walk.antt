-- What a walk down a data type finds of what is looked for, and what it tells of that.
use Rattle.std.specs.Prelude.{ℕ, zero, suc, ◌+◌, ◌-◌, ◌^◌, min, Bool, true, false, not, List, [], ◌∷◌, ◌++◌, map, codes, Option, None, Some, option_map, if◌then◌else◌}
use Rattle.arrow_values.specs.Tree.{Text, Metadata, Tree, plain, list, large_list, fixed_size_list, struct, union, FieldTrees, no_fields, field, MemberTrees, no_members, member, FieldTree}
use Rattle.arrow_columns.specs.Types.{TypeTree, known, other, PartTrees, no_parts, part as child}
use Rattle.arrow_columns.specs.Below.{ref_tree}
use Rattle.arrow_columns.specs.declared.nested.ListForm.TheVariants.{Fixed}
use Rattle.arrow_columns.specs.declared.other.Form.TheVariants.{List as ListOf, Struct}
use Rattle.arrow_values.specs.declared.tree.UnionMode.{UnionMode}
use Rattle.geoarrow_layout.specs.Shapes.{names_of}
use Rattle.geoarrow_layout.specs.declared.native_kinds.Kind.{Kind}
use Rattle.column_check.specs.Parts.{Names, Spot, spot_at, spots_of, separated_in, numbers_in, fields_in, nullable_in, unions_in}
use Rattle.column_check.specs.Shown.{names_shown, type_shown}
use Rattle.column_check.specs.Said.{Said, said, at_each}
use Rattle.column_check.specs.Warnings.{are_doubtful, is_doubtful_number, is_sparse, has_extension_name, extension_text}
use Rattle.column_check.specs.declared.walk.Sought.{Sought}
use Rattle.column_check.specs.declared.walk.Sought.TheVariants.{Axes, Numbers, Inner}
use Rattle.column_check.specs.declared.walk.Inner.{Inner as InnerPart}
use Rattle.column_check.specs.declared.walk.Inner.TheVariants.{Extensions, Nullables, Unions}
use Rattle.column_check.specs.declared.warning.Warning.{Warning}
use Rattle.column_check.specs.declared.code.WarningCode.{WarningCode}
use Rattle.column_check.specs.declared.code.WarningCode.TheVariants as warnings
use Rattle.column_check.specs.declared.way.Way.{Way, Column, Below'}
use Rattle.column_check.specs.declared.way.Rest.{Rest}
use Rattle.column_check.specs.declared.way.Shown.{Shown}
use Rattle.column_check.specs.declared.way.Shown.TheVariants.{Notation, Word, Listed}

-- the code of the warnings of what is looked for
abbrev pub code_of : Sought → WarningCode
code_of (Axes code kind) = code
code_of (Numbers code) = code
code_of (Inner Extensions) = warnings.NestedGeometry
code_of (Inner Nullables) = warnings.NullableInner
code_of (Inner Unions) = warnings.UnionMode

-- the places of the parts of a column's data type that are looked for
abbrev pub sought_spots : Sought → Tree → List Spot
sought_spots (Axes code kind) t = spots_of (are_doubtful code kind) names_shown (separated_in t)
sought_spots (Numbers code) t = spots_of (is_doubtful_number code) type_shown (numbers_in t)
sought_spots (Inner Extensions) t = spots_of has_extension_name extension_text (fields_in t)
sought_spots (Inner Nullables) t = spots_of (λ nullable. nullable) (λ nullable. codes "nullable") (nullable_in t)
sought_spots (Inner Unions) t = spots_of is_sparse (λ mode. codes "sparse") (unions_in t)

-- the warnings of those parts
abbrev pub sought_warnings : Sought → Tree → List Said
sought_warnings s t = at_each (code_of s) (sought_spots s t)

-- ---- as a walk finds them, which goes on from a way

-- the names on a way
abbrev pub names_on : Way → Names
names_on Column = []
names_on (Below' p way name) = names_on way ++ name.now ∷ []

-- what is shown: a data type by its notation, a word, or names
abbrev pub shown_text : Shown → Text
shown_text (Notation t) = type_shown (ref_tree t)
shown_text (Word w) = w.now
shown_text (Listed names) = names_shown (map (λ name. name.now) names.now)

-- the end of the way, if the test holds
abbrev pub spot_if : Bool → Names → Text → List Spot
spot_if holds way text = if holds then spot_at way text ∷ [] else []

-- a field itself is looked for, by its nullability and its metadata; what is shown of it; and whether those below it are looked for too
abbrev pub is_own : InnerPart → Bool → Metadata → Bool
is_own Extensions nullable m = has_extension_name m
is_own Nullables nullable m = nullable
is_own Unions nullable m = false

abbrev pub own_word : InnerPart → Metadata → Text
own_word Extensions m = extension_text m
own_word Nullables m = codes "nullable"
own_word Unions m = []

abbrev pub own_spots : Sought → Names → Bool → Metadata → List Spot
own_spots (Axes code kind) way nullable m = []
own_spots (Numbers code) way nullable m = []
own_spots (Inner part) way nullable m = spot_if (is_own part nullable m) way (own_word part m)

abbrev pub goes_below : Sought → Bool → Bool
goes_below (Inner Nullables) nullable = not nullable
goes_below s nullable = true

-- a union itself is looked for
abbrev pub is_own_union : InnerPart → UnionMode → Bool
is_own_union Unions mode = is_sparse mode
is_own_union part mode = false

abbrev pub union_spots : Sought → Names → UnionMode → List Spot
union_spots (Axes code kind) way mode = []
union_spots (Numbers code) way mode = []
union_spots (Inner part) way mode = spot_if (is_own_union part mode) way (codes "sparse")

-- a field, and what is found below it
abbrev pub found_in : Sought → Names → Bool → Metadata → List Spot → List Spot
found_in s way nullable m rest = own_spots s way nullable m ++ (if goes_below s nullable then rest else [])

-- a separated coordinate or a box at the end of the way, by the names of its fields
abbrev pub axis_spots : WarningCode → Kind → Names → Names → List Spot
axis_spots code kind way names = spot_if (are_doubtful code kind names) way (names_shown names)

-- a number below it, and those of the fields of a coordinate or a box
abbrev pub number_spot : WarningCode → Names → Text → TypeTree → List Spot
number_spot code way n t = spot_if (is_doubtful_number code t) (way ++ n ∷ []) (type_shown t)

abbrev pub number_spots : WarningCode → Names → FieldTrees → List Spot
number_spots code way no_fields = []
number_spots code way (field n t b m fs) = number_spot code way n (known t) ++ number_spots code way fs

-- the places of the parts of a data type; the members of unions do not count as nullable
abbrev mutual
  pub found : Sought → Names → Tree → List Spot
  found s way (plain p) = []
  found s way (list n t b m) = found_in s (way ++ n ∷ []) b m (found s (way ++ n ∷ []) t)
  found s way (large_list n t b m) = found_in s (way ++ n ∷ []) b m (found s (way ++ n ∷ []) t)
  found (Inner part) way (fixed_size_list n t b m size) = found_in (Inner part) (way ++ n ∷ []) b m (found (Inner part) (way ++ n ∷ []) t)
  found (Axes code kind) way (fixed_size_list n t b m size) = []
  found (Numbers code) way (fixed_size_list n t b m size) = number_spot code way n (known t)
  found (Inner part) way (struct fs) = found_of (Inner part) way fs
  found (Axes code kind) way (struct fs) = axis_spots code kind way (names_of fs)
  found (Numbers code) way (struct fs) = number_spots code way fs
  found s way (union ms mode) = union_spots s way mode ++ found_among s way ms

  pub found_of : Sought → Names → FieldTrees → List Spot
  found_of s way no_fields = []
  found_of s way (field n t b m fs) = found_in s (way ++ n ∷ []) b m (found s (way ++ n ∷ []) t) ++ found_of s way fs

  pub found_among : Sought → Names → MemberTrees → List Spot
  found_among s way no_members = []
  found_among s way (member i n t b m ms) = found_in s (way ++ n ∷ []) false m (found s (way ++ n ∷ []) t) ++ found_among s way ms

-- those of a child field, which is taken for nullable or not, and of the parts below it
abbrev pub found_at : Sought → Names → Bool → FieldTree → List Spot
found_at s way nullable f = found_in s (way ++ f.name ∷ []) nullable f.metadata (found s (way ++ f.name ∷ []) f.tree)

-- ---- the numbers in any type

abbrev pub part_spots : WarningCode → Names → PartTrees → List Spot
part_spots code way no_parts = []
part_spots code way (child n t b m ps) = number_spot code way n t ++ part_spots code way ps

abbrev mutual
  pub numbers_found : WarningCode → Names → TypeTree → List Spot
  numbers_found code way (known t) = found (Numbers code) way t
  numbers_found code way (other s (ListOf (Fixed size)) ids ps) = part_spots code way ps
  numbers_found code way (other s (ListOf form) ids ps) = numbers_below code way ps
  numbers_found code way (other s Struct ids ps) = part_spots code way ps
  numbers_found code way (other s f ids ps) = []

  pub numbers_below : WarningCode → Names → PartTrees → List Spot
  numbers_below code way no_parts = []
  numbers_below code way (child n t b m ps) =
      numbers_found code (way ++ n ∷ []) t ++ numbers_below code way ps

-- ---- as it tells them

-- what it has told: the warnings, how many it may add before the last one of its code, and the last one
abbrev pub Telling : Type 0
Telling = List Said × ℕ × Option Said

abbrev pub telling : List Warning → Rest → Telling
telling ws rest = (map said ws, rest.room, option_map said rest.last)

-- one more: told while there is room, then told last, and then counted there
abbrev pub tell : Telling → Said → Telling
tell (ws, room, Some (code, spot, more)) w = (ws, room, Some (code, spot, min (more + 1) (2 ^ 64 - 1)))
tell (ws, suc room, None) w = (ws ++ w ∷ [], room, None)
tell (ws, zero, None) w = (ws, zero, Some w)

-- some more, of one code
abbrev pub tell_all : WarningCode → Telling → List Spot → Telling
tell_all code t [] = t
tell_all code t (spot ∷ spots) = tell_all code (tell t (code, spot, 0)) spots

-- the warnings, the last one behind the others
abbrev pub told : Telling → List Said
told (ws, room, Some last) = ws ++ last ∷ []
told (ws, room, None) = ws
