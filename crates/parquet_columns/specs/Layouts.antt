-- The layouts that the encodings of GeoParquet ask for (docs/FORMAT.md, 5.5), of elements, which stand depth first.
use Rattle.std.specs.Prelude.{ℕ, zero, suc, ◌+◌, ◌==◌, ◌&&◌, ◌||◌, not, nat_lt, Bool, true, false, List, [], ◌∷◌, Option, None, Some, is_some, codes, bytes_eq, if◌then◌else◌}
use Rattle.arrow_values.specs.Tree.{Text}
use Rattle.parquet_footer.specs.declared.element.PhysicalType.{PhysicalType}
use Rattle.parquet_footer.specs.declared.element.PhysicalType.TheVariants.{Double}
use Rattle.parquet_footer.specs.declared.element.Repetition.{Repetition}
use Rattle.parquet_footer.specs.declared.element.Repetition.TheVariants.{Required, Optional, Repeated, Unknown}
use Rattle.parquet_footer.specs.Element.{Element}
use Rattle.parquet_columns.specs.declared.annotation.Annotation.{Annotation}
use Rattle.parquet_columns.specs.declared.annotation.Annotation.TheVariants.{Plain, List as ListGroup, Map as MapGroup}
use Rattle.parquet_columns.specs.Annotation.{annotation_of}
use Rattle.parquet_columns.specs.Claims.{Claim, claim}
use Rattle.parquet_columns.specs.Geometry.{children_by, count_of, is_geometry_type, is_plain_leaf, is_repeated}
use Rattle.parquet_columns.specs.Storage.{is_group, storage_of, is_stored}
use Rattle.parquet_columns.specs.TypeNames.{type_name, physical_name}
use Rattle.parquet_columns.specs.declared.layouts.ElementLayout.{ElementLayout}
use Rattle.parquet_columns.specs.declared.layouts.ElementLayout.TheVariants.{Bytes, Coordinates, Other, Unjudged}
use Rattle.parquet_columns.specs.declared.layouts.RootElement as declared

-- bytes; coordinates below so many lists, with z or without; another, by the element that is in the way: its repetition, and what it is; or one that is
-- not judged
pub data Layout : Type 0 where
  bytes : Layout
  coordinates : ℕ → Bool → Layout
  other : Text → Text → Layout
  unjudged : Layout

abbrev pub layout : ElementLayout → Layout
layout Bytes = bytes
layout (Coordinates lists z) = coordinates lists z
layout (Other repetition kind) = other repetition.now kind.now
layout Unjudged = unjudged

-- an element in the way
abbrev pub repetition_word : Option Repetition → Text
repetition_word None = codes "no repetition"
repetition_word (Some Required) = codes "REQUIRED"
repetition_word (Some Optional) = codes "OPTIONAL"
repetition_word (Some Repeated) = codes "REPEATED"
repetition_word (Some (Unknown number)) = codes "no repetition"

abbrev pub is_plain : Element → Bool
is_plain e = not (is_some e.logical_type || is_some e.converted_type)

abbrev pub stored_word : Option PhysicalType → Text
stored_word None = codes "group"
stored_word (Some physical) = physical_name (Some physical)

abbrev pub kind_word : Element → Text
kind_word e = if is_plain e then stored_word e.storage.physical_type else type_name e

abbrev pub in_the_way : Element → Layout
in_the_way e = other (repetition_word e.storage.repetition) (kind_word e)

-- bytes: a leaf of BYTE_ARRAY that is not REPEATED, without a logical or converted type or of a geometry type
abbrev pub is_bytes : Element → Bool
is_bytes e = is_plain_leaf e && (is_plain e || is_geometry_type e.logical_type)

-- an ordinate: a REQUIRED leaf of DOUBLE under that name, without a logical or converted type
abbrev pub is_double : Option PhysicalType → Bool
is_double (Some Double) = true
is_double _ = false

abbrev pub is_required : Option Repetition → Bool
is_required (Some Required) = true
is_required _ = false

abbrev pub is_ordinate : Text → Element → Bool
is_ordinate name e = is_double e.storage.physical_type && (is_required e.storage.repetition && (is_plain e && bytes_eq e.storage.name.bytes name))

-- a coordinate below so many lists: a group that is not REPEATED, without a logical or converted type, of exactly x, y or x, y, z, in this order
abbrev pub is_struct : Element → Bool
is_struct e = is_group e.storage.physical_type && (not (is_repeated e.storage.repetition) && is_plain e)

abbrev pub with_z : ℕ → Element → List Element → Layout
with_z lists e [] = in_the_way e
with_z lists e (z ∷ es) = if is_ordinate (codes "z") z then coordinates lists true else in_the_way z

abbrev pub behind_y : ℕ → Element → List Element → Layout
behind_y lists e es = if count_of e == 2 then coordinates lists false else if count_of e == 3 then with_z lists e es else in_the_way e

abbrev pub from_y : ℕ → Element → List Element → Layout
from_y lists e [] = in_the_way e
from_y lists e (y ∷ es) =
    if nat_lt 1 (count_of e) then (if is_ordinate (codes "y") y then behind_y lists e es else in_the_way y) else in_the_way e

abbrev pub ordinates : ℕ → Element → List Element → Layout
ordinates lists e [] = in_the_way e
ordinates lists e (x ∷ es) =
    if nat_lt 0 (count_of e) then (if is_ordinate (codes "x") x then from_y lists e es else in_the_way x) else in_the_way e

abbrev pub coordinate : ℕ → Element → List Element → Layout
coordinate lists e es = if is_struct e then ordinates lists e es else in_the_way e

-- a list: a group LIST, which is not REPEATED, of one REPEATED group of one child; the names of these do not matter
abbrev pub is_list_group : Annotation → Bool
is_list_group ListGroup = true
is_list_group Plain = false
is_list_group MapGroup = false

abbrev pub is_group_of_one : Element → Bool
is_group_of_one e = is_group e.storage.physical_type && count_of e == 1

abbrev pub is_list : Element → Bool
is_list e = is_list_group (annotation_of e) && (is_group_of_one e && not (is_repeated e.storage.repetition))

abbrev pub is_repeated_group : Element → Bool
is_repeated_group e = is_group_of_one e && is_repeated e.storage.repetition

-- coordinates below that many lists, and so many more at most
abbrev pub below_group : (ℕ → Element → List Element → Layout) → ℕ → Element → List Element → Layout
below_group item lists r [] = in_the_way r
below_group item lists r (e ∷ es) = item (suc lists) e es

abbrev pub below_list : (ℕ → Element → List Element → Layout) → ℕ → Element → List Element → Layout
below_list item lists e [] = in_the_way e
below_list item lists e (r ∷ es) = if is_repeated_group r then below_group item lists r es else in_the_way r

abbrev pub below_lists : ℕ → ℕ → Element → List Element → Layout
below_lists zero lists e es = coordinate lists e es
below_lists (suc more) lists e es = if is_list e then below_list (below_lists more) lists e es else coordinate lists e es

-- a column is judged where each of its elements is stored as its logical or converted type asks; so many of them are still to come
unfoldable pub are_stored : ℕ → List Element → Bool
are_stored zero es = true
are_stored (suc n) [] = true
are_stored (suc n) (e ∷ es) = is_stored (storage_of e) e && are_stored (n + count_of e) es

-- the layout of the element at the front, with those below it behind it
abbrev pub strict_layout : Element → List Element → Layout
strict_layout e es = if is_bytes e then bytes else below_lists 3 0 e es

abbrev pub layout_of : List Element → Layout
layout_of [] = unjudged
layout_of (e ∷ es) = if are_stored 1 (e ∷ es) then strict_layout e es else unjudged

-- the layout of each child of the root
abbrev pub layouts_in : ℕ → List Element → List Layout
layouts_in below es = children_by (λ e behind. layout_of (e ∷ behind)) below es

abbrev pub root_layouts : List Element → List Layout
root_layouts [] = []
root_layouts (root ∷ es) = layouts_in 0 es

-- the element of a column: what its geometry type says beside the column, and its layout
pub record RootElement : Type 0 where
  pub claim : Claim
  pub layout : Layout

abbrev pub root_element : declared.RootElement → RootElement
root_element r = record { claim = claim r.claim; layout = layout r.layout }

-- each claim with the layout at its place
abbrev pub joined : List Claim → List Layout → List RootElement
joined [] ls = []
joined (c ∷ cs) [] = record { claim = c; layout = unjudged } ∷ joined cs []
joined (c ∷ cs) (l ∷ ls) = record { claim = c; layout = l } ∷ joined cs ls
