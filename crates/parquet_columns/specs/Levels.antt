-- The groups that an element of a schema is in, by the elements before it (docs/FORMAT.md, 4.5).
use Rattle.std.specs.Prelude.{ℕ, zero, suc, ◌-◌, ◌+◌, nat_lt, Bool, true, false, List, [], ◌∷◌, ◌++◌, length, map, codes, Option, None, Some, option_to_list, if◌then◌else◌}
use Rattle.std.specs.Str.Lossy.{utf8_lossy}
use Rattle.arrow_values.specs.Tree.{Text}
use Rattle.parquet_footer.specs.Element.{Element}
use Rattle.parquet_columns.specs.Geometry.{count_of}
use Rattle.parquet_columns.specs.declared.levels.Level as declared

-- a group: its name, and how many of its children are still to come
pub record Level : Type 0 where
  pub name : Text
  pub left : ℕ

abbrev pub level : declared.Level → Level
level l = record { name = l.name.now; left = l.left }

abbrev pub level_of : Element → Level
level_of e = record { name = e.storage.name.bytes; left = count_of e }

-- of groups from the outermost in those that are open: without the innermost of which no child is to come
abbrev pub open_with : ℕ → Level → List Level
open_with zero l = []
open_with (suc n) l = l ∷ []

abbrev pub close : Level → List Level → List Level
close l [] = open_with l.left l
close l (m ∷ ms) = l ∷ m ∷ ms

abbrev pub open_of : List Level → List Level
open_of [] = []
open_of (l ∷ ls) = close l (open_of ls)

-- an element is a child of the innermost group that is open, and is the innermost then
abbrev pub taken : List Level → List Level
taken [] = []
taken (l ∷ []) = record { name = l.name; left = l.left - 1 } ∷ []
taken (l ∷ m ∷ ms) = l ∷ taken (m ∷ ms)

abbrev pub entered : List Level → Element → List Level
entered ls e = taken ls ++ level_of e ∷ []

-- the first of the elements behind the root that is more than 64 levels deep, so many groups being open around it, with its place
unfoldable pub deep_from : ℕ → List Level → List Element → Option ℕ
deep_from at ls [] = None
deep_from at ls (e ∷ es) = if nat_lt 63 (length (open_of ls)) then Some at else deep_from (at + 1) (entered (open_of ls) e) es

-- those that are open behind elements
unfoldable pub open_behind : List Level → List Element → List Level
open_behind ls [] = open_of ls
open_behind ls (e ∷ es) = open_behind (entered (open_of ls) e) es

-- names as they are shown, at most so many, and `..` in place of the others
abbrev pub shown_names : ℕ → List Text → List Text
shown_names n [] = []
shown_names zero (name ∷ names) = codes ".." ∷ []
shown_names (suc n) (name ∷ names) = utf8_lossy name ∷ shown_names n names

-- where what is in these groups is, by its own name: the column, which is the outermost of them, or it itself
abbrev pub column_in : List Level → Text → Text
column_in [] own = utf8_lossy own
column_in (l ∷ ls) own = utf8_lossy l.name

-- and the path down from the column: the names of the groups below it, and its own, if it has one
abbrev pub below_column : List Level → Option Text → List Text
below_column ls own = shown_names 8 (map (λ l. l.name) ls ++ option_to_list own)

abbrev pub path_in : List Level → Option Text → List Text
path_in [] own = []
path_in (l ∷ ls) own = below_column ls own

-- it is below a column
abbrev pub is_below : List Level → Bool
is_below [] = false
is_below (l ∷ ls) = true
