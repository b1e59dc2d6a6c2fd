-- Columns with their places, and how many columns of their name stand before them.
use Rattle.std.specs.Prelude.{◌≡◌, ℕ, List, [], ◌∷◌, ◌++◌, length, map, bytes_eq, Option, None, Some, if◌then◌else◌}
use Rattle.std.specs.Borrow.{Bor}
use Rattle.std.specs.BTreeMap.{BTreeMap, get_by}
use Rattle.std.specs.Cmp.Lexicographic.{slice_cmp}
use Rattle.std.specs.List.{filter, slice_get}
use Rattle.std.specs.Ordering.{nat_cmp}
use Rattle.std.specs.declared.vec.Vec.{Vec}
use Rattle.std.specs.declared.alloc.Global.{Global}
use Rattle.arrow_values.specs.Tree.{Text}
use Rattle.same_columns.specs.Compared.{Compared, compared}
use Rattle.same_columns.specs.declared.ranks.Ranked.{Ranked as RankedColumn}

pub record Placed : Type 0 where
  pub place : ℕ
  pub before : ℕ
  pub column : Compared

-- those of a name
abbrev pub named : List Placed → Text → List Placed
named xs name = filter (λ x. bytes_eq x.column.column.name name) xs

-- a column behind others, and columns behind others
abbrev pub rank : List Placed → Compared → Placed
rank xs c = record { place = length xs; before = length (named xs c.column.name); column = c }

abbrev pub ranked_behind : List Placed → List Compared → List Placed
ranked_behind xs [] = xs
ranked_behind xs (c ∷ cs) = ranked_behind (xs ++ rank xs c ∷ []) cs

abbrev pub ranked : List Compared → List Placed
ranked cs = ranked_behind [] cs

-- the one with which a column is compared: which has its name, and before which as many of that name stand
abbrev pub partner : List Placed → Placed → Option Placed
partner xs y = slice_get (named xs y.column.column.name) y.before

-- ---- for private contracts

abbrev pub ranked_view : RankedColumn → Placed
ranked_view r = record { place = r.place; before = r.before; column = compared r.report.now }

-- what a map has at a name
abbrev pub those_of : Option (Vec RankedColumn Global) → List Placed
those_of None = []
those_of (Some v) = map ranked_view v.items

abbrev pub those_in : BTreeMap (Bor Text) (Vec RankedColumn Global) → Text → List Placed
those_in m name = those_of (get_by (λ k. slice_cmp nat_cmp name k.now) m)

-- a map has at each name those of the name
abbrev pub AreNamed : List Placed → BTreeMap (Bor Text) (Vec RankedColumn Global) → Type 0
AreNamed xs m = (name : Text) → those_in m name ≡ named xs name

-- what is left at a name where what stands at another is taken
abbrev pub left_behind : Text → Text → List Placed → List Placed
left_behind name taken xs = if bytes_eq taken name then [] else xs

-- the one with which a column is compared, by a map
abbrev pub partner_in : BTreeMap (Bor Text) (Vec RankedColumn Global) → Placed → Option Placed
partner_in m y = slice_get (those_in m y.column.column.name) y.before
