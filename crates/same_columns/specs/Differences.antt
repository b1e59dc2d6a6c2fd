-- In what the columns of two files differ.
use Rattle.std.specs.Prelude.{◌≡◌, List, [], ◌∷◌, ◌++◌, flat_map, map, Option, None, Some}
use Rattle.std.specs.Borrow.{Bor}
use Rattle.std.specs.BTreeMap.{BTreeMap}
use Rattle.std.specs.declared.vec.Vec.{Vec}
use Rattle.std.specs.declared.alloc.Global.{Global}
use Rattle.arrow_values.specs.Tree.{Text}
use Rattle.same_columns.specs.Aspects.{AreAspects}
use Rattle.same_columns.specs.Compared.{Compared}
use Rattle.same_columns.specs.Ranks.{Placed, partner, partner_in, ranked}
use Rattle.same_columns.specs.declared.difference.Aspect.{Aspect}
use Rattle.same_columns.specs.declared.difference.Difference.{Difference}
use Rattle.same_columns.specs.declared.ranks.Ranked.{Ranked as RankedColumn}
use Rattle.same_columns.specs.declared.difference.Difference.TheVariants.{OnlyInFirst, OnlyInOther, InBoth}

-- of a column of the other file, by the one of the first file with which it is compared, if there is one
abbrev pub AreOfOther : Option Placed → Placed → List Difference → Type 0
AreOfOther None b ds = ds ≡ OnlyInOther b.place ∷ []
AreOfOther (Some a) b ds = (ts : List Aspect) × AreAspects a.column b.column ts × (ds ≡ map (InBoth a.place b.place) ts)

-- of columns of the other file
abbrev pub AreOfOthers : List Placed → List Placed → List Difference → Type 0
AreOfOthers firsts [] ds = ds ≡ []
AreOfOthers firsts (b ∷ bs) ds = (here rest : List Difference) × AreOfOther (partner firsts b) b here × AreOfOthers firsts bs rest × (ds ≡ here ++ rest)

-- of a column of the first file: that the other has none with which it is compared
abbrev pub of_first : Option Placed → Placed → List Difference
of_first None a = OnlyInFirst a.place ∷ []
of_first (Some b) a = []

-- the differences: of the columns of the other file, in their order; then the columns that only the first has
abbrev pub AreOfRanked : List Placed → List Placed → List Difference → Type 0
AreOfRanked firsts others ds = (of_others : List Difference) × AreOfOthers firsts others of_others × (ds ≡ of_others ++ flat_map (λ a. of_first (partner others a) a) firsts)

abbrev pub AreDifferences : List Compared → List Compared → List Difference → Type 0
AreDifferences firsts others ds = AreOfRanked (ranked firsts) (ranked others) ds

-- ---- for private contracts

-- of a column of the first file, by the columns of the other by their names
abbrev pub first_by : BTreeMap (Bor Text) (Vec RankedColumn Global) → Placed → List Difference
first_by m a = of_first (partner_in m a) a
