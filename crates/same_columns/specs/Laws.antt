-- What is said of two files goes together both ways round.
use Rattle.std.specs.Prelude.{◌≡◌, ◌⊎◌, List, [], ◌∷◌}
use Rattle.same_columns.specs.Compared.{Compared}
use Rattle.same_columns.specs.Differences.{AreDifferences}
use Rattle.same_columns.specs.declared.difference.Difference.{Difference}
use Rattle.same_columns.specs.declared.difference.Difference.TheVariants.{OnlyInFirst, OnlyInOther, InBoth}

-- columns do not differ from themselves
abbrev pub AreAsThemselves : Type 0
AreAsThemselves = (cs : List Compared) (ds : List Difference) → AreDifferences cs cs ds → ds ≡ []

-- a difference where the files are exchanged
abbrev pub exchanged : Difference → Difference
exchanged (OnlyInFirst place) = OnlyInOther place
exchanged (OnlyInOther place) = OnlyInFirst place
exchanged (InBoth first other aspect) = InBoth other first aspect

abbrev pub IsAmong : Difference → List Difference → Type 0
IsAmong d [] = ⊥
IsAmong d (e ∷ es) = (d ≡ e) ⊎ IsAmong d es

-- each difference is one of the exchanged files too, exchanged
abbrev pub AreExchanged : Type 0
AreExchanged = (firsts others : List Compared) (ds es : List Difference) → AreDifferences firsts others ds → AreDifferences others firsts es
    → (d : Difference) → IsAmong d ds → IsAmong (exchanged d) es
