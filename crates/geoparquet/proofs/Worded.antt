-- What is asked of a CRS, and the name of one of which it holds.
use Rattle.std.proofs.Common.{◌≡◌, Bool, true, false, Option, None, Some, is_some, option_map, refl, sym, ap, ◌∙◌}
use Rattle.arrow_values.specs.Tree.{Text}
use Rattle.crs_identity.specs.Verdicts.{Claimed}
use Rattle.geoparquet.specs.Counting.{asked_word, is_asked, word_if}
use Rattle.geoparquet.specs.declared.counting.Asked.{Asked}
use Rattle.geoparquet.specs.declared.counting.Asked.TheVariants.{Projected, Paired}

is_there : {A : Type 0} (f : A → Text) (o : Option A) → is_some (option_map f o) ≡ is_some o
is_there f None = refl
is_there f (Some x) = refl

holds : (b : Bool) (s : Text) → is_some (word_if b s) ≡ b
holds true s = refl
holds false s = refl

asked_of : (asked : Asked) (crs : Option Claimed) → is_some (asked_word asked crs) ≡ is_asked asked crs
asked_of Projected None = refl
asked_of Paired None = refl
asked_of Projected (Some c) = holds _ _
asked_of Paired (Some c) = holds _ _

-- there is a name exactly where it holds
pub is_worded : {A : Type 0} (f : A → Text) (o : Option A) (asked : Asked) (crs : Option Claimed) → option_map f o ≡ asked_word asked crs → is_some o ≡ is_asked asked crs
is_worded f o asked crs h = sym (is_there f o) ∙ ap is_some h ∙ asked_of asked crs
