-- The text at a key, of a map and of what it denotes.
use Rattle.std.proofs.Common.{◌≡◌, ⊎_elim, List, [], ◌∷◌, Bool, option_map, String, Global, string_bytes, nat_cmp, refl}
use Rattle.std.specs.Map.{lookup}
use Rattle.std.specs.BTreeMap.{is_at}
use Rattle.std.specs.Str.{bytes_eq}
use Rattle.std.specs.Cmp.Lexicographic.{slice_cmp}
use Rattle.std.proofs.lemmas.Bool.{cases_Bool}
use Rattle.std.proofs.lemmas.Map.Text.{is_eq-slice_cmp}
use Rattle.arrow_values.specs.Tree.{Text}
use Rattle.arrow_values.specs.View.{texts_of}
use Rattle.arrow_values.specs.Texts.{text_at}

abbrev at_text : Text → String Global → Bool
at_text q = is_at (λ k. slice_cmp nat_cmp q (string_bytes k))

pub text_at-lookup : (key : Text) (es : List (String Global × String Global)) → option_map (λ t. string_bytes t) (lookup (at_text key) es) ≡ text_at key (texts_of es)
text_at-lookup key [] = refl
text_at-lookup key (e ∷ es) =
    rw (is_eq-slice_cmp key (string_bytes e.0)) (⊎_elim (λ b. rw b) (λ b. rw b (text_at-lookup key es)) (cases_Bool (bytes_eq key (string_bytes e.0))))
