-- A field whose extension name is its only text.
use Rattle.std.proofs.Common.{◌≡◌, List, [], ◌∷◌, Bool, true, false, cond, Some, None, String, Global, string_bytes, length, refl, sym, ap, arith}
use Rattle.std.specs.Str.{bytes_eq}
use Rattle.std.proofs.lemmas.List.{length-map}
use Rattle.std.proofs.lemmas.Slice.Eq.{bytes_eq-Decides}
use Rattle.arrow_values.specs.Tree.{Text, Metadata, FieldTree}
use Rattle.arrow_values.specs.View.{texts_of}
use Rattle.arrow_values.specs.Texts.{name_key, metadata_key, text_at, extension_name, extension_metadata}

other_key : (b : Bool) (key text name : Text) → b ≡ bytes_eq name_key key → cond b (Some text) None ≡ Some name → bytes_eq metadata_key key ≡ false
other_key true key text name is h = ap (bytes_eq metadata_key) (sym ((bytes_eq-Decides name_key key).0 (sym is)))
other_key false key text name is h = cc

pub one_text : (m : Metadata) (name : Text) → length m ≡ 1 → text_at name_key m ≡ Some name → text_at metadata_key m ≡ None
one_text (e ∷ []) name one h = ap (λ b. cond b (Some e.1) None) (other_key (bytes_eq name_key e.0) e.0 e.1 name refl h)
one_text _ name one h = absurd (omega (arith, one))

pub alone : (f : FieldTree) (es : List (String Global × String Global)) → texts_of es ≡ f.metadata → length es ≡ 1 → ((name : Text) × (extension_name f ≡ Some name)) → None ≡ extension_metadata f
alone f es is one named = sym (one_text f.metadata named.0 (rw (← is, length-map {B = Text × Text} es (λ e. (string_bytes e.0, string_bytes e.1))) one) named.1)
