-- Extension names by encodings.
use Rattle.std.proofs.Common.{◌≡◌, ◌↔◌, Bool, true, false, true≢false, IsTrue, Option, None, Some, refl, sym, subst}
use Rattle.std.specs.Bool.{then_some}
use Rattle.arrow_values.specs.Tree.{Text}
use Rattle.arrow_columns.specs.Types.{ColumnTree}
use Rattle.geoarrow_layout.specs.declared.names.ExtensionName.{ExtensionName}
use Rattle.geoparquet.specs.Encodings.{encoding_text, IsStoredAs, IsEncodedAs}

module _ (encoding : Option Text) (s : Text) (there : encoding ≡ Some s) (r : Option ExtensionName) (named : (n : ExtensionName) → (r ≡ Some n) ↔ (encoding_text n ≡ Some s)) where
  encoded : (x : ExtensionName) → r ≡ Some x → (P : ExtensionName → Type 0) (b : Bool) → IsTrue b ↔ P x → (n : ExtensionName) → (then_some b x ≡ Some n) ↔ ((encoding_text n ≡ Some s) × P n)
  encoded x is P true fits n = (
    λ e. let same : x ≡ n = cc in ((named n).0 (let e' : r ≡ Some n = cc in e'), subst P same (fits.0 refl)),
    λ h. let e' : r ≡ Some n = (named n).1 h.0 in cc,
  )
  encoded x is P false fits n = (
    λ e. absurd (nothing e),
    λ h. absurd (true≢false (sym (fits.1 (let e' : r ≡ Some n = (named n).1 h.0 in let same : n ≡ x = cc in subst P same h.1)))),
  )
    where
      nothing : None ≡ Some n → ⊥
      nothing e = cc

  pub encoded_as : (x : ExtensionName) → r ≡ Some x → (c : ColumnTree) (b : Bool) (o : Option ExtensionName) → o ≡ then_some b x → IsTrue b ↔ IsStoredAs x c.data_type → (n : ExtensionName) → (o ≡ Some n) ↔ IsEncodedAs encoding n c
  encoded_as x is c b o out fits n = rw (there, out) (encoded x is (λ m. IsStoredAs m c.data_type) b fits n)
