-- The text that bytes are.
use Rattle.std.proofs.Common.{◌≡◌, List, ℕ, Bool, true, false, Some, None, if◌then◌else◌, refl}
use Rattle.std.specs.Str.{is_utf8, IsUtf8}
use Rattle.std.proofs.lemmas.Str.{IsUtf8-from_is_utf8, is_utf8-from_IsUtf8}
use Rattle.parquet_footer.specs.Spelled.{Spelled}
use Rattle.parquet_columns.specs.Keys.{text_in}

pub read_text : (t : Spelled) (s : List ℕ) → s ≡ t.bytes → IsUtf8 t.bytes → Some s ≡ text_in t
read_text t s same is = rw (is_utf8-from_IsUtf8 t.bytes is, same) refl

by_test : (t : Spelled) (b : Bool) → is_utf8 t.bytes ≡ b → ¬ (IsUtf8 t.bytes) → None ≡ (if b then Some t.bytes else None)
by_test t true e not = absurd (not (IsUtf8-from_is_utf8 t.bytes e))
by_test t false e not = refl

pub no_text : (t : Spelled) → ¬ (IsUtf8 t.bytes) → None ≡ text_in t
no_text t not = by_test t (is_utf8 t.bytes) refl not
