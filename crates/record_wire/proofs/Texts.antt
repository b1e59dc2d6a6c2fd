-- The test for UTF-8.
use Rattle.std.proofs.Common.{◌≡◌, ℕ, List, Bool, true, false, refl}
use Rattle.std.specs.Str.{is_utf8, IsUtf8}
use Rattle.std.proofs.lemmas.Str.{IsUtf8-from_is_utf8, is_utf8-from_IsUtf8}

pub utf8_is : (bs : List ℕ) → IsUtf8 bs → is_utf8 bs ≡ true
utf8_is bs h = is_utf8-from_IsUtf8 bs h

by_test : (bs : List ℕ) (b : Bool) → is_utf8 bs ≡ b → ¬ (IsUtf8 bs) → b ≡ false
by_test bs true e not = absurd (not (IsUtf8-from_is_utf8 bs e))
by_test bs false e not = refl

pub utf8_is_not : (bs : List ℕ) → ¬ (IsUtf8 bs) → is_utf8 bs ≡ false
utf8_is_not bs not = by_test bs (is_utf8 bs) refl not

pub ruleset utf8_tests = (utf8_is, utf8_is_not)
