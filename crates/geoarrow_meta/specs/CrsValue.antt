-- Which JSON values a CRS can have, and what they write to a hasher.
use Rattle.std.specs.Prelude.{◌≡◌, ◌++◌, true, false, is_some}
use Rattle.std.specs.Hash.{HashWrites, u8, str}
use Rattle.std.proofs.Common.{ap}
use Rattle.std.specs.Cmp.{IsEquivalence, IsPartialEquivalence, decided, partial_equiv_from_equiv}
use Rattle.serde_json.specs.Data.{Data, null, boolean, number, string, array, object}
use Rattle.serde_json.specs.Find.{as_null}
use Rattle.serde_json.specs.Written.{has_float}
use Rattle.geoarrow_meta.specs.Code.{same, same_decides}

-- a CRS can have the value: it is not null, and its numbers are whole at any depth
abbrev pub IsCrsValue : Data → Type 0
IsCrsValue d = (is_some (as_null d) ≡ false) × (has_float d ≡ false)

-- what the value writes to a hasher: its sort, and for a text its bytes
abbrev pub value_fed : Data → HashWrites
value_fed null = u8 0
value_fed (boolean b) = u8 1
value_fed (number n) = u8 2
value_fed (string s) = u8 3 ++ str s
value_fed (array ds) = u8 4
value_fed (object ms) = u8 5

-- equal values write the same to a hasher
pub value_fed-same : (d e : Data) → same d e ≡ true → value_fed d ≡ value_fed e
value_fed-same d e h = ap value_fed ((same_decides d e).0 h)

-- `same` is an equivalence
pub same-equiv : IsEquivalence same
same-equiv = decided same same_decides

-- so it is a partial equivalence too
pub same-per : IsPartialEquivalence same
same-per = partial_equiv_from_equiv same-equiv
