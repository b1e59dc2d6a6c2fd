-- The values of keys by maps, for private contracts.
use Rattle.std.specs.Prelude.{◌≡◌, ℕ, true, List, map, Option, None, Some, is_some, option_map, String, string_bytes, refl}
use Rattle.std.specs.Coded.{Coded, code_by, coded×, coded_list, coded_option, coded_ℕ}
use Rattle.std.specs.Borrow.{Bor}
use Rattle.std.specs.BTreeMap.{BTreeMap, get_by}
use Rattle.std.specs.Cmp.Lexicographic.{slice_cmp}
use Rattle.std.specs.Ordering.{nat_cmp}
use Rattle.std.specs.declared.alloc.Global.{Global}
use Rattle.arrow_values.specs.Tree.{Text}
use Rattle.arrow_values.specs.Texts.{text_of}
use Rattle.geoarrow_meta.specs.Compact.{compact_projjson}
use Rattle.parquet_footer.specs.Spelled.{Spelled}
use Rattle.parquet_footer.specs.Footer.{Pairing, pairing}
use Rattle.parquet_footer.specs.declared.footer.KeyValue.{KeyValue}
use Rattle.parquet_columns.specs.Keys.{text_at}

-- a pair is stored as its key and its value, each as its bytes and their place
abbrev pub spelled_code : Coded Spelled
spelled_code = code_by (List ℕ × ℕ) (coded× (coded_list coded_ℕ) coded_ℕ) (λ t. (t.bytes, t.byte)) (λ q. record { bytes = q.0; byte = q.1 }) (λ _. refl)

abbrev pub pairing_code : Coded Pairing
pairing_code = code_by (Spelled × Option Spelled) (coded× spelled_code (coded_option spelled_code)) (λ p. (p.key, p.value)) (λ q. record { key = q.0; value = q.1 }) (λ _. refl)

-- what a map has at a key
abbrev pub at : {X : Type 0} → BTreeMap (Bor Text) X → Text → Option X
at m key = get_by (λ k. slice_cmp nat_cmp key k.now) m

-- it has the text at each key
abbrev pub AreValues : List KeyValue → BTreeMap (Bor Text) (Bor Text) → Type 0
AreValues ps m = (key : Text) → text_of (at m key) ≡ text_at key (map pairing ps)

-- a value without blanks, if it is PROJJSON
abbrev pub compact_of : Option Text → Option Text
compact_of None = None
compact_of (Some value) = compact_projjson value

-- at each key that it has, it has the text at that key so
abbrev pub AreJudged : List KeyValue → BTreeMap (Bor Text) (Option (String Global)) → Type 0
AreJudged ps m = (key : Text) → is_some (at m key) ≡ true → option_map (option_map string_bytes) (at m key) ≡ Some (compact_of (text_at key (map pairing ps)))
