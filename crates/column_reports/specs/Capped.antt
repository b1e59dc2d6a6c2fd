-- Findings of one code: at most so many, of which the last stands for the others, too (docs/FORMAT.md, 2.6 and 5.1).
use Rattle.std.specs.Prelude.{◌≡◌, ◌==◌, ◌<◌, ◌≤◌, ◌+◌, ◌-◌, ◌^◌, ℕ, zero, suc, min, nat_lt, Bool, false, String, bytes_eq, List, [], ◌∷◌, ◌++◌, codes, drop, length, Option, None, Some, option_map, unwrap_or, if◌then◌else◌}
use Rattle.std.specs.BTreeMap.{BTreeMap, get_by_text}
use Rattle.std.specs.Global.{Global}
use Rattle.std.specs.List.{filter, list_any}
use Rattle.arrow_values.specs.Tree.{Text}
use Rattle.column_check.specs.Severities.{severity_text}
use Rattle.column_check.specs.declared.code.Severity.{Severity}
use Rattle.column_reports.specs.Codes.{word_of}
use Rattle.column_reports.specs.Found.{code_in, column_in}
use Rattle.column_reports.specs.declared.capped.By.{By}
use Rattle.column_reports.specs.declared.capped.By.TheVariants.{Code, Column}
use Rattle.column_reports.specs.declared.capped.Seen.{Seen}
use Rattle.column_reports.specs.declared.weighed.Weighed.{Weighed}

-- ---- which are counted together: those of one code; or those of one code and one column, where one that names no column is not counted

-- a code, and how much it counts
abbrev pub head : Weighed → Text
head w = severity_text w.severity ++ (codes " " ++ word_of (code_in w.finding))

abbrev pub key_of : By → Weighed → Option Text
key_of Code w = Some (head w)
key_of Column w = option_map (λ name. head w ++ (codes " " ++ name)) (column_in w.finding)

abbrev pub is_key : Text → Option Text → Bool
is_key k None = false
is_key k (Some l) = bytes_eq l k

abbrev pub those_of : By → Text → List Weighed → List Weighed
those_of by k ws = filter (λ w. is_key k (key_of by w)) ws

-- ---- how many there are, as far as a number of 64 bits goes

abbrev pub limited : ℕ → ℕ
limited n = min n (2 ^ 64 - 1)

-- each stands for itself, and for as many more as it says
abbrev pub stand_for : List Weighed → ℕ
stand_for [] = 0
stand_for (w ∷ ws) = suc w.more + stand_for ws

-- all but the first so many are left out
abbrev pub left_out : ℕ → List Weighed → ℕ
left_out most ws = limited (stand_for (drop most ws))

-- ---- what is kept

-- a finding that stands for so many more
abbrev pub with_more : ℕ → Weighed → Weighed
with_more zero w = w
with_more (suc n) w = record { severity = w.severity; more = limited (w.more + suc n); finding = w.finding }

-- one behind so many others that are counted with it, where that many are left out: the last that is kept stands for these
abbrev pub one_kept : ℕ → ℕ → ℕ → Weighed → List Weighed
one_kept most before left w = if nat_lt before most then with_more (if before + 1 == most then left else 0) w ∷ [] else []

abbrev pub kept_by : By → ℕ → List Weighed → List Weighed → Weighed → Option Text → List Weighed
kept_by by most all before w None = w ∷ []
kept_by by most all before w (Some k) = one_kept most (length (those_of by k before)) (left_out most (those_of by k all)) w

abbrev pub kept_of : By → ℕ → List Weighed → List Weighed → Weighed → List Weighed
kept_of by most all before w = kept_by by most all before w (key_of by w)

-- of all findings those behind some
abbrev pub kept_behind : By → ℕ → List Weighed → List Weighed → List Weighed → List Weighed
kept_behind by most all before [] = []
kept_behind by most all before (w ∷ ws) = kept_of by most all before w ++ kept_behind by most all (before ++ w ∷ []) ws

abbrev pub capped : By → ℕ → List Weighed → List Weighed
capped by most ws = kept_behind by most ws [] ws

-- of a column sixteen of one code; of a file a hundred, of which sixteen name one column
abbrev pub kept_of_column : List Weighed → List Weighed
kept_of_column ws = capped Code 16 ws

abbrev pub kept_of_file : List Weighed → List Weighed
kept_of_file ws = capped Code 100 (capped Column 16 ws)

-- ---- laws

-- where no more than so many are counted together, all are kept as they are
abbrev pub FewStay : Type 0
FewStay = (by : By) (most : ℕ) (ws : List Weighed) → ((k : Text) → length (those_of by k ws) ≤ most) → capped by most ws ≡ ws

-- what counts in some way is kept, where one of each is
abbrev pub AllCount : Type 0
AllCount = (by : By) (most : ℕ) (ws : List Weighed) (counts : Severity → Bool) → 0 < most → list_any (λ w. counts w.severity) (capped by most ws) ≡ list_any (λ w. counts w.severity) ws

-- ---- for private contracts

-- what is counted of those of a key: how many there are, up to so many, and how many are left out
abbrev pub seen_of : ℕ → List Weighed → Seen
seen_of most ws = record { count = min (length ws) most; left = left_out most ws }

-- with one more, which stands for so many
abbrev pub one_seen : ℕ → ℕ → Seen → Seen
one_seen most stands s = if nat_lt s.count most then record { count = s.count + 1; left = s.left } else record { count = s.count; left = limited (s.left + stands) }

abbrev pub seen_if : Bool → ℕ → ℕ → Seen → Seen
seen_if here most stands s = if here then one_seen most stands s else s

abbrev pub nothing_seen : Seen
nothing_seen = record { count = 0; left = 0 }

abbrev pub SeenByKey : Type 0
SeenByKey = BTreeMap (String Global) Seen

abbrev pub seen_at : SeenByKey → Text → Seen
seen_at m k = unwrap_or (get_by_text m k) nothing_seen

-- a map has at each key what is counted of some findings
abbrev pub AreSeen : By → ℕ → List Weighed → SeenByKey → Type 0
AreSeen by most ws m = (k : Text) → seen_at m k ≡ seen_of most (those_of by k ws)
