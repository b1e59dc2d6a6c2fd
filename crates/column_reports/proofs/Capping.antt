-- Findings that are counted together, and those of them that are kept.
use Rattle.std.proofs.Common.{◌≡◌, ℕ, zero, suc, min, nat_lt, ◌+◌, ◌<◌, ◌≤◌, ◌||◌, ◌==◌, Bool, true, false, cond, bytes_eq, List, [], ◌∷◌, ◌++◌, Option, None, Some, append-nil, append_assoc, drop, length, unwrap_or, refl, sym, ap, ap₂, subst, ◌∙◌, arith, if◌then◌else◌, length-append, string_bytes, codes, option_map}
use Rattle.std.specs.List.{filter, list_any}
use Rattle.std.specs.BTreeMap.{get_by_text, UpdatesBy}
use Rattle.std.specs.Cmp.Lexicographic.{slice_cmp}
use Rattle.std.specs.Ordering.{nat_cmp}
use Rattle.std.specs.String.{string_cmp}
use Rattle.std.proofs.lemmas.List.{drop-append-le}
use Rattle.std.proofs.lemmas.List.Elements.{filter-append}
use Rattle.std.proofs.lemmas.List.Folds.{list_any-append}
use Rattle.std.proofs.lemmas.Map.Text.{btree_map_updates_text}
use Rattle.std.proofs.Math.ListN.{drop_of_length-le}
use Rattle.std.proofs.lemmas.Slice.Eq.{bytes_eq-Decides}
use Rattle.arrow_values.specs.Tree.{Text}
use Rattle.column_check.specs.Severities.{severity_text}
use Rattle.column_check.specs.declared.code.Severity.{Severity}
use Rattle.column_check.specs.declared.code.Severity.TheVariants.{Error, Warning, Note}
use Rattle.column_reports.specs.Capped.{head, key_of, is_key, those_of, limited, stand_for, left_out, with_more, one_kept, kept_by, kept_of, kept_behind, capped, FewStay, AllCount, seen_of, one_seen, seen_if, nothing_seen, SeenByKey, seen_at, AreSeen}
use Rattle.column_reports.specs.Codes.{word_of}
use Rattle.column_reports.specs.Found.{code_in, column_in}
use Rattle.column_reports.specs.declared.capped.By.{By}
use Rattle.column_reports.specs.declared.capped.By.TheVariants.{Code, Column}
use Rattle.column_reports.specs.declared.capped.Seen.{Seen}
use Rattle.column_reports.specs.declared.weighed.Weighed.{Weighed}

abbrev word : Weighed → Text
word w = word_of (code_in w.finding)

-- ---- what is counted of findings, with one more

limited_sum : (a b l : ℕ) → min (min a l + min b l) l ≡ min (a + b) l
limited_sum a b l = omega arith

stand_append : (ws : List Weighed) (w : Weighed) → stand_for (ws ++ w ∷ []) ≡ stand_for ws + suc w.more
stand_append [] w = omega arith
stand_append (v ∷ ws) w = omega (arith, stand_append ws w)

seen_more_by : (b : Bool) (most : ℕ) (ws : List Weighed) (w : Weighed) → nat_lt (min (length ws) most) most ≡ b
    → (if b then (let s : Seen = record { count = min (length ws) most + 1; left = left_out most ws } in s) else (let s : Seen = record { count = min (length ws) most; left = limited (left_out most ws + limited (suc w.more)) } in s)) ≡ seen_of most (ws ++ w ∷ [])
seen_more_by true most ws w is =
    let room : length ws < most = grind arith in
    let long = length-append ws (w ∷ []) in
    let before : drop most ws ≡ [] = drop_of_length-le ws (omega arith) in
    let after : drop most (ws ++ w ∷ []) ≡ [] = drop_of_length-le (ws ++ w ∷ []) (omega (arith, long)) in
    let count : min (length ws) most + 1 ≡ min (length (ws ++ w ∷ [])) most = omega (arith, long, room) in
    let left : left_out most ws ≡ left_out most (ws ++ w ∷ []) = ap (λ xs. limited (stand_for xs)) (before ∙ sym after) in
    ap₂ (λ n m. let s : Seen = record { count = n; left = m } in s) count left
seen_more_by false most ws w is =
    let full : most ≤ length ws = grind arith in
    let long = length-append ws (w ∷ []) in
    let after : drop most (ws ++ w ∷ []) ≡ drop most ws ++ w ∷ [] = drop-append-le most ws (w ∷ []) full in
    let count : min (length ws) most ≡ min (length (ws ++ w ∷ [])) most = omega (arith, long, full) in
    let left : limited (left_out most ws + limited (suc w.more)) ≡ left_out most (ws ++ w ∷ []) =
    limited_sum (stand_for (drop most ws)) (suc w.more) _ ∙ ap limited (sym (stand_append (drop most ws) w)) ∙ ap (λ xs. limited (stand_for xs)) (sym after) in
    ap₂ (λ n m. let s : Seen = record { count = n; left = m } in s) count left

seen_more : (most : ℕ) (ws : List Weighed) (w : Weighed) → one_seen most (limited (suc w.more)) (seen_of most ws) ≡ seen_of most (ws ++ w ∷ [])
seen_more most ws w = seen_more_by (nat_lt (min (length ws) most) most) most ws w refl

-- ---- by their keys

those_more : (by : By) (k : Text) (ws : List Weighed) (w : Weighed) → those_of by k (ws ++ w ∷ []) ≡ those_of by k ws ++ cond (is_key k (key_of by w)) (w ∷ []) []
those_more by k ws w = filter-append (λ v. is_key k (key_of by v)) ws (w ∷ [])

put_if : (b : Bool) (s : Seen) (o : Option Seen) → unwrap_or (cond b (Some s) o) nothing_seen ≡ cond b s (unwrap_or o nothing_seen)
put_if true s o = refl
put_if false s o = refl

-- one that is counted is counted at its key
pub put_seen : (key : Text) (most stands : ℕ) (old new : SeenByKey) (s : Seen) → s ≡ one_seen most stands (seen_at old key)
    → UpdatesBy string_cmp (λ k. slice_cmp nat_cmp key (string_bytes k)) old new (Some s) → (k : Text) → seen_at new k ≡ seen_if (bytes_eq key k) most stands (seen_at old k)
put_seen key most stands old new s is put k =
    ap (λ o. unwrap_or o nothing_seen) (btree_map_updates_text key old new (Some s) put k)
    ∙ put_if (bytes_eq key k) s (get_by_text old k) ∙ here (bytes_eq key k) refl
  where
    here : (b : Bool) → bytes_eq key k ≡ b → cond b s (seen_at old k) ≡ seen_if b most stands (seen_at old k)
    here true e = is ∙ ap (λ q. one_seen most stands (seen_at old q)) ((bytes_eq-Decides key k).0 e)
    here false e = refl

pub seen_with : (by : By) (most : ℕ) (ws : List Weighed) (w : Weighed) (key : Text) (old new : SeenByKey) → key_of by w ≡ Some key
    → ((k : Text) → seen_at new k ≡ seen_if (bytes_eq key k) most (limited (suc w.more)) (seen_at old k)) → AreSeen by most ws old → AreSeen by most (ws ++ w ∷ []) new
seen_with by most ws w key old new is put are k =
    put k ∙ here (bytes_eq key k)
    ∙ ap (λ o. seen_of most (those_of by k ws ++ cond (is_key k o) (w ∷ []) [])) (sym is)
    ∙ ap (seen_of most) (sym (those_more by k ws w))
  where
    here : (b : Bool) → seen_if b most (limited (suc w.more)) (seen_at old k) ≡ seen_of most (those_of by k ws ++ cond b (w ∷ []) [])
    here true = ap (one_seen most (limited (suc w.more))) (are k) ∙ seen_more most (those_of by k ws) w
    here false = are k ∙ ap (seen_of most) (sym (append-nil (those_of by k ws)))

pub seen_without : (by : By) (most : ℕ) (ws : List Weighed) (w : Weighed) (m : SeenByKey) → key_of by w ≡ None → AreSeen by most ws m → AreSeen by most (ws ++ w ∷ []) m
seen_without by most ws w m is are k =
    are k ∙ ap (seen_of most) (sym (append-nil (those_of by k ws)) ∙ ap (λ o. those_of by k ws ++ cond (is_key k o) (w ∷ []) []) (sym is) ∙ sym (those_more by k ws w))

-- ---- what is kept

kept_to : (before most left : ℕ) (w : Weighed) → one_kept most (min before most) left w ≡ one_kept most before left w
kept_to before most left w = by_room (nat_lt before most) refl
  where
    by_room : (b : Bool) → nat_lt before most ≡ b → one_kept most (min before most) left w ≡ one_kept most before left w
    by_room true is =
        let same : min before most ≡ before = grind arith in
        ap (λ n. one_kept most n left w) same
    by_room false is =
        let there : nat_lt (min before most) most ≡ false = grind arith in
        ap (λ b. if b then with_more (if min before most + 1 == most then left else 0) w ∷ [] else []) there
        ∙ ap (λ b. if b then with_more (if before + 1 == most then left else 0) w ∷ [] else []) (sym is)

pub kept_at : (by : By) (most : ℕ) (vs ws : List Weighed) (w : Weighed) (key : Text) (seen all : SeenByKey) (before left : ℕ) → key_of by w ≡ Some key → before ≡ (seen_at seen key).count → left ≡ (seen_at all key).left
    → AreSeen by most vs seen → AreSeen by most ws all → one_kept most before left w ≡ kept_of by most ws vs w
kept_at by most vs ws w key seen all before left is count rest are whole =
    ap₂ (λ n m. one_kept most n m w) (count ∙ ap (λ s. s.count) (are key)) (rest ∙ ap (λ s. s.left) (whole key))
    ∙ kept_to (length (those_of by key vs)) most (left_out most (those_of by key ws)) w
    ∙ ap (kept_by by most ws vs w) (sym is)

-- one more
pub kept_more : (by : By) (most : ℕ) (all before ws : List Weighed) (w : Weighed) → kept_behind by most all before (ws ++ w ∷ []) ≡ kept_behind by most all before ws ++ kept_of by most all (before ++ ws) w
kept_more by most all before [] w =
    append-nil (kept_of by most all before w) ∙ ap (λ vs. kept_of by most all vs w) (sym (append-nil before))
kept_more by most all before (v ∷ ws) w =
    let here = kept_of by most all before v in
    ap (λ xs. here ++ xs) (kept_more by most all (before ++ v ∷ []) ws w)
    ∙ sym (append_assoc here (kept_behind by most all (before ++ v ∷ []) ws) (kept_of by most all ((before ++ v ∷ []) ++ ws) w))
    ∙ ap (λ vs. (here ++ kept_behind by most all (before ++ v ∷ []) ws) ++ kept_of by most all vs w) (append_assoc before (v ∷ []) ws)

-- ---- few stay as they are

no_more : (most before : ℕ) (w : Weighed) → before < most → one_kept most before 0 w ≡ w ∷ []
no_more most before w lt =
    let is : nat_lt before most ≡ true = grind arith in
    ap (λ b. if b then with_more (if before + 1 == most then 0 else 0) w ∷ [] else []) is ∙ none (before + 1 == most)
  where
    none : (b : Bool) → with_more (if b then 0 else 0) w ∷ [] ≡ w ∷ []
    none true = refl
    none false = refl

module _ (by : By) (most : ℕ) (all : List Weighed) (few : (k : Text) → length (those_of by k all) ≤ most) where
  one_stays : (before rest : List Weighed) (w : Weighed) (o : Option Text) → key_of by w ≡ o → before ++ w ∷ rest ≡ all → kept_by by most all before w o ≡ w ∷ []
  one_stays before rest w None is whole = refl
  one_stays before rest w (Some k) is whole =
      let those = those_of by k before in
      let short = few k in
      let none : left_out most (those_of by k all) ≡ 0 = ap (λ xs. limited (stand_for xs)) (drop_of_length-le (those_of by k all) short) in
      let mine : is_key k (key_of by w) ≡ true = ap (is_key k) is ∙ (bytes_eq-Decides k k).1 refl in
      let parts : those_of by k all ≡ those ++ w ∷ those_of by k rest =
      ap (those_of by k) (sym whole) ∙ filter-append (λ v. is_key k (key_of by v)) before (w ∷ rest)
      ∙ ap (λ b. those ++ cond b (w ∷ those_of by k rest) (those_of by k rest)) mine in
      let size : length (those_of by k all) ≡ length those + suc (length (those_of by k rest)) = ap length parts ∙ length-append those (w ∷ those_of by k rest) in
      ap (λ n. one_kept most (length those) n w) none ∙ no_more most (length those) w (omega (arith, size, short))

  all_stay : (before ws : List Weighed) → before ++ ws ≡ all → kept_behind by most all before ws ≡ ws
  all_stay before [] whole = refl
  all_stay before (w ∷ ws) whole =
      ap₂ (λ xs ys. xs ++ ys) (one_stays before ws w (key_of by w) refl whole) (all_stay (before ++ w ∷ []) ws (append_assoc before (w ∷ []) ws ∙ whole))

pub few_stay : FewStay
few_stay by most ws few = all_stay by most ws few [] ws refl

one_fewer : (b : Bool) (n : ℕ) (ws : List Weighed) (w : Weighed) → length ws ≤ n → length (cond b (w ∷ ws) ws) ≤ suc n
one_fewer true n ws w short = omega (arith, short)
one_fewer false n ws w short = omega (arith, short)

fewer : (p : Weighed → Bool) (ws : List Weighed) → length (filter p ws) ≤ length ws
fewer p [] = omega arith
fewer p (w ∷ ws) = one_fewer (p w) (length ws) (filter p ws) w (fewer p ws)

pub short_stays : (by : By) (most : ℕ) (ws : List Weighed) → length ws ≤ most → ws ≡ capped by most ws
short_stays by most ws short = sym (few_stay by most ws (λ k. omega (arith, short, fewer (λ w. is_key k (key_of by w)) ws)))

-- ---- all count

-- how much those of a key count, by its first letter
abbrev by_letter : ℕ → Severity
by_letter c = if c == 101 then Error else (if c == 119 then Warning else Note)

abbrev said_by : Text → Severity
said_by [] = Note
said_by (c ∷ cs) = by_letter c

severity_first : (s : Severity) (t : Text) → said_by (severity_text s ++ t) ≡ s
severity_first Error t = refl
severity_first Warning t = refl
severity_first Note t = refl

named_key : (w : Weighed) (k : Text) (o : Option Text) → option_map (λ name. head w ++ (codes " " ++ name)) o ≡ Some k → said_by k ≡ w.severity
named_key w k None is = absurd (cc)
named_key w k (Some name) is =
    ap (λ o. said_by (unwrap_or o [])) (sym is)
    ∙ ap said_by (append_assoc (severity_text w.severity) (codes " " ++ word w) (codes " " ++ name))
    ∙ severity_first w.severity ((codes " " ++ word w) ++ (codes " " ++ name))

key_says : (by : By) (w : Weighed) (k : Text) → key_of by w ≡ Some k → said_by k ≡ w.severity
key_says Code w k is = ap (λ o. said_by (unwrap_or o [])) (sym is) ∙ severity_first w.severity (codes " " ++ word w)
key_says Column w k is = named_key w k (column_in w.finding) is

is_its : (k : Text) (o : Option Text) → is_key k o ≡ true → o ≡ Some k
is_its k None is = absurd (cc)
is_its k (Some l) is = ap Some ((bytes_eq-Decides l k).0 is)

with_more_counts : (n : ℕ) (w : Weighed) → (with_more n w).severity ≡ w.severity
with_more_counts zero w = refl
with_more_counts (suc n) w = refl

or_nothing : (a : Bool) → a || false ≡ a
or_nothing true = refl
or_nothing false = refl

joined : (a x c k r : Bool) → a || x ≡ a || c → (a || c) || k ≡ (a || c) || r → a || (x || k) ≡ a || (c || r)
joined true x c k r one others = refl
joined false x true k r one others = ap (λ b. b || k) one
joined false x false k r one others = ap (λ b. b || k) one ∙ others

module _ (by : By) (most : ℕ) (all : List Weighed) (counts : Severity → Bool) (some : 0 < most) where
  abbrev any : List Weighed → Bool
  any ws = list_any (λ w. counts w.severity) ws

  here : (b : Bool) (k : Text) (v : Weighed) (n : ℕ) (rest : Bool) → (b ≡ true → said_by k ≡ v.severity) → counts (said_by k) ≡ true → (0 < n → rest ≡ true) → 0 < cond b (suc n) n → counts v.severity || rest ≡ true
  here true k v n rest same does others lt = ap (λ s. counts s || rest) (sym (same refl)) ∙ ap (λ b. b || rest) does
  here false k v n rest same does others lt = ap (λ b. counts v.severity || b) (others lt) ∙ last (counts v.severity)
    where
      last : (b : Bool) → b || true ≡ true
      last true = refl
      last false = refl

  sized : (b : Bool) (v : Weighed) (vs : List Weighed) → length (cond b (v ∷ vs) vs) ≡ cond b (suc (length vs)) (length vs)
  sized true v vs = refl
  sized false v vs = refl

  before_counts : (k : Text) (before : List Weighed) → counts (said_by k) ≡ true → 0 < length (those_of by k before) → any before ≡ true
  before_counts k [] does there = absurd (omega (arith, there))
  before_counts k (v ∷ vs) does there =
      here (is_key k (key_of by v)) k v (length (those_of by k vs)) (any vs) (λ is. key_says by v k (is_its k (key_of by v) is)) does (λ lt. before_counts k vs does lt)
      (subst (λ n. 0 < n) (sized (is_key k (key_of by v)) v (those_of by k vs)) there)

  left_out_counts : (b : Bool) (k : Text) (before : List Weighed) (w : Weighed) → counts w.severity ≡ b → said_by k ≡ w.severity → most ≤ length (those_of by k before) → any before || false ≡ any before || b
  left_out_counts true k before w does same full =
      let there = before_counts k before (ap counts same ∙ does) (omega (arith, some, full)) in
      ap (λ a. a || false) there ∙ ap (λ a. a || true) (sym there)
  left_out_counts false k before w does same full = refl

  one_counts : (before : List Weighed) (w : Weighed) (o : Option Text) → key_of by w ≡ o → any before || any (kept_by by most all before w o) ≡ any before || counts w.severity
  one_counts before w None is = ap (λ a. any before || a) (or_nothing (counts w.severity))
  one_counts before w (Some k) is = by_room (nat_lt (length (those_of by k before)) most) refl
    where
      by_room : (b : Bool) → nat_lt (length (those_of by k before)) most ≡ b
          → any before || any (if b then with_more (if length (those_of by k before) + 1 == most then left_out most (those_of by k all) else 0) w ∷ [] else []) ≡ any before || counts w.severity
      by_room true lt =
          ap (λ a. any before || a) (or_nothing (counts (with_more (if length (those_of by k before) + 1 == most then left_out most (those_of by k all) else 0) w).severity)
          ∙ ap counts (with_more_counts (if length (those_of by k before) + 1 == most then left_out most (those_of by k all) else 0) w))
      by_room false full = left_out_counts (counts w.severity) k before w refl (key_says by w k is) (grind arith)

  all_behind : (before ws : List Weighed) → any before || any (kept_behind by most all before ws) ≡ any before || any ws
  all_behind before [] = refl
  all_behind before (w ∷ ws) =
      let this = kept_of by most all before w in
      let others = kept_behind by most all (before ++ w ∷ []) ws in
      let both : any (before ++ w ∷ []) ≡ any before || counts w.severity = list_any-append (λ v. counts v.severity) before (w ∷ []) ∙ ap (λ a. any before || a) (or_nothing (counts w.severity)) in
      ap (λ a. any before || a) (list_any-append (λ v. counts v.severity) this others)
      ∙ joined (any before) (any this) (counts w.severity) (any others) (any ws) (one_counts before w (key_of by w) refl)
      (ap (λ a. a || any others) (sym both) ∙ all_behind (before ++ w ∷ []) ws ∙ ap (λ a. a || any ws) both)

pub all_count : AllCount
all_count by most ws counts some = all_behind by most ws counts some [] ws
