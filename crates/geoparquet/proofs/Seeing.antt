-- Keys that are seen one after another.
use Rattle.std.proofs.Common.{◌≡◌, ℕ, ◌+◌, ◌<◌, ◌≤◌, Bool, true, false, cond, ◌||◌, is_some, nat_lt, bytes_eq, List, [], ◌∷◌, ◌++◌, Option, Some, Global, append-nil, drop, get_or, length, map, refl, sym, ap, subst, ◌∙◌, arith}
use Rattle.std.specs.Prelude.{⊤}
use Rattle.std.specs.Borrow.{Bor}
use Rattle.std.specs.BTreeMap.{BTreeMap, get_by, UpdatesBy}
use Rattle.std.specs.Cmp.Lexicographic.{slice_cmp}
use Rattle.std.specs.Ordering.{nat_cmp}
use Rattle.std.proofs.lemmas.List.{at_drop_all, at_drop_more}
use Rattle.std.proofs.lemmas.Map.Text.{btree_map_updates_str}
use Rattle.std.proofs.lemmas.Slice.Eq.{bytes_eq-Decides}
use Rattle.json.specs.Json.{Json, Members}
use Rattle.json.specs.Value.{members_view, value_view}
use Rattle.json.specs.declared.value.Value.{Value}
use Rattle.arrow_values.specs.Tree.{Text}
use Rattle.geoparquet.specs.Findings.{Finding, finding}
use Rattle.geoparquet.specs.RepeatedKeys.{Step, key, told, AreDistinct, AreTold, are_equal, has_key, own_findings, repeated_finding, values_at}
use Rattle.geoparquet.specs.declared.finding.GeoFinding.{GeoFinding}

abbrev pub Seen : Type 0
Seen = BTreeMap (Bor Text) ⊤

-- how often a key was seen, which is once at most, and how often it is still to come
abbrev pub once : Bool → ℕ
once b = cond b 1 0

abbrev pub IsCounted : Seen → List (Bor Text × Value Global) → List (Bor Text × Value Global) → Text → Type 0
IsCounted seen rest ms name = once (has_key seen name) + length (values_at name (members_view rest)) ≡ length (values_at name (members_view ms))

-- ---- one more key

seen_step : (b : Bool) (u : ⊤) (o : Option ⊤) → is_some (cond b (Some u) o) ≡ b || is_some o
seen_step true u o = refl
seen_step false u o = refl

pub seen_behind : (k : Text) (u : ⊤) (old new : Seen) → UpdatesBy (λ x y. slice_cmp nat_cmp x.now y.now) (λ l. slice_cmp nat_cmp k l.now) old new (Some u) → (name : Text) → has_key new name ≡ bytes_eq k name || has_key old name
seen_behind k u old new put name =
    ap is_some (btree_map_updates_str k old new (Some u) put name)
    ∙ seen_step (bytes_eq k name) u (get_by (λ l. slice_cmp nat_cmp name l.now) old)

pub one_seen : (ms : List (Bor Text × Value Global)) (i : ℕ) (m : Bor Text × Value Global) (old new : Seen) (name : Text) → i < length ms → m ≡ get_or ms i m → has_key old m.0.now ≡ false
    → has_key new name ≡ bytes_eq m.0.now name || has_key old name → IsCounted old (drop i ms) ms name → IsCounted new (drop (i + 1) ms) ms name
one_seen ms i m old new name lt is fresh put so_far =
    let later = λ (xs : List (Bor Text × Value Global)). once (has_key old name) + length (values_at name (members_view xs)) in
    let rest = drop (i + 1) ms in
    let here = at_drop_more later ms i m lt ∙ ap (λ x. later (x ∷ rest)) (sym is) in
    ap (λ b. once b + length (values_at name (members_view rest))) put
    ∙ step (bytes_eq m.0.now name) (has_key old name) (values_at name (members_view rest)) (λ e. ap (has_key old) (sym ((bytes_eq-Decides m.0.now name).0 e)) ∙ fresh)
    ∙ sym here ∙ so_far
  where
    step : (b seen : Bool) (js : List Json) → (b ≡ true → seen ≡ false) → once (b || seen) + length js ≡ once seen + length (cond b (value_view m.1 ∷ js) js)
    step true true js h = absurd (cc (h refl))
    step true false js h = omega arith
    step false seen js h = refl

-- ---- all keys

few : (b : Bool) (n m : ℕ) → n ≡ 0 → once b + n ≡ m → nat_lt 1 m ≡ false
few true n m none is = let e : 1 ≡ m = omega (arith, none, is) in subst (λ k. nat_lt 1 k ≡ false) e refl
few false n m none is = let e : 0 ≡ m = omega (arith, none, is) in subst (λ k. nat_lt 1 k ≡ false) e refl

pub all_seen : (ms : List (Bor Text × Value Global)) (i : ℕ) (seen : Seen) → length ms ≤ i → ((name : Text) → IsCounted seen (drop i ms) ms name) → AreDistinct (members_view ms)
all_seen ms i seen le counted name =
    let count = λ (xs : List (Bor Text × Value Global)). length (values_at name (members_view xs)) in
    few (has_key seen name) (count (drop i ms)) (count ms) (at_drop_all count ms i le) (counted name)

pub few_distinct : (ms : List (Bor Text × Value Global)) → length ms < 2 → AreDistinct (members_view ms)
few_distinct [] lt name = refl
few_distinct (m ∷ []) lt name = step (bytes_eq m.0.now name)
  where
    step : (b : Bool) → nat_lt 1 (length (cond b (value_view m.1 ∷ []) [])) ≡ false
    step true = refl
    step false = refl
few_distinct (m ∷ n ∷ ms) lt name = absurd (omega arith)

-- ---- nothing is found

pub none_repeated : (way : List Step) (all : Members) (ms : List (Text × Json)) → AreDistinct all → own_findings way all ms ≡ []
none_repeated way all [] distinct = refl
none_repeated way all (m ∷ ms) distinct =
    let here = way ++ key m.0 ∷ [] in
    let js = values_at m.0 all in
    ap (λ b. cond b (repeated_finding here (length js) (are_equal js) ∷ []) [] ++ own_findings way all ms) (distinct m.0) ∙ none_repeated way all ms distinct

pub told_none : (old : List GeoFinding) (fs : List Finding) → fs ≡ [] → AreTold old old fs
told_none old fs none = ap told (sym (append-nil (map finding old))) ∙ ap (λ gs. told (map finding old ++ gs)) (sym none)
