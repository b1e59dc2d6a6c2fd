-- Maps of the values of keys, with one more.
use Rattle.std.proofs.Common.{◌≡◌, ℕ, Bool, true, false, cond, List, [], ◌∷◌, ◌++◌, ◌+◌, ◌<◌, ◌≤◌, length, take, get_or, map, Option, Some, None, is_some, option_map, String, string_bytes, bytes_eq, if◌then◌else◌, refl, sym, ap, ◌∙◌, subst, true≢false}
use Rattle.std.specs.Borrow.{Bor}
use Rattle.std.specs.BTreeMap.{BTreeMap, is_at}
use Rattle.std.specs.Cmp.Lexicographic.{slice_cmp}
use Rattle.std.specs.Map.{lookup}
use Rattle.std.specs.Ordering.{nat_cmp}
use Rattle.std.specs.declared.alloc.Global.{Global}
use Rattle.std.proofs.lemmas.List.{map-append, take_more, take_all}
use Rattle.std.proofs.lemmas.Slice.Eq.{bytes_eq-Decides}
use Rattle.arrow_values.specs.Tree.{Text}
use Rattle.arrow_values.specs.Texts.{text_of}
use Rattle.parquet_footer.specs.declared.footer.KeyValue.{KeyValue}
use Rattle.parquet_footer.specs.Footer.{pairing}
use Rattle.parquet_columns.specs.Keys.{later, text_pair, under, text_at}
use Rattle.parquet_columns.specs.Values.{at, AreValues, AreJudged, compact_of}
use Rattle.parquet_columns.proofs.Laters.{text_at-push}

-- ---- the last values

behind : (key : Text) (ps : List KeyValue) (p : KeyValue) → text_at key (map pairing (ps ++ p ∷ [])) ≡ later (under key (text_pair (pairing p))) (text_at key (map pairing ps))
behind key ps p = ap (text_at key) (map-append pairing ps (p ∷ [])) ∙ text_at-push key (map pairing ps) (pairing p)

pub without_value : (ps : List KeyValue) (p : KeyValue) (m : BTreeMap (Bor Text) (Bor Text)) → text_pair (pairing p) ≡ None → AreValues ps m → AreValues (ps ++ p ∷ []) m
without_value ps p m none are key =
    are key ∙ ap (λ q. later (under key q) (text_at key (map pairing ps))) (sym none) ∙ sym (behind key ps p)

a_value : (b : Bool) (v : Bor Text) (o : Option (Bor Text)) → text_of (cond b (Some v) o) ≡ later (if b then Some v.now else None) (text_of o)
a_value true v o = refl
a_value false v o = refl

pub with_value : (ps : List KeyValue) (p : KeyValue) (k v : Bor Text) (m n : BTreeMap (Bor Text) (Bor Text)) → text_pair (pairing p) ≡ Some (k.now, v.now)
    → ((key : Text) → at n key ≡ cond (bytes_eq k.now key) (Some v) (at m key)) → AreValues ps m → AreValues (ps ++ p ∷ []) n
with_value ps p k v m n some put are key =
    ap text_of (put key) ∙ a_value (bytes_eq k.now key) v (at m key)
    ∙ ap (later (if bytes_eq k.now key then Some v.now else None)) (are key)
    ∙ ap (λ q. later (under key q) (text_at key (map pairing ps))) (sym some)
    ∙ sym (behind key ps p)

pub next_value : (ps : List KeyValue) (i : ℕ) (d : KeyValue) (m : BTreeMap (Bor Text) (Bor Text)) → i < length ps → AreValues (take i ps ++ get_or ps i d ∷ []) m → AreValues (take (i + 1) ps) m
next_value ps i d m lt are = subst (λ xs. AreValues xs m) (sym (take_more ps i d lt)) are

pub all_values : (ps : List KeyValue) (i : ℕ) (m : BTreeMap (Bor Text) (Bor Text)) → length ps ≤ i → AreValues (take i ps) m → AreValues ps m
all_values ps i m past are = subst (λ xs. AreValues xs m) (take_all i ps past) are

-- ---- the values that were judged

abbrev pub Judged : Type 0
Judged = BTreeMap (Bor Text) (Option (String Global))

pub none_judged : (ps : List KeyValue) (m : Judged) → m.entries ≡ [] → AreJudged ps m
none_judged ps m none key some = absurd (true≢false (sym some ∙ ap (λ es. is_some (lookup (is_at (λ k. slice_cmp nat_cmp key k.now)) es)) none))

pub same_judged : (ps : List KeyValue) (m n : Judged) → n.entries ≡ m.entries → AreJudged ps m → AreJudged ps n
same_judged ps m n same are key some =
    let here : at n key ≡ at m key = ap (λ es. lookup (is_at (λ k. slice_cmp nat_cmp key k.now)) es) same in
    ap (option_map (option_map string_bytes)) here ∙ are key (ap is_some (sym here) ∙ some)

put_by : (b : Bool) (found : Option (String Global)) (o : Option (Option (String Global))) (t : Option Text) → (b ≡ true → option_map string_bytes found ≡ t)
    → (b ≡ false → is_some o ≡ true → option_map (option_map string_bytes) o ≡ Some t) → is_some (cond b (Some found) o) ≡ true → option_map (option_map string_bytes) (cond b (Some found) o) ≡ Some t
put_by true found o t is old some = ap Some (is refl)
put_by false found o t is old some = old refl some

pub judged_more : (ps : List KeyValue) (key : Text) (found : Option (String Global)) (m n : Judged)
    → ((q : Text) → at n q ≡ cond (bytes_eq key q) (Some found) (at m q)) → option_map string_bytes found ≡ compact_of (text_at key (map pairing ps)) → AreJudged ps m → AreJudged ps n
judged_more ps key found m n put is are q some =
    let t = compact_of (text_at q (map pairing ps)) in
    let here : bytes_eq key q ≡ true → option_map string_bytes found ≡ t = λ same. is ∙ ap (λ k. compact_of (text_at k (map pairing ps))) ((bytes_eq-Decides key q).0 same) in
    ap (option_map (option_map string_bytes)) (put q)
    ∙ put_by (bytes_eq key q) found (at m q) t here (λ _ had. are q had) (ap is_some (sym (put q)) ∙ some)

-- what is at a key that was judged
pub at_judged : (found : Option (String Global)) (o : Option (Option (String Global))) (t : Option Text) → Some found ≡ o → option_map (option_map string_bytes) o ≡ Some t → option_map string_bytes found ≡ t
at_judged found o t here is = some_same (ap (option_map (option_map string_bytes)) here ∙ is)
  where
    some_same : Some (option_map string_bytes found) ≡ Some t → option_map string_bytes found ≡ t
    some_same e = cc

pub not_judged : {P : Type 0} (o : Option (Option (String Global))) (t : Option Text) → None ≡ o → option_map (option_map string_bytes) o ≡ Some t → P
not_judged o t here is = absurd (none_some (ap (option_map (option_map string_bytes)) here ∙ is))
  where
    none_some : None ≡ Some t → ⊥
    none_some e = cc
