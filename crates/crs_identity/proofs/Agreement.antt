-- The verdict is symmetric, equal values agree, and what contradicts shares no identifier.
use Rattle.std.proofs.Common.{◌≡◌, Bool, true, false, ◌&&◌, ◌||◌, cond, List, [], ◌∷◌, Option, Some, None, refl, sym, ap, subst, ◌∙◌, bytes_eq, eq-eqb}
use Rattle.std.specs.List.{list_any}
use Rattle.json.specs.Json.{Json, null, boolean, number as number_json, string, array, object}
use Rattle.crs_identity.proofs.Equals.{eqb_sym, bytes_same, bytes_refl, bytes_sym, json_refl, json_sym, and_true}
use Rattle.crs_identity.specs.Equality.{json_equal}
use Rattle.crs_identity.specs.Identifiers.{Name, is_same, listed, paired, share_identifier, share_authority}
use Rattle.crs_identity.specs.Tokens.{Lexeme, mark, quoted, word, is_same_lexeme, are_same_lexemes}
use Rattle.crs_identity.specs.Forms.{Form, projjson, code, wkt, number, other, form_of_value, identifiers, are_equal}
use Rattle.crs_identity.specs.Classes.{class_of, classes_differ}
use Rattle.crs_identity.specs.Verdicts.{Claimed, form_said, verdict_of, verdict_by, crs_verdict}
use Rattle.crs_identity.specs.declared.class.Class.{Class}
use Rattle.crs_identity.specs.declared.class.Class.TheVariants.{Geographic, Projected}
use Rattle.crs_identity.specs.declared.verdict.Verdict.{Verdict}
use Rattle.crs_identity.specs.declared.verdict.Verdict.TheVariants.{Agree, Contradict, NotCompared}

-- ---- tests of pairs

any_none : {A : Type 0} → (xs : List A) → list_any (λ x. false) xs ≡ false
any_none [] = refl
any_none (x ∷ xs) = any_none xs

shuffle : (a b c d : Bool) → ((a || b) || (c || d)) ≡ ((a || c) || (b || d))
shuffle true b c d = refl
shuffle false true true d = refl
shuffle false true false d = refl
shuffle false false c d = refl

any_or : {A : Type 0} → (p q : A → Bool) (xs : List A) → list_any (λ x. p x || q x) xs ≡ (list_any p xs || list_any q xs)
any_or p q [] = refl
any_or p q (x ∷ xs) = ap (λ b. (p x || q x) || b) (any_or p q xs) ∙ shuffle (p x) (q x) (list_any p xs) (list_any q xs)

any_ext : {A : Type 0} → (p q : A → Bool) → ((x : A) → p x ≡ q x) → (xs : List A) → list_any p xs ≡ list_any q xs
any_ext p q h [] = refl
any_ext p q h (x ∷ xs) = let first = h x in let rest = any_ext p q h xs in λ i. first i || rest i

swapped : {A : Type 0} → (r : A → A → Bool) (xs ys : List A) → list_any (λ x. list_any (r x) ys) xs ≡ list_any (λ y. list_any (λ x. r x y) xs) ys
swapped r [] ys = sym (any_none ys)
swapped r (x ∷ xs) ys = ap (λ b. list_any (r x) ys || b) (swapped r xs ys) ∙ sym (any_or (r x) (λ y. list_any (λ z. r z y) xs) ys)

pairs_sym : {A : Type 0} → (r : A → A → Bool) → ((x y : A) → r x y ≡ r y x) → (xs ys : List A) → list_any (λ x. list_any (r x) ys) xs ≡ list_any (λ y. list_any (r y) xs) ys
pairs_sym r h xs ys = swapped r xs ys ∙ any_ext _ _ (λ y. any_ext _ _ (λ x. h x y) xs) ys

-- ---- each row is symmetric

same_sym : (m n : Name) → is_same m n ≡ is_same n m
same_sym m n = let a = bytes_sym m.authority n.authority in let c = bytes_sym m.code n.code in λ i. a i && c i

share_sym : (ms ns : List Name) → share_identifier ms ns ≡ share_identifier ns ms
share_sym ms ns = pairs_sym is_same same_sym ms ns

authority_sym : (ms ns : List Name) → share_authority ms ns ≡ share_authority ns ms
authority_sym ms ns = pairs_sym (λ m n. bytes_eq m.authority n.authority) (λ m n. bytes_sym m.authority n.authority) ms ns

lexeme_sym : (l m : Lexeme) → is_same_lexeme l m ≡ is_same_lexeme m l
lexeme_sym (mark b) (mark c) = eqb_sym b c
lexeme_sym (quoted s) (quoted t) = bytes_sym s t
lexeme_sym (word s) (word t) = bytes_sym s t
lexeme_sym _ _ = refl

lexemes_sym : (ls ms : List Lexeme) → are_same_lexemes ls ms ≡ are_same_lexemes ms ls
lexemes_sym [] [] = refl
lexemes_sym (l ∷ ls) (m ∷ ms) = let first = lexeme_sym l m in let rest = lexemes_sym ls ms in λ i. first i && rest i
lexemes_sym _ _ = refl

equal_sym : (f g : Form) → are_equal f g ≡ are_equal g f
equal_sym (projjson i) (projjson j) = json_sym i j
equal_sym (projjson i) (code n) = refl
equal_sym (projjson i) (wkt ms) = refl
equal_sym (projjson i) (number j) = refl
equal_sym (projjson i) (other j) = refl
equal_sym (code m) (projjson j) = refl
equal_sym (code m) (code n) = refl
equal_sym (code m) (wkt ms) = refl
equal_sym (code m) (number j) = refl
equal_sym (code m) (other j) = refl
equal_sym (wkt ls) (projjson j) = refl
equal_sym (wkt ls) (code n) = refl
equal_sym (wkt ls) (wkt ms) = lexemes_sym ls ms
equal_sym (wkt ls) (number j) = refl
equal_sym (wkt ls) (other j) = refl
equal_sym (number i) (projjson j) = refl
equal_sym (number i) (code n) = refl
equal_sym (number i) (wkt ms) = refl
equal_sym (number i) (number j) = json_sym i j
equal_sym (number i) (other j) = refl
equal_sym (other i) (projjson j) = refl
equal_sym (other i) (code n) = refl
equal_sym (other i) (wkt ms) = refl
equal_sym (other i) (number j) = refl
equal_sym (other i) (other j) = json_sym i j

differ_sym : (c d : Option Class) → classes_differ c d ≡ classes_differ d c
differ_sym None None = refl
differ_sym None (Some Geographic) = refl
differ_sym None (Some Projected) = refl
differ_sym (Some Geographic) None = refl
differ_sym (Some Projected) None = refl
differ_sym (Some Geographic) (Some Geographic) = refl
differ_sym (Some Geographic) (Some Projected) = refl
differ_sym (Some Projected) (Some Geographic) = refl
differ_sym (Some Projected) (Some Projected) = refl

verdict_sym : (f g : Form) → verdict_of f g ≡ verdict_of g f
verdict_sym f g =
    let shared = share_sym (identifiers f) (identifiers g) in
    let equal = equal_sym f g in
    let authority = authority_sym (identifiers f) (identifiers g) in
    let differ = differ_sym (class_of f) (class_of g) in
    λ i. cond (shared i) Agree (cond (equal i) Agree (cond (authority i) Contradict (cond (differ i) Contradict NotCompared)))

by_sym : (d e : Bool) (f g : Option Form) → verdict_by d e f g ≡ verdict_by e d g f
by_sym d e None None = refl
by_sym d e None (Some g) = refl
by_sym d e (Some f) None = refl
by_sym d e (Some f) (Some g) = verdict_sym f g

pub crs_verdict_sym : (a b : Claimed) → crs_verdict a b ≡ crs_verdict b a
crs_verdict_sym a b = by_sym a.is_default b.is_default (form_said a.crs) (form_said b.crs)

-- ---- equal values agree

agree_if : (a b : Bool) (v : Verdict) → b ≡ true → cond a Agree (cond b Agree v) ≡ Agree
agree_if true b v h = refl
agree_if false b v h = ap (λ c. cond c Agree v) h

agree_first : (a : Bool) (v : Verdict) → a ≡ true → cond a Agree v ≡ Agree
agree_first true v h = refl
agree_first false v h = absurd (cc)

agree_equal : (f g : Form) → are_equal f g ≡ true → verdict_of f g ≡ Agree
agree_equal f g h = agree_if (share_identifier (identifiers f) (identifiers g)) (are_equal f g) _ h

lexeme_refl : (l : Lexeme) → is_same_lexeme l l ≡ true
lexeme_refl (mark b) = eq-eqb b b refl
lexeme_refl (quoted s) = bytes_refl s
lexeme_refl (word s) = bytes_refl s

lexemes_refl : (ls : List Lexeme) → are_same_lexemes ls ls ≡ true
lexemes_refl [] = refl
lexemes_refl (l ∷ ls) = and_true (is_same_lexeme l l) (are_same_lexemes ls ls) (lexeme_refl l) (lexemes_refl ls)

same_refl : (n : Name) → is_same n n ≡ true
same_refl n = and_true (bytes_eq n.authority n.authority) (bytes_eq n.code n.code) (bytes_refl n.authority) (bytes_refl n.code)

-- a list that is not empty shares its first with itself
share_refl : (n : Name) (ns : List Name) → share_identifier (n ∷ ns) (n ∷ ns) ≡ true
share_refl n ns = ap (λ b. (b || list_any (is_same n) ns) || list_any (λ m. list_any (is_same m) (n ∷ ns)) ns) (same_refl n)

pub agree_same : (f : Form) → verdict_of f f ≡ Agree
agree_same (projjson j) = agree_equal (projjson j) (projjson j) (json_refl j)
agree_same (code n) = agree_first (share_identifier (identifiers (code n)) (identifiers (code n))) _ (share_refl n (listed (paired n)))
agree_same (wkt ls) = agree_equal (wkt ls) (wkt ls) (lexemes_refl ls)
agree_same (number j) = agree_equal (number j) (number j) (json_refl j)
agree_same (other j) = agree_equal (other j) (other j) (json_refl j)

pub values_agree : (i j : Json) → json_equal i j ≡ true → verdict_of (form_of_value i) (form_of_value j) ≡ Agree
values_agree null null h = agree_equal (other null) (other null) h
values_agree (boolean b) (boolean c) h = agree_equal (other (boolean b)) (other (boolean c)) h
values_agree (number_json s) (number_json t) h = agree_equal (other (number_json s)) (other (number_json t)) h
values_agree (string s) (string t) h = subst (λ u. verdict_of (form_of_value (string s)) (form_of_value (string u)) ≡ Agree) (bytes_same s t h) (agree_same (form_of_value (string s)))
values_agree (array is) (array js) h = agree_equal (other (array is)) (other (array js)) h
values_agree (object ms) (object ns) h = agree_equal (projjson (object ms)) (projjson (object ns)) h
values_agree _ _ h = absurd (cc)

-- ---- a contradiction

pub contradict_unshared : (f g : Form) → verdict_of f g ≡ Contradict → share_identifier (identifiers f) (identifiers g) ≡ false
contradict_unshared f g h = go (share_identifier (identifiers f) (identifiers g)) _ h
  where
    go : (b : Bool) (v : Verdict) → cond b Agree v ≡ Contradict → b ≡ false
    go true v e = absurd (cc)
    go false v e = refl
