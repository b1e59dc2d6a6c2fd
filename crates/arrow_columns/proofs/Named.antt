-- What is found of a name, with one column more.
use Rattle.std.proofs.Common.{◌≡◌, ◌<◌, ◌+◌, ◌==◌, ℕ, Bool, true, List, [], ◌∷◌, ◌++◌, Option, Some, None, String, option_map, cond, refl, sym, ap, ap₂, ◌∙◌, bytes_eq, false, arith, subst}
use Rattle.std.specs.Global.{Global}
use Rattle.std.specs.Borrow.{Bor}
use Rattle.std.specs.BTreeMap.{BTreeMap, get_by_text}
use Rattle.std.specs.Option.{option_or}
use Rattle.std.proofs.lemmas.List.Folds.{find-append}
use Rattle.std.proofs.lemmas.List.Sums.{sum_by-cons, sum_by_push}
use Rattle.std.proofs.lemmas.Slice.Eq.{bytes_eq-Decides}
use Rattle.arrow_values.specs.Tree.{Text}
use Rattle.arrow_columns.specs.Types.{ColumnTree}
use Rattle.arrow_columns.specs.Column.{column_tree}
use Rattle.arrow_columns.specs.Names.{count_of, first_of, is_one, named_in, named_at, AreNamed}
use Rattle.arrow_columns.specs.declared.column.SchemaColumn.{SchemaColumn}

-- a name that is found is counted, and no other is
abbrev pub Counts : {X : Type 0} → Option X → ℕ → Type 0
Counts None n = n ≡ 0
Counts (Some x) n = 0 < n

counts_step : {X : Type 0} (b : Bool) (x : X) (o : Option X) (n m : ℕ) → m ≡ cond b 1 0 + n → Counts o n → Counts (cond b (Some x) o) m
counts_step true x o n m e is = omega arith
counts_step false x None n m e is = omega arith
counts_step false x (Some y) n m e is = omega arith

counts : (cs : List ColumnTree) (name : Text) → Counts (first_of cs name) (count_of cs name)
counts [] name = refl
counts (c ∷ cs) name = counts_step (bytes_eq c.name name) c (first_of cs name) (count_of cs name) (count_of (c ∷ cs) name) (sum_by-cons (λ x. cond (bytes_eq x.name name) 1 0) c cs) (counts cs name)

-- what is found with a column more, which has the name or not
abbrev pub with_one : Bool → ColumnTree → Option (ColumnTree × Bool) → Option (ColumnTree × Bool)
with_one false c o = o
with_one true c None = Some (c, true)
with_one true c (Some f) = Some (f.0, false)

more : (b : Bool) (c : ColumnTree) (o : Option ColumnTree) (n : ℕ) → Counts o n → option_map (λ x. (x, (n + cond b 1 0) == 1)) (option_or o (cond b (Some c) None)) ≡ with_one b c (option_map (λ x. (x, n == 1)) o)
more false c None n is = refl
more false c (Some f) n is = grind arith
more true c None n is = grind (arith, is)
more true c (Some f) n is = grind (arith, is)

one_behind : (cs : List ColumnTree) (c : ColumnTree) (name : Text) → named_in (cs ++ c ∷ []) name ≡ with_one (bytes_eq c.name name) c (named_in cs name)
unfolding is_one
one_behind cs c name =
    ap₂ (λ n o. option_map (λ x. (x, n == 1)) o) (sum_by_push (λ x. cond (bytes_eq x.name name) 1 0) cs c) (find-append (λ x. bytes_eq x.name name) cs (c ∷ []))
    ∙ more (bytes_eq c.name name) c (first_of cs name) (count_of cs name) (counts cs name)

-- ---- in the map

abbrev pub shown : Bor SchemaColumn × Bool → ColumnTree × Bool
shown v = (column_tree v.0.now, v.1)

put : (b : Bool) (c : ColumnTree) (found : Bor SchemaColumn × Bool) (old : Option (Bor SchemaColumn × Bool)) → (b ≡ true → Some (shown found) ≡ with_one true c (option_map shown old))
    → option_map shown (cond b (Some found) old) ≡ with_one b c (option_map shown old)
put true c found old is = is refl
put false c found old is = refl

pub put_behind : (cs : List ColumnTree) (c : ColumnTree) (m n : BTreeMap (String Global) (Bor SchemaColumn × Bool)) (found : Bor SchemaColumn × Bool)
    → ((name : Text) → get_by_text n name ≡ cond (bytes_eq c.name name) (Some found) (get_by_text m name))
    → Some (shown found) ≡ with_one true c (named_at m c.name) → AreNamed cs m → AreNamed (cs ++ c ∷ []) n
put_behind cs c m n found is first are name =
    ap (option_map shown) (is name)
    ∙ put (bytes_eq c.name name) c found (get_by_text m name) (λ same. subst (λ q. Some (shown found) ≡ with_one true c (named_at m q)) ((bytes_eq-Decides c.name name).0 same) first)
    ∙ ap (with_one (bytes_eq c.name name) c) (are name)
    ∙ sym (one_behind cs c name)

-- ---- what a look-up answers

-- what is found, by its parts
pub of_found : (cs : List ColumnTree) (name : Text) (f : ColumnTree × Bool) → Some f ≡ named_in cs name → f.1 ≡ is_one cs name
of_found cs name f is = found_step (first_of cs name) is
  where
    found_step : (o : Option ColumnTree) → Some f ≡ option_map (λ c. (c, is_one cs name)) o → f.1 ≡ is_one cs name
    found_step None e = grind (arith, e)
    found_step (Some c) e = grind (arith, e)

pub of_none : (cs : List ColumnTree) (name : Text) → None ≡ named_in cs name → false ≡ is_one cs name
unfolding is_one
of_none cs name is = none_step (first_of cs name) (count_of cs name) (counts cs name) is
  where
    none_step : (o : Option ColumnTree) (n : ℕ) → Counts o n → (let none : Option (ColumnTree × Bool) = None in none ≡ option_map (λ c. (c, n == 1)) o) → false ≡ (n == 1)
    none_step None n is e = grind (arith, is)
    none_step (Some c) n is e = grind (arith, e)
