-- Columns, each with what its element says, and what a map of those has.
use Rattle.std.proofs.Common.{◌≡◌, ◌≤◌, ℕ, Bool, true, false, cond, List, [], ◌∷◌, ◌++◌, Option, Some, None, is_some, option_map, bytes_eq, length, refl, sym, ap, ◌∙◌, subst, map, take, true≢false}
use Rattle.std.specs.Borrow.{Bor}
use Rattle.std.specs.BTreeMap.{BTreeMap, get_by}
use Rattle.std.specs.Cmp.Lexicographic.{slice_cmp}
use Rattle.std.specs.Ordering.{nat_cmp}
use Rattle.std.specs.Option.{option_or}
use Rattle.std.proofs.lemmas.List.{map-append, take_all}
use Rattle.std.proofs.lemmas.List.Folds.{find-append}
use Rattle.std.proofs.lemmas.Slice.Eq.{bytes_eq-Decides}
use Rattle.arrow_values.specs.Tree.{Text}
use Rattle.arrow_columns.specs.Types.{ColumnTree}
use Rattle.parquet_columns.specs.declared.layouts.RootElement.{RootElement}
use Rattle.geoparquet.specs.Sources.{Element, element_view, sourced, source_named, element_first, AreElements}
use Rattle.geoparquet.specs.declared.sources.Sourced.{Sourced}

abbrev pub Named : Type 0
Named = BTreeMap (Bor Text) (Option (Bor RootElement))

abbrev pub at : Named → Text → Option (Option (Bor RootElement))
at m name = get_by (λ k. slice_cmp nat_cmp name k.now) m

abbrev said : Option (Option (Bor RootElement)) → Option (Option Element)
said o = option_map (option_map (λ e. element_view e.now)) o

abbrev first : Option (ColumnTree × Option Element) → Option (Option Element)
first o = option_map (λ y. y.1) o

-- the first of a name, with a column more
one_behind : (xs : List (ColumnTree × Option Element)) (x : ColumnTree × Option Element) (name : Text)
    → source_named (xs ++ x ∷ []) name ≡ option_or (source_named xs name) (cond (bytes_eq x.0.name name) (Some x) None)
one_behind xs x name = find-append (λ y. bytes_eq y.0.name name) xs (x ∷ [])

-- the map has the name already
stays : (b : Bool) (x : ColumnTree × Option Element) (old : Option (Option (Bor RootElement))) (o : Option (ColumnTree × Option Element)) → (b ≡ true → is_some old ≡ true)
    → said old ≡ first o → said old ≡ first (option_or o (cond b (Some x) None))
stays false x old None there is = is
stays false x old (Some y) there is = is
stays true x old (Some y) there is = is
stays true x None None there is = absurd (true≢false (sym (there refl)))
stays true x (Some v) None there is = absurd (cc)

pub element_stays : (ss : List Sourced) (s : Sourced) (m : Named) (key : Text) → key ≡ (sourced s).0.name → is_some (at m key) ≡ true
    → AreElements (map sourced ss) m → AreElements (map sourced (ss ++ s ∷ [])) m
element_stays ss s m key same there are name =
    let x = sourced s in
    let xs = map sourced ss in
    stays (bytes_eq x.0.name name) x (at m name) (source_named xs name)
    (λ is. subst (λ q. is_some (at m q) ≡ true) (same ∙ (bytes_eq-Decides x.0.name name).0 is) there) (are name)
    ∙ ap first (sym (one_behind xs x name)) ∙ ap (λ ys. element_first ys name) (sym (map-append sourced ss (s ∷ [])))

-- the map takes the name
takes : (b : Bool) (x : ColumnTree × Option Element) (v : Option (Bor RootElement)) (old : Option (Option (Bor RootElement))) (o : Option (ColumnTree × Option Element))
    → option_map (λ e. element_view e.now) v ≡ x.1 → (b ≡ true → is_some old ≡ false)
    → said old ≡ first o → said (cond b (Some v) old) ≡ first (option_or o (cond b (Some x) None))
takes false x v old None value none is = is
takes false x v old (Some y) value none is = is
takes true x v None None value none is = ap Some value
takes true x v None (Some y) value none is = absurd (cc)
takes true x v (Some w) o value none is = absurd (true≢false (none refl))

pub element_taken : (ss : List Sourced) (s : Sourced) (m n : Named) (key : Text) → key ≡ (sourced s).0.name
    → ((name : Text) → at n name ≡ cond (bytes_eq key name) (Some s.element) (at m name)) → is_some (at m key) ≡ false
    → AreElements (map sourced ss) m → AreElements (map sourced (ss ++ s ∷ [])) n
element_taken ss s m n key same put none are name =
    let x = sourced s in
    let xs = map sourced ss in
    ap said (put name ∙ ap (λ q. cond (bytes_eq q name) (Some s.element) (at m name)) same)
    ∙ takes (bytes_eq x.0.name name) x s.element (at m name) (source_named xs name) refl
    (λ is. subst (λ q. is_some (at m q) ≡ false) (same ∙ (bytes_eq-Decides x.0.name name).0 is) none) (are name)
    ∙ ap first (sym (one_behind xs x name)) ∙ ap (λ ys. element_first ys name) (sym (map-append sourced ss (s ∷ [])))

pub all_elements : (ss : List Sourced) (i : ℕ) (m : Named) → length ss ≤ i → AreElements (map sourced (take i ss)) m → AreElements (map sourced ss) m
all_elements ss i m past are = subst (λ xs. AreElements (map sourced xs) m) (take_all i ss past) are
