-- The differences of two files, both ways round.
use Rattle.std.proofs.Common.{◌≡◌, ◌⊎◌, ◌&&◌, ℕ, Bool, true, false, cond, is_some, List, [], ◌∷◌, ◌++◌, Option, None, Some, bytes_eq, flat_map, inl, inr, map, refl, suc, zero, sym, ap, ap₂, subst, ◌∙◌, arith}
use Rattle.std.specs.List.{filter, slice_get}
use Rattle.std.proofs.lemmas.Slice.Eq.{bytes_eq-Decides}
use Rattle.arrow_values.specs.Tree.{Text, Tree}
use Rattle.arrow_columns.specs.Types.{TypeTree, known, other}
use Rattle.arrow_columns.specs.Notation.{type_text}
use Rattle.crs_identity.specs.Verdicts.{Claimed, crs_verdict}
use Rattle.geoarrow_layout.specs.Alike.{Alike}
use Rattle.geoparquet.specs.Facts.{CrsOf, FactsOf}
use Rattle.same_columns.specs.Aspects.{AreAspects, AreOneType, HaveOneType, aspects, claimed, crs_aspects, crs_between, fact_aspects, unless}
use Rattle.same_columns.specs.Compared.{Compared, are_geometries, edges_word, encoding_word}
use Rattle.same_columns.specs.Differences.{AreDifferences, AreOfOther, AreOfOthers, of_first}
use Rattle.same_columns.specs.Laws.{IsAmong, exchanged}
use Rattle.same_columns.specs.Ranks.{Placed, named, partner, ranked}
use Rattle.same_columns.specs.declared.difference.Aspect.{Aspect}
use Rattle.same_columns.specs.declared.difference.Aspect.TheVariants as in_what
use Rattle.same_columns.specs.declared.difference.Difference.{Difference}
use Rattle.same_columns.specs.declared.difference.Difference.TheVariants.{InBoth, OnlyInFirst, OnlyInOther}
use Rattle.same_columns.proofs.Ranking.{AreOwn, AreRanks, own, ranks}

-- ---- members of lists

abbrev IsIn : Placed → List Placed → Type 0
IsIn x [] = ⊥
IsIn x (y ∷ ys) = (x ≡ y) ⊎ IsIn x ys

among_left : (d : Difference) (xs ys : List Difference) → IsAmong d xs → IsAmong d (xs ++ ys)
among_left d [] ys h = elim h [ ]
among_left d (x ∷ xs) ys (inl h) = inl h
among_left d (x ∷ xs) ys (inr h) = inr (among_left d xs ys h)

among_right : (d : Difference) (xs ys : List Difference) → IsAmong d ys → IsAmong d (xs ++ ys)
among_right d [] ys h = h
among_right d (x ∷ xs) ys h = inr (among_right d xs ys h)

among_both : (d : Difference) (xs ys : List Difference) → IsAmong d (xs ++ ys) → IsAmong d xs ⊎ IsAmong d ys
among_both d [] ys h = inr h
among_both d (x ∷ xs) ys (inl h) = inl (inl h)
among_both d (x ∷ xs) ys (inr h) = step (among_both d xs ys h)
  where
    step : IsAmong d xs ⊎ IsAmong d ys → IsAmong d (x ∷ xs) ⊎ IsAmong d ys
    step (inl h) = inl (inr h)
    step (inr h) = inr h

-- of one of those of a list
of_each : (f : Placed → List Difference) (d : Difference) (xs : List Placed) → IsAmong d (flat_map f xs) → (x : Placed) × IsIn x xs × IsAmong d (f x)
of_each f d [] h = elim h [ ]
of_each f d (x ∷ xs) h = step (λ k. of_each f d xs k) (among_both d (f x) (flat_map f xs) h)
  where
    step : (IsAmong d (flat_map f xs) → (y : Placed) × IsIn y xs × IsAmong d (f y)) → IsAmong d (f x) ⊎ IsAmong d (flat_map f xs) → (y : Placed) × IsIn y (x ∷ xs) × IsAmong d (f y)
    step rest (inl h) = (x, inl refl, h)
    step rest (inr h) = let found = rest h in (found.0, inr found.1, found.2)

in_each : (f : Placed → List Difference) (d : Difference) (x : Placed) (xs : List Placed) → IsIn x xs → IsAmong d (f x) → IsAmong d (flat_map f xs)
in_each f d x [] is h = elim is [ ]
in_each f d x (y ∷ ys) (inl is) h = among_left d (f y) (flat_map f ys) (subst (λ z. IsAmong d (f z)) is h)
in_each f d x (y ∷ ys) (inr is) h = among_right d (f y) (flat_map f ys) (in_each f d x ys is h)

-- what is found in a filtered list is in the list
found_in : (p : Placed → Bool) (xs : List Placed) (k : ℕ) (x : Placed) → slice_get (filter p xs) k ≡ Some x → IsIn x xs
found_in p [] k x e = absurd (cc)
found_in p (y ∷ ys) k x e = step (λ n h. found_in p ys n x h) (p y) k e
  where
    step : ((n : ℕ) → slice_get (filter p ys) n ≡ Some x → IsIn x ys) → (b : Bool) (k : ℕ) → slice_get (cond b (y ∷ filter p ys) (filter p ys)) k ≡ Some x → IsIn x (y ∷ ys)
    step rest true zero e = inl (grind (arith, e))
    step rest true (suc k) e = inr (rest k e)
    step rest false k e = inr (rest k e)

own_in : (all xs : List Placed) (x : Placed) → AreOwn all xs → IsIn x xs → partner all x ≡ Some x
own_in all [] x are is = elim is [ ]
own_in all (y ∷ ys) x are (inl is) = subst (λ z. partner all z ≡ Some z) (sym is) are.0
own_in all (y ∷ ys) x are (inr is) = own_in all ys x are.1 is

-- ---- the partner of a partner

back : (firsts others : List Placed) (s r : Placed) → AreRanks firsts → AreOwn others others → IsIn s others → partner firsts s ≡ Some r → partner others r ≡ Some s
back firsts others s r ranks own is e =
    let at = ranks s.column.column.name s.before r e in
    ap₂ (λ q k. slice_get (named others q) k) at.0 at.1 ∙ own_in others others s own is

-- ---- what is said of one of the other file

abbrev Said : List Placed → Placed → List Difference → Type 0
Said firsts b ds = (here : List Difference) × AreOfOther (partner firsts b) b here × ((d : Difference) → IsAmong d here → IsAmong d ds)

said_of : (firsts bs : List Placed) (b : Placed) (ds : List Difference) → AreOfOthers firsts bs ds → IsIn b bs → Said firsts b ds
said_of firsts [] b ds are is = elim is [ ]
said_of firsts (x ∷ bs) b ds are (inl is) =
    (are.0, subst (λ z. AreOfOther (partner firsts z) z are.0) (sym is) are.2, λ d h. subst (IsAmong d) (sym are.4) (among_left d are.0 are.1 h))
said_of firsts (x ∷ bs) b ds are (inr is) =
    let found = said_of firsts bs b are.1 are.3 is in
    (found.0, found.1, λ d h. subst (IsAmong d) (sym are.4) (among_right d are.0 are.1 (found.2 d h)))

abbrev SaidBy : List Placed → List Placed → Difference → Type 0
SaidBy firsts bs d = (b : Placed) × IsIn b bs × ((here : List Difference) × AreOfOther (partner firsts b) b here × IsAmong d here)

said_by : (firsts bs : List Placed) (ds : List Difference) (d : Difference) → AreOfOthers firsts bs ds → IsAmong d ds → SaidBy firsts bs d
said_by firsts [] ds d are h = let none = subst (IsAmong d) are h in elim none [ ]
said_by firsts (x ∷ bs) ds d are h = step (λ k. said_by firsts bs are.1 d are.3 k) (among_both d are.0 are.1 (subst (IsAmong d) are.4 h))
  where
    step : (IsAmong d are.1 → SaidBy firsts bs d) → IsAmong d are.0 ⊎ IsAmong d are.1 → SaidBy firsts (x ∷ bs) d
    step rest (inl h) = (x, inl refl, (are.0, are.2, h))
    step rest (inr h) = let found = rest h in (found.0, inr found.1, found.2)

module _ (alike : (t u : Tree) → Alike t u → Alike u t) (verdicts : (a b : Claimed) → crs_verdict a b ≡ crs_verdict b a) where
  -- ---- the aspects of two columns, both ways round

  both_ways : (b c : Bool) → (b ≡ true → c ≡ true) → (c ≡ true → b ≡ true) → b ≡ c
  both_ways true c f g = sym (f refl)
  both_ways false true f g = g refl
  both_ways false false f g = refl

  and_ways : (b c : Bool) → b && c ≡ c && b
  and_ways true true = refl
  and_ways true false = refl
  and_ways false true = refl
  and_ways false false = refl

  equal_back : (s t : Text) → bytes_eq s t ≡ true → bytes_eq t s ≡ true
  equal_back s t h = (bytes_eq-Decides t s).1 (sym ((bytes_eq-Decides s t).0 h))

  bytes_ways : (s t : Text) → bytes_eq s t ≡ bytes_eq t s
  bytes_ways s t = both_ways (bytes_eq s t) (bytes_eq t s) (equal_back s t) (equal_back t s)

  type_back : (both : Bool) (t u : TypeTree) → AreOneType both t u → AreOneType both u t
  type_back true (known t) (known u) h = alike t u h
  type_back true (known t) (other u f ids ps) h = equal_back (type_text (known t)) u h
  type_back true (other t f ids ps) (known u) h = equal_back t (type_text (known u)) h
  type_back true (other t f ids ps) (other u g ns qs) h = equal_back t u h
  type_back false t u h = equal_back (type_text t) (type_text u) h

  column_back : (a b : Compared) → HaveOneType a b → HaveOneType b a
  column_back a b h =
      subst (λ both. AreOneType both b.column.data_type a.column.data_type) (and_ways (is_some a.facts) (is_some b.facts))
      (type_back (are_geometries a b) a.column.data_type b.column.data_type h)

  between_ways : (o p : Option CrsOf) → crs_between o p ≡ crs_between p o
  between_ways None None = refl
  between_ways None (Some g) = refl
  between_ways (Some f) None = refl
  between_ways (Some f) (Some g) = verdicts (claimed f) (claimed g)

  facts_ways : (o p : Option FactsOf) → fact_aspects o p ≡ fact_aspects p o
  facts_ways None None = refl
  facts_ways None (Some g) = refl
  facts_ways (Some f) None = refl
  facts_ways (Some f) (Some g) =
      ap₂ (λ b v. unless b in_what.Edges ++ crs_aspects v) (bytes_ways (edges_word f) (edges_word g)) (between_ways f.crs g.crs)

  same_ways : (same : Bool) (a b : Compared) → aspects same a b ≡ aspects same b a
  same_ways same a b =
      ap₂ (λ e fs. unless same in_what.DataType ++ unless e in_what.Encoding ++ fs) (bytes_ways (encoding_word a.column) (encoding_word b.column)) (facts_ways a.facts b.facts)

  aspects_ways : (a b : Compared) (ts us : List Aspect) → AreAspects a b ts → AreAspects b a us → ts ≡ us
  aspects_ways a b ts us are others =
      let same = both_ways are.0 others.0 (λ h. others.1.1 (column_back a b (are.1.0 h))) (λ h. are.1.1 (column_back b a (others.1.0 h))) in
      are.2 ∙ ap (λ s. aspects s a b) same ∙ same_ways others.0 a b ∙ sym others.2

  -- ---- one difference

  in_both : (i j : ℕ) (d : Difference) (ts : List Aspect) → IsAmong d (map (InBoth i j) ts) → IsAmong (exchanged d) (map (InBoth j i) ts)
  in_both i j d [] h = elim h [ ]
  in_both i j d (t ∷ ts) (inl h) = inl (ap exchanged h)
  in_both i j d (t ∷ ts) (inr h) = inr (in_both i j d ts h)

  one : (d e : Difference) → IsAmong d (e ∷ []) → d ≡ e
  one d e (inl h) = h
  one d e (inr h) = elim h [ ]

  module _ (firsts others : List Placed) (ranks_of : AreRanks firsts) (own_of : AreOwn others others) (back_said : List Difference) (are_back : AreOfOthers others firsts back_said) where
    abbrev all_back : List Difference
    all_back = back_said ++ flat_map (λ a. of_first (partner firsts a) a) others

    of_partner : (s : Placed) (o : Option Placed) → IsIn s others → partner firsts s ≡ o → (here : List Difference) → AreOfOther o s here → (d : Difference) → IsAmong d here → IsAmong (exchanged d) all_back
    of_partner s None is none here are d h =
        let alone = one d (OnlyInOther s.place) (subst (IsAmong d) are h) in
        among_right (exchanged d) back_said (flat_map (λ a. of_first (partner firsts a) a) others)
        (in_each (λ a. of_first (partner firsts a) a) (exchanged d) s others is (subst (λ o. IsAmong (exchanged d) (of_first o s)) (sym none) (inl (ap exchanged alone))))
    of_partner s (Some r) is found here are d h =
        let said = said_of others firsts r back_said are_back (found_in (λ y. bytes_eq y.column.column.name s.column.column.name) firsts s.before r found) in
        let both = subst (λ o. AreOfOther o r said.0) (back firsts others s r ranks_of own_of is found) said.1 in
        let same = aspects_ways r.column s.column are.0 both.0 are.1 both.1 in
        let there = in_both r.place s.place d are.0 (subst (IsAmong d) are.2 h) in
        among_left (exchanged d) back_said (flat_map (λ a. of_first (partner firsts a) a) others)
        (said.2 (exchanged d) (subst (IsAmong (exchanged d)) (ap (map (InBoth s.place r.place)) same ∙ sym both.2) there))

    of_alone : (r : Placed) (o : Option Placed) → IsIn r firsts → partner others r ≡ o → (d : Difference) → IsAmong d (of_first o r) → IsAmong (exchanged d) all_back
    of_alone r None is none d h =
        let said = said_of others firsts r back_said are_back is in
        let alone = subst (λ o. AreOfOther o r said.0) none said.1 in
        among_left (exchanged d) back_said (flat_map (λ a. of_first (partner firsts a) a) others)
        (said.2 (exchanged d) (subst (IsAmong (exchanged d)) (sym alone) (inl (ap exchanged (one d (OnlyInFirst r.place) h)))))
    of_alone r (Some s) is found d h = elim h [ ]

    of_one : (said : List Difference) → AreOfOthers firsts others said → (d : Difference) → IsAmong d said ⊎ IsAmong d (flat_map (λ a. of_first (partner others a) a) firsts) → IsAmong (exchanged d) all_back
    of_one said are d (inl h) =
        let by = said_by firsts others said d are h in
        of_partner by.0 (partner firsts by.0) by.1 refl by.2.0 by.2.1 d by.2.2
    of_one said are d (inr h) =
        let by = of_each (λ a. of_first (partner others a) a) d firsts h in
        of_alone by.0 (partner others by.0) by.1 refl d by.2

  pub exchange : (cs bs : List Compared) (ds es : List Difference) → AreDifferences cs bs ds → AreDifferences bs cs es → (d : Difference) → IsAmong d ds → IsAmong (exchanged d) es
  exchange cs bs ds es are back d h =
      subst (IsAmong (exchanged d)) (sym back.2)
      (of_one (ranked cs) (ranked bs) (ranks cs) (own bs) back.0 back.1 are.0 are.1 d
      (among_both d are.0 (flat_map (λ a. of_first (partner (ranked bs) a) a) (ranked cs)) (subst (IsAmong d) are.2 h)))
