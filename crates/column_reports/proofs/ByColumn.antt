-- Findings by the columns that they name.
use Rattle.std.proofs.Common.{◌≡◌, ℕ, ◌||◌, not, Bool, true, false, cond, bytes_eq, List, [], ◌∷◌, ◌++◌, Option, None, Some, append-nil, refl, sym, ap, ap₂, ◌∙◌, if◌then◌else◌, string_bytes, Global, option_map, map, ◌+◌, ◌<◌, length, take, get_or, zero, suc, arith}
use Rattle.std.specs.List.{filter}
use Rattle.std.specs.BTreeMap.{get_by_text, UpdatesBy}
use Rattle.std.specs.Cmp.Lexicographic.{slice_cmp}
use Rattle.std.specs.Ordering.{nat_cmp}
use Rattle.std.specs.String.{string_cmp}
use Rattle.std.specs.declared.vec.Vec.{Vec}
use Rattle.std.proofs.lemmas.List.{map-append, take_more}
use Rattle.std.proofs.lemmas.List.Elements.{filter-append}
use Rattle.std.proofs.lemmas.List.Folds.{list_any-append}
use Rattle.std.proofs.lemmas.Cmp.{nat_list_eq_equiv}
use Rattle.std.proofs.lemmas.Map.Text.{btree_map_updates_text}
use Rattle.std.proofs.lemmas.Slice.Eq.{bytes_eq-Decides}
use Rattle.arrow_values.specs.Tree.{Text}
use Rattle.arrow_columns.specs.Column.{column_tree}
use Rattle.arrow_columns.specs.declared.column.SchemaColumn.{SchemaColumn}
use Rattle.column_reports.specs.Capped.{is_key}
use Rattle.column_reports.specs.Found.{column_in}
use Rattle.column_reports.specs.ByColumn.{nameless, those_of, others_than, by_columns, of_no_column, is_named, if_unnamed, names_of, ByName, found_at, or_nothing, AreBy}
use Rattle.column_reports.specs.declared.finding.Finding.{Finding}

-- ---- a change of the map

if_mapped : (b : Bool) (w o : Option (Vec Finding Global)) → option_map (λ own. own.items) (cond b w o) ≡ (if b then option_map (λ own. own.items) w else option_map (λ own. own.items) o)
if_mapped true w o = refl
if_mapped false w o = refl

pub updated : (name : Text) (old new : ByName) (w : Option (Vec Finding Global)) → UpdatesBy string_cmp (λ k. slice_cmp nat_cmp name (string_bytes k)) old new w
    → (k : Text) → found_at new k ≡ (if bytes_eq name k then option_map (λ own. own.items) w else found_at old k)
updated name old new w put k =
    ap (option_map (λ own. own.items)) (btree_map_updates_text name old new w put k) ∙ if_mapped (bytes_eq name k) w (get_by_text old k)

-- taken and put back with one more
pub put_back : (name : Text) (f : Finding) (old between new : ByName) (own : Vec Finding Global)
    → ((k : Text) → found_at between k ≡ (if bytes_eq name k then None else found_at old k)) → own.items ≡ or_nothing (found_at old name) ++ f ∷ []
    → UpdatesBy string_cmp (λ k. slice_cmp nat_cmp name (string_bytes k)) between new (Some own)
    → (k : Text) → found_at new k ≡ (if bytes_eq name k then Some (or_nothing (found_at old k) ++ f ∷ []) else found_at old k)
put_back name f old between new own left made put k = updated name between new (Some own) put k ∙ here (bytes_eq name k) refl
  where
    here : (b : Bool) → bytes_eq name k ≡ b → (if b then Some own.items else found_at between k) ≡ (if b then Some (or_nothing (found_at old k) ++ f ∷ []) else found_at old k)
    here true e = ap Some (made ∙ ap (λ q. or_nothing (found_at old q) ++ f ∷ []) ((bytes_eq-Decides name k).0 e))
    here false e = left k ∙ ap (λ b. if b then None else found_at old k) e

-- ---- one more name

none_named : (names : List Text) → is_named names None ≡ false
none_named [] = refl
none_named (name ∷ names) = none_named names

pub nothing_named : (names : List Text) (o : Option Text) → o ≡ None → is_named names o ≡ false
nothing_named names o is = ap (is_named names) is ∙ none_named names

pub names_next : (cs : List SchemaColumn) (i : ℕ) (c : SchemaColumn) → i < length cs → c ≡ get_or cs i c
    → names_of (map column_tree (take (i + 1) cs)) ≡ names_of (map column_tree (take i cs)) ++ string_bytes c.name ∷ []
names_next cs i c lt is =
    ap (λ xs. names_of (map column_tree xs)) (take_more cs i c lt ∙ ap (λ x. take i cs ++ x ∷ []) (sym is))
    ∙ ap names_of (map-append column_tree (take i cs) (c ∷ [])) ∙ map-append (λ t. t.name) (map column_tree (take i cs)) (column_tree c ∷ [])

same_key : (k name : Text) → bytes_eq name k ≡ bytes_eq k name
same_key k name = nat_list_eq_equiv.symm name k

named_more : (names : List Text) (name : Text) (o : Option Text) → is_named (names ++ name ∷ []) o ≡ is_named names o || is_key name o
named_more names name o = list_any-append (λ n. is_key n o) names (name ∷ []) ∙ ap (λ b. is_named names o || b) (last (is_key name o))
  where
    last : (b : Bool) → b || false ≡ b
    last true = refl
    last false = refl

pub one_name : (names : List Text) (name : Text) (old new : ByName) → ((k : Text) → found_at new k ≡ (if bytes_eq name k then Some [] else found_at old k))
    → AreBy names [] old → AreBy (names ++ name ∷ []) [] new
one_name names name old new put are k =
    put k ∙ ap (λ b. if b then Some [] else found_at old k) (same_key k name) ∙ here (bytes_eq k name) (is_named names (Some k)) (are k)
    ∙ ap (λ b. if b then Some [] else None) (sym (named_more names name (Some k)))
  where
    here : (b c : Bool) → found_at old k ≡ (if c then Some [] else None) → (if b then Some [] else found_at old k) ≡ (if c || b then Some [] else None)
    here true true is = refl
    here true false is = refl
    here false true is = is
    here false false is = is

-- ---- one more finding

those_more : (name : Text) (fs : List Finding) (f : Finding) → those_of name (fs ++ f ∷ []) ≡ those_of name fs ++ cond (is_key name (column_in f)) (nameless f ∷ []) []
those_more name fs f =
    ap (map nameless) (filter-append (λ g. is_key name (column_in g)) fs (f ∷ []))
    ∙ map-append nameless (filter (λ g. is_key name (column_in g)) fs) (cond (is_key name (column_in f)) (f ∷ []) [])
    ∙ ap (λ xs. those_of name fs ++ xs) (one (is_key name (column_in f)))
  where
    one : (b : Bool) → map nameless (cond b (f ∷ []) []) ≡ cond b (nameless f ∷ []) []
    one true = refl
    one false = refl

-- that names a column of the names
pub one_put : (names : List Text) (fs : List Finding) (f : Finding) (name : Text) (old new : ByName) → column_in f ≡ Some name → is_named names (column_in f) ≡ true
    → ((k : Text) → found_at new k ≡ (if bytes_eq name k then Some (or_nothing (found_at old k) ++ nameless f ∷ []) else found_at old k))
    → AreBy names fs old → AreBy names (fs ++ f ∷ []) new
one_put names fs f name old new is known put are k =
    put k ∙ here (bytes_eq name k) refl (is_named names (Some k)) refl
    ∙ ap (λ xs. if is_named names (Some k) then Some xs else None) (ap (λ o. those_of k fs ++ cond (is_key k o) (nameless f ∷ []) []) (sym is) ∙ sym (those_more k fs f))
  where
    here : (b : Bool) → bytes_eq name k ≡ b → (c : Bool) → is_named names (Some k) ≡ c
        → (if b then Some (or_nothing (found_at old k) ++ nameless f ∷ []) else found_at old k) ≡ (if c then Some (those_of k fs ++ cond b (nameless f ∷ []) []) else None)
    here true e true d = ap (λ o. Some (or_nothing o ++ nameless f ∷ [])) (are k ∙ ap (λ b. if b then Some (those_of k fs) else None) d)
    here true e false d =
        let same : true ≡ false = sym known ∙ ap (is_named names) (is ∙ ap Some ((bytes_eq-Decides name k).0 e)) ∙ d in
        absurd (cc)
    here false e true d = are k ∙ ap (λ b. if b then Some (those_of k fs) else None) d ∙ ap Some (sym (append-nil (those_of k fs)))
    here false e false d = are k ∙ ap (λ b. if b then Some (those_of k fs) else None) d

-- that names none of them
pub one_passed : (names : List Text) (fs : List Finding) (f : Finding) (m : ByName) → is_named names (column_in f) ≡ false → AreBy names fs m → AreBy names (fs ++ f ∷ []) m
one_passed names fs f m unknown are k = are k ∙ here (is_named names (Some k)) refl (is_key k (column_in f)) refl
    ∙ ap (λ xs. if is_named names (Some k) then Some xs else None) (sym (those_more k fs f))
  where
    its : (o : Option Text) → is_key k o ≡ true → o ≡ Some k
    its None is = absurd (cc)
    its (Some l) is = ap Some ((bytes_eq-Decides l k).0 is)

    here : (c : Bool) → is_named names (Some k) ≡ c → (b : Bool) → is_key k (column_in f) ≡ b
        → (if c then Some (those_of k fs) else None) ≡ (if c then Some (those_of k fs ++ cond b (nameless f ∷ []) []) else None)
    here true d true e =
        let same : true ≡ false = sym d ∙ ap (is_named names) (sym (its (column_in f) e)) ∙ unknown in
        absurd (cc)
    here true d false e = ap Some (sym (append-nil (those_of k fs)))
    here false d b e = refl

pub none_passed : (names : List Text) (f : Finding) (xs : List Finding) → is_named names (column_in f) ≡ true → xs ≡ xs ++ if_unnamed names f
none_passed names f xs known = sym (ap (λ b. xs ++ (if b then [] else f ∷ [])) known ∙ append-nil xs)

pub passed : (names : List Text) (f : Finding) (xs new : List Finding) → is_named names (column_in f) ≡ false → new ≡ xs ++ f ∷ [] → new ≡ xs ++ if_unnamed names f
passed names f xs new unknown is = is ∙ ap (λ b. xs ++ (if b then [] else f ∷ [])) (sym unknown)

-- ---- what names none

unnamed_more : (names : List Text) (fs : List Finding) (f : Finding) → filter (λ g. not (is_named names (column_in g))) (fs ++ f ∷ []) ≡ filter (λ g. not (is_named names (column_in g))) fs ++ if_unnamed names f
unnamed_more names fs f =
    filter-append (λ g. not (is_named names (column_in g))) fs (f ∷ [])
    ∙ ap (λ xs. filter (λ g. not (is_named names (column_in g))) fs ++ xs) (one (is_named names (column_in f)))
  where
    one : (b : Bool) → cond (not b) (f ∷ []) [] ≡ (if b then [] else f ∷ [])
    one true = refl
    one false = refl

all_kept : (fs : List Finding) → filter (λ g. not false) fs ≡ fs
all_kept [] = refl
all_kept (f ∷ fs) = ap (λ xs. f ∷ xs) (all_kept fs)

filtered_twice : (p q : Finding → Bool) (fs : List Finding) → filter (λ g. not (q g)) (filter (λ g. not (p g)) fs) ≡ filter (λ g. not (p g || q g)) fs
filtered_twice p q [] = refl
filtered_twice p q (f ∷ fs) = here (p f) (q f) refl (filtered_twice p q fs)
  where
    here : (b c : Bool) → q f ≡ c → filter (λ g. not (q g)) (filter (λ g. not (p g)) fs) ≡ filter (λ g. not (p g || q g)) fs
        → filter (λ g. not (q g)) (cond (not b) (f ∷ filter (λ g. not (p g)) fs) (filter (λ g. not (p g)) fs)) ≡ cond (not (b || c)) (f ∷ filter (λ g. not (p g || q g)) fs) (filter (λ g. not (p g || q g)) fs)
    here true c e rest = rest
    here false c e rest =
        ap (λ d. cond (not d) (f ∷ filter (λ g. not (q g)) (filter (λ g. not (p g)) fs)) (filter (λ g. not (q g)) (filter (λ g. not (p g)) fs))) e
        ∙ ap (λ xs. cond (not c) (f ∷ xs) xs) rest

pub unnamed_are : (names : List Text) (fs : List Finding) → filter (λ g. not (is_named names (column_in g))) fs ≡ of_no_column names fs
unnamed_are [] fs = all_kept fs
unnamed_are (name ∷ names) fs =
    sym (filtered_twice (λ g. is_key name (column_in g)) (λ g. is_named names (column_in g)) fs) ∙ unnamed_are names (others_than name fs)

pub none_of_nothing : (names : List Text) (fs : List Finding) → fs ≡ [] → fs ≡ of_no_column names []
none_of_nothing [] fs is = is
none_of_nothing (name ∷ names) fs is = none_of_nothing names fs is

pub others_more : (names : List Text) (fs : List Finding) (f : Finding) (old new : List Finding) → old ≡ of_no_column names fs → new ≡ old ++ if_unnamed names f → new ≡ of_no_column names (fs ++ f ∷ [])
others_more names fs f old new are more =
    more ∙ ap (λ xs. xs ++ if_unnamed names f) (are ∙ sym (unnamed_are names fs)) ∙ sym (unnamed_more names fs f) ∙ unnamed_are names (fs ++ f ∷ [])

-- ---- taken in order

-- what is left once some columns have taken theirs
abbrev pub AreLeft : List Text → List Text → List Finding → ByName → Type 0
AreLeft names taken fs m = (k : Text) → or_nothing (found_at m k) ≡ (if is_named names (Some k) then those_of k (of_no_column taken fs) else [])

pub all_left : (names : List Text) (fs : List Finding) (m : ByName) → AreBy names fs m → AreLeft names [] fs m
all_left names fs m are k = ap or_nothing (are k) ∙ here (is_named names (Some k))
  where
    here : (b : Bool) → or_nothing (if b then Some (those_of k fs) else None) ≡ (if b then those_of k fs else [])
    here true = refl
    here false = refl

none_more : (taken : List Text) (name : Text) (fs : List Finding) → of_no_column (taken ++ name ∷ []) fs ≡ others_than name (of_no_column taken fs)
none_more [] name fs = refl
none_more (n ∷ taken) name fs = none_more taken name (others_than n fs)

columns_more : (taken : List Text) (name : Text) (fs : List Finding) → by_columns (taken ++ name ∷ []) fs ≡ by_columns taken fs ++ those_of name (of_no_column taken fs) ∷ []
columns_more [] name fs = refl
columns_more (n ∷ taken) name fs = ap (λ xs. those_of n fs ∷ xs) (columns_more taken name (others_than n fs))

-- of what others leave
those_left : (name k : Text) (fs : List Finding) → those_of k (others_than name fs) ≡ (if bytes_eq name k then [] else those_of k fs)
those_left name k [] = nothing (bytes_eq name k) [] refl
  where
    nothing : (b : Bool) (fs : List Finding) → fs ≡ [] → fs ≡ (if b then [] else fs)
    nothing true fs is = is
    nothing false fs is = refl
those_left name k (f ∷ fs) = here (column_in f) refl (those_left name k fs)
  where
    mine : List Finding → List Finding
    mine gs = filter (λ g. is_key k (column_in g)) gs

    by : (l : Text) (b c d : Bool) → bytes_eq name k ≡ b → bytes_eq l name ≡ c → bytes_eq l k ≡ d
        → map nameless (mine (others_than name fs)) ≡ (if b then [] else map nameless (mine fs))
        → map nameless (mine (cond (not c) (f ∷ others_than name fs) (others_than name fs))) ≡ map nameless (cond (not c) (cond d (f ∷ mine (others_than name fs)) (mine (others_than name fs))) (mine (others_than name fs)))
        → map nameless (mine (cond (not c) (f ∷ others_than name fs) (others_than name fs))) ≡ (if b then [] else map nameless (cond d (f ∷ mine fs) (mine fs)))
    by l true true d z x y rest part = part ∙ rest
    by l false true true z x y rest part =
        let same : true ≡ false = sym y ∙ ap (λ q. bytes_eq q k) ((bytes_eq-Decides l name).0 x) ∙ z in
        absurd (cc)
    by l false true false z x y rest part = part ∙ rest
    by l true false true z x y rest part =
        let same : true ≡ false = sym y ∙ ap (bytes_eq l) (sym ((bytes_eq-Decides name k).0 z)) ∙ x in
        absurd (cc)
    by l true false false z x y rest part = part ∙ rest
    by l false false true z x y rest part = part ∙ ap (λ xs. nameless f ∷ xs) rest
    by l false false false z x y rest part = part ∙ rest

    parts : (c d : Bool) → is_key k (column_in f) ≡ d
        → map nameless (mine (cond (not c) (f ∷ others_than name fs) (others_than name fs))) ≡ map nameless (cond (not c) (cond d (f ∷ mine (others_than name fs)) (mine (others_than name fs))) (mine (others_than name fs)))
    parts true d e = refl
    parts false d e = ap (λ b. map nameless (cond b (f ∷ mine (others_than name fs)) (mine (others_than name fs)))) e

    here : (o : Option Text) → column_in f ≡ o → map nameless (mine (others_than name fs)) ≡ (if bytes_eq name k then [] else map nameless (mine fs))
        → map nameless (mine (cond (not (is_key name o)) (f ∷ others_than name fs) (others_than name fs))) ≡ (if bytes_eq name k then [] else map nameless (cond (is_key k o) (f ∷ mine fs) (mine fs)))
    here None e rest = parts false false (ap (is_key k) e) ∙ rest
    here (Some l) e rest = by l (bytes_eq name k) (bytes_eq l name) (bytes_eq l k) refl refl refl rest (parts (bytes_eq l name) (bytes_eq l k) (ap (is_key k) e))

-- each of the names is one of them
pub known_at : (cs : List SchemaColumn) (i : ℕ) (c : SchemaColumn) → i < length cs → c ≡ get_or cs i c → is_named (names_of (map column_tree cs)) (Some (string_bytes c.name)) ≡ true
known_at [] i c lt is = absurd (omega (arith, lt))
known_at (x ∷ cs) zero c lt is =
    ap (λ b. b || is_named (names_of (map column_tree cs)) (Some (string_bytes c.name))) ((bytes_eq-Decides (string_bytes c.name) (string_bytes x.name)).1 (ap (λ y. string_bytes y.name) is))
known_at (x ∷ cs) (suc i) c lt is =
    ap (λ b. bytes_eq (string_bytes c.name) (string_bytes x.name) || b) (known_at cs i c (omega (arith, lt)) is) ∙ or_true (bytes_eq (string_bytes c.name) (string_bytes x.name))
  where
    or_true : (b : Bool) → b || true ≡ true
    or_true true = refl
    or_true false = refl

pub one_taken : (names taken : List Text) (name : Text) (fs : List Finding) (old new : ByName) (own : List Finding) (all more : List (List Finding)) → is_named names (Some name) ≡ true
    → own ≡ or_nothing (found_at old name) → ((k : Text) → found_at new k ≡ (if bytes_eq name k then None else found_at old k)) → more ≡ all ++ own ∷ []
    → AreLeft names taken fs old × (all ≡ by_columns taken fs) → AreLeft names (taken ++ name ∷ []) fs new × (more ≡ by_columns (taken ++ name ∷ []) fs)
one_taken names taken name fs old new own all more known is left pushed are = (
  λ k.
      ap or_nothing (left k) ∙ here k (bytes_eq name k) (is_named names (Some k)) (are.0 k)
      ∙ ap (λ xs. if is_named names (Some k) then xs else []) (sym (those_left name k (of_no_column taken fs)) ∙ ap (those_of k) (sym (none_more taken name fs))),
  pushed ∙ ap₂ (λ xs ys. xs ++ ys ∷ []) are.1 (is ∙ are.0 name ∙ ap (λ b. if b then those_of name (of_no_column taken fs) else []) known) ∙ sym (columns_more taken name fs),
)
  where
    here : (k : Text) (b c : Bool) → or_nothing (found_at old k) ≡ (if c then those_of k (of_no_column taken fs) else [])
        → or_nothing (if b then None else found_at old k) ≡ (if c then (if b then [] else those_of k (of_no_column taken fs)) else [])
    here k true true so = refl
    here k true false so = refl
    here k false true so = so
    here k false false so = so
