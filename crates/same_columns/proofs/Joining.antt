-- The differences of columns, with those of one more.
use Rattle.std.proofs.Common.{◌≡◌, List, [], ◌∷◌, ◌++◌, append-nil, append_assoc, flat_map, map, refl, sym, ap, subst, ◌∙◌}
use Rattle.std.specs.List.{slice_get}
use Rattle.same_columns.specs.Compared.{Compared}
use Rattle.same_columns.specs.Differences.{AreDifferences, AreOfOther, AreOfOthers, AreOfRanked, first_by, of_first}
use Rattle.same_columns.specs.Ranks.{AreNamed, Placed, partner, partner_in, ranked, ranked_view}
use Rattle.same_columns.specs.declared.difference.Difference.{Difference}
use Rattle.same_columns.specs.declared.ranks.Ranked.{Ranked as RankedColumn}
use Rattle.same_columns.proofs.Naming.{ByName}

pub one_behind : (firsts bs : List Placed) (b : Placed) (ds es : List Difference) → AreOfOthers firsts bs ds → AreOfOther (partner firsts b) b es → AreOfOthers firsts (bs ++ b ∷ []) (ds ++ es)
one_behind firsts [] b ds es are is = (es, [], is, refl, ap (λ xs. xs ++ es) are ∙ sym (append-nil es))
one_behind firsts (x ∷ bs) b ds es are is =
    (are.0, are.1 ++ es, are.2, one_behind firsts bs b are.1 es are.3 is, ap (λ xs. xs ++ es) are.4 ∙ append_assoc are.0 are.1 es)

-- of one more, by a map
pub one_more_by : (m : ByName) (xs bs : List Placed) (b : Placed) (start old new : List Difference) → AreNamed xs m
    → ((ds : List Difference) × AreOfOthers xs bs ds × (old ≡ start ++ ds)) → ((es : List Difference) × AreOfOther (partner_in m b) b es × (new ≡ old ++ es))
    → (ds : List Difference) × AreOfOthers xs (bs ++ b ∷ []) ds × (new ≡ start ++ ds)
one_more_by m xs bs b start old new named so_far more =
    let mine = subst (λ o. AreOfOther o b more.0) (ap (λ ys. slice_get ys b.before) (named b.column.column.name)) more.1 in (
      so_far.0 ++ more.0,
      one_behind xs bs b so_far.0 more.0 so_far.1 mine,
      more.2 ∙ ap (λ ys. ys ++ more.0) so_far.2 ∙ append_assoc start so_far.0 more.0,
    )

-- ---- the columns of the first file

firsts_by : (m : ByName) (others : List Placed) (xs : List RankedColumn) → AreNamed others m
    → flat_map (λ a. first_by m (ranked_view a)) xs ≡ flat_map (λ a. of_first (partner others a) a) (map ranked_view xs)
firsts_by m others [] named = refl
firsts_by m others (x ∷ xs) named =
    ap (λ ys. of_first (slice_get ys (ranked_view x).before) (ranked_view x) ++ flat_map (λ a. first_by m (ranked_view a)) xs) (named (ranked_view x).column.column.name)
    ∙ ap (λ ds. of_first (partner others (ranked_view x)) (ranked_view x) ++ ds) (firsts_by m others xs named)

-- ---- all

pub all_differences : (firsts others : List Compared) (xs ys : List RankedColumn) (first other : ByName) (start between all : List Difference) → start ≡ []
    → map ranked_view xs ≡ ranked firsts → AreNamed (map ranked_view xs) first → map ranked_view ys ≡ ranked others → AreNamed (map ranked_view ys) other
    → ((zs : List Placed) → AreNamed zs first → (ds : List Difference) × AreOfOthers zs (map ranked_view ys) ds × (between ≡ start ++ ds))
    → all ≡ between ++ flat_map (λ a. first_by other (ranked_view a)) xs → AreDifferences firsts others all
all_differences firsts others xs ys first other start between all empty is_first named_first is_other named_other of_others of_firsts =
    let told = of_others (map ranked_view xs) named_first in
    let whole : AreOfRanked (map ranked_view xs) (map ranked_view ys) all =
    (told.0, told.1, of_firsts ∙ ap (λ ds. ds ++ flat_map (λ a. first_by other (ranked_view a)) xs) (told.2 ∙ ap (λ ds. ds ++ told.0) empty) ∙ ap (λ ds. told.0 ++ ds) (firsts_by other (map ranked_view ys) xs named_other)) in
    subst (λ zs. AreOfRanked (ranked firsts) zs all) is_other (subst (λ zs. AreOfRanked zs (map ranked_view ys) all) is_first whole)
