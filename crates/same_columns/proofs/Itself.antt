-- Columns do not differ from themselves.
use Rattle.std.proofs.Common.{◌≡◌, Bool, true, false, List, [], ◌∷◌, ◌++◌, Option, None, Some, flat_map, if◌then◌else◌, map, refl, ap, subst, ◌∙◌}
use Rattle.json.specs.Json.{Json}
use Rattle.arrow_values.specs.Tree.{Text, Tree}
use Rattle.arrow_columns.specs.Types.{TypeTree, known, other}
use Rattle.arrow_columns.specs.Notation.{type_text}
use Rattle.crs_identity.specs.Equality.{json_equal}
use Rattle.crs_identity.specs.Forms.{form_of_value, srid, value}
use Rattle.crs_identity.specs.Verdicts.{form_said, verdict_by, verdict_of}
use Rattle.crs_identity.specs.declared.verdict.Verdict.{Verdict}
use Rattle.crs_identity.specs.declared.verdict.Verdict.TheVariants.{Agree}
use Rattle.geoarrow_layout.specs.Alike.{Alike}
use Rattle.geoparquet.specs.Facts.{CrsOf, FactsOf}
use Rattle.same_columns.specs.Aspects.{AreAspects, AreOneType, aspects, crs_aspects, crs_between, fact_aspects, is_default, is_srid, said_by, unless}
use Rattle.same_columns.specs.Compared.{Compared, are_geometries, edges_word, encoding_word}
use Rattle.same_columns.specs.Differences.{AreDifferences, AreOfOther, AreOfOthers, of_first}
use Rattle.same_columns.specs.Ranks.{Placed, partner, ranked}
use Rattle.same_columns.specs.declared.difference.Aspect.{Aspect}
use Rattle.same_columns.specs.declared.difference.Aspect.TheVariants as in_what
use Rattle.same_columns.specs.declared.difference.Difference.{Difference}
use Rattle.same_columns.specs.declared.difference.Difference.TheVariants.{InBoth}
use Rattle.same_columns.proofs.Ranking.{AreOwn, bytes_same, own}

module _ (alike : (t : Tree) → Alike t t) (agree : (i j : Json) → json_equal i j ≡ true → verdict_of (form_of_value i) (form_of_value j) ≡ Agree) (equal : (j : Json) → json_equal j j ≡ true) where
  -- ---- one CRS

  either : (b : Bool) (v : Verdict) → b ≡ true → (if b then Agree else v) ≡ Agree
  either true v e = refl
  either false v e = absurd (cc)

  by_type : (b d : Bool) (j : Json) → verdict_by d d (form_said (if b then srid j else value j)) (form_said (if b then srid j else value j)) ≡ Agree
  by_type true d j = either (json_equal j j) _ (equal j)
  by_type false d j = agree j j (equal j)

  by_crs : (t : Option Text) (d : Bool) (o : Option Json) → verdict_by d d (form_said (said_by t o)) (form_said (said_by t o)) ≡ Agree
  by_crs t d None = refl
  by_crs t d (Some j) = by_type (is_srid t) d j

  between : (o : Option CrsOf) → crs_between o o ≡ Agree
  between None = refl
  between (Some f) = by_crs f.crs_type (is_default f) f.crs

  -- ---- one column

  one_type : (both : Bool) (t : TypeTree) → AreOneType both t t
  one_type true (known t) = alike t
  one_type true (other s f ids ps) = bytes_same s
  one_type false t = bytes_same (type_text t)

  one_fact : (o : Option FactsOf) → fact_aspects o o ≡ []
  one_fact None = refl
  one_fact (Some f) =
      ap (λ b. unless b in_what.Edges ++ crs_aspects (crs_between f.crs f.crs)) (bytes_same (edges_word f)) ∙ ap crs_aspects (between f.crs)

  one_column : (a : Compared) (ts : List Aspect) → AreAspects a a ts → ts ≡ []
  one_column a ts are =
      are.2
      ∙ ap (λ b. aspects b a a) (are.1.1 (one_type (are_geometries a a) a.column.data_type))
      ∙ ap (λ b. unless b in_what.Encoding ++ fact_aspects a.facts a.facts) (bytes_same (encoding_word a.column))
      ∙ one_fact a.facts

  -- ---- all columns

  of_other : (a : Placed) (ds : List Difference) → AreOfOther (Some a) a ds → ds ≡ []
  of_other a ds are = are.2 ∙ ap (map (InBoth a.place a.place)) (one_column a.column are.0 are.1)

  of_others : (all xs : List Placed) (ds : List Difference) → AreOwn all xs → AreOfOthers all xs ds → ds ≡ []
  of_others all [] ds own are = are
  of_others all (x ∷ xs) ds own are =
      let none = of_other x are.0 (subst (λ o. AreOfOther o x are.0) own.0 are.2) in
      are.4 ∙ ap (λ es. es ++ are.1) none ∙ of_others all xs are.1 own.1 are.3

  of_firsts : (all xs : List Placed) → AreOwn all xs → flat_map (λ a. of_first (partner all a) a) xs ≡ []
  of_firsts all [] own = refl
  of_firsts all (x ∷ xs) own = ap (λ o. of_first o x ++ flat_map (λ a. of_first (partner all a) a) xs) own.0 ∙ of_firsts all xs own.1

  pub none : (cs : List Compared) (ds : List Difference) → AreDifferences cs cs ds → ds ≡ []
  none cs ds are =
      let all = ranked cs in
      are.2 ∙ ap (λ es. es ++ flat_map (λ a. of_first (partner all a) a) all) (of_others all all are.0 (own cs) are.1) ∙ of_firsts all all (own cs)
