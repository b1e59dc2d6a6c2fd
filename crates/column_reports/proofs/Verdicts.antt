-- What sources say against what counts, as members of JSON.
use Rattle.std.proofs.Common.{◌≡◌, Bool, true, false, ◌||◌, List, [], ◌∷◌, ◌++◌, Option, Some, None, is_some, option_map, codes, refl, ap, ◌∙◌, if◌then◌else◌}
use Rattle.json.specs.Json.{Json}
use Rattle.arrow_values.specs.Tree.{Text}
use Rattle.crs_identity.specs.declared.verdict.Verdict.{Verdict}
use Rattle.geoparquet.specs.Facts.{FactsOf}
use Rattle.geoparquet.specs.declared.fact_sources.Against.{Against}
use Rattle.column_reports.specs.FactMembers.{against_if, against_members, are_some, crs_against, edges_against, encoding_against, has_one, object_if, verdict_members, verdict_word}
use Rattle.column_reports.specs.Objects.{member_if, object_of, string_if}

-- of two lists one has members
some_of : (xs ys : List (Text × Json)) → are_some (xs ++ ys) ≡ are_some xs || are_some ys
some_of [] ys = refl
some_of (x ∷ xs) ys = refl

some_word : (k : Text) (v : Option Verdict) → are_some (string_if k (option_map verdict_word v)) ≡ is_some v
some_word k None = refl
some_word k (Some v) = refl

-- whether there are verdicts
pub some_verdicts : (a : Against) → are_some (against_members a) ≡ (is_some a.element || is_some a.field) || is_some a.geo
some_verdicts a =
    some_of (string_if (codes "element") (option_map verdict_word a.element) ++ string_if (codes "field") (option_map verdict_word a.field)) (string_if (codes "geo") (option_map verdict_word a.geo))
    ∙ ap (λ b. b || are_some (string_if (codes "geo") (option_map verdict_word a.geo)))
    (some_of (string_if (codes "element") (option_map verdict_word a.element)) (string_if (codes "field") (option_map verdict_word a.field)))
    ∙ ap (λ b. (b || are_some (string_if (codes "field") (option_map verdict_word a.field))) || are_some (string_if (codes "geo") (option_map verdict_word a.geo))) (some_word (codes "element") a.element)
    ∙ ap (λ b. (is_some a.element || b) || are_some (string_if (codes "geo") (option_map verdict_word a.geo))) (some_word (codes "field") a.field)
    ∙ ap (λ b. (is_some a.element || is_some a.field) || b) (some_word (codes "geo") a.geo)

-- the member of them
by_some : (k : Text) (ms : List (Text × Json)) (b : Bool) → are_some ms ≡ b → member_if k (object_if ms) ≡ member_if k (if b then Some (object_of ms) else None)
by_some k ms b e = ap (λ t. member_if k (if t then Some (object_of ms) else None)) e

pub member_some : (k : Text) (ms : List (Text × Json)) → are_some ms ≡ true → member_if k (object_if ms) ≡ (k, object_of ms) ∷ []
member_some k ms e = by_some k ms true e

pub member_none : (k : Text) (ms : List (Text × Json)) → are_some ms ≡ false → member_if k (object_if ms) ≡ []
member_none k ms e = by_some k ms false e

pub against_some : (k : Text) (a : Against) → are_some (against_members a) ≡ true → against_if k (Some a) ≡ (k, object_of (against_members a)) ∷ []
against_some k a e = member_some k (against_members a) e

pub against_none : (k : Text) (a : Against) → are_some (against_members a) ≡ false → against_if k (Some a) ≡ []
against_none k a e = member_none k (against_members a) e

one_member : (k : Text) (ms : List (Text × Json)) (b : Bool) → are_some ms ≡ b → are_some (member_if k (object_if ms)) ≡ b
one_member k ms true e = ap are_some (member_some k ms e)
one_member k ms false e = ap are_some (member_none k ms e)

has_member : (k : Text) (o : Option Against) → are_some (against_if k o) ≡ has_one o
has_member k None = refl
has_member k (Some a) = one_member k (against_members a) (are_some (against_members a)) refl

-- whether a fact has verdicts
pub some_facts : (fs : FactsOf) → are_some (verdict_members fs) ≡ (has_one (crs_against fs) || has_one (edges_against fs)) || has_one (encoding_against fs)
some_facts fs =
    some_of (against_if (codes "crs") (crs_against fs) ++ against_if (codes "edges") (edges_against fs)) (against_if (codes "encoding") (encoding_against fs))
    ∙ ap (λ b. b || are_some (against_if (codes "encoding") (encoding_against fs))) (some_of (against_if (codes "crs") (crs_against fs)) (against_if (codes "edges") (edges_against fs)))
    ∙ ap (λ b. (b || are_some (against_if (codes "edges") (edges_against fs))) || are_some (against_if (codes "encoding") (encoding_against fs))) (has_member (codes "crs") (crs_against fs))
    ∙ ap (λ b. (has_one (crs_against fs) || b) || are_some (against_if (codes "encoding") (encoding_against fs))) (has_member (codes "edges") (edges_against fs))
    ∙ ap (λ b. (has_one (crs_against fs) || has_one (edges_against fs)) || b) (has_member (codes "encoding") (encoding_against fs))
