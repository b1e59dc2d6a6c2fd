-- Where nothing that is found is an error, the columns are sound.
use Rattle.std.proofs.Common.{◌≡◌, Bool, true, false, List, [], ◌∷◌, ◌++◌, All, flat_map, bytes_eq, codes, Option, None, Some, is_some, option_map, if◌then◌else◌, refl, sym, ap, subst, inl, inr}
use Rattle.std.proofs.lemmas.Bool.{both_ways, not-false}
use Rattle.std.proofs.lemmas.List.Elements.{All-nil, All-cons, All-head, All-tail, All-weaker}
use Rattle.std.proofs.lemmas.Slice.Eq.{bytes_eq-Decides}
use Rattle.json.specs.Json.{Json}
use Rattle.json.specs.Find.{get}
use Rattle.value_tokens.specs.Values.{is_object}
use Rattle.arrow_values.specs.Tree.{Text}
use Rattle.arrow_columns.specs.Types.{ColumnTree}
use Rattle.arrow_columns.specs.Names.{first_of, is_one}
use Rattle.column_check.specs.Severities.{is_error_of}
use Rattle.crs_identity.specs.Verdicts.{Claimed, crs_verdict}
use Rattle.crs_identity.specs.declared.verdict.Verdict.{Verdict}
use Rattle.crs_identity.specs.declared.verdict.Verdict.TheVariants.{Contradict}
use Rattle.geoparquet.specs.Codes.{severity_of}
use Rattle.geoparquet.specs.Contradictions.{encodings_findings, encoding_contradicts_findings, edges_claims_findings, edges_contradict_findings, element_encoding, field_encoding, layout_encoding, element_metadata, own_metadata, element_edges, field_edges, said_edges}
use Rattle.geoparquet.specs.CrsClaims.{pair_verdict, is_contradict, is_not_compared, verdict_findings, three_findings, claim_shown, own_shown, crs_at, crs_claims_findings, crs_contradicts_findings, element_json, field_json, element_crs, own_crs_in, said_crs}
use Rattle.geoparquet.specs.Counting.{edges_on_projected_findings, own_on_projected_findings}
use Rattle.geoparquet.specs.Extensions.{IsJson}
use Rattle.geoparquet.specs.Findings.{Finding}
use Rattle.geoparquet.specs.Spelled.{spelled}
use Rattle.geoparquet.specs.GeoFindings.{columns_findings, primary_findings, has_primary, key_finding, name_finding, key_findings, storage_findings, fact_findings, box_findings, covered_findings, claim_findings, part_findings, own_findings, value_findings, member_findings, members_findings, column_alone_findings, alone_findings, missing_findings, object_findings, json_findings, geo_findings, unread_finding, AreTextFindings, AreSourceFindings}
use Rattle.geoparquet.specs.Ordered.{are_some, columns_of, has_member}
use Rattle.geoparquet.specs.RepeatedKeys.{repeated_findings}
use Rattle.geoparquet.specs.Pairs.{first_pair, differ, of_element, of_field, pair_findings, texts_pair}
use Rattle.geoparquet.specs.declared.fact_sources.FactSource.TheVariants.{Field}
use Rattle.geoparquet.specs.Rules.{unless, found_at, told_at, told_in, part_place}
use Rattle.geoparquet.specs.Sources.{Source, unasked, missing, value, Element, element_named, with_elements}
use Rattle.geoparquet.specs.Undeclared.{no_metadata_findings}
use Rattle.geoparquet.specs.Versions.{version_of, version_findings}
use Rattle.geoparquet.specs.declared.code.GeoCode.{GeoCode}
use Rattle.geoparquet.specs.declared.code.GeoCode.TheVariants.{NotObject, Columns, PrimaryColumn, Member, ColumnMissing, ColumnRepeated, EncodingContradicts, CrsContradicts, EdgesContradict}
use Rattle.geoparquet.specs.declared.finding.Version.{Version}
use Rattle.reading_laws.specs.Claims.{HasNoError, AreOne, DoNotContradict, AreAllOne, NoneContradicts, GoesTogether, IsSoundMember, IsSoundAlone, IsSoundText, IsSoundSource, IsSoundWithoutErrors}

-- ---- parts of a list

module _ {X : Type 0} (P : X → Type 0) where
  left : (xs ys : List X) → All P (xs ++ ys) → All P xs
  left [] ys h = All-nil P
  left (x ∷ xs) ys h = All-cons P x xs (All-head P x (xs ++ ys) h) (left xs ys (All-tail P x (xs ++ ys) h))

  right : (xs ys : List X) → All P (xs ++ ys) → All P ys
  right [] ys h = h
  right (x ∷ xs) ys h = right xs ys (All-tail P x (xs ++ ys) h)

  each : {A : Type 0} (f : A → List X) (xs : List A) → All P (flat_map f xs) → All (λ x. All P (f x)) xs
  each f [] h = All-nil (λ x. All P (f x))
  each f (x ∷ xs) h = All-cons (λ y. All P (f y)) x xs (left (f x) (flat_map f xs) h) (each f xs (right (f x) (flat_map f xs) h))

-- ---- findings without an error

abbrev IsNoError : Finding → Type 0
IsNoError f = is_error_of (severity_of f.code) ≡ false

abbrev IsError : Finding → Type 0
IsError f = is_error_of (severity_of f.code) ≡ true

before : (fs gs : List Finding) → HasNoError (fs ++ gs) → HasNoError fs
before fs gs h = left IsNoError fs gs h

behind : (fs gs : List Finding) → HasNoError (fs ++ gs) → HasNoError gs
behind fs gs h = right IsNoError fs gs h

-- none begins with an error
no_first : (f : Finding) (fs : List Finding) → IsError f → HasNoError (f ∷ fs) → ⊥
no_first f fs is h = both_ways (is_error_of (severity_of f.code)) (All-head IsNoError f fs h) is

kept : (b : Bool) (f : Finding) → IsError f → HasNoError (unless b f) → b ≡ true
kept true f is h = refl
kept false f is h = absurd (no_first f [] is h)

-- of two lists it is not the one that begins with an error
chosen : (b : Bool) (fs : List Finding) (g : Finding) (gs : List Finding) → IsError g → HasNoError (if b then fs else (g ∷ gs)) → (b ≡ true) × HasNoError fs
chosen true fs g gs is h = (refl, h)
chosen false fs g gs is h = absurd (no_first g gs is h)

otherwise : (b : Bool) (fs gs : List Finding) → b ≡ false → HasNoError (if b then fs else gs) → HasNoError gs
otherwise true fs gs is h = absurd cc
otherwise false fs gs is h = h

-- ---- pairs

-- no pair is found where one would be an error
no_pair : (code : GeoCode) (key name : Text) (found element field own : Option Text) (a b c : Bool)
    → is_error_of (severity_of code) ≡ true → HasNoError (pair_findings code key name found element field own (first_pair a b c))
    → (a ≡ false) × (b ≡ false) × (c ≡ false)
no_pair code key name found element field own false false false is h = (refl, refl, refl)
no_pair code key name found element field own false false true is h =
    absurd (no_first (told_at code (Some key) (part_place key name) found (option_map of_field own)) [] is h)
no_pair code key name found element field own false true c is h = absurd (no_first (told_in Field code key field (option_map of_element element)) [] is h)
no_pair code key name found element field own true b c is h =
    absurd (no_first (told_at code (Some key) (part_place key name) found (option_map of_element element)) [] is h)

-- texts that do not differ
one : (a b : Option Text) → differ a b ≡ false → AreOne a b
one None b h = tt
one (Some a) None h = tt
one (Some a) (Some b) h = (bytes_eq-Decides a b).0 (not-false (bytes_eq a b) h)

texts_one : (code : GeoCode) (key name : Text) (found claimed shown own element field said : Option Text)
    → is_error_of (severity_of code) ≡ true → HasNoError (pair_findings code key name found claimed shown own (texts_pair element field said)) → AreAllOne element field said
texts_one code key name found claimed shown own element field said is h =
    let apart = no_pair code key name found claimed shown own (differ element said) (differ element field) (differ field said) is h in
    (one element said apart.0, one element field apart.1, one field said apart.2)

-- CRSs whose verdict is no contradiction
not_contradict : (v : Verdict) → is_contradict v ≡ false → ¬ (v ≡ Contradict)
not_contradict v h is = both_ways (is_contradict v) h (ap is_contradict is)

no_contradiction : (a b : Option Claimed) → is_contradict (pair_verdict a b) ≡ false → DoNotContradict a b
no_contradiction None b h = tt
no_contradiction (Some a) None h = tt
no_contradiction (Some a) (Some b) h = not_contradict (crs_verdict a b) h

no_verdict : (key : Text) (found element own : Option Text) (a b c d e f : Bool)
    → HasNoError (verdict_findings key found element own (first_pair a b c) (first_pair d e f)) → (a ≡ false) × (b ≡ false) × (c ≡ false)
no_verdict key found element own false false false d e f h = (refl, refl, refl)
no_verdict key found element own false false true d e f h = no_pair CrsContradicts key (codes "crs") found element own own false false true refl h
no_verdict key found element own false true c d e f h = no_pair CrsContradicts key (codes "crs") found element own own false true c refl h
no_verdict key found element own true b c d e f h = no_pair CrsContradicts key (codes "crs") found element own own true b c refl h

none_contradicts : (key : Text) (found : Option Json) (shown : Option Text) (own : Option Json) (element field said : Option Claimed)
    → HasNoError (three_findings key found shown own element field said) → NoneContradicts element field said
none_contradicts key found shown own element field said h =
    let eg = pair_verdict element said in
    let ea = pair_verdict element field in
    let ag = pair_verdict field said in
    let apart = no_verdict key (claim_shown said found) shown (own_shown own) (is_contradict eg) (is_contradict ea) (is_contradict ag)
    (is_not_compared eg) (is_not_compared ea) (is_not_compared ag) h in
    (no_contradiction element said apart.0, no_contradiction element field apart.1, no_contradiction field said apart.2)

-- ---- a column

together : (key : Text) (c : Option ColumnTree) (e : Option Element) (g k : Option Json) (encoding : Option Text) (crs : Option Claimed) (edges : Option Text)
    → HasNoError (encodings_findings key c e encoding) → HasNoError (crs_claims_findings key g c e crs) → HasNoError (edges_claims_findings key k c e edges)
    → GoesTogether e c encoding crs edges
together key c e g k encoding crs edges no_encoding no_crs no_edges =
    let own = element_json e c in
    let element = element_crs e own in
    let field = field_json e c in
    let edges_of_element = element_edges e (element_metadata e c) in
    let edges_of_field = field_edges e (own_metadata c) in
    record {
      encodings = texts_one EncodingContradicts key (codes "encoding") _ _ _ _ (element_encoding e) (field_encoding e c) encoding refl no_encoding;
      crss = none_contradicts key g (claim_shown element (crs_at own)) field element (own_crs_in field) crs no_crs;
      edges_said = texts_one EdgesContradict key (codes "edges") _ _ _ _ edges_of_element edges_of_field edges refl no_edges;
    }

own_together : (key : Text) (c : Option ColumnTree) (e : Option Element) → HasNoError (own_findings key c e) → GoesTogether e c None None None
unfolding own_findings
own_together key c e h =
    let encodings = encodings_findings key c e None in
    let crss = crs_claims_findings key None c e None in
    let edges = edges_claims_findings key None c e None in
    let three = before (encodings ++ crss ++ edges) (own_on_projected_findings key c e) h in
    let two = before (encodings ++ crss) edges three in
    together key c e None None None None None (before encodings crss two) (behind encodings crss two) (behind (encodings ++ crss) edges three)

part_together : (cs : List ColumnTree) (version : Version) (key : Text) (c : Option ColumnTree) (e : Option Element) (j : Json)
    → HasNoError (part_findings cs version key c e j)
    → GoesTogether e c (layout_encoding version c e j) (said_crs version (get (codes "crs") j)) (said_edges version (get (codes "edges") j))
part_together cs version key c e j h =
    let storage = storage_findings version key c e j in
    let facts = fact_findings version key j in
    let boxes = box_findings version key c e j in
    let covered = covered_findings cs version key c j in
    let said = behind (storage ++ facts ++ boxes ++ covered) (claim_findings version key c e j) h in
    let encodings = encoding_contradicts_findings version key c e j in
    let crss = crs_contradicts_findings version key c e j in
    let edges = edges_contradict_findings version key c e j in
    let three = before (encodings ++ crss ++ edges) (edges_on_projected_findings version key c e j) said in
    let two = before (encodings ++ crss) edges three in
    let crs = get (codes "crs") j in
    let edge = get (codes "edges") j in
    together key c e crs edge (layout_encoding version c e j) (said_crs version crs) (said_edges version edge)
    (before encodings crss two)
    (behind encodings crss two)
    (behind (encodings ++ crss) edges three)

-- ---- members, and columns without one

module _ (cs : List ColumnTree) (xs : List (ColumnTree × Option Element)) where
  one_column : (key : Text) → HasNoError (key_findings cs key) → is_one cs key ≡ true
  one_column key h =
      let one = chosen (is_some (first_of cs key)) (unless (is_one cs key) (name_finding ColumnRepeated key)) (name_finding ColumnMissing key) [] refl h in
      kept (is_one cs key) (name_finding ColumnRepeated key) refl one.1

  sound_member : (version : Version) (m : Text × Json) → HasNoError (member_findings cs xs version m) → IsSoundMember cs xs version m
  sound_member version m h =
      let c = first_of cs m.0 in
      let e = element_named xs m.0 in
      let keys = before (key_findings cs m.0) (value_findings cs version m.0 c e m.1) h in
      let values = behind (key_findings cs m.0) (value_findings cs version m.0 c e m.1) h in
      let part = chosen (is_object m.1) (part_findings cs version m.0 c e m.1) (key_finding Member m.0 m.1) (own_findings m.0 c e) refl values in
      record { object = part.0; column = one_column m.0 keys; together = part_together cs version m.0 c e m.1 part.1 }

  sound_alone : (ms : List (Text × Json)) (x : ColumnTree × Option Element) → HasNoError (column_alone_findings ms x) → IsSoundAlone ms x
  sound_alone ms x h none = own_together x.0.name (Some x.0) x.1 (otherwise (has_member x.0.name ms) [] (own_findings x.0.name (Some x.0) x.1) none h)

  all_alone : (ms : List (Text × Json)) → HasNoError (alone_findings ms xs) → All (IsSoundAlone ms) xs
  all_alone ms h =
      let all = each IsNoError (column_alone_findings ms) xs h in
      All-weaker (λ x. HasNoError (column_alone_findings ms x)) (IsSoundAlone ms) (sound_alone ms) xs all

  all_members : (version : Version) (ms : List (Text × Json)) → HasNoError (members_findings cs xs version ms) → All (IsSoundMember cs xs version) ms
  all_members version ms h =
      let all = each IsNoError (member_findings cs xs version) ms h in
      All-weaker (λ m. HasNoError (member_findings cs xs version m)) (IsSoundMember cs xs version) (sound_member version) ms all

  -- ---- what stands at the key

  sound_object : (text : Text) (j : Json) → IsJson text j → is_object j ≡ true → HasNoError (object_findings cs xs j)
      → HasNoError (alone_findings (columns_of j) xs) → IsSoundText text cs xs (version_of j) j
  sound_object text j json object h alone =
      let versions = version_findings j in
      let columns = columns_findings j in
      let primary = primary_findings j in
      let members = members_findings cs xs (version_of j) (columns_of j) in
      let four = before (versions ++ columns ++ primary ++ members) (missing_findings xs j) h in
      let three = before (versions ++ columns ++ primary) members four in
      let two = before (versions ++ columns) primary three in
      let no_columns = found_at Columns None (codes "/columns") (get (codes "columns") j) None in
      let no_primary = found_at PrimaryColumn None (codes "/primary_column") (get (codes "primary_column") j) None in
      record {
        json = json;
        object = object;
        columns = kept (are_some (columns_of j)) no_columns refl (behind versions columns two);
        primary = kept (has_primary j) no_primary refl (behind (versions ++ columns) primary three);
        members = all_members (version_of j) (columns_of j) (behind (versions ++ columns ++ primary) members four);
        others = all_alone (columns_of j) alone;
      }

  sound_json : (text : Text) (j : Json) → IsJson text j → HasNoError (geo_findings cs xs j) → IsSoundText text cs xs (version_of j) j
  sound_json text j json h =
      let alone = behind (json_findings cs xs j) (alone_findings (columns_of j) xs) h in
      let of_json = before (json_findings cs xs j) (alone_findings (columns_of j) xs) h in
      let object = chosen (is_object j) (repeated_findings j ++ object_findings cs xs j) (found_at NotObject None [] (Some j) None) [] refl of_json in
      sound_object text j json object.0 (behind (repeated_findings j) (object_findings cs xs j) object.1) alone

  sound_text : (text : Text) (version : Version) (fs : List Finding) → AreTextFindings text cs xs version fs → HasNoError fs
      → (j : Json) × IsSoundText text cs xs version j
  sound_text text version fs (inl (none, said, same)) h =
      absurd (no_first (unread_finding text) (alone_findings [] xs) refl (subst (λ gs. HasNoError gs) same h))
  sound_text text version fs (inr (j, json, said, same)) h =
      (j, subst (λ v. IsSoundText text cs xs v j) (sym said) (sound_json text j json (subst (λ gs. HasNoError gs) same h)))

  sound_source : (geo : Source) (version : Version) (fs : List Finding) → AreSourceFindings geo cs xs version fs → HasNoError fs
      → IsSoundSource geo cs xs version
  sound_source unasked version fs (said, same) h = all_alone [] (subst (λ gs. HasNoError gs) same h)
  sound_source missing version fs (said, same) h = all_alone [] (behind (no_metadata_findings xs) (alone_findings [] xs) (subst (λ gs. HasNoError gs) same h))
  sound_source (value bytes) version fs (inl (utf8, are)) h = (utf8, sound_text bytes version fs are h)
  sound_source (value bytes) version fs (inr (other, said, same)) h =
      absurd (no_first (unread_finding (spelled bytes)) (alone_findings [] xs) refl (subst (λ gs. HasNoError gs) same h))

pub is_sound : IsSoundWithoutErrors
is_sound geo cs es version fs are h = sound_source cs (with_elements cs es) geo version fs are h
