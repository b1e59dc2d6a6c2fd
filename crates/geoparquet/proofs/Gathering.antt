-- Values that are gathered by their keys.
use Rattle.std.proofs.Common.{◌≡◌, ℕ, ◌+◌, ◌<◌, Bool, true, false, cond, bytes_eq, List, [], ◌∷◌, ◌++◌, Option, None, Some, Global, append-nil, append_assoc, drop, get_or, length, map, refl, sym, ap, ◌∙◌}
use Rattle.std.specs.Borrow.{Bor}
use Rattle.std.specs.BTreeMap.{BTreeMap, get_by, UpdatesBy}
use Rattle.std.specs.Cmp.Lexicographic.{slice_cmp}
use Rattle.std.specs.Ordering.{nat_cmp}
use Rattle.std.specs.declared.vec.Vec.{Vec}
use Rattle.std.proofs.lemmas.List.{at_drop_more}
use Rattle.std.proofs.lemmas.Map.Text.{btree_map_updates_str}
use Rattle.std.proofs.lemmas.Slice.Eq.{bytes_eq-Decides}
use Rattle.json.specs.Json.{Json, Members}
use Rattle.json.specs.Value.{members_view, value_view}
use Rattle.json.specs.declared.value.Value.{Value}
use Rattle.arrow_values.specs.Tree.{Text}
use Rattle.geoparquet.specs.Findings.{finding}
use Rattle.geoparquet.specs.Ordered.{members_entries}
use Rattle.geoparquet.specs.RepeatedKeys.{Step, key, told, AreTold, key_findings, own_findings, held, left_at, value_at, values_at, values_in, values_of}
use Rattle.geoparquet.specs.declared.finding.GeoFinding.{GeoFinding}
use Rattle.geoparquet.specs.declared.same_values.Held.{Held}
use Rattle.geoparquet.proofs.Telling.{told_behind}

abbrev pub Gathered : Type 0
Gathered = BTreeMap (Bor Text) (Vec Held Global)

-- ---- the values of a key, taken

taken_step : (b : Bool) (o : Option (Vec Held Global)) → values_of (cond b None o) ≡ cond b [] (values_of o)
taken_step true o = refl
taken_step false o = refl

pub left_behind : (k : Text) (old new : Gathered) → UpdatesBy (λ x y. slice_cmp nat_cmp x.now y.now) (λ l. slice_cmp nat_cmp k l.now) old new None → (name : Text) → values_in new name ≡ left_at name k (values_in old name)
left_behind k old new taken name =
    ap values_of (btree_map_updates_str k old new None taken name)
    ∙ taken_step (bytes_eq k name) (get_by (λ l. slice_cmp nat_cmp name l.now) old)

-- ---- put back, with one more

put_step : (b : Bool) (vs : Vec Held Global) (o : Option (Vec Held Global)) (mine others : List Json) (j : Json) → map held vs.items ≡ mine ++ j ∷ []
    → (b ≡ true → mine ≡ others) → values_of o ≡ cond b [] others → values_of (cond b (Some vs) o) ≡ others ++ cond b (j ∷ []) []
put_step true vs o mine others j made same left = made ∙ ap (λ js. js ++ j ∷ []) (same refl)
put_step false vs o mine others j made same left = left ∙ sym (append-nil others)

pub put_behind : (k : Text) (j : Json) (old between new : Gathered) (vs : Vec Held Global) → ((name : Text) → values_in between name ≡ left_at name k (values_in old name))
    → map held vs.items ≡ values_in old k ++ j ∷ [] → UpdatesBy (λ x y. slice_cmp nat_cmp x.now y.now) (λ l. slice_cmp nat_cmp k l.now) between new (Some vs)
    → (name : Text) → values_in new name ≡ values_in old name ++ value_at name k j
put_behind k j old between new vs left made put name =
    ap values_of (btree_map_updates_str k between new (Some vs) put name)
    ∙ put_step (bytes_eq k name) vs (get_by (λ l. slice_cmp nat_cmp name l.now) between) (values_in old k) (values_in old name) j made
    (λ e. ap (values_in old) ((bytes_eq-Decides k name).0 e)) (left name)

-- ---- one more member

pub one_gathered : (ms : List (Bor Text × Value Global)) (i : ℕ) (m : Bor Text × Value Global) (old new : Gathered) (name : Text) → i < length ms → m ≡ get_or ms i m
    → values_in new name ≡ values_in old name ++ value_at name m.0.now (value_view m.1) → values_in old name ++ values_at name (members_view (drop i ms)) ≡ values_at name (members_view ms)
    → values_in new name ++ values_at name (members_view (drop (i + 1) ms)) ≡ values_at name (members_view ms)
one_gathered ms i m old new name lt is put so_far =
    let later = λ (xs : List (Bor Text × Value Global)). values_at name (members_view xs) in
    let rest = later (drop (i + 1) ms) in
    let here = at_drop_more later ms i m lt ∙ ap (λ x. later (x ∷ drop (i + 1) ms)) (sym is) in
    ap (λ js. js ++ rest) put ∙ append_assoc (values_in old name) (value_at name m.0.now (value_view m.1)) rest
    ∙ ap (λ js. values_in old name ++ js) (first (bytes_eq m.0.now name) rest ∙ sym here) ∙ so_far
  where
    first : (b : Bool) (rest : List Json) → cond b (value_view m.1 ∷ []) [] ++ rest ≡ cond b (value_view m.1 ∷ rest) rest
    first true rest = refl
    first false rest = refl

-- ---- one more key of an object

pub own_next : (way : List Step) (all : Members) (old new : List GeoFinding) (es rest : List (Bor Text × Bor (Value Global))) (e : Bor Text × Bor (Value Global)) (values : Gathered) (o : Option (Vec Held Global)) → es ≡ e ∷ rest
    → ((name : Text) → values_in values name ≡ values_at name all) → o ≡ get_by (λ l. slice_cmp nat_cmp e.0.now l.now) values → AreTold old new (key_findings (way ++ key e.0.now ∷ []) (values_of o))
    → told (map finding new ++ own_findings way all (members_entries rest)) ≡ told (map finding old ++ own_findings way all (members_entries es))
own_next way all old new es rest e values o is there same h =
    let here = way ++ key e.0.now ∷ [] in
    let others = own_findings way all (members_entries rest) in
    told_behind old new (key_findings here (values_of o)) others h
    ∙ ap (λ fs. told (map finding old ++ fs))
    (ap (λ js. key_findings here js ++ others) (ap values_of same ∙ there e.0.now) ∙ ap (λ xs. own_findings way all (members_entries xs)) (sym is))

-- the end of the keys
pub own_done : (way : List Step) (all : Members) (old new : List GeoFinding) (es : List (Bor Text × Bor (Value Global))) (ms : List (Text × Json)) → es ≡ []
    → told (map finding new ++ own_findings way all (members_entries es)) ≡ told (map finding old ++ own_findings way all ms) → AreTold old new (own_findings way all ms)
own_done way all old new es ms none h =
    ap told (sym (append-nil (map finding new))) ∙ ap (λ xs. told (map finding new ++ own_findings way all (members_entries xs))) (sym none) ∙ h
