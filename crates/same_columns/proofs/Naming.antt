-- Columns by their names, with one more.
use Rattle.std.proofs.Common.{◌≡◌, ℕ, Bool, true, false, cond, bytes_eq, List, [], ◌∷◌, ◌++◌, Option, None, Some, Global, append-nil, length, map, refl, sym, ap, ◌∙◌}
use Rattle.std.specs.Borrow.{Bor}
use Rattle.std.specs.BTreeMap.{BTreeMap, get_by, UpdatesBy}
use Rattle.std.specs.Cmp.Lexicographic.{slice_cmp}
use Rattle.std.specs.Ordering.{nat_cmp}
use Rattle.std.specs.declared.vec.Vec.{Vec}
use Rattle.std.proofs.lemmas.List.Elements.{filter-append}
use Rattle.std.proofs.lemmas.Map.Text.{btree_map_updates_str}
use Rattle.std.proofs.lemmas.Slice.Eq.{bytes_eq-Decides}
use Rattle.arrow_values.specs.Tree.{Text}
use Rattle.same_columns.specs.Compared.{Compared}
use Rattle.same_columns.specs.Ranks.{AreNamed, Placed, left_behind, named, rank, ranked_view, those_in, those_of}
use Rattle.same_columns.specs.declared.ranks.Ranked.{Ranked as RankedColumn}

abbrev pub ByName : Type 0
ByName = BTreeMap (Bor Text) (Vec RankedColumn Global)

abbrev pub Puts : Text → ByName → ByName → Option (Vec RankedColumn Global) → Type 0
Puts k old new o = UpdatesBy (λ x y. slice_cmp nat_cmp x.now y.now) (λ l. slice_cmp nat_cmp k l.now) old new o

-- ---- those of a name, taken

taken_step : (b : Bool) (o : Option (Vec RankedColumn Global)) → those_of (cond b None o) ≡ cond b [] (those_of o)
taken_step true o = refl
taken_step false o = refl

pub without : (k : Text) (old new : ByName) → Puts k old new None → (name : Text) → those_in new name ≡ left_behind name k (those_in old name)
without k old new taken name =
    ap those_of (btree_map_updates_str k old new None taken name)
    ∙ taken_step (bytes_eq k name) (get_by (λ l. slice_cmp nat_cmp name l.now) old)

-- ---- put back, with one more

put_step : (b : Bool) (vs : Vec RankedColumn Global) (o : Option (Vec RankedColumn Global)) (mine others : List Placed) (x : Placed) → map ranked_view vs.items ≡ mine ++ x ∷ []
    → (b ≡ true → mine ≡ others) → those_of o ≡ cond b [] others → those_of (cond b (Some vs) o) ≡ others ++ cond b (x ∷ []) []
put_step true vs o mine others x made same left = made ∙ ap (λ xs. xs ++ x ∷ []) (same refl)
put_step false vs o mine others x made same left = left ∙ sym (append-nil others)

-- a map that has those of each name has them with one more
pub one_more : (xs : List Placed) (x : Placed) (k : Text) (old between new : ByName) (vs : Vec RankedColumn Global) → x.column.column.name ≡ k
    → ((name : Text) → those_in between name ≡ left_behind name k (those_in old name)) → map ranked_view vs.items ≡ those_in old k ++ x ∷ []
    → Puts k between new (Some vs) → AreNamed xs old → AreNamed (xs ++ x ∷ []) new
one_more xs x k old between new vs is left made put are name =
    ap those_of (btree_map_updates_str k between new (Some vs) put name)
    ∙ put_step (bytes_eq k name) vs (get_by (λ l. slice_cmp nat_cmp name l.now) between) (those_in old k) (those_in old name) x made
    (λ e. ap (those_in old) ((bytes_eq-Decides k name).0 e)) (left name)
    ∙ ap (λ ys. ys ++ cond (bytes_eq k name) (x ∷ []) []) (are name)
    ∙ ap (λ q. named xs name ++ cond (bytes_eq q name) (x ∷ []) []) (sym is)
    ∙ sym (filter-append (λ y. bytes_eq y.column.column.name name) xs (x ∷ []))

-- the rank of the next one
pub next_rank : (xs : List Placed) (place before : ℕ) (c : Compared) (old : ByName) → place ≡ length xs → before ≡ length (those_in old c.column.name) → AreNamed xs old
    → (let made : Placed = record { place = place; before = before; column = c } in made ≡ rank xs c)
next_rank xs place before c old at so are =
    ap (λ n. let made : Placed = record { place = n; before = before; column = c } in made) at
    ∙ ap (λ n. let made : Placed = record { place = length xs; before = n; column = c } in made) (so ∙ ap length (are c.column.name))
