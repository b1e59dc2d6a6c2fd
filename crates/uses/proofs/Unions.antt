-- Unions whose members go or come, as columns.
use Rattle.std.proofs.Common.{◌≡◌, ◌≢◌, ◌∙◌, ◌++◌, ◌↔◌, sym, ap, subst, true, false, ◌==◌, length, arith, ℤ, List, [], ◌∷◌, None, Result, Ok, Err}
use Rattle.std.proofs.lemmas.Bool.{eqb-true, true≢false}
use Rattle.arrow_values.specs.Tree.{Tree, union, FieldTree, Members}
use Rattle.arrow_values.specs.View.{member_trees, member_list, listed_members}
use Rattle.arrow_values.specs.Union.{retained, shared_id}
use Rattle.arrow_values.specs.declared.tree.UnionMode.{UnionMode}
use Rattle.geoarrow_layout.specs.declared.dimensions.CoordType.{CoordType}
use Rattle.geoarrow_layout.specs.declared.native_kinds.Kind.TheVariants.{Geometry as OfGeometry}
use Rattle.geoarrow_layout.specs.Shapes.{Geometry}
use Rattle.geoarrow_layout.specs.Changes.{GeometryUnion, EachOf}
use Rattle.geoarrow_meta.specs.declared.metadata.Metadata.{Metadata}
use Rattle.geoarrow_native.specs.Column.{ReadsAs}
use Rattle.uses.specs.Columns.{members_of, narrowed, MayBeJoined}

-- the parts may be joined where the whole is of geometries
pub joined_of_geometries : (ms ns whole : Members) (mode : UnionMode) (c : CoordType) → whole ≡ ms ++ ns → shared_id ms ns ≡ None
    → (GeometryUnion c whole ↔ EachOf (GeometryUnion c) ms ns whole) → Geometry (union (member_trees whole) mode) c → MayBeJoined ms ns
joined_of_geometries ms ns whole mode c is apart law read = (apart, (c, subst (EachOf (GeometryUnion c) ms ns) is (law.0 (λ m. read))))

-- and may not where it is not
pub not_joined_of_others : (ms ns whole : Members) (mode : UnionMode) → whole ≡ ms ++ ns
    → ((c : CoordType) → GeometryUnion c whole ↔ EachOf (GeometryUnion c) ms ns whole) → ((c : CoordType) → ¬ Geometry (union (member_trees whole) mode) c) → ¬ MayBeJoined ms ns
not_joined_of_others ms ns whole mode is law none may =
    none may.1.0 ((law may.1.0).1 (subst (EachOf (GeometryUnion may.1.0) ms ns) (sym is) may.1.1) mode)

-- the members of a union are those that it was made of
pub members_of_union : (t : Tree) (ms : Members) (mode : UnionMode) → t ≡ union (member_trees ms) mode → members_of t ≡ ms
members_of_union t ms mode is = ap members_of is ∙ listed_members ms

-- and those that are kept of them are the union without the others
pub narrowed_union : (ids : List ℤ) (t : Tree) (ms ns : Members) (mode : UnionMode) → t ≡ union (member_trees ms) mode → ns ≡ retained ids ms
    → union (member_trees ns) mode ≡ narrowed ids t
narrowed_union ids t ms ns mode is kept =
    let listed : union (member_trees (retained ids (member_list (member_trees ms)))) mode ≡ narrowed ids t = ap (narrowed ids) (sym is) in
    ap (λ x. union (member_trees x) mode) kept ∙ ap (λ x. union (member_trees (retained ids x)) mode) (sym (listed_members ms)) ∙ listed

pub none_where_empty : (ms : Members) → (length ms == 0) ≡ true → ms ≡ []
none_where_empty [] h = λ z. []
none_where_empty (m ∷ ms) h =
    let none : length (m ∷ ms) ≡ 0 = eqb-true (length (m ∷ ms)) 0 h in
    absurd (omega (arith, none))

pub some_where_not_empty : (ms : Members) → (length ms == 0) ≡ false → ms ≢ []
some_where_not_empty ms h none = absurd (true≢false (sym (ap (λ ns. length ns == 0) none) ∙ h))

-- an answer is not an error
pub ok_is_no_err : {X E : Type 0} (r : Result X E) (x : X) (e : E) → r ≡ Ok x → r ≡ Err e → ⊥
ok_is_no_err r x e ok err = absurd cc

-- a union of geometries with other members that are of geometries too is read as it was
pub narrowed_reads : (f n : FieldTree) (ms ns : Members) (m k : UnionMode) (c : CoordType) (metadata : Metadata) → f.tree ≡ union (member_trees ms) m
    → n ≡ record f { tree = union (member_trees ns) k } → (GeometryUnion c ms → GeometryUnion c ns) → ReadsAs f (OfGeometry c) metadata → ReadsAs n (OfGeometry c) metadata
unfolding ReadsAs
narrowed_reads f n ms ns m k c metadata was is still read =
    let whole : Geometry (union (member_trees ms) m) c = subst (λ t. Geometry t c) was read.0.1 in
    subst (λ x. ReadsAs x (OfGeometry c) metadata) (sym is) ((read.0.0, still (λ mode. whole) k), read.1)
