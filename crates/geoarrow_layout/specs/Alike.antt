-- When two data types are alike: the same plain type, or the same lists, structs and unions as far as a reader looks.
use Rattle.std.specs.Prelude.{◌≡◌, ◌⊎◌}
use Rattle.geoarrow_layout.specs.Words.{Text, Tree, plain, list, large_list, fixed_size_list, struct, union, MemberTrees, no_members, member, ℤ, List, length}
use Rattle.geoarrow_layout.specs.Shapes.{names_of, SameNames, AllMembers, SomeMember}

-- structs with these field names are alike: the same number, and if that is three or six, the same set of names
abbrev pub AlikeNames : List Text → List Text → Type 0
AlikeNames xs ys = (length xs ≡ length ys) × ((length xs ≡ 3) ⊎ (length xs ≡ 6) → SameNames xs ys)

abbrev mutual
  -- the two data types are alike
  pub Alike : Tree → Tree → Type 0
  Alike (plain p) (plain q) = p ≡ q
  Alike (list n t b m) (list o u c k) = Alike t u
  Alike (large_list n t b m) (large_list o u c k) = Alike t u
  Alike (fixed_size_list n t b m s) (fixed_size_list o u c k r) = (n ≡ o) × (s ≡ r)
  Alike (struct fs) (struct gs) = AlikeNames (names_of fs) (names_of gs)
  Alike (union ms mode) (union ns mode') = EachHasAlike ms ns × AllMembers (HasAlike ms) ns
  Alike _ _ = ⊥

  -- each member of ms has an alike member with the same type id in ns
  pub EachHasAlike : MemberTrees → MemberTrees → Type 0
  EachHasAlike no_members ns = Unit {0}
  EachHasAlike (member i n t b m ms) ns = SomeMember (λ j u. (i ≡ j) × Alike t u) ns × EachHasAlike ms ns

  -- some member of ms has the type id j and a data type that is alike to u
  pub HasAlike : MemberTrees → ℤ → Tree → Type 0
  HasAlike no_members j u = ⊥
  HasAlike (member i n t b m ms) j u = ((i ≡ j) × Alike t u) ⊎ HasAlike ms j u
