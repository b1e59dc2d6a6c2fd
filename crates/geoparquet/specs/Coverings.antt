-- Coverings: a column of boxes, one for each geometry, that the paths of bounds lead to (docs/FORMAT.md, 5.1).
use Rattle.std.specs.Prelude.{◌&&◌, ◌||◌, Bool, true, false, not, List, [], ◌∷◌, ◌++◌, codes, bytes_eq, Option, None, Some, is_some, option_map, option_and_then, map, flat_map, find, IfSome, ⊤, if◌then◌else◌}
use Rattle.std.specs.Bool.{beq}
use Rattle.std.specs.List.{list_all}
use Rattle.json.specs.Json.{Json, Items, no_items, item}
use Rattle.json.specs.Find.{get, at, as_str, as_array}
use Rattle.json.specs.Value.{value_view}
use Rattle.value_tokens.specs.Values.{IsReadable, is_object}
use Rattle.arrow_values.specs.Tree.{Text, plain, float32, float64}
use Rattle.arrow_columns.specs.Below.{below, is_struct}
use Rattle.arrow_columns.specs.Column.{column_of}
use Rattle.arrow_columns.specs.Types.{TypeTree, known, ColumnTree}
use Rattle.arrow_columns.specs.Names.{first_of, is_one}
use Rattle.arrow_columns.specs.Notation.{type_text}
use Rattle.geoparquet.specs.Findings.{Finding, member_place, item_place, shown}
use Rattle.geoparquet.specs.Rules.{found_at, part_place, told_at, unless}
use Rattle.geoparquet.specs.Versions.{is_judged}
use Rattle.geoparquet.specs.declared.code.GeoCode.{GeoCode}
use Rattle.geoparquet.specs.declared.code.GeoCode.TheVariants.{Covering, CoveringName, CoveringColumn, CoveringType, CoveringShape}
use Rattle.geoparquet.specs.declared.finding.Version.{Version}
use Rattle.geoparquet.specs.declared.bounds.Bound.{Bound as DeclaredBound}
use Rattle.geoparquet.specs.declared.bounds.Path.{Path as DeclaredPath}
use Rattle.geoparquet.specs.declared.group.Children.{Children as DeclaredChildren}
use Rattle.geoparquet.specs.declared.group.Children.TheVariants.{Fields, Parts}
use Rattle.geoparquet.specs.declared.group.Group.{Group as DeclaredGroup}

-- ---- bounds and their paths

-- a bound: its name, and what stands there
pub record Bound : Type 0 where
  pub name : Text
  pub found : Option Json

abbrev pub bound : Text → Json → Bound
bound name bbox = record { name = name; found = get name bbox }

-- the bounds of height, of which both are there or none
abbrev pub has_height : Json → Bool
has_height bbox = is_some (get (codes "zmin") bbox) || is_some (get (codes "zmax") bbox)

abbrev pub bounds_of_height : Json → List Bound
bounds_of_height bbox =
    if has_height bbox then bound (codes "zmin") bbox ∷ bound (codes "zmax") bbox ∷ [] else []

abbrev pub bounds_of : Json → List Bound
bounds_of bbox =
    bound (codes "xmin") bbox ∷ bound (codes "ymin") bbox ∷ bound (codes "xmax") bbox ∷ bound (codes "ymax") bbox ∷ bounds_of_height bbox

-- a path: the name of a column, and that of a child of it
pub record Path : Type 0 where
  pub column : Text
  pub child : Text

abbrev pub path_texts : Option Text → Option Text → Option Path
path_texts (Some column) (Some child) = Some (record { column = column; child = child })
path_texts _ _ = None

-- an array of two texts is a path
abbrev pub path_in : Items → Option Path
path_in (item column (item child no_items)) = path_texts (as_str column) (as_str child)
path_in js = None

abbrev pub path_of : Json → Option Path
path_of j = option_and_then path_in (as_array j)

abbrev pub path_at : Bound → Option Path
path_at b = option_and_then path_of b.found

-- ---- the group of a covering

-- a column that is a group: its name, whether it may be null, and its children
pub record Group : Type 0 where
  pub name : Text
  pub nullable : Bool
  pub children : List ColumnTree

-- the type of the first child of that name
abbrev pub child_of : Text → List ColumnTree → Option TypeTree
child_of name cs = option_map (λ c. c.data_type) (first_of cs name)

-- the children of a type that is a group: a struct, whatever its children are
abbrev pub children_in : TypeTree → Option (List ColumnTree)
children_in t = if is_struct t then Some (below t) else None

abbrev pub group_in : Option ColumnTree → Option Group
group_in None = None
group_in (Some c) = option_map (λ cs. record { name = c.name; nullable = c.nullable; children = cs }) (children_in c.data_type)

-- the group that a path names: the one column of the name, where it is a group
abbrev pub group_of : List ColumnTree → Option Path → Option Group
group_of cs None = None
group_of cs (Some p) = if is_one cs p.column then group_in (first_of cs p.column) else None

-- the type to which a path leads in a group
abbrev pub type_at : Option Group → Option Path → Option TypeTree
type_at (Some g) (Some p) = if bytes_eq p.column g.name then child_of p.child g.children else None
type_at _ _ = None

abbrev pub is_single : Option TypeTree → Bool
is_single (Some (known (plain float32))) = true
is_single t = false

abbrev pub is_double : Option TypeTree → Bool
is_double (Some (known (plain float64))) = true
is_double t = false

-- floats: of single precision where the first path leads to those, and otherwise of double
abbrev pub fits : Bool → Option TypeTree → Bool
fits single t = if single then is_single t else is_double t

-- whether a name is that of a bound
abbrev pub is_bound : Text → Bool
is_bound name =
    bytes_eq name (codes "xmin") || bytes_eq name (codes "ymin") || bytes_eq name (codes "xmax") || bytes_eq name (codes "ymax")
    || bytes_eq name (codes "zmin") || bytes_eq name (codes "zmax")

-- whether a path ends in a name, and whether one of the bounds has such a path
abbrev pub ends_in : Text → Option Path → Bool
ends_in name None = false
ends_in name (Some p) = bytes_eq p.child name

abbrev pub is_path_end : Text → List Bound → Bool
is_path_end name [] = false
is_path_end name (b ∷ bs) = ends_in name (path_at b) || is_path_end name bs

-- whether the children have the names of bounds alone, and of those that the paths lead to
abbrev pub are_bounds : List Bound → List ColumnTree → Bool
are_bounds bs cs = list_all (λ c. is_bound c.name || is_path_end c.name bs) cs

-- whether values may be null in the group where they may be in the column of the geometries
abbrev pub is_null_alike : Option ColumnTree → Group → Bool
is_null_alike None g = true
is_null_alike (Some c) g = beq c.nullable g.nullable

abbrev pub is_shaped : Option ColumnTree → List Bound → Group → Bool
is_shaped c bs g = are_bounds bs g.children && is_null_alike c g

-- ---- findings; the place is that of `bbox`

-- a bound that is absent, or whose value is no path
abbrev pub bound_findings : Text → Text → Bound → List Finding
bound_findings key place b =
    unless (is_some (path_at b)) (found_at Covering (Some key) (member_place place b.name) b.found None)

-- a path whose second text is another than the name of the bound
abbrev pub is_named : Text → Option Path → Bool
is_named name None = true
is_named name (Some p) = bytes_eq p.child name

-- the second item of what stands at a bound
abbrev pub second_of : Bound → Option Json
second_of b = option_and_then (at 1) b.found

abbrev pub name_findings : Text → Text → Bound → List Finding
name_findings key place b =
    unless (is_named b.name (path_at b)) (found_at CoveringName (Some key) (item_place (member_place place b.name) 1) (second_of b) (Some b.name))

-- the first bound whose path leads to no child of the group, and the first whose path leads to other floats
abbrev pub leads : Option Group → Bound → Bool
leads g b = is_some (type_at g (path_at b))

abbrev pub is_fitting : Option Group → Bool → Bound → Bool
is_fitting g single b = fits single (type_at g (path_at b))

abbrev pub first_astray : Option Group → List Bound → Option Bound
first_astray g bs = find (λ b. not (leads g b)) bs

abbrev pub first_unfitting : Option Group → Bool → List Bound → Option Bound
first_unfitting g single bs = find (λ b. not (is_fitting g single b)) bs

abbrev pub finding_at_bound : GeoCode → Text → Text → Option Bound → List Finding
finding_at_bound code key place None = []
finding_at_bound code key place (Some b) = found_at code (Some key) (member_place place b.name) b.found None ∷ []

abbrev pub finding_of_first : GeoCode → Text → Text → List Bound → List Finding
finding_of_first code key place [] = []
finding_of_first code key place (b ∷ bs) = finding_at_bound code key place (Some b)

-- the group has other children, or null values where the geometries have none, or the other way
abbrev pub shape_findings : Text → Text → Option ColumnTree → Option Group → List Bound → List Finding
shape_findings key place c None bs = []
shape_findings key place c (Some g) bs = if is_shaped c bs g then [] else finding_of_first CoveringShape key place bs

-- a path leads to another type: what is found is that
abbrev pub type_findings : Text → Text → Option Group → Option Bound → List Finding
type_findings key place g None = []
type_findings key place g (Some b) =
    told_at CoveringType (Some key) (member_place place b.name) (option_map (λ t. shown (type_text t)) (type_at g (path_at b))) None ∷ []

-- where each path leads to a child of the group: of the types, and else of the group
abbrev pub fit_findings : Text → Text → Option ColumnTree → Option Group → Bool → List Bound → List Finding
fit_findings key place c g single bs =
    if is_some (first_unfitting g single bs) then type_findings key place g (first_unfitting g single bs)
    else shape_findings key place c g bs

abbrev pub group_findings : Text → Text → Option ColumnTree → Option Group → Bool → List Bound → List Finding
group_findings key place c g single bs =
    if is_some (first_astray g bs) then finding_at_bound CoveringColumn key place (first_astray g bs)
    else fit_findings key place c g single bs

-- of the group that the path of the first bound names
abbrev pub path_findings : List ColumnTree → Text → Text → Option ColumnTree → Option Path → List Bound → List Finding
path_findings cs key place c first bs =
    group_findings key place c (group_of cs first) (is_single (type_at (group_of cs first) first)) bs

abbrev pub first_path_findings : List ColumnTree → Text → Text → Option ColumnTree → List Bound → List Finding
first_path_findings cs key place c [] = []
first_path_findings cs key place c (b ∷ bs) = path_findings cs key place c (path_at b) (b ∷ bs)

abbrev pub have_paths : List Bound → Bool
have_paths bs = list_all (λ b. is_some (path_at b)) bs

-- where each bound has a path: of the names, and of where the paths lead
abbrev pub all_findings : List ColumnTree → Text → Text → Option ColumnTree → List Bound → List Finding
all_findings cs key place c bs =
    if have_paths bs then flat_map (name_findings key place) bs ++ first_path_findings cs key place c bs
    else flat_map (bound_findings key place) bs

abbrev pub bbox_findings : List ColumnTree → Text → Text → Json → Option ColumnTree → List Finding
bbox_findings cs key place bbox c = all_findings cs key place c (bounds_of bbox)

-- `bbox` of a covering: an object
abbrev pub found_bbox_findings : List ColumnTree → Text → Text → Option ColumnTree → Option Json → List Finding
found_bbox_findings cs key place c None = found_at Covering (Some key) place None None ∷ []
found_bbox_findings cs key place c (Some bbox) =
    if is_object bbox then bbox_findings cs key place bbox c
    else found_at Covering (Some key) place (Some bbox) None ∷ []

-- `covering`: absent, or an object
abbrev pub found_covering_findings : List ColumnTree → Text → Option ColumnTree → Option Json → List Finding
found_covering_findings cs key c None = []
found_covering_findings cs key c (Some covering) =
    if is_object covering then found_bbox_findings cs key (member_place (part_place key (codes "covering")) (codes "bbox")) c (get (codes "bbox") covering)
    else found_at Covering (Some key) (part_place key (codes "covering")) (Some covering) None ∷ []

-- what is found of the covering of a column with that key, by its member of `columns`
abbrev pub covering_findings : List ColumnTree → Version → Text → Option ColumnTree → Json → List Finding
covering_findings cs version key c j =
    if is_judged version then found_covering_findings cs key c (get (codes "covering") j) else []

-- ---- for private contracts

-- children that are lent, and the first of them
abbrev pub children_list : DeclaredChildren → List ColumnTree
children_list (Fields fs) = map column_of fs.now
children_list (Parts cs) = cs.now

abbrev pub first_and_rest : List ColumnTree → Option (ColumnTree × List ColumnTree)
first_and_rest [] = None
first_and_rest (c ∷ cs) = Some (c, cs)

abbrev pub bound_tree : DeclaredBound → Bound
bound_tree b = record { name = b.name.now; found = option_map (λ v. value_view v.now) b.found }

abbrev pub path_tree : DeclaredPath → Path
path_tree p = record { column = p.column.now; child = p.child.now }

abbrev pub group_tree : DeclaredGroup → Group
group_tree g = record { name = g.name.now; nullable = g.nullable; children = children_list g.children }

-- what stands at a bound was read
abbrev pub IsBoundRead : DeclaredBound → Type 0
IsBoundRead b = IfSome b.found (λ v. IsReadable (value_view v.now))

abbrev pub AreBoundsRead : List DeclaredBound → Type 0
AreBoundsRead [] = ⊤
AreBoundsRead (b ∷ bs) = IsBoundRead b × AreBoundsRead bs
