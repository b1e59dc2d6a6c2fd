-- The columns of a schema, whose elements stand depth first, the root first.
use Rattle.std.specs.Prelude.{ℕ, zero, suc, ◌+◌, Bool, false, List, [], ◌∷◌, map, flat_map, string_bytes, Option, Some, None, Result, Ok, Err, nat_lt, if◌then◌else◌}
use Rattle.std.specs.List.{slice_get}
use Rattle.arrow_values.specs.Tree.{Text}
use Rattle.std.specs.Str.Lossy.{utf8_lossy}
use Rattle.arrow_columns.specs.Column.{column_tree}
use Rattle.arrow_columns.specs.Types.{ColumnTree}
use Rattle.parquet_footer.specs.declared.element.PhysicalType.{PhysicalType}
use Rattle.parquet_footer.specs.declared.element.Repetition.{Repetition}
use Rattle.parquet_footer.specs.declared.element.PhysicalType.TheVariants.{Unknown as UnknownType}
use Rattle.parquet_footer.specs.declared.element.Repetition.TheVariants.{Unknown as UnknownRepetition}
use Rattle.parquet_footer.specs.Element.{Element, element}
use Rattle.parquet_columns.specs.declared.annotation.Annotation.{Annotation}
use Rattle.parquet_columns.specs.declared.annotation.Annotation.TheVariants.{Plain, List as ListGroup, Map as MapGroup}
use Rattle.parquet_columns.specs.declared.columns.Kind.{Kind}
use Rattle.parquet_columns.specs.declared.columns.Kind.TheVariants.{Leaf, Group}
use Rattle.parquet_columns.specs.declared.columns.Head.{Head}
use Rattle.parquet_columns.specs.declared.columns.ColumnFault.{ColumnFault}
use Rattle.parquet_columns.specs.declared.columns.ElementColumns.{ElementColumns}
use Rattle.parquet_columns.specs.declared.fault.ElementFault.{ElementFault}
use Rattle.parquet_columns.specs.declared.fault.SchemaRule.TheVariants.{Root, Children, Element as NoElement, Physical as NoType, Repetition as NoRepetition, Depth}
use Rattle.parquet_columns.specs.Fault.{breaks, ◌>>=◌}
use Rattle.parquet_columns.specs.Meaning.{meaning_of}
use Rattle.parquet_columns.specs.declared.leaf.LeafTypes.{LeafTypes}
use Rattle.parquet_columns.specs.declared.leaf.LeafTypes.TheVariants.{Meant, Stored}
use Rattle.parquet_columns.specs.Leaf.{length_at, digits_at, type_by}
use Rattle.parquet_columns.specs.Annotation.{annotation_of}
use Rattle.parquet_columns.specs.Nodes.{ShapeTree, typed, NodeTree, group_shape, list_shape, map_shape, column_of}
use Rattle.parquet_columns.specs.Unreadable.{unreadable_column}
use Rattle.parquet_columns.specs.Places.{Child, children_from, children_of_root}

-- an element is a leaf, which says how its values are stored, or a group, which says how many children it has
abbrev pub has_children : Option ℕ → Bool
has_children None = false
has_children (Some n) = nat_lt 0 n

abbrev pub group_at : ℕ → Option ℕ → Result Kind ElementFault
group_at at None = breaks NoElement at
group_at at (Some n) = Ok (Group n)

abbrev pub kind_at : ℕ → Option PhysicalType → Option ℕ → Result Kind ElementFault
kind_at at (Some (UnknownType n)) count = breaks NoType at
kind_at at (Some physical) count = if has_children count then breaks NoElement at else Ok (Leaf physical)
kind_at at None count = group_at at count

abbrev pub repetition_at : ℕ → Option Repetition → Result Repetition ElementFault
repetition_at at None = breaks NoRepetition at
repetition_at at (Some (UnknownRepetition n)) = breaks NoRepetition at
repetition_at at (Some repetition) = Ok repetition

abbrev pub children_of : Kind → ℕ
children_of (Leaf physical) = 0
children_of (Group n) = n

-- the element with that index, which is there, and what it says
abbrev pub element_at : ℕ → Option Element → Result Element ElementFault
element_at at None = breaks Children at
element_at at (Some e) = Ok e

pub record HeadTree : Type 0 where
  pub element : Element
  pub kind : Kind
  pub repetition : Repetition

abbrev pub head_tree : Head → HeadTree
head_tree h = record { element = element h.element.now; kind = h.kind; repetition = h.repetition }

unfoldable pub head_at : List Element → ℕ → Result HeadTree ElementFault
head_at es at = do
  e ← element_at at (slice_get es at)
  kind ← kind_at at e.storage.physical_type e.num_children
  repetition ← repetition_at at e.storage.repetition
  Ok (record { element = e; kind = kind; repetition = repetition })

-- what an element stands for, by the elements below it, with leaves of those types
unfoldable pub leaf_shape : LeafTypes → ℕ → PhysicalType → Element → Result ShapeTree ElementFault
leaf_shape types at physical e = do
  length ← length_at at physical e.storage.type_length
  digits ← digits_at at physical e
  Ok (typed (type_by types physical (meaning_of e) length digits))

abbrev pub group_by : Annotation → ℕ → Text → List NodeTree → Result ShapeTree ElementFault
group_by Plain at name ns = Ok (group_shape ns)
group_by ListGroup at name ns = list_shape at name ns
group_by MapGroup at name ns = map_shape at ns

abbrev pub shape_by : LeafTypes → Kind → ℕ → Element → List NodeTree → Result ShapeTree ElementFault
shape_by types (Leaf physical) at e ns = leaf_shape types at physical e
shape_by types (Group n) at e ns = group_by (annotation_of e) at e.storage.name.bytes ns

abbrev pub shape_at : LeafTypes → ℕ → HeadTree → List NodeTree → Result ShapeTree ElementFault
shape_at types at h ns = shape_by types h.kind at h.element ns

unfoldable pub finished : LeafTypes → ℕ → HeadTree → List NodeTree → Result NodeTree ElementFault
finished types at h ns = do
  shape ← shape_at types at h ns
  Ok (record { name = h.element.storage.name.bytes; repetition = h.repetition; shape = shape })

-- so many elements, each with all that is below it, from an index on; and the index behind them
unfoldable pub nodes_by : (ℕ → Result (NodeTree × ℕ) ElementFault) → ℕ → ℕ → Result (List NodeTree × ℕ) ElementFault
nodes_by read at zero = Ok ([], at)
nodes_by read at (suc n) = do
  first ← read at
  others ← nodes_by read first.1 n
  Ok (first.0 ∷ others.0, others.1)

-- the element with that index and all that is below it, no more than so many levels deep; and the index behind it
unfoldable pub node_at : LeafTypes → ℕ → List Element → ℕ → Result (NodeTree × ℕ) ElementFault
node_at types zero es at = breaks Depth at
node_at types (suc levels) es at = do
  h ← head_at es at
  below ← nodes_by (node_at types levels es) (at + 1) (children_of h.kind)
  n ← finished types at h below.0
  Ok (n, below.1)

abbrev pub root_count : Option ℕ → Result ℕ ElementFault
root_count None = breaks Root 0
root_count (Some n) = Ok n

-- the rule that is broken in a column, which has a name, and whose element has that place
pub record FaultTree : Type 0 where
  pub column : Text
  pub at : ℕ
  pub fault : ElementFault

-- the columns of a schema, and the rules that are broken in them
pub record ColumnTrees : Type 0 where
  pub columns : List ColumnTree
  pub faults : List FaultTree

abbrev pub fault_tree : ColumnFault → FaultTree
fault_tree f = record { column = string_bytes f.column; at = f.at; fault = f.fault }

abbrev pub column_trees : ElementColumns → ColumnTrees
column_trees made = record { columns = map column_tree made.columns.items; faults = map fault_tree made.faults.items }

-- each child of the root is read for itself, with all that is below it
abbrev pub read_column : Text → Result (NodeTree × ℕ) ElementFault → ColumnTree
read_column name (Ok n) = column_of n.0
read_column name (Err fault) = unreadable_column name

abbrev pub read_fault : Child → Result (NodeTree × ℕ) ElementFault → List FaultTree
read_fault c (Ok n) = []
read_fault c (Err fault) = record { column = utf8_lossy c.name; at = c.at; fault = fault } ∷ []

abbrev pub column_at : LeafTypes → List Element → Child → ColumnTree
column_at types es c = read_column c.name (node_at types 64 es c.at)

abbrev pub faults_at : List Element → Child → List FaultTree
faults_at es c = read_fault c (node_at Meant 64 es c.at)

abbrev pub columns_at : List Element → List Child → ColumnTrees
columns_at es cs = record { columns = map (column_at Meant es) cs; faults = flat_map (faults_at es) cs }

-- the first element is the root, which says how many columns there are; its children use up the elements
abbrev pub columns_below : List Element → Option ℕ → List Element → Result ColumnTrees ElementFault
columns_below all count es = do
  n ← root_count count
  cs ← children_of_root n es
  Ok (columns_at all cs)

unfoldable pub columns_of : List Element → Result ColumnTrees ElementFault
columns_of [] = breaks Root 0
columns_of (root ∷ es) = columns_below (root ∷ es) root.num_children es

-- the columns of the children of the root, with the types that stored fields are compared with
abbrev pub compared_columns : List Element → List ColumnTree
compared_columns [] = []
compared_columns (root ∷ es) = map (column_at Stored (root ∷ es)) (children_from 1 0 es)
