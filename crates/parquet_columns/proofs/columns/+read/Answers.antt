use Rattle.std.proofs.Common.{arith, ◌≡◌, ℕ, ◌++◌, ◌∷◌, [], List, Ok, Err, map, Vec, Global, refl, sym, ◌∙◌}
use Rattle.std.proofs.lemmas.List.{map_push}
use Rattle.parquet_footer.specs.Element.{Element, element}
use Rattle.parquet_columns.specs.declared.nodes.Node.{Node}
use Rattle.parquet_columns.specs.Nodes.{NodeTree, shape_tree, node_tree}
use Rattle.parquet_columns.specs.Columns.{head_tree, head_at, finished, nodes_by, node_at}
use Rattle.parquet_columns.specs.declared.fault.ColumnsError.TheVariants.{Broken}
use Rattle.parquet_columns.proofs.Walks.{said, first_fails, too_deep, no_head, nodes_fail, finish_fails, is_node, fails, goes_on, is_done}
use Rattle.parquet_columns.proofs.columns.+read.Goals as goal

-- what the two calls return, as their contracts see it
abbrev one : Node × ℕ → NodeTree × ℕ
one x = (node_tree x.0, x.1)

abbrev several : Vec Node Global × ℕ → List NodeTree × ℕ
several x = (map node_tree x.0.items, x.1)

pub read_node-returns-then-levels-eq0 : goal.read_node-returns-then-levels-eq0
read_node-returns-then-levels-eq0 t c = let e = too_deep c.args.types (map element c.args.elements.now) c.args.at c.args.levels c.if-levels-eq0.true in e ∙ grind arith

pub read_node-returns-in_err-head : goal.read_node-returns-in_err-head
read_node-returns-in_err-head t c =
    let es : List Element = map element c.args.elements.now in
    let led : head_at es c.args.at ≡ Err c.in_err-head.field-0.0 = grind arith in
    said one (node_at c.args.types c.args.levels es c.args.at) c.from_residual.result (Broken c.in_err-head.field-0.0) (grind arith) (no_head c.args.types es c.args.at c.args.levels _ (omega arith) led)

pub read_node-returns-in_err-below : goal.read_node-returns-in_err-below
read_node-returns-in_err-below t c =
    let es : List Element = map element c.args.elements.now in
    let led : head_at es c.args.at ≡ Ok (head_tree c.in_ok-head.head) = sym c.in_ok-head.ensures.is in
    said one (node_at c.args.types c.args.levels es c.args.at) c.from_residual-in_err-below.result c.in_err-below.field-0.0 (grind arith)
    (nodes_fail c.args.types es c.args.at (head_tree c.in_ok-head.head) led c.args.levels (omega arith) _ c.children_of-count.ensures several one _ c.in_err-below.ensures)

pub read_node-returns-in_err-shape : goal.read_node-returns-in_err-shape
unfolding finished
read_node-returns-in_err-shape t c =
    let es : List Element = map element c.args.elements.now in
    let led : head_at es c.args.at ≡ Ok (head_tree c.in_ok-head.head) = sym c.in_ok-head.ensures.is in
    said one (node_at c.args.types c.args.levels es c.args.at) c.from_residual-in_err-shape.result c.in_err-shape.field-0.0 (grind arith)
    (finish_fails c.args.types es c.args.at (head_tree c.in_ok-head.head) led c.args.levels (omega arith) _ c.children_of-count.ensures _ c.in_ok-below.ensures node_tree one _ (first_fails shape_tree node_tree _ _ _ c.in_err-shape.ensures))

pub read_node-returns : goal.read_node-returns
unfolding finished
read_node-returns t c =
    let es : List Element = map element c.args.elements.now in
    let led : head_at es c.args.at ≡ Ok (head_tree c.in_ok-head.head) = sym c.in_ok-head.ensures.is in
    is_node c.args.types es c.args.at (head_tree c.in_ok-head.head) led c.args.levels (omega arith) _ c.children_of-count.ensures _ c.in_ok-below.ensures _ (rw c.in_ok-shape.ensures refl)

pub read_nodes-returns-in_err-node : goal.read_nodes-returns-in_err-node
read_nodes-returns-in_err-node t c =
    let l = c.nodes in
    let read = node_at c.args.types c.args.levels (map element c.args.elements.now) in
    said several (nodes_by read c.args.start c.args.count) c.from_residual.result c.in_err-node.field-0.0 (grind arith)
    (fails read (map node_tree l.found.items) l.at l.i c.args.count _ l.invariant c.nodes-test.true one several _ c.in_err-node.ensures)

pub read_nodes-nodes-preserved : goal.read_nodes-nodes-preserved
read_nodes-nodes-preserved t c =
    let l = c.nodes in
    let x = c.in_ok-node.node in
    let e : map node_tree c.push.new.self.items ≡ map node_tree l.found.items ++ node_tree x ∷ [] = rw c.in_ok-push.ensures.items (map_push _ l.found.items x) in
    rw e (goes_on (node_at c.args.types c.args.levels (map element c.args.elements.now)) (map node_tree l.found.items) l.at l.i c.args.count _ l.invariant c.nodes-test.true (node_tree x, c.in_ok-node.next) c.in_ok-node.ensures)

pub read_nodes-returns : goal.read_nodes-returns
read_nodes-returns t c =
    let l = c.nodes in
    is_done (node_at c.args.types c.args.levels (map element c.args.elements.now)) (map node_tree l.found.items) l.at l.i c.args.count _ l.invariant c.nodes-test.false
