-- From what a step returned to what a call returned; and laws of what is read.
use Rattle.std.proofs.Common.{◌≡◌, ℕ, ◌+◌, ◌*◌, ◌-◌, ◌<◌, ◌≤◌, Result, Ok, Err, refl, ap, ◌∙◌, arith, suc, List, ℤ, Option, zero, length, MatchResult}
use Rattle.arrow_columns.specs.Types.{ColumnTree}
use Rattle.arrow_ipc.specs.Fault.{◌>>=◌, breaks}
use Rattle.arrow_ipc.specs.Tells.{Fails, ◌>>+◌, gather}
use Rattle.arrow_ipc.specs.declared.fault.IpcFault.{IpcFault}
use Rattle.arrow_ipc.specs.declared.fault.IpcError.{IpcError}
use Rattle.arrow_ipc.specs.Parts.{Own, parts_at}
use Rattle.arrow_ipc.specs.Columns.{put_id, ids_from, put_column, columns_by, finished, priced, column_at}
use Rattle.arrow_ipc.specs.declared.fault.IpcRule.TheVariants.{Depth}
use Rattle.arrow_ipc.specs.Schema.{SchemaTree, schema_tree, head_at, with_columns, schema_at, message_at, footer_at, message_in, schema_of_message, schema_of_footer, Meets, MeetsIn}
use Rattle.arrow_ipc.specs.Denotes.{Denotes, IsStreamOf}
use Rattle.arrow_ipc.specs.declared.fault.IpcError.TheVariants.{OutOfMemory}
use Rattle.arrow_ipc.specs.declared.schema.Schema.{Schema}

-- what a chain of two gave came from both
pub bound : {A B : Type 0} (r : Result A IpcFault) (f : A → Result B IpcFault) (y : B) → (r >>= f) ≡ Ok y → (x : A) × (r ≡ Ok x) × (f x ≡ Ok y)
bound (Err e) f y is = absurd (cc)
bound (Ok x) f y is = (x, refl, is)

-- what fails first fails in all, whatever comes after
first_fails : {A B : Type 0} (step : Result (A × ℕ) IpcFault) (rest : A → Result (B × ℕ) IpcFault) (old : ℕ) (e : IpcError) → Fails step old e → Fails (step >>+ rest) old e
first_fails step rest old e f = grind (arith, bound)

-- ---- what a loop gathers, one element after the other: what is left, after what was taken before

unfoldable pub after : {A : Type 0} → ℕ → Result (A × ℕ) IpcFault → Result (A × ℕ) IpcFault
after taken r = r >>= λ x. Ok (x.0, taken + x.1)

pub begins : {S : Type 0} (put : S → ℕ → Result (S × ℕ) IpcFault) (s : S) (count first : ℕ) → gather put s 0 count ≡ after (first - first) (gather put s 0 (count - 0))
unfolding after
begins put s count first =
    let none : first - first ≡ 0 = omega arith in
    let k : count - 0 ≡ count = omega arith in
    rw (none, k) (grind arith)

module _ {S : Type 0} (put : S → ℕ → Result (S × ℕ) IpcFault) (s : S) (i count first old : ℕ) (all : Result (S × ℕ) IpcFault) (le : old ≤ first) (is : all ≡ after (first - old) (gather put s i (count - i))) where
  turn : i < count → gather put s i (count - i) ≡ (put s i >>+ λ x. gather put x (i + 1) (count - (i + 1)))
  unfolding gather
  turn more = let k : count - i ≡ suc (count - (i + 1)) = omega arith in rw k refl

  taken : (new : ℕ) → new ≤ old → (r : Result (S × ℕ) IpcFault) → after (first - old) (r >>= λ y. Ok (y.0, old - new + y.1)) ≡ after (first - new) r
  unfolding after
  taken new fell (Ok y) = ap (λ (n : ℕ). Ok (y.0, n)) (omega arith)
  taken new fell (Err e) = refl

  pub goes_on : i < count → (t : S) (new : ℕ) → new ≤ old → put s i ≡ Ok (t, old - new) → all ≡ after (first - new) (gather put t (i + 1) (count - (i + 1)))
  goes_on more t new fell one = is ∙ ap (after (first - old)) (turn more ∙ ap (λ r. r >>+ λ x. gather put x (i + 1) (count - (i + 1))) one) ∙ taken new fell (gather put t (i + 1) (count - (i + 1)))

  pub breaks_off : i < count → (e : IpcError) → Fails (put s i) old e → Fails all first e
  unfolding after
  breaks_off more e f = let fails = first_fails (put s i) (λ x. gather put x (i + 1) (count - (i + 1))) old e f in let t = turn more in grind (arith, bound)

  pub is_done : count ≤ i → all ≡ Ok (s, first - old)
  unfolding after gather
  is_done le = let k : count - i ≡ 0 = omega arith in is ∙ rw k (ap (λ (n : ℕ). Ok (s, n)) (omega arith))

pub put_fails : (read : ℕ → Result (ColumnTree × ℕ) IpcFault) (start : ℕ) (cs : List ColumnTree) (i old : ℕ) (e : IpcError) → Fails (read (start + 4 * i)) old e → Fails (put_column read start cs i) old e
put_fails read start cs i old e f = grind arith

-- ---- a column, by what its own table says

module _ (bytes : List ℕ) (at depth : ℕ) where
  pub too_deep : depth ≡ 0 → column_at depth bytes at ≡ breaks Depth at
  unfolding column_at
  too_deep none = rw none refl

  abbrev pub rest : Own → Result (ColumnTree × ℕ) IpcFault
  rest p = columns_by (column_at (depth - 1) bytes) p.children >>+ finished bytes p

  pub steps : 0 < depth → column_at depth bytes at ≡ (priced (parts_at bytes at) >>+ rest)
  unfolding column_at
  steps some = let k : depth ≡ suc (depth - 1) = omega arith in ap (λ d. column_at d bytes at) k

-- ---- the type ids of a union, one after the other

module _ (bytes : List ℕ) (table : ℕ) (written : Option (ℕ × ℕ)) (ids : List ℤ) (i : ℕ) where
  pub next_id : (count : ℕ) → i < count → ids_from bytes table written ids i (count - i) ≡ (put_id bytes table written ids i >>= λ more. ids_from bytes table written more (i + 1) (count - (i + 1)))
  unfolding ids_from
  next_id count more = let k : count - i ≡ suc (count - (i + 1)) = omega arith in rw k refl

  pub all_ids : (count : ℕ) → count ≤ i → ids_from bytes table written ids i (count - i) ≡ Ok ids
  unfolding ids_from
  all_ids count le = let k : count - i ≡ 0 = omega arith in rw k refl

-- ---- laws of what is read: more levels change nothing of what is read with fewer, so a message or footer denotes one schema at most

-- two steps that read as much as two others
both_more : {A B : Type 0} (r s : Result (A × ℕ) IpcFault) (f g : A → Result (B × ℕ) IpcFault) → ((x : A × ℕ) → r ≡ Ok x → s ≡ Ok x) → ((x : A) (y : B × ℕ) → f x ≡ Ok y → g x ≡ Ok y)
    → (v : B × ℕ) → (r >>+ f) ≡ Ok v → (s >>+ g) ≡ Ok v
both_more r s f g one rest v is = grind (arith, bound)

module _ (read more : ℕ → Result (ColumnTree × ℕ) IpcFault) (deeper : (at : ℕ) (v : ColumnTree × ℕ) → read at ≡ Ok v → more at ≡ Ok v) where
  put_more : (start : ℕ) (cs : List ColumnTree) (i : ℕ) (v : List ColumnTree × ℕ) → put_column read start cs i ≡ Ok v → put_column more start cs i ≡ Ok v
  put_more start cs i v is = grind (arith, bound, deeper)

  gather_more : (start : ℕ) (cs : List ColumnTree) (i n : ℕ) (v : List ColumnTree × ℕ) → gather (put_column read start) cs i n ≡ Ok v → gather (put_column more start) cs i n ≡ Ok v
  unfolding gather
  gather_more start cs i zero v is = is
  gather_more start cs i (suc n) v is = both_more _ _ _ _ (put_more start cs i) (λ x. gather_more start x (i + 1) n) v is

  then_more : {A : Type 0} (rest : List ColumnTree → Result (A × ℕ) IpcFault) (w : ℕ × ℕ) (v : A × ℕ) → (columns_by read w >>+ rest) ≡ Ok v → (columns_by more w >>+ rest) ≡ Ok v
  unfolding columns_by
  then_more rest w v is = both_more _ _ rest rest (gather_more w.0 _ 0 w.1) (λ x y e. e) v is

module _ (bytes : List ℕ) where
  column_more : (levels more : ℕ) → levels ≤ more → (at : ℕ) (v : ColumnTree × ℕ) → column_at levels bytes at ≡ Ok v → column_at more bytes at ≡ Ok v
  unfolding column_at
  column_more zero more le at v is = absurd (cc)
  column_more (suc levels) zero le at v is = absurd (omega arith)
  column_more (suc levels) (suc more) le at v is =
      let parts = priced (parts_at bytes at) in
      both_more parts parts _ _ (λ x e. e) (λ p. then_more (column_at levels bytes) (column_at more bytes) (column_more levels more (omega arith)) (finished bytes p) p.children) v is

  placed_more : (place : Result ℕ IpcFault) (levels more : ℕ) → levels ≤ more → (v : SchemaTree × ℕ) → (place >>= schema_at levels bytes) ≡ Ok v → (place >>= schema_at more bytes) ≡ Ok v
  unfolding schema_at
  placed_more (Ok table) levels more le v is =
      let h = bound (head_at bytes table) (λ h. columns_by (column_at levels bytes) h.fields >>+ with_columns bytes h) v is in
      rw h.1 (then_more (column_at levels bytes) (column_at more bytes) (column_more levels more le) (with_columns bytes h.0) h.0.fields v h.2)
  placed_more (Err fault) levels more le v is = absurd (cc)

  pub message_more : (levels more : ℕ) → levels ≤ more → (v : SchemaTree × ℕ) → schema_of_message levels bytes ≡ Ok v → schema_of_message more bytes ≡ Ok v
  unfolding schema_of_message
  message_more = placed_more (message_at bytes)

  pub footer_more : (levels more : ℕ) → levels ≤ more → (v : SchemaTree × ℕ) → schema_of_footer levels bytes ≡ Ok v → schema_of_footer more bytes ≡ Ok v
  unfolding schema_of_footer
  footer_more = placed_more (footer_at bytes)

-- one schema at most is denoted
module _ (read : ℕ → List ℕ → Result (SchemaTree × ℕ) IpcFault) (law : (bytes : List ℕ) (levels more : ℕ) → levels ≤ more → (v : SchemaTree × ℕ) → read levels bytes ≡ Ok v → read more bytes ≡ Ok v) where
  one_schema : (bytes : List ℕ) (s t : SchemaTree) → Denotes read bytes s → Denotes read bytes t → s ≡ t
  one_schema bytes s t a b = grind (arith, law bytes a.0 (a.0 + b.0), law bytes b.0 (a.0 + b.0))

  pub denotes_one : (place : Result (List ℕ) IpcFault) (s t : SchemaTree) → ((bytes : List ℕ) × (place ≡ Ok bytes) × Denotes read bytes s) → ((bytes : List ℕ) × (place ≡ Ok bytes) × Denotes read bytes t) → s ≡ t
  denotes_one place s t a b = grind (arith, one_schema)

-- a schema that is read is the one that is denoted
pub read_is_denoted : (place : Result (List ℕ) IpcFault) (read : ℕ → List ℕ → Result (SchemaTree × ℕ) IpcFault) (levels : ℕ) (s : Schema) → Meets place (read levels) (Ok s)
    → (bytes : List ℕ) × (place ≡ Ok bytes) × Denotes read bytes (schema_tree s)
read_is_denoted place read levels s m = grind arith

-- what is written is read
read_back : (read : List ℕ → Result (SchemaTree × ℕ) IpcFault) (bytes : List ℕ) (s : SchemaTree) (n : ℕ) → n ≤ 8 * length bytes → read bytes ≡ Ok (s, n) → (r : Result Schema IpcError) → MeetsIn read bytes r
    → MatchResult r (λ t. schema_tree t ≡ s) (λ e. e ≡ OutOfMemory)
read_back read bytes s n few is r m = grind arith

pub written_is_read : (levels : ℕ) (stream : List ℕ) (s : SchemaTree) (r : Result Schema IpcError) → IsStreamOf levels stream s → Meets (message_in stream) (schema_of_message levels) r
    → MatchResult r (λ t. schema_tree t ≡ s) (λ e. e ≡ OutOfMemory)
written_is_read levels stream s r w m = read_back (schema_of_message levels) w.0 s w.2.0 w.2.1 w.2.2 r (rw w.1 at m)
