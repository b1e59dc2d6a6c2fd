-- A whole tree of records of columns.
use Rattle.std.proofs.Common.{◌≡◌, ℕ, ◌+◌, ◌≤◌, ◌<◌, ◌^◌, List, [], ◌∷◌}
use Rattle.std.proofs.Common.{◌++◌}
use Rattle.std.proofs.Common.{length, map, Option, Some, None, Result, Ok, refl, sym, ap, ◌∙◌}
use Rattle.std.proofs.Common.{subst, arith, inl, inr}
use Rattle.std.proofs.Common.{get_or, slice_get, ◌⊎◌}
use Rattle.std.specs.Option.{option_map, unwrap_or}
use Rattle.std.proofs.lemmas.List.{length-append}
use Rattle.std.proofs.lemmas.Option.{slice_get-map, slice_get_read}
use Rattle.arrow_values.specs.Tree.{Text}
use Rattle.arrow_columns.specs.Types.{ColumnTree}
use Rattle.arrow_columns.specs.Column.{column_tree}
use Rattle.arrow_columns.specs.Below.{below}
use Rattle.arrow_columns.specs.declared.column.SchemaColumn.{SchemaColumn}
use Rattle.record_wire.specs.Record.{Structure}
use Rattle.record_wire.specs.Write.{bytes_of}
use Rattle.record_wire.specs.Fault.{within}
use Rattle.record_wire.specs.Trees.{whole_at, Adds, inner_count, RefusesWhole}
use Rattle.record_wire.specs.declared.fault.Rule.{Rule}
use Rattle.record_wire.specs.declared.write.WriteError as wire
use Rattle.record_wire.specs.declared.write.WriteError.TheVariants as wires
use Rattle.record_wire.specs.declared.trees.Records.{Records}
use Rattle.record_wire.specs.declared.fault.Fault.{Fault}
use Rattle.record_wire.proofs.Written.{length-bytes_of}
use Rattle.record_columns.specs.Columns.{column_of, columns_of, columns_at, column_at, IsMadeOf}
use Rattle.record_columns.specs.Texts.{texts_in}
use Rattle.record_columns.proofs.Whole.{made_of_whole}
use Rattle.record_writer.specs.Placed.{Placed, at, placed, all_placed, within_type}
use Rattle.record_writer.specs.Formats.{format_in}
use Rattle.record_writer.specs.Texts.{metadata_bytes}
use Rattle.record_writer.specs.Structures.{structure_of, root_of, records_of, room_of}
use Rattle.record_writer.specs.Refusals.{refusal_of, with_index}
use Rattle.record_writer.specs.Writes.{Grown, Holds, Refuses, RefusesColumns}
use Rattle.record_writer.specs.declared.error.Refusal.{Refusal}
use Rattle.record_writer.specs.declared.error.Refusal.TheVariants as refusals
use Rattle.record_writer.specs.declared.error.WriteError.{WriteError}
use Rattle.record_writer.specs.declared.error.WriteError.TheVariants as errors
use Rattle.record_writer.proofs.Grows.{room_append, refused_first, refused_behind}
use Rattle.record_writer.proofs.Grows.{Done, done_refused}
use Rattle.record_writer.proofs.Ones.{formless, wire_refused}
use Rattle.record_writer.proofs.Back.{type_adds, all_add, column_is}

-- ---- what is read of it

pub columns_read : (bytes : List ℕ) (cs : List ColumnTree)
    → whole_at column_of bytes ≡ Ok (root_of cs, cs) → columns_at bytes ≡ Ok cs
unfolding columns_of
columns_read bytes cs is =
    let made = subst (λ (w : Result (Structure × List ColumnTree) Fault).
    IsMadeOf columns_of w (columns_at bytes)) is (made_of_whole columns_of bytes) in
    made.1

pub column_read : (bytes : List ℕ) (c : ColumnTree) (format : Text)
    → format_in c.data_type ≡ Some format
    → texts_in (metadata_bytes c.metadata) ≡ Ok c.metadata
    → whole_at column_of bytes ≡ Ok (structure_of (at 0 c), below c.data_type)
    → column_at bytes ≡ Ok c
column_read bytes c format form texts is =
    let said : format_in c.data_type ≡ Some (structure_of (at 0 c)).format =
    form ∙ ap (λ (o : Option Text). Some (unwrap_or o [])) (sym form) in
    let made = subst (λ (w : Result (Structure × List ColumnTree) Fault).
    IsMadeOf column_of w (column_at bytes)) is (made_of_whole column_of bytes) in
    made.1 ∙ ap (λ (r : Result ColumnTree Rule). within made.0 r) (column_is 0 c said texts)

-- ---- the records of all columns

pub holds_all : (before after : Records) (ps : List Placed) → before.count ≡ 0
    → before.bytes.items ≡ [] → Grown before after ps → Holds after ps
holds_all before after ps none empty g =
    let x = g.count in
    record {
      count = omega (arith, x, none);
      bytes = g.bytes ∙ ap (λ l. l ++ records_of ps) empty;
      each = g.each;
    }

few_placed : (l : ℕ) (cs : List ColumnTree) → length cs ≤ length (all_placed l cs)
few_placed l [] = omega arith
few_placed l (c ∷ cs) =
    let a = length-append (placed l c) (all_placed l cs) in
    let b = length-append (within_type (l + 1) c.data_type) (at l c ∷ []) in
    let rest = few_placed l cs in
    omega (arith, a, b, rest)

pub few_columns : (r : Records) (l : ℕ) (cs : List ColumnTree) → Holds r (all_placed l cs)
    → r.count ≤ 4000000 → length cs ≤ 4000000
few_columns r l cs h few = let x = h.count in let k = few_placed l cs in omega (arith, x, k, few)

pub all_add_here : (r : Records) (l : ℕ) (cs : List ColumnTree) → Holds r (all_placed l cs)
    → Adds column_of r.count r.bytes.items cs l
all_add_here r l cs h =
    let ps = all_placed l cs in
    subst (λ (k : ℕ). Adds column_of k r.bytes.items cs l) (sym h.count)
    (subst (λ (b : List ℕ). Adds column_of (length ps) b cs l) (sym h.bytes) (all_add l cs h.each))

-- ---- what is refused

there : (xs : List SchemaColumn) (i : ℕ) (x : SchemaColumn) → i < length xs → x ≡ get_or xs i x
    → slice_get (map column_tree xs) i ≡ Some (column_tree x)
there xs i x lt is = slice_get-map column_tree xs i
    ∙ ap (option_map column_tree) (slice_get_read xs (length xs) i x refl lt is)

none_before : (n m : ℕ) → (4000000 < 0 + n) ⊎ (2 ^ 28 < m) → (4000000 < 0 + n) ⊎ (2 ^ 28 < 0 + m)
none_before n m (inl many) = inl many
none_before n m (inr large) = inr (omega (arith, large))

pub column_refused : (e : Refusal) (xs : List SchemaColumn) (i : ℕ) (x : SchemaColumn)
    (before now : Records) (left : List Placed) → i < length xs → x ≡ get_or xs i x
    → before.count ≡ 0
    → Done before now (placed 1 (column_tree x) ++ left) (all_placed 1 (map column_tree xs))
    → Refuses e now.count (placed 1 (column_tree x))
    → RefusesColumns (with_index e i) 1 0 0 (map column_tree xs)
column_refused refusals.Format xs i x before now left lt is none d r =
    (column_tree x, there xs i x lt is, r)
column_refused refusals.Nul xs i x before now left lt is none d r =
    (column_tree x, there xs i x lt is, r)
column_refused refusals.TooDeep xs i x before now left lt is none d r =
    (column_tree x, there xs i x lt is, r)
column_refused refusals.TooLarge xs i x before now left lt is none d r =
    let ps = all_placed 1 (map column_tree xs) in
    none_before (length ps) (room_of ps) (subst (λ (n : ℕ). Refuses refusals.TooLarge n ps) none
    (done_refused refusals.TooLarge before now _ left _ d r))
column_refused refusals.OutOfMemory xs i x before now left lt is none d r = tt

pub columns_more : (e : WriteError) (cs : List ColumnTree) → RefusesColumns e 1 0 0 cs
    → RefusesColumns e 1 48 1 cs
columns_more (errors.Column i) cs r = r
columns_more (errors.Nul i) cs r = r
columns_more (errors.TooDeep i) cs r = r
columns_more errors.TooLarge cs (inl many) = inl (omega (arith, many))
columns_more errors.TooLarge cs (inr large) = inr (omega (arith, large))
columns_more errors.OutOfMemory cs r = tt

records_room : (ps : List Placed) → length (records_of ps) ≡ room_of ps
records_room [] = refl
records_room (p ∷ ps) =
    let s = structure_of p in
    let a = length-append (bytes_of s) (records_of ps) in
    let b = length-bytes_of s in
    let rest = records_room ps in
    omega (arith, a, b, rest)

pub root_refused : (e : wire.WriteError) (r : Records) (cs : List ColumnTree)
    → Holds r (all_placed 1 cs) → RefusesWhole e (r.count + 1) r.bytes.items (root_of cs)
    → RefusesColumns (with_index (refusal_of e) 0) 1 48 1 cs
root_refused wires.Nul r cs h refused = absurd (cc refused)
root_refused wires.TooDeep r cs h refused = absurd refused
root_refused wires.TooLarge r cs h (inl many) = let k = h.count in inl (omega (arith, k, many))
root_refused wires.TooLarge r cs h (inr large) =
    let k = ap length h.bytes in
    let n = records_room (all_placed 1 cs) in
    inr (omega (arith, k, n, large))
root_refused wires.OutOfMemory r cs h refused = tt

-- ---- of one column

one_refused : (e : Refusal) (c : ColumnTree) → Refuses e 0 (placed 0 c)
    → RefusesColumns (with_index e 0) 0 8 0 (c ∷ [])
one_refused refusals.Format c r = (c, refl, r)
one_refused refusals.Nul c r = (c, refl, r)
one_refused refusals.TooDeep c r = (c, refl, r)
one_refused refusals.TooLarge c (inl many) =
    let n = length-append (placed 0 c) [] in inl (omega (arith, n, many))
one_refused refusals.TooLarge c (inr large) =
    let n = room_append (placed 0 c) [] in inr (omega (arith, n, large))
one_refused refusals.OutOfMemory c r = tt

pub inner_refused : (e : Refusal) (none : Records) (c : ColumnTree) → none.count ≡ 0
    → Refuses e none.count (within_type 1 c.data_type)
    → RefusesColumns (with_index e 0) 0 8 0 (c ∷ [])
inner_refused e none c start r =
    let ps = within_type 1 c.data_type in
    let one = subst (λ (n : ℕ). Refuses e n ps) start r in
    one_refused e c (refused_first e 0 ps (at 0 c ∷ []) one)

pub own_refused : (e : Refusal) (c : ColumnTree) → Refuses e 0 (at 0 c ∷ [])
    → RefusesColumns (with_index e 0) 0 8 0 (c ∷ [])
own_refused e c r =
    one_refused e c (refused_behind e 0 0 (within_type 1 c.data_type) (at 0 c ∷ []) (omega arith) r)

pub last_refused : (e : wire.WriteError) (r : Records) (c : ColumnTree)
    → Holds r (within_type 1 c.data_type)
    → RefusesWhole e (r.count + 1) r.bytes.items (structure_of (at 0 c))
    → RefusesColumns (with_index (refusal_of e) 0) 0 8 0 (c ∷ [])
last_refused wires.Nul r c h refused =
    own_refused refusals.Nul c (wire_refused wires.Nul (at 0 c) 0 refused)
last_refused wires.TooDeep r c h refused = absurd refused
last_refused wires.TooLarge r c h (inl many) =
    let ps = within_type 1 c.data_type in
    let k = h.count in let n = length-append ps (at 0 c ∷ []) in
    let m = length-append (placed 0 c) [] in
    inl (omega (arith, k, n, m, many))
last_refused wires.TooLarge r c h (inr large) =
    let ps = within_type 1 c.data_type in
    let k = ap length h.bytes in let n = records_room ps in
    let a = room_append ps (at 0 c ∷ []) in let b = room_append (placed 0 c) [] in
    inr (omega (arith, k, n, a, b, large))
last_refused wires.OutOfMemory r c h refused = tt

-- ---- what is read of what is written

-- of a whole tree, its last structure and those that lie right in it
abbrev Reads : Records → List ℕ → Structure → Type 0
Reads r bytes root =
    (vs : List ColumnTree) → Adds column_of r.count r.bytes.items vs 1
    → length vs ≡ inner_count root → root.level ≡ 0 → whole_at column_of bytes ≡ Ok (root, vs)

pub schema_read : (r : Records) (cs : List ColumnTree) (bytes : List ℕ) (root : Structure)
    → Holds r (all_placed 1 cs) → root ≡ root_of cs → Reads r bytes root
    → columns_at bytes ≡ Ok cs
schema_read r cs bytes root h is reads =
    let again = subst (λ (s : Structure). Reads r bytes s) is reads in
    columns_read bytes cs (again cs (all_add_here r 1 cs h) (omega arith) refl)

pub one_read : (r : Records) (c : ColumnTree) (bytes : List ℕ) (root : Structure) (format : Text)
    → Holds r (within_type 1 c.data_type) → format_in c.data_type ≡ Some format
    → texts_in (metadata_bytes c.metadata) ≡ Ok c.metadata → root ≡ structure_of (at 0 c)
    → Reads r bytes root → column_at bytes ≡ Ok c
one_read r c bytes root format h form texts is reads =
    let ps = within_type 1 c.data_type in
    let cs = below c.data_type in
    let adds : Adds column_of r.count r.bytes.items cs 1 =
    subst (λ (k : ℕ). Adds column_of k r.bytes.items cs 1) (sym h.count)
    (subst (λ (b : List ℕ). Adds column_of (length ps) b cs 1) (sym h.bytes)
    (type_adds 1 c.data_type format form h.each)) in
    let again = subst (λ (s : Structure). Reads r bytes s) is reads in
    column_read bytes c format form texts (again cs adds (omega arith) refl)

pub formless_placed : (n l : ℕ) (c : ColumnTree) → format_in c.data_type ≡ None
    → Refuses refusals.Format n (placed l c)
formless_placed n l c is =
    refused_behind refusals.Format n n (within_type (l + 1) c.data_type) (at l c ∷ []) (omega arith)
    (formless (at l c) n is)
