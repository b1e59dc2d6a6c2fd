-- The blocks of texts, entries, columns, schemas and messages, the tables of types, and vectors of blocks: how they are made and walked, one after the other.
use Rattle.std.proofs.Common.{◌≡◌, ℕ, ◌+◌, ◌-◌, ◌^◌, ◌<◌, true, ◌++◌, ◌∷◌, [], List, length, Ok, refl, sym, ap, ◌∙◌, arith, append_assoc, suc, ◌≤◌, Bool, false, ◌==◌, if◌then◌else◌, take, drop, append-nil, pos, ◌&&◌, not, map, Option, Some, None, Result, nat_lt, ◌*◌, ◌%◌, ℤ, negsuc, subst, String, Global, string_bytes, string_cmp, Ordering, Less, Greater, Vec, zero, ◌⊎◌, inl, inr, get_or}
use Rattle.std.specs.Str.{is_utf8}
use Rattle.std.proofs.lemmas.List.{length-append, take_at, drop_all, map-append}
use mir.Val.{bool_byte}
use Rattle.arrow_values.specs.Tree.{Text, Metadata, null, plain, fixed_size_list, struct, FieldTree, union, MemberTrees, no_members, member, Members, Tree, FieldTrees, no_fields, field, fields_depth, members_depth}
use Rattle.arrow_columns.specs.Column.{column_tree}
use Rattle.arrow_columns.specs.Types.{TypeTree, ColumnTree, known}
use Rattle.arrow_ipc.specs.Wire.{utf8_at, integer_at, target_at, vector_at, slot_at}
use Rattle.arrow_ipc.specs.Slots.{table_in, integer_in, flag_in, led_by, text_in, vector_in}
use Rattle.arrow_ipc.specs.Columns.{entry_in, texts_at, finished, columns_by, column_at, ids_at, typed, is_new, put_id, ids_from, entry_at, put_next, put_column}
use Rattle.arrow_ipc.specs.Blocks.{Holds, word, rounded, offsets, text_block, text_read, entry_block, entry_read, IsType, table_block, column_block, column_in, columns_read, texts_read, order_number, schema_block, message_block, stream_block, number, truth, place_of_number, place_of_truth, type_block, linked, mode_number, id_words, union_block, lengths, vector_block, child_in}
use Rattle.arrow_ipc.specs.Parts.{tag_in, index_in, parts_in, parts_at, zone_or_ids}
use Rattle.arrow_ipc.specs.Schema.{SchemaTree, head_at, schema_at, message_at, cut, message_in, schema_of_message}
use Rattle.arrow_ipc.specs.Writes.{Streams, RefusesColumns, GivesColumns}
use Rattle.arrow_ipc.specs.declared.schema.Endianness.{Endianness}
use Rattle.arrow_ipc.specs.declared.schema.Endianness.TheVariants.{Little, Big}
use Rattle.arrow_ipc.proofs.Told.{bound}
use Rattle.std.proofs.lemmas.Bool.{lt-ltb, le-leb, ltb-true, eq-eqb, and_parts}
use Rattle.arrow_ipc.proofs.Linked.{text_is, is_some, u8_is, u32_is, target_is, length_linked, flat, tail, low, length_table, stands, table_holds, u16_is, by_place, slot_place, is_vector, AreLinked, AreWhole, whole_lengths, are_linked}
use Rattle.std.specs.Int.{w8, w16, w32, from_le_bytes, byte_at}
use Rattle.std.specs.List.{push, zip, AllZip, AllByRecursion}
use Rattle.std.specs.Option.{option_map_or, option_map}
use Rattle.arrow_values.specs.View.{member_trees, field_list, field_trees_of_list, texts_of, field_trees, listed_fields}
use Rattle.arrow_values.specs.Union.{has}
use Rattle.arrow_values.specs.declared.tree.UnionMode.{UnionMode}
use Rattle.arrow_columns.specs.Nested.{all_known, known_fields}
use Rattle.arrow_columns.specs.declared.nested.ListForm.TheVariants.{Fixed}
use Rattle.arrow_ipc.specs.Fault.{◌>>=◌}
use Rattle.arrow_ipc.specs.Kinds.{int_at, number_at, kind_at}
use Rattle.arrow_kinds.specs.Types.{type_of}
use Rattle.arrow_ipc.specs.Shapes.{Shape, column_of, member_ids, are_ids, member_fields, nested_columns, shape_of, tag_of, bytes_of, has_table}
use Rattle.arrow_ipc.specs.declared.fault.IpcFault.{IpcFault}
use Rattle.arrow_kinds.specs.declared.kind.Kind.{Kind}
use Rattle.arrow_ipc.specs.declared.wire.Table.{Table as Opened}
use Rattle.arrow_kinds.specs.declared.kind.Kind.TheVariants.{Plain, List as ListOf, Struct, Union}
use Rattle.arrow_values.specs.declared.tree.DataType.TheVariants.{Null}
use Rattle.arrow_ipc.specs.Rooms.{is_sound, table_room, Refuses, Makes, Gives, are_sound, members_sound, fields_room, members_room, nested_room, column_room, texts_room, room_of, columns_room, IsUnfit, IsUnfitType, AreUnfit}
use Rattle.std.specs.Ordering.{ordering_reverse, match_ordering}
use Rattle.std.specs.Cmp.{IsTotalOrder}
use Rattle.std.specs.List.Sorted.{IsStrictlySortedBy}
use Rattle.std.specs.Map.{keys_of}
use Rattle.std.specs.BTreeMap.{insert_entry}
use Rattle.std.specs.String.{string_cmp, string_cmp_total}
use Rattle.arrow_values.specs.Texts.{put_text}
use Rattle.arrow_ipc.specs.Tells.{gather}
use Rattle.arrow_ipc.specs.declared.write.WriteError.{WriteError}
use Rattle.arrow_ipc.specs.declared.write.WriteError.TheVariants.{Column as Unfit}
use Rattle.std.proofs.lemmas.Option.{slice_get-map, slice_get_read}
use Rattle.std.specs.Borrow.{Bor}
use Rattle.arrow_columns.specs.declared.column.SchemaColumn.{SchemaColumn}

pub length_text : (text : Text) → length (text_block text) ≡ rounded (5 + length text)
length_text text = grind (arith, length_linked, length-append)

pub text_holds : (text : Text) → is_utf8 text ≡ true → length text < 2 ^ 31 → Holds text_read (text_block text) text
unfolding offsets
text_holds text valid small =
    let size = length_text text in
    record {
      whole = omega (arith, size);
      reads = λ bytes at lies.
          let whole = lies.whole in
          let after = tail bytes at (length text) [] (text ++ 0 ∷ []) lies in
          let is = text_is bytes at text after (omega (arith, whole)) (omega (arith, small)) valid
          (flat bytes at (length text) [] (text ++ 0 ∷ []) lies ∙ ap (λ l. word (length text) ++ l) (append_assoc text (0 ∷ []) after)) in
          (length text, omega (arith, size), rw is refl);
    }

pub is_text : (bytes : List ℕ) (at : ℕ) (text : Text) (n : ℕ) → text_read bytes at ≡ Ok (text, n) → (utf8_at bytes at ≡ Ok text) × (n ≡ length text)
is_text bytes at text n is = grind arith

pub entry_holds : (kb tb : List ℕ) (key text : Text) → Holds text_read kb key → Holds text_read tb text → length (entry_block kb tb) < 2 ^ 32 → Holds entry_read (entry_block kb tb) (key, text)
unfolding entry_in led_by table_in
entry_holds kb tb key text hk ht small =
    table_holds (4 ∷ 8 ∷ []) [] (kb ∷ tb ∷ []) refl (omega arith) (omega arith, (omega arith, tt)) (hk.whole, (ht.whole, tt)) small entry_read (key, text) (λ bytes at s.
    let l = s.links in
    let k = hk.reads bytes l.0.to l.0.lies in
    let t = ht.reads bytes l.1.0.to l.1.0.lies in
    let key_is = is_text bytes l.0.to key k.0 k.2 in
    let text_is = is_text bytes l.1.0.to text t.0 t.2 in
    (8 + length key + length text, omega (arith, k.1, t.1, key_is.1, text_is.1), rw (s.is_open, s.slot 0, l.0.led, key_is.0, s.slot 1, l.1.0.led, text_is.0) refl))

-- ---- a column's block: its own table, then its name, its type, its children and its metadata

-- a column is what its table says
pub column_by_table : (depth : ℕ) (bytes : List ℕ) (at table : ℕ) (v : ColumnTree × ℕ) → target_at bytes at ≡ Ok table → column_in depth bytes table ≡ Ok v → column_at (suc depth) bytes at ≡ Ok v
unfolding column_at parts_at column_in
column_by_table depth bytes at table v led is = rw led is

abbrev pub slots : List ℕ
slots = 4 ∷ 20 ∷ 21 ∷ 8 ∷ 0 ∷ 12 ∷ 16 ∷ []

pub column_holds : (levels : ℕ) (nb tb cb mb : List ℕ) (nullable : Bool) (tag : ℕ) (name : Text) (cs : List ColumnTree) (t : TypeTree) (ms : Metadata)
    → Holds text_read nb name → IsType tag tb cs t → Holds (columns_read levels) cb cs → Holds texts_read mb ms → length (column_block nb tb cb mb nullable tag) < 2 ^ 32
    → Holds (column_in levels) (column_block nb tb cb mb nullable tag) (record { name = name; data_type = t; nullable = nullable; metadata = ms })
unfolding column_in finished parts_in text_in flag_in integer_in tag_in led_by table_in index_in vector_in
column_holds levels nb tb cb mb nullable tag name cs t ms named typing children texts small =
    table_holds slots (bool_byte nullable ∷ tag ∷ 0 ∷ 0 ∷ []) (nb ∷ tb ∷ cb ∷ mb ∷ []) refl (omega arith) (omega arith, (omega arith, (omega arith, (omega arith, (omega arith, (omega arith, (omega arith, tt)))))))
    (named.whole, (typing.whole, (children.whole, (texts.whole, tt)))) small (column_in levels) (record { name = name; data_type = t; nullable = nullable; metadata = ms }) (λ bytes at s.
    let l = s.links in
    let first : integer_at bytes (at + 20) w8 ≡ Ok (bool_byte nullable) = u8_is bytes (at + 20) (bool_byte nullable) _ (s.number 0) in
    let second : integer_at bytes (at + 21) w8 ≡ Ok tag = u8_is bytes (at + 21) tag _ (s.number 1) in
    let flag : (if bool_byte nullable == 0 then false else true) ≡ nullable = grind arith in
    let n = named.reads bytes l.0.to l.0.lies in
    let r = typing.reads bytes l.1.0.to l.1.0.lies in
    let c = children.reads bytes l.1.1.0.to l.1.1.0.lies in
    let m = texts.reads bytes l.1.1.1.0.to l.1.1.1.0.lies in
    let nv = is_text bytes l.0.to name n.0 n.2 in
    let cv = bound (vector_at bytes l.1.1.0.to) (columns_by (column_at levels bytes)) (cs, c.0) c.2 in
    let mv = bound (vector_at bytes l.1.1.1.0.to) (texts_at bytes) (ms, m.0) m.2 in (
      16 + length name + 0 + (c.0 + m.0),
      omega (arith, n.1, nv.1, c.1, m.1),
      rw (s.is_open, s.slot 0, l.0.led, nv.0, s.slot 1, first, flag, s.slot 2, second, is_some tag typing.some, le-leb tag 26 typing.least)
          (rw (s.slot 3, l.1.0.led, r.is_open, r.is_first, r.is_kind, r.is_own, s.slot 4, s.slot 5, l.1.1.0.led, cv.1, s.slot 6, l.1.1.1.0.led, mv.1, cv.2, r.is_type at, mv.2) refl),
    ))

-- ---- the block of a schema, and of the message that holds it

schema_holds : (levels : ℕ) (cb mb : List ℕ) (order : Endianness) (cs : List ColumnTree) (ms : Metadata) → Holds (columns_read levels) cb cs → Holds texts_read mb ms → length (schema_block cb mb order) < 2 ^ 32
    → Holds (schema_at levels) (schema_block cb mb order) (record { columns = cs; metadata = ms; endianness = order })
unfolding schema_at head_at integer_in led_by table_in vector_in
schema_holds levels cb mb order cs ms columns texts small =
    table_holds (12 ∷ 4 ∷ 8 ∷ []) (order_number order ∷ 0 ∷ 0 ∷ 0 ∷ []) (cb ∷ mb ∷ []) refl (omega arith) (omega arith, (omega arith, (omega arith, tt))) (columns.whole, (texts.whole, tt)) small
    (schema_at levels) (record { columns = cs; metadata = ms; endianness = order }) (λ bytes at s.
    let l = s.links in
    let whole = s.whole in
    let ordered : (if order_number order == 0 then Little else Big) ≡ order = grind arith in
    let order_is = low bytes (at + 12) (order_number order) _ (omega (arith, whole)) (s.number 0) in
    let c = columns.reads bytes l.0.to l.0.lies in
    let m = texts.reads bytes l.1.0.to l.1.0.lies in
    let cv = bound (vector_at bytes l.0.to) (columns_by (column_at levels bytes)) (cs, c.0) c.2 in
    let mv = bound (vector_at bytes l.1.0.to) (texts_at bytes) (ms, m.0) m.2 in
    (c.0 + m.0, omega (arith, c.1, m.1), rw (s.is_open, s.slot 0, order_is, s.slot 1, l.0.led, cv.1, s.slot 2, l.1.0.led, mv.1, ordered, cv.2, mv.2) refl))

pub length_schema : (columns texts : List ℕ) (order : ℕ) → length (table_block (12 ∷ 4 ∷ 8 ∷ []) (order ∷ 0 ∷ 0 ∷ 0 ∷ []) (columns ∷ texts ∷ [])) ≡ 32 + length columns + length texts
length_schema columns texts order = let size = length_table (12 ∷ 4 ∷ 8 ∷ []) (order ∷ 0 ∷ 0 ∷ 0 ∷ []) (columns ∷ texts ∷ []) in omega (arith, size)

pub length_message : (schema : List ℕ) → length (table_block (8 ∷ 10 ∷ 4 ∷ []) (4 ∷ 0 ∷ 1 ∷ 0 ∷ []) (schema ∷ [])) ≡ 24 + length schema
length_message schema = let size = length_table (8 ∷ 10 ∷ 4 ∷ []) (4 ∷ 0 ∷ 1 ∷ 0 ∷ []) (schema ∷ []) in omega (arith, size)

message_reads : (levels : ℕ) (block : List ℕ) (s : SchemaTree) → Holds (schema_at levels) block s → length (message_block block) < 2 ^ 32
    → (n : ℕ) × (n ≤ length block) × (schema_of_message levels (message_block block) ≡ Ok (s, n))
unfolding schema_of_message message_at integer_in led_by table_in
message_reads levels block s h small =
    let bytes = message_block block in
    let numbers : List ℕ = 4 ∷ 0 ∷ 1 ∷ 0 ∷ [] in
    let table = table_block (8 ∷ 10 ∷ 4 ∷ []) numbers (block ∷ []) in
    let root : target_at bytes 0 ≡ Ok 8 = target_is bytes 0 8 (drop 4 bytes) refl (omega arith) (omega arith) (omega arith) refl in
    let m = stands (8 ∷ 10 ∷ 4 ∷ []) numbers (block ∷ []) refl (omega arith) (omega arith, (omega arith, (omega arith, tt))) (h.whole, tt) (omega (arith, small)) bytes 8 (record { after = []; is = sym (append-nil table); whole = refl }) in
    let got = h.reads bytes m.links.0.to m.links.0.lies in
    (got.0, got.1, rw (root, m.is_open, m.slot 0, low bytes 16 4 _ refl (m.number 0), m.slot 1, u8_is bytes 18 1 _ (m.number 2), m.slot 3, m.slot 2, m.links.0.led) got.2)

-- ---- the stream

in_stream : (message : List ℕ) → 0 < length message → length message < 2 ^ 32 - 1 → message_in (stream_block message) ≡ Ok message
unfolding message_in cut
in_stream message some small =
    let bytes = word 0xffff_ffff ++ (word (length message) ++ message) in
    let long : length bytes ≡ 8 + length message = omega arith in
    let first : integer_at bytes 0 w32 ≡ Ok 0xffff_ffff = u32_is bytes 0 0xffff_ffff (drop 4 bytes) refl (omega arith) refl in
    let size : integer_at bytes 4 w32 ≡ Ok (length message) = u32_is bytes 4 (length message) message refl (omega (arith, small)) refl in
    let all : take (length message) message ≡ message = ap (take (length message)) (sym (append-nil message)) ∙ take_at message [] (length message) refl in
    rw (first, size, lt-ltb 0 (length message) some, le-leb (8 + length message) (length bytes) (omega (arith, long)), all) refl

pub stream_holds : (levels : ℕ) (cb mb : List ℕ) (order : Endianness) → length (message_block (schema_block cb mb order)) < 2 ^ 31 → Streams levels cb mb order (stream_block (message_block (schema_block cb mb order)))
unfolding Streams
stream_holds levels cb mb order small cs ms columns texts =
    let block = schema_block cb mb order in
    let size = length_message block in
    let got = message_reads levels block (record { columns = cs; metadata = ms; endianness = order }) (schema_holds levels cb mb order cs ms columns texts (omega (arith, size, small))) (omega (arith, small)) in
    (message_block block, in_stream (message_block block) (omega (arith, size)) (omega (arith, small)), (got.0, omega (arith, got.1, size), got.2))

pub stream_built : (s a b c d e message block : List ℕ) (x : ℕ) → s ≡ [] → a ≡ s ++ word 0xffff_ffff → b ≡ a ++ word x → c ≡ b ++ (8 ∷ 0 ∷ 0 ∷ 0 ∷ 0 ∷ 0 ∷ 0 ∷ 0 ∷ []) → d ≡ c ++ e → e ≡ message
    → message ≡ table_block (8 ∷ 10 ∷ 4 ∷ []) (4 ∷ 0 ∷ 1 ∷ 0 ∷ []) (block ∷ []) → x ≡ 8 + length message → d ≡ stream_block (message_block block)
stream_built s a b c d e message block x s1 a2 b3 c4 d5 e6 same many =
    let size : length (message_block block) ≡ 8 + length message = rw same (omega arith) in
    rw (d5, c4, b3, a2, s1, e6, many, ← size, same) refl

-- ---- the tables of types

pub length_type : (n : Option ℕ) (b : Option Bool) → length (type_block n b) ≡ 24
length_type n b = let size = length_table (place_of_number n ∷ place_of_truth b ∷ []) (word (number n) ++ (truth b ∷ 0 ∷ 0 ∷ 0 ∷ [])) [] in omega (arith, size)

-- what is read after all that stands in the table
abbrev after_all : List ℕ → ℕ → Opened → Result Kind IpcFault → Result Kind IpcFault
after_all bytes at table k = integer_at bytes (at + 4) w32 >>= λ w. integer_at bytes (at + 4) w16 >>= λ h. integer_at bytes (at + 8) w8 >>= λ b. slot_at bytes table 0 >>= λ s. k

-- a type with no time zone and no type ids, by its kind
is_type : (tag : ℕ) (n : Option ℕ) (b : Option Bool) (cs : List ColumnTree) (t : TypeTree) (kind : Kind) → 0 < tag → tag ≤ 26 → (tag == 10) ≡ false → (tag == 14) ≡ false → number n < 2 ^ 32
    → ((bytes : List ℕ) (at : ℕ) (table : Opened) → ((i : ℕ) → slot_at bytes table i ≡ Ok (slot_place at (place_of_number n ∷ place_of_truth b ∷ []) i)) → integer_at bytes (at + 4) w32 ≡ Ok (number n)
    → integer_at bytes (at + 4) w16 ≡ Ok (from_le_bytes w16 (byte_at 0 (number n) ∷ byte_at 1 (number n) ∷ [])) → integer_at bytes (at + 8) w8 ≡ Ok (truth b)
    → (k : Result Kind IpcFault) → k ≡ after_all bytes at table (kind_at bytes tag table) → k ≡ Ok kind)
    → ((bytes : List ℕ) (place : ℕ) → typed bytes place kind [] None cs ≡ Ok t) → IsType tag (type_block n b) cs t
unfolding zone_or_ids
is_type tag n b cs t kind some least no_zone no_ids small kind_is type_is =
    let size = length_type n b in
    record {
      whole = omega (arith, size);
      some = some;
      least = least;
      reads = λ bytes at lies.
          let s = stands (place_of_number n ∷ place_of_truth b ∷ []) (word (number n) ++ (truth b ∷ 0 ∷ 0 ∷ 0 ∷ [])) [] refl (omega arith) (grind arith, (grind arith, tt)) tt (omega (arith, size)) bytes at lies in
          let whole = lies.whole in
          let all = u32_is bytes (at + 4) (number n) _ (omega (arith, whole)) small (s.number 0) in
          let half = u16_is bytes (at + 4) (byte_at 0 (number n)) (byte_at 1 (number n)) _ (omega (arith, whole)) (s.number 0) in
          let byte = u8_is bytes (at + 8) (truth b) _ (s.number 4) in
          record {
            table = _;
            first = _;
            kind = kind;
            ids = None;
            is_open = s.is_open;
            is_first = s.slot 0;
            is_kind = kind_is bytes at _ s.slot all half byte (kind_at bytes tag _) (rw (all, half, byte, s.slot 0) refl);
            is_own = rw (no_zone, no_ids) refl;
            is_type = type_is bytes;
          };
    }

-- fields are columns of data types
all_are_known : (fs : List FieldTree) → all_known (map column_of fs) ≡ true
all_are_known [] = refl
all_are_known (f ∷ fs) = all_are_known fs

are_fields : (fs : List FieldTree) → known_fields (map column_of fs) ≡ fs
are_fields [] = refl
are_fields (f ∷ fs) = ap (λ l. f ∷ l) (are_fields fs)

-- ---- a union's table, with its type ids

length_ids : (ids : List ℤ) → length (id_words ids) ≡ 4 * length ids
length_ids [] = refl
length_ids (i ∷ is) = grind (arith, length-append, length_ids is)

module _ (bytes : List ℕ) (table start count : ℕ) where
  walk : (done left : List ℤ) (i at : ℕ) (rest : List ℕ) → drop at bytes ≡ id_words left ++ rest → at ≡ start + 4 * i → at % 4 ≡ 0 → are_ids done left ≡ true
      → ids_from bytes table (Some (start, count)) done i (length left) ≡ Ok (done ++ left)
  unfolding ids_from put_id
  walk done [] i at rest is place even good = ap (λ (l : List ℤ). Ok l) (sym (append-nil done))
  walk done (negsuc n ∷ left) i at rest is place even good = absurd (cc)
  walk done (pos n ∷ left) i at rest is place even good =
      let new = and_parts (is_new n done) (are_ids (done ++ pos n ∷ []) left) good in
      let small = ltb-true n 128 (and_parts (nat_lt n 128) (not (has (pos n) done)) new.0).0 in
      let cut : drop at bytes ≡ word n ++ (id_words left ++ rest) = is ∙ append_assoc (word n) (id_words left) rest in
      let here : integer_at bytes (start + 4 * i) w32 ≡ Ok n = subst (λ p. integer_at bytes p w32 ≡ Ok n) place (u32_is bytes at n (id_words left ++ rest) even (omega (arith, small)) cut) in
      let next = walk (done ++ pos n ∷ []) left (i + 1) (at + 4) rest (by_place bytes at (word n ++ (id_words left ++ rest)) 4 cut) (omega (arith, place)) (omega (arith, even)) new.1 in
      rw (here, new.0) next ∙ ap (λ (l : List ℤ). Ok l) (append_assoc done (pos n ∷ []) left)

members_back : (ms : MemberTrees) → member_trees (zip (member_ids ms) (member_fields ms)) ≡ ms
members_back no_members = refl
members_back (member i n t b m ms) = ap (member i n t b m) (members_back ms)

count_columns : (ms : MemberTrees) → length (map column_of (member_fields ms)) ≡ length (member_ids ms)
count_columns no_members = refl
count_columns (member i n t b m ms) = let rest = count_columns ms in omega (arith, rest)

pub length_vector_of : (ids : List ℤ) → length (linked (length ids) [] (id_words ids)) ≡ rounded (4 + 4 * length ids)
length_vector_of ids = grind (arith, length_linked, length_ids)

pub length_union : (mode : UnionMode) (ids : List ℤ) → length (union_block mode ids) ≡ 24 + rounded (4 + 4 * length ids)
length_union mode ids =
    let size = length_table (8 ∷ 4 ∷ []) (mode_number mode ∷ 0 ∷ 0 ∷ 0 ∷ []) (linked (length ids) [] (id_words ids) ∷ []) in
    let vector = length_vector_of ids in
    omega (arith, size, vector)

pub union_type : (mode : UnionMode) (ms : MemberTrees) → are_ids [] (member_ids ms) ≡ true → length (union_block mode (member_ids ms)) < 2 ^ 31 → IsType 14 (union_block mode (member_ids ms)) (map column_of (member_fields ms)) (known (union ms mode))
unfolding kind_at number_at integer_in led_by vector_in zone_or_ids ids_at type_of offsets
union_type mode ms good few =
    let ids = member_ids ms in
    let size = length_union mode ids in
    let long = length_vector_of ids in
    let many = length_ids ids in
    record {
      whole = omega (arith, size);
      some = omega arith;
      least = omega arith;
      reads = λ bytes at lies.
          let s = stands (8 ∷ 4 ∷ []) (mode_number mode ∷ 0 ∷ 0 ∷ 0 ∷ []) (linked (length ids) [] (id_words ids) ∷ []) refl (omega arith) (omega arith, (omega arith, tt)) (omega (arith, long), tt) (omega (arith, few)) bytes at lies in
          let whole = lies.whole in
          let l = s.links in
          let mode_is = low bytes (at + 8) (mode_number mode) (0 ∷ 0 ∷ s.more) (omega (arith, whole)) (s.number 0) in
          let fourth = l.0.lies.whole in
          let vector = is_vector bytes l.0.to (length ids) [] (id_words ids) l.0.lies (omega (arith, many)) (omega (arith, few, size, long)) in
          let after = tail bytes l.0.to (length ids) [] (id_words ids) l.0.lies in
          let start = by_place bytes l.0.to (word (length ids) ++ (id_words ids ++ after)) 4 (flat bytes l.0.to (length ids) [] (id_words ids) l.0.lies) in
          let read : (place : ℕ) → ids_from bytes place (Some (l.0.to + 4, length ids)) [] 0 (length ids) ≡ Ok ids = λ place. walk bytes place (l.0.to + 4) (length ids) [] ids 0 (l.0.to + 4) after start (omega arith) (omega (arith, fourth)) good in
          record {
            table = _;
            first = Some (at + 8);
            kind = Union mode;
            ids = Some (l.0.to + 4, length ids);
            is_open = s.is_open;
            is_first = s.slot 0;
            is_kind = rw (s.slot 0, mode_is) (grind arith);
            is_own = rw (s.slot 1, l.0.led, vector) refl;
            is_type = λ place. rw (count_columns ms, eq-eqb (length ids) (length ids) refl, read place, all_are_known (member_fields ms), are_fields (member_fields ms), members_back ms) refl;
          };
    }

-- as it is written
pub count_ids : (ms : Members) → length (member_ids (member_trees ms)) ≡ length ms
count_ids [] = refl
count_ids (m ∷ ms) = let rest = count_ids ms in omega (arith, rest)

pub ids_written : (words : List ℕ) (ms : Members) (i : ℕ) → length ms ≤ i → words ++ id_words (member_ids (member_trees (drop i ms))) ≡ words
ids_written words ms i le = rw (drop_all i ms le) (append-nil words)

-- ---- a type's table and its columns, by its shape

-- a type that has a table
pub table_is : (t : Tree) → has_table t ≡ true → length (bytes_of t) < 2 ^ 31 → IsType (tag_of t) (bytes_of t) (nested_columns t) (known t)
unfolding kind_at number_at int_at type_of integer_in flag_in
table_is (union ms mode) sound small = union_type mode ms sound small
table_is (struct fs) sound small =
    is_type 13 None None _ _ Struct (omega arith) (omega arith) refl refl (omega arith) (λ bytes at table o w h b k e. simp (o, w, h, b) at e) (λ bytes table. rw (all_are_known (field_list fs), are_fields (field_list fs), field_trees_of_list fs) refl)
table_is (fixed_size_list n t b m (negsuc s)) sound small = absurd (cc)
table_is (fixed_size_list n t b m (pos s)) sound small =
    let lt : nat_lt s (2 ^ 31) ≡ true = grind arith in
    let few = ltb-true s (2 ^ 31) lt in
    rw lt (is_type 16 (Some s) None _ _ (ListOf (Fixed (pos s))) (omega arith) (omega arith) refl refl (omega (arith, few)) (λ bytes at table o w h b k e. simp (o, w, h, b, lt) at e) (λ bytes table. refl))
table_is (plain null) sound small = is_type 1 None None _ _ (Plain Null) (omega arith) (omega arith) refl refl (omega arith) (λ bytes at table o w h b k e. simp (o, w, h, b) at e) (λ bytes table. refl)
table_is t sound small =
    is_type (tag_of t) (option_map_or (λ s. s.1) (shape_of t) None) (option_map_or (λ s. s.2) (shape_of t) None) (nested_columns t) (known t) _ (omega arith) (omega arith) refl refl (omega arith)
    (λ bytes at table o w h b k e. simp (o, w, h, b) at e) (λ bytes table. refl)

shape_room : (s : Option Shape) → length (option_map_or (λ s. type_block s.1 s.2) s []) ≤ 24
shape_room None = omega arith
shape_room (Some s) = omega (arith, length_type s.1 s.2)

pub table_size : (t : Tree) → length (bytes_of t) ≤ table_room t
table_size (union ms mode) = let size = length_union mode (member_ids ms) in omega (arith, size)
table_size t = shape_room (shape_of t)

pub no_table : (t : Tree) → has_table t ≡ false → is_sound t ≡ false
no_table t none = grind arith

-- ---- a block that was made, or why not

-- the room is no less, and what cannot be held the same
pub refuses_more : (e : WriteError) (P Q : Type 0) (n m : ℕ) → (P → Q) → n ≤ m → Refuses e P n → Refuses e Q m
refuses_more (Unfit i) P Q n m f le r = f r
refuses_more _ P Q n m f le r = grind arith

-- it holds what it should, in the room that it has
pub gives : (r : Result (Vec ℕ Global) WriteError) (block : List ℕ) (P : List ℕ → Type 0) (unfit : Type 0) (room : ℕ) → Makes block r → (length block < 2 ^ 31 → P block) → length block ≤ room → Gives P unfit room r
gives r block P unfit room made holds le = grind (arith, refuses_more)

-- ---- one block after the other

zip_push : {A : Type 0} (P : List ℕ → A → Type 0) (bs : List (List ℕ)) (xs : List A) (b : List ℕ) (x : A) → AllZip P bs xs → P b x → AllZip P (bs ++ b ∷ []) (xs ++ x ∷ [])
zip_push P [] [] b x all one = (one, tt)
zip_push P [] (y ∷ ys) b x all one = absurd all
zip_push P (c ∷ cs) [] b x all one = absurd all
zip_push P (c ∷ cs) (y ∷ ys) b x all one = (all.0, zip_push P cs ys b x all.1 one)

lengths_push : (bs : List (List ℕ)) (b : List ℕ) → lengths (bs ++ b ∷ []) ≡ lengths bs + length b
lengths_push [] b = omega arith
lengths_push (c ∷ cs) b = let rest = lengths_push cs b in omega (arith, rest)

-- the blocks of those that come before the ones left, which have room
pub record Made {A : Type 0} (P : List ℕ → A → Type 0) (rooms : List A → ℕ) (blocks : List (List ℕ)) (left all : List A) : Type 0 where
  pub done : List A
  pub parts : done ++ left ≡ all
  pub each : AllZip P blocks done
  pub fits : lengths blocks + 4 * length blocks + rooms left ≤ rooms all

module _ {A : Type 0} (P : List ℕ → A → Type 0) (rooms : List A → ℕ) where
  pub made_more : (blocks : List (List ℕ)) (b : List ℕ) (x : A) (left all : List A) → Made P rooms blocks (x ∷ left) all → P b x → 4 + length b + rooms left ≤ rooms (x ∷ left)
      → Made P rooms (blocks ++ b ∷ []) left all
  made_more blocks b x left all m one room =
      let sum = lengths_push blocks b in
      let many : length (blocks ++ b ∷ []) ≡ length blocks + 1 = length-append blocks (b ∷ []) in
      let before = m.fits in
      record {
        done = m.done ++ x ∷ [];
        parts = append_assoc m.done (x ∷ []) left ∙ m.parts;
        each = zip_push P blocks m.done b x m.each one;
        fits = omega (arith, sum, many, before, room);
      }

  -- the vector of all of them
  pub made_gives : {B : Type 0} (read : List ℕ → ℕ → Result (B × ℕ) IpcFault) (a : B) (unfit : Type 0) (blocks : List (List ℕ)) (all : List A) → rooms [] ≡ 12 → Made P rooms blocks [] all
      → (AllZip P blocks all → length (vector_block blocks) < 2 ^ 32 → Holds read (vector_block blocks) a) → (r : Result (Vec ℕ Global) WriteError) → Makes (vector_block blocks) r
      → Gives (λ b. Holds read b a) unfit (rooms all) r
  made_gives read a unfit blocks all none m holds r made =
      let fits = m.fits in
      let size = length_linked (length blocks) blocks [] in
      gives r (vector_block blocks) (λ b. Holds read b a) unfit (rooms all) made
      (λ small. holds (subst (λ xs. AllZip P blocks xs) (sym (append-nil m.done) ∙ m.parts) m.each) (omega (arith, small))) (omega (arith, fits, size, none))

-- ---- the walk along a vector of tables

-- what is joined from a list, one after the other
abbrev pub joined : {S E : Type 0} → (S → E → S) → S → List E → S
joined join s [] = s
joined join s (x ∷ xs) = joined join (join s x) xs

module _ {S E : Type 0} (read : List ℕ → ℕ → Result (E × ℕ) IpcFault) (join : S → E → S) where
  are_whole : (bs : List (List ℕ)) (xs : List E) → AllZip (Holds read) bs xs → AreWhole bs
  are_whole [] xs h = tt
  are_whole (b ∷ bs) [] h = absurd h
  are_whole (b ∷ bs) (x ∷ xs) h = (h.0.whole, are_whole bs xs h.1)

  module _ (bytes : List ℕ) (at start : ℕ) (put : S → ℕ → Result (S × ℕ) IpcFault)
      (step : (s : S) (i t : ℕ) (v : E × ℕ) → target_at bytes (start + 4 * i) ≡ Ok t → read bytes t ≡ Ok v → put s i ≡ Ok (join s v.0, v.1)) where
    walked : (bs : List (List ℕ)) (xs : List E) → AllZip (Holds read) bs xs → (s : S) (i near : ℕ) → AreLinked bytes at near bs → at + near ≡ start + 4 * i
        → (n : ℕ) × (n ≤ lengths bs) × (gather put s i (length bs) ≡ Ok (joined join s xs, n))
    unfolding gather
    walked [] [] h s i near l place = (0, omega arith, refl)
    walked [] (x ∷ xs) h s i near l place = absurd h
    walked (b ∷ bs) [] h s i near l place = absurd h
    walked (b ∷ bs) (x ∷ xs) h s i near l place =
        let one = h.0.reads bytes l.0.to l.0.lies in
        let led : target_at bytes (start + 4 * i) ≡ Ok l.0.to = subst (λ p. target_at bytes p ≡ Ok l.0.to) place l.0.led in
        let first : put s i ≡ Ok (join s x, one.0) = step s i l.0.to (x, one.0) led one.2 in
        let next = walked bs xs h.1 (join s x) (i + 1) (near + 4) l.1 (omega (arith, place)) in
        (one.0 + next.0, omega (arith, one.1, next.1), rw (first, next.2) refl)

  -- the whole vector
  pub vector_holds : (put : List ℕ → ℕ → S → ℕ → Result (S × ℕ) IpcFault) (s : S)
      → ((bytes : List ℕ) (start : ℕ) (s : S) (i t : ℕ) (v : E × ℕ) → target_at bytes (start + 4 * i) ≡ Ok t → read bytes t ≡ Ok v → put bytes start s i ≡ Ok (join s v.0, v.1))
      → (bs : List (List ℕ)) (xs : List E) → AllZip (Holds read) bs xs → length (vector_block bs) < 2 ^ 32
      → Holds (λ bytes at. vector_at bytes at >>= λ v. gather (put bytes v.0) s 0 v.1) (vector_block bs) (joined join s xs)
  vector_holds put s step bs xs all small =
      let size = length_linked (length bs) bs [] in
      let wholes = are_whole bs xs all in
      let whole = whole_lengths bs wholes in
      record {
        whole = omega (arith, size, whole);
        reads = λ bytes at lies.
            let counted : vector_at bytes at ≡ Ok (at + 4, length bs) = is_vector bytes at (length bs) bs [] lies (omega arith) small in
            let got = walked bytes at (at + 4) (put bytes (at + 4)) (step bytes (at + 4)) bs xs all s 0 4 (are_linked bytes at (length bs) bs [] lies wholes small) (omega arith) in
            (got.0, omega (arith, got.1, size), rw counted got.2);
      }

-- ---- metadata

module _ {K : Type 0} {cmp : K → K → Ordering} (total : IsTotalOrder cmp) where
  below_middle : (first : K) (ks : List K) (k : K) (more : List K) → AllByRecursion (λ y. cmp first y ≡ Less) (ks ++ k ∷ more) → cmp first k ≡ Less
  below_middle first [] k more h = h.0
  below_middle first (x ∷ ks) k more h = below_middle first ks k more h.1

  insert_last : {X : Type 0} (es : List (K × X)) (k : K) (v : X) (more : List K) → IsStrictlySortedBy cmp (keys_of es ++ k ∷ more) → insert_entry cmp es k v ≡ es ++ ((k, v) ∷ [])
  unfolding IsStrictlySortedBy
  insert_last [] k v more h = refl
  insert_last (e ∷ es) k v more h =
      let above : cmp k e.0 ≡ Greater = total.antisymm k e.0 ∙ ap ordering_reverse (below_middle e.0 (keys_of es) k more h.0) in
      ap (λ r. match_ordering r ((k, v) ∷ e ∷ es) ((e.0, v) ∷ es) (e ∷ insert_entry cmp es k v)) above ∙ ap (λ l. e ∷ l) (insert_last es k v more h.1)

abbrev pub Texts : Type 0
Texts = List (String Global × String Global)

abbrev put : Metadata → Text × Text → Metadata
put m e = put_text e.0 e.1 m

-- the texts of a map after an insert
moved : (r : Ordering) (a b c : Texts) → texts_of (match_ordering r a b c) ≡ match_ordering r (texts_of a) (texts_of b) (texts_of c)
moved r a b c = grind arith

pub texts_inserted : (es : Texts) (k v : String Global) → texts_of (insert_entry string_cmp es k v) ≡ put_text (string_bytes k) (string_bytes v) (texts_of es)
texts_inserted [] k v = refl
texts_inserted (e ∷ es) k v = moved (string_cmp k e.0) _ _ _ ∙ rw (texts_inserted es k v)

put_last : (done : Texts) (k t : String Global) (left : Texts) → IsStrictlySortedBy string_cmp (keys_of (done ++ (k, t) ∷ left))
    → put_text (string_bytes k) (string_bytes t) (texts_of done) ≡ texts_of (done ++ (k, t) ∷ [])
put_last done k t left h =
    let sorted = subst (IsStrictlySortedBy string_cmp) (map-append (λ (e : String Global × String Global). e.0) done ((k, t) ∷ left)) h in
    sym (texts_inserted done k t) ∙ ap texts_of (insert_last string_cmp_total done k t (keys_of left) sorted)

joined_texts : (done left : Texts) → IsStrictlySortedBy string_cmp (keys_of (done ++ left)) → joined put (texts_of done) (texts_of left) ≡ texts_of (done ++ left)
joined_texts done [] h = ap texts_of (sym (append-nil done))
joined_texts done (e ∷ left) h =
    let all : done ++ (e ∷ left) ≡ (done ++ e ∷ []) ++ left = sym (append_assoc done (e ∷ []) left) in
    ap (λ (m : Metadata). joined put m (texts_of left)) (put_last done e.0 e.1 left h) ∙ joined_texts (done ++ e ∷ []) left (subst (λ (l : Texts). IsStrictlySortedBy string_cmp (keys_of l)) all h) ∙ ap texts_of (sym all)

entry_step : (bytes : List ℕ) (start : ℕ) (s : Metadata) (i t : ℕ) (v : (Text × Text) × ℕ) → target_at bytes (start + 4 * i) ≡ Ok t → entry_read bytes t ≡ Ok v
    → put_next bytes start s i ≡ Ok (put s v.0, v.1)
unfolding entry_at
entry_step bytes start s i t v led is = grind (arith, bound)

pub texts_hold : (es : Texts) → IsStrictlySortedBy string_cmp (keys_of es) → (bs : List (List ℕ)) → AllZip (Holds entry_read) bs (texts_of es) → length (vector_block bs) < 2 ^ 32
    → Holds texts_read (vector_block bs) (texts_of es)
unfolding texts_at
texts_hold es sorted bs all small =
    let h = vector_holds entry_read put put_next [] entry_step bs (texts_of es) all small in
    subst (λ (m : Metadata). Holds texts_read (vector_block bs) m) (joined_texts [] es sorted) h

-- ---- columns

joined_columns : (done left : List ColumnTree) → joined push done left ≡ done ++ left
joined_columns done [] = sym (append-nil done)
joined_columns done (c ∷ left) = joined_columns (done ++ c ∷ []) left ∙ append_assoc done (c ∷ []) left

column_step : (levels : ℕ) (bytes : List ℕ) (start : ℕ) (s : List ColumnTree) (i t : ℕ) (v : ColumnTree × ℕ) → target_at bytes (start + 4 * i) ≡ Ok t → child_in levels bytes t ≡ Ok v
    → put_column (column_at levels bytes) start s i ≡ Ok (push s v.0, v.1)
column_step levels bytes start s i t v led is = grind (arith, column_by_table)

columns_hold : (levels : ℕ) (bs : List (List ℕ)) (cs : List ColumnTree) → AllZip (Holds (child_in levels)) bs cs → length (vector_block bs) < 2 ^ 32
    → Holds (columns_read levels) (vector_block bs) cs
unfolding columns_by
columns_hold levels bs cs all small =
    let h = vector_holds (child_in levels) push (λ bytes. put_column (column_at levels bytes)) [] (column_step levels) bs cs all small in
    subst (λ (l : List ColumnTree). Holds (columns_read levels) (vector_block bs) l) (joined_columns [] cs) h

-- the vector of all of them, where none is left
pub columns_made : (levels : ℕ) (unfit : Type 0) (blocks : List (List ℕ)) (left cs : List ColumnTree) → Made (Holds (child_in levels)) columns_room blocks left cs → left ≡ []
    → (r : Result (Vec ℕ Global) WriteError) → Makes (vector_block blocks) r → Gives (λ b. Holds (columns_read levels) b cs) unfit (columns_room cs) r
columns_made levels unfit blocks left cs m none r made = made_gives (Holds (child_in levels)) columns_room (columns_read levels) cs unfit blocks cs refl (rw none at m) (columns_hold levels blocks cs) r made

-- ---- the columns that a type nests, one block after the other

abbrev pub lent : List (Bor FieldTree) → List ColumnTree
lent fs = map (λ f. column_of f.now) fs

-- what refuses one of the columns refuses them all
pub each_refused : {A : Type 0} (f : A → ColumnTree) (levels : ℕ) (xs : List A) (i : ℕ) (x : A) → i < length xs → x ≡ get_or xs i x → (e : WriteError) → Refuses e (IsUnfitType levels (f x).data_type) (room_of (f x))
    → Refuses e (AreUnfit levels (map f xs)) (columns_room (map f xs))
each_refused f levels [] i x lt is e r = absurd (omega arith)
each_refused f levels (y ∷ ys) zero x lt is e r = refuses_more e (IsUnfitType levels (f y).data_type) _ (room_of (f y)) _ inl (omega arith) (rw is at r)
each_refused f levels (y ∷ ys) (suc i) x lt is e r = refuses_more e (AreUnfit levels (map f ys)) _ (columns_room (map f ys)) _ inr (omega arith) (each_refused f levels ys i x (omega arith) is e r)

-- ---- what a type nests

fields_room_is : (fs : FieldTrees) → columns_room (map column_of (field_list fs)) ≡ fields_room fs
fields_room_is no_fields = refl
fields_room_is (field n t b m fs) = let rest = fields_room_is fs in omega (arith, rest)

members_room_is : (ms : MemberTrees) → columns_room (map column_of (member_fields ms)) ≡ members_room ms
members_room_is no_members = refl
members_room_is (member i n t b m ms) = let rest = members_room_is ms in omega (arith, rest)

pub nested_room_is : (t : Tree) → columns_room (nested_columns t) ≡ nested_room t
nested_room_is (struct fs) = fields_room_is fs
nested_room_is (union ms mode) = members_room_is ms
nested_room_is _ = omega arith

either : (a b : Bool) → (a ≡ false) ⊎ (b ≡ false) → (a && b) ≡ false
either a b e = grind arith

fields_unfit : (levels : ℕ) (fs : FieldTrees) → AreUnfit levels (map column_of (field_list fs)) → (are_sound fs ≡ false) ⊎ (levels < fields_depth fs)
fields_unfit levels no_fields u = absurd u
fields_unfit levels (field n t b m fs) u = grind (arith, either, fields_unfit levels fs)

members_unfit : (levels : ℕ) (ms : MemberTrees) → AreUnfit levels (map column_of (member_fields ms)) → (members_sound ms ≡ false) ⊎ (levels < members_depth ms)
members_unfit levels no_members u = absurd u
members_unfit levels (member i n t b m ms) u = grind (arith, either, members_unfit levels ms)

nested_unfit : (levels : ℕ) (t : Tree) → 0 < levels → AreUnfit (levels - 1) (nested_columns t) → IsUnfit levels t
nested_unfit levels (plain p) some u = absurd u
nested_unfit levels (struct fs) some u = grind (arith, fields_unfit (levels - 1) fs)
nested_unfit levels (union ms mode) some u = grind (arith, either, members_unfit (levels - 1) ms)
nested_unfit levels _ some u = grind (arith, either)

pub nested_refused : (e : WriteError) (levels : ℕ) (t : Tree) (cs : List ColumnTree) (room : ℕ) → cs ≡ nested_columns t → 0 < levels → nested_room t ≤ room → Refuses e (AreUnfit (levels - 1) cs) (columns_room cs)
    → Refuses e (IsUnfit levels t) room
nested_refused e levels t cs room same some le r =
    let size = nested_room_is t in
    refuses_more e (AreUnfit (levels - 1) (nested_columns t)) (IsUnfit levels t) (columns_room (nested_columns t)) room (nested_unfit levels t some) (omega (arith, size)) (rw same at r)

pub fields_lent : (lends : List (Bor FieldTree)) (all fs : List FieldTree) (i : ℕ) → lent lends ++ map column_of (drop i all) ≡ map column_of all → length all ≤ i → all ≡ fs
    → lent lends ≡ map column_of (field_list (field_trees fs))
fields_lent lends all fs i so_far le same =
    sym (append-nil (lent lends)) ∙ ap (λ l. lent lends ++ map column_of l) (sym (drop_all i all le)) ∙ so_far ∙ ap (map column_of) (same ∙ sym (listed_fields fs))

members_listed : (ms : Members) → map (λ m. column_of m.1) ms ≡ map column_of (member_fields (member_trees ms))
members_listed [] = refl
members_listed (m ∷ ms) = ap (λ cs. column_of m.1 ∷ cs) (members_listed ms)

pub members_lent : (lends : List (Bor FieldTree)) (all ms : Members) (i : ℕ) → lent lends ++ map (λ m. column_of m.1) (drop i all) ≡ map (λ m. column_of m.1) all → length all ≤ i → all ≡ ms
    → lent lends ≡ map column_of (member_fields (member_trees ms))
members_lent lends all ms i so_far le same =
    sym (append-nil (lent lends)) ∙ ap (λ (l : Members). lent lends ++ map (λ m. column_of m.1) l) (sym (drop_all i all le)) ∙ so_far ∙ ap (map (λ m. column_of m.1)) same ∙ members_listed ms

-- ---- a column, given the blocks of its name, its type, what its type nests and its metadata

pub data_gives : (levels : ℕ) (t : Tree) (name : Text) (nullable : Bool) (texts : Metadata) (nb tb cb mb : List ℕ) (tag : ℕ) (cs : List ColumnTree) → 0 < levels → cs ≡ nested_columns t
    → Holds text_read nb name × (length nb ≤ 12 + length name) → Holds texts_read mb texts × (length mb ≤ texts_room texts) → Holds (columns_read (levels - 1)) cb cs × (length cb ≤ columns_room cs)
    → tag ≡ tag_of t → (has_table t ≡ true) × ((tb ≡ bytes_of t) × (length (bytes_of t) < 2 ^ 31))
    → (r : Result (Vec ℕ Global) WriteError) → Makes (table_block slots (bool_byte nullable ∷ tag ∷ 0 ∷ 0 ∷ []) (nb ∷ tb ∷ cb ∷ mb ∷ [])) r
    → Gives (λ b. Holds (child_in levels) b (record { name = name; data_type = known t; nullable = nullable; metadata = texts })) (IsUnfit levels t) (column_room name t texts) r
data_gives zero t name nullable texts nb tb cb mb tag cs some same named written nested tagged table r made = absurd (omega arith)
data_gives (suc levels) t name nullable texts nb tb cb mb tag cs some same named written nested tagged table r made =
    let size = length_table slots (bool_byte nullable ∷ tag ∷ 0 ∷ 0 ∷ []) (nb ∷ tb ∷ cb ∷ mb ∷ []) in
    let room = table_size t in
    let most = nested_room_is t in
    let below : suc levels - 1 ≡ levels = omega arith in
    gives r (column_block nb tb cb mb nullable tag) _ _ _ made (λ small.
    let typing : IsType tag tb (nested_columns t) (known t) = rw (tagged, table.1.0) (table_is t table.0 table.1.1) in
    column_holds levels nb tb cb mb nullable tag name (nested_columns t) (known t) texts named.0 typing (rw (below, same) at nested.0) written.0 (omega (arith, small)))
    (omega (arith, size, room, most, named.1, written.1, ap length table.1.0, nested.1, ap columns_room same))

-- ---- the columns of a schema

pub column_refused : (levels : ℕ) (xs : List SchemaColumn) (i : ℕ) (x : SchemaColumn) (room : ℕ) → i < length xs → x ≡ get_or xs i x → IsUnfitType levels (column_tree x).data_type → RefusesColumns levels (Unfit i) (map column_tree xs) room
column_refused levels xs i x room lt is u = (column_tree x, slice_get-map column_tree xs i ∙ ap (option_map column_tree) (slice_get_read xs (length xs) i x refl lt is), u)

pub columns_give : (levels : ℕ) (cs : List ColumnTree) (r : Result (Vec ℕ Global) WriteError) → Gives (λ b. Holds (columns_read levels) b cs) ⊥ (columns_room cs) r → GivesColumns levels cs r
columns_give levels cs r g = grind arith
