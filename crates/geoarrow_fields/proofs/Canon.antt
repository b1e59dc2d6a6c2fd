-- The canonical field of a field that a line denotes: its line is read back as that field, which is its own canonical form and reads as
-- the same type. And an answer holds no line feed.
use Rattle.std.proofs.Common.{◌≡◌, ◌≢◌, inl, inr, ◌+◌, ◌≤◌, ◌==◌, ◌∷◌, [], ◌++◌, List, ℕ, suc, length, All, Bool, true, false, not, Option, Some, None, IfSome, option_map, unwrap_or, codes, refl, sym, ap, ap₂, ◌∙◌, subst, append_assoc, true≢false, arith}
use Rattle.std.specs.Prelude.{MatchOption}
use Rattle.std.specs.List.{list_all}
use Rattle.std.specs.Str.{chars}
use Rattle.std.proofs.lemmas.Bool.{eq-eqb}
use Rattle.std.proofs.lemmas.List.Elements.{All-append, All-weaker}
use Rattle.std.proofs.lemmas.List.Sums.{AllPass-from_list_all}
use Rattle.serde_json.specs.Find.{get, get_member}
use Rattle.geoarrow_meta.specs.Read.{edges_text, crs_type_text, present, some_has_float}
use Rattle.geoarrow_meta.specs.Written.{of_parts, written, type_unless, IsReadBack}
use Rattle.geoarrow_schema.specs.declared.types.GeoArrowType.TheVariants as types
use Rattle.geoarrow_schema.specs.Types.{with_metadata}
use Rattle.geoarrow_fields.proofs.Terms.{is_utf8, Data, depth, member, members_depth, no_members, null, Members, max_depth, read, compact_text, has_float, FieldTree, Text, Texts, extension_metadata, extension_name, metadata_key, Kind, coord_type_of, dimension_of, name_of, layout, Edges, CrsType, Metadata, DenotesMetadata, NestsWithin, ReadsAs, meta_value, normal, printed, GeoArrowType, kind_of, meta_of, Reads, IsCanonical, rewritten, ColumnFault, Arrow, InvalidGeoArrow, Column, Faulty, Geometry, OfInferred, Other, IsColumnOf, is_held, members_are_held, held_parts, field_of_line, line_of_field, parts_value, texts_value, type_value, value_of_field, HasLineForm, Command, Canon, Columns, Infer, Read, Done, Bytes, IsLine, line_feed, lines_of, Answers, AnswersField, AnswersNoType, column_text, coord_type_word, dimension_word, error_text, inferred_text, kind_word, type_text, Answered, Means}
use Rattle.geoarrow_fields.proofs.Limits.{lines_of-line}
use Rattle.geoarrow_fields.proofs.OneAnswer.{IsOneKind, reads_parts, infers_parts, one_reading, no_type_read, one_field_answer, answered, answer_of}
use Rattle.geoarrow_fields.proofs.Layouts.{AreListed, each_kind, layout_form, layout_held, layout_levels}
use Rattle.geoarrow_fields.proofs.Extension.{HoldsTexts, PutIsHeld, set_held, set_again, text_held}

-- ---- the value of a metadata that UTF-8 denotes is held

abbrev pub IsHeldIf : Option Data → Type 0
IsHeldIf o = IfSome o (λ d. is_held d ≡ true)

name_utf8 : AreListed → (k : Kind) → is_utf8 (name_of k) ≡ true
unfolding is_utf8 chars lib.Utf8.encode
name_utf8 listed = each_kind listed (λ k. is_utf8 (name_of k)) refl

type_utf8 : (t : CrsType) → is_utf8 (crs_type_text t) ≡ true
unfolding is_utf8 chars lib.Utf8.encode
type_utf8 t = grind arith

edges_utf8 : (e : Edges) → is_utf8 (edges_text e) ≡ true
unfolding is_utf8 chars lib.Utf8.encode
edges_utf8 e = grind arith

-- what is written of a value is held if it is, holds no float if it holds none, and nests two levels more at most
written_is : (d : Data) (t : Option CrsType) (e : Option Edges) → is_held d ≡ true
    → (is_held (written (Some d) t e) ≡ true) × (has_float d ≡ false → has_float (written (Some d) t e) ≡ false) × (depth (written (Some d) t e) ≤ depth d + 2)
unfolding is_utf8 chars lib.Utf8.encode
written_is d t e own = grind (arith, type_utf8, edges_utf8)

value_held : (v : Option Data) (t : Option CrsType) (e : Option Edges) → IsHeldIf v → IsHeldIf (meta_value (of_parts v t e))
value_held v t e own = grind (arith, written_is)

abbrev pub IsRead : Type 0
IsRead = (d : Data) → is_held d ≡ true → has_float d ≡ false → depth d ≤ max_depth → read (compact_text d) ≡ Some d

value_back : IsRead → (v : Option Data) (t : Option CrsType) (e : Option Edges) → IsHeldIf v → some_has_float v ≡ false → NestsWithin 100 v → IsReadBack (meta_value (of_parts v t e))
value_back back None t None held whole nests = tt
value_back back None t (Some e) held whole nests = let w = written_is null t (Some e) refl in back _ w.0 (w.1 refl) (omega (arith, w.2))
value_back back (Some d) t e held whole nests = let w = written_is d t e held in back _ w.0 (w.1 whole) (omega (arith, w.2, nests))

present_held : (o : Option Data) → IsHeldIf o → IsHeldIf (present o)
present_held o h = grind arith

member_held : (k : Text) (ms : Members) → members_are_held ms ≡ true → IsHeldIf (get_member k ms)
member_held k no_members h = tt
member_held k (member l e ms) h =
    let p = held_parts l e ms h in
    grind (arith, p.2, member_held k ms p.3)

get_held : (k : Text) (d : Data) → is_held d ≡ true → IsHeldIf (get k d)
get_held k d h = grind (arith, member_held)

-- a field's value, from its parts
parts_held : (n : Text) (d : Data) (b : Bool) (m : Texts) → is_utf8 n ≡ true → is_held d ≡ true → HoldsTexts m → is_held (parts_value n d b m) ≡ true
unfolding is_utf8 chars lib.Utf8.encode
parts_held n d b m name own texts = grind arith

texts_flat : (m : Texts) → members_depth (texts_value m) ≤ 0
texts_flat [] = omega arith
texts_flat (e ∷ m) = omega (arith, texts_flat m)

parts_levels : (n : Text) (d : Data) (b : Bool) (m : Texts) → depth d ≤ 19 → depth (parts_value n d b m) ≤ max_depth
parts_levels n d b m own = grind (arith, texts_flat m)

-- the normal form is its own, and is written as the metadata
normal_same : (v : Option Data) (t : Option CrsType) (e : Option Edges)
    → (type_unless v (type_unless v t e) e ≡ type_unless v t e) × (meta_value (of_parts v (type_unless v t e) e) ≡ meta_value (of_parts v t e))
normal_same v t e = grind arith

-- it is of the same kind, and that is its metadata
with_metadata_is : (g : GeoArrowType) (m : Metadata) → (kind_of (with_metadata g m) ≡ kind_of g) × (meta_of (with_metadata g m) ≡ m)
with_metadata_is (types.Point t) m = (refl, refl)
with_metadata_is _ m = (refl, refl)

-- ---- words

abbrev has_no_feed : Bytes → Bool
has_no_feed bytes = list_all (λ b. not (b == line_feed)) bytes

word : (bytes : Bytes) → has_no_feed bytes ≡ true → IsLine bytes
word bytes h =
    All-weaker _ (λ b. b ≢ line_feed) (λ b other e. true≢false (sym other ∙ ap not (eq-eqb b line_feed e))) bytes
    (AllPass-from_list_all (λ b. not (b == line_feed)) bytes h)

joined : (a b : Bytes) → IsLine a → IsLine b → IsLine (a ++ b)
joined a b = All-append (λ b. b ≢ line_feed) a b

error_line : (fault : ColumnFault) → IsLine (error_text fault) × IsLine (column_text (Faulty fault))
error_line Arrow = (word (codes "error arrow") refl, word (codes "faulty arrow") refl)
error_line InvalidGeoArrow = (word (codes "error invalid") refl, word (codes "faulty invalid") refl)

-- what stands before the metadata
abbrev head : Kind → Bytes
head k = kind_word k ++ codes " " ++ coord_type_word (coord_type_of k) ++ codes " " ++ dimension_word (dimension_of k) ++ codes " "

-- ---- over laws of the crates below
module _ (read_is : (text : List ℕ) (d : Data) → is_utf8 text ≡ true → read text ≡ Some d → is_held d ≡ true)
    (field_is : (line : Text) (f : FieldTree) → field_of_line line ≡ Some f → (is_utf8 f.name ≡ true) × (members_are_held (texts_value f.metadata) ≡ true)) where
  crs_of : (o : Option Text) (m : Metadata) → IfSome o (λ t. is_utf8 t ≡ true) → DenotesMetadata o m → IsHeldIf m.crs.value × (some_has_float m.crs.value ≡ false)
  crs_of None m text is = rw is (tt, refl)
  crs_of (Some s) m text (d, reads, stands) = rw stands.crs (present_held _ (get_held (codes "crs") d (read_is s d text reads)), stands.whole)

  crs_held : (line : Text) (f : FieldTree) → field_of_line line ≡ Some f → (m : Metadata) → DenotesMetadata (extension_metadata f) m → IsHeldIf m.crs.value × (some_has_float m.crs.value ≡ false)
  crs_held line f is m denotes = crs_of (extension_metadata f) m (text_held metadata_key f.metadata (field_is line f is).1) denotes

  -- ---- the answer of `canon` is answered by itself, and read as the line that it was the answer to

  module _ (reads_back : (line : Text) (f n : FieldTree) → field_of_line line ≡ Some f → IsCanonical f n → field_of_line (line_of_field n) ≡ Some n) (back : IsRead) (one_kind : IsOneKind)
      (line : Text) (f : FieldTree) (is : field_of_line line ≡ Some f) (g : GeoArrowType) (r : Reads f g) (nests : NestsWithin 100 (meta_of g).crs.value) where
    abbrev m : Metadata
    m = meta_of g

    read_back : IsReadBack (meta_value (normal m))
    read_back =
        let own = crs_held line f is m (reads_parts f g r).1 in
        value_back back m.crs.value (type_unless m.crs.value m.crs.crs_type m.edges) m.edges own.0 own.1 nests

    again : (n : FieldTree) → n ≡ rewritten f (kind_of g) (normal m) → ReadsAs n (kind_of g) (normal m) → HoldsTexts n.metadata → rewritten n (kind_of g) (normal m) ≡ n
    unfolding ReadsAs
    again n same reads held =
        let texts = set_again (name_of (kind_of g)) (printed (normal m)) f.metadata (subst (λ (x : FieldTree). HoldsTexts x.metadata) same held) (ap extension_name (sym same) ∙ reads.0.0) in
        rw same (ap (λ (l : Texts). record f { tree = layout (kind_of g); metadata = l }) texts)

    pub canon_again : (a : Bytes) → Answers Canon line a → Answers Canon a a × ((text : Bytes) → Answers Read line text → Answers Read a text)
    canon_again a answer = by (answer_of Canon line f a is answer)
      where
        by : AnswersField Canon f a → Answers Canon a a × ((text : Bytes) → Answers Read line text → Answers Read a text)
        by (inl (n, (h, s, made, normally), put)) =
            let type = one_reading one_kind f h g s r in
            let same : n ≡ rewritten f (kind_of g) (normal m) = rw (type.0, type.1) at made in
            let reads : ReadsAs n (kind_of g) (normal m) = (rw (type.0, type.1) at normally) read_back in
            let (kinds, metas) = with_metadata_is g (normal m) in
            let t = with_metadata g (normal m) in
            let normals = normal_same m.crs.value m.crs.crs_type m.edges in
            let once : normal (normal m) ≡ normal m = ap (λ t. of_parts m.crs.value t m.edges) normals.0 in
            let denotes = reads_back line f n is (h, s, made, normally) in
            let found : field_of_line a ≡ Some n = ap field_of_line put ∙ denotes in
            let own = sym (again n same reads (field_is (line_of_field n) n denotes).1) ∙ ap₂ (λ k l. rewritten n k l) (sym kinds) (sym once ∙ ap normal (sym metas)) in
            let words : type_text g ≡ type_text t = rw (kinds, ap printed metas ∙ ap (option_map compact_text) normals.1) in (
              answered Canon a n a found (inl (n, (t, rw (kinds, metas) reads, own, λ _. rw (kinds, metas, once) reads), put)),
              λ text answer.
                  let read = one_field_answer one_kind Read f text (type_text g) (answer_of Read line f text is answer) (inl (g, r, refl)) in
                  answered Read a n text found (inl (t, rw (kinds, metas) reads, read ∙ words)),
            )
        by (inr none) = absurd (no_type_read f a g r none)

  module _ (listed : AreListed) (put_is : PutIsHeld) (utf8 : (d : Data) → is_held d ≡ true → is_utf8 (compact_text d) ≡ true) where
    -- what is printed of a value that is held
    text_of : (o : Option Data) → IsHeldIf o → IfSome (option_map compact_text o) (λ t. is_utf8 t ≡ true)
    text_of o h = grind (arith, utf8)

    module _ (line : Text) (f : FieldTree) (is : field_of_line line ≡ Some f) where
      texts_held : (k : Kind) (m : Metadata) → DenotesMetadata (extension_metadata f) m → HoldsTexts (rewritten f k (normal m)).metadata
      texts_held k m denotes =
          let value = value_held m.crs.value (type_unless m.crs.value m.crs.crs_type m.edges) m.edges (crs_held line f is m denotes).0 in
          set_held put_is (name_of k) (printed (normal m)) f.metadata (name_utf8 listed k) (text_of (meta_value (normal m)) value) (field_is line f is).1

      -- the value of the canonical field is held
      rewritten_held : (k : Kind) (m : Metadata) → DenotesMetadata (extension_metadata f) m → is_held (value_of_field (rewritten f k (normal m))) ≡ true
      rewritten_held k m denotes = parts_held f.name (type_value (layout k)) f.nullable _ (field_is line f is).0 (layout_held listed k) (texts_held k m denotes)

    -- ---- an answer holds no line feed

    module _ (one_line : (d : Data) → is_held d ≡ true → All (λ b. b ≢ 10) (compact_text d)) where
      metadata_line : (o : Option Data) → IsHeldIf o → IsLine (unwrap_or (option_map compact_text o) (codes "-"))
      metadata_line None h = word (codes "-") refl
      metadata_line (Some d) h = one_line d h

      module _ (line : Text) (f : FieldTree) (is : field_of_line line ≡ Some f) where
        type_line : (g : GeoArrowType) → DenotesMetadata (extension_metadata f) (meta_of g) → IsLine (type_text g)
        type_line g denotes =
            let k = kind_of g in
            let m = meta_of g in
            let value = value_held m.crs.value m.crs.crs_type m.edges (crs_held line f is m denotes).0 in
            let same : head k ++ unwrap_or (printed m) (codes "-") ≡ type_text g = simp append_assoc in
            subst IsLine same (joined (head k) _ (word (head k) (each_kind listed (λ k. has_no_feed (head k)) refl k)) (metadata_line (meta_value m) value))

        column_lines : (c : Column) → IsColumnOf f c → IsLine (column_text c) × IsLine (inferred_text c)
        column_lines (Geometry g) r = let text = type_line g (reads_parts f g r).1 in (joined (codes "geometry ") (type_text g) (word (codes "geometry ") refl) text, text)
        column_lines (OfInferred g) r = let text = type_line g (infers_parts f g r).1 in (joined (codes "inferred ") (type_text g) (word (codes "inferred ") refl) text, text)
        column_lines Other r = (word (codes "other") refl, word (codes "error invalid") refl)
        column_lines (Faulty fault) r = ((error_line fault).1, (error_line fault).0)

        no_type_line : (answer : Bytes) → AnswersNoType f answer → IsLine answer
        no_type_line answer (inl x) = rw x.1 (word (codes "none") refl)
        no_type_line answer (inr (fault, refused, x)) = rw x (error_line fault).0

        field_line : (command : Command) (answer : Bytes) → AnswersField command f answer → IsLine answer
        field_line Read answer (inl (g, r, x)) = rw x (type_line g (reads_parts f g r).1)
        field_line Read answer (inr none) = no_type_line answer none
        field_line Infer answer (c, r, x) = rw x (column_lines c r).1
        field_line Canon answer (inl (n, (g, r, same, normally), x)) = rw x (one_line (value_of_field n) (rw same (rewritten_held line f is (kind_of g) (meta_of g) (reads_parts f g r).1)))
        field_line Canon answer (inr none) = no_type_line answer none
        field_line Columns answer (c, r, x) = rw x (column_lines c r).0

      pub answer_line : (command : Command) (line answer : Bytes) → Answers command line answer → IsLine answer
      unfolding Answers
      answer_line command line answer = by (field_of_line line) refl
        where
          by : (o : Option FieldTree) → field_of_line line ≡ o → MatchOption o (answer ≡ codes "error field") (λ f. AnswersField command f answer) → IsLine answer
          by None is x = rw x (word (codes "error field") refl)
          by (Some f) is x = field_line line f is command answer x

      as_many_lines : (command : Command) (lines : List Bytes) (output : Bytes) → Answered command [] lines output → length (lines_of output) ≡ length lines
      unfolding Answered
      as_many_lines command [] output h = ap (λ o. length (lines_of o)) h
      as_many_lines command (line ∷ lines) output (answer, rest, is, put, more) =
          ap (λ o. length (lines_of o)) put ∙ ap length (lines_of-line answer rest (answer_line command line answer is)) ∙ ap (λ n. suc n) (as_many_lines command lines rest more)

      -- as many lines go out as came in
      pub as_many : (command : Command) (input output : Bytes) → Means command Done input output → length (lines_of output) ≡ length (lines_of input)
      as_many command input output means = as_many_lines command (lines_of input) output means.1

    -- ---- the line of the canonical field is read back

    module _ (line_read : (f : FieldTree) → HasLineForm f.tree → is_held (value_of_field f) ≡ true → depth (value_of_field f) ≤ max_depth → field_of_line (line_of_field f) ≡ Some f)
        (line : Text) (f : FieldTree) (is : field_of_line line ≡ Some f) where
      pub canonical_back : (n : FieldTree) → IsCanonical f n → field_of_line (line_of_field n) ≡ Some n
      canonical_back n (g, r, same, normally) =
          let levels = parts_levels f.name (type_value (layout (kind_of g))) f.nullable _ (layout_levels listed (kind_of g)) in
          rw same (line_read _ (layout_form (kind_of g)) (rewritten_held line f is (kind_of g) (meta_of g) (reads_parts f g r).1) levels)
