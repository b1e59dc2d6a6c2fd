-- A field has one report, and a line one answer.
use Rattle.std.proofs.Common.{◌≡◌, ◌∙◌, inl, inr, List, [], ◌∷◌, ◌++◌, codes, Option, Some, None, refl, sym, ap, ap₂, arith}
use Rattle.std.specs.Prelude.{MatchOption}
use Rattle.std.proofs.lemmas.Option.{same_Some}
use Rattle.geoarrow_layout.specs.Shapes.{Accepts}
use Rattle.geoarrow_layout.specs.Inferred.{InferredAs}
use Rattle.geoarrow_meta.specs.Laws.{text_denotes_one}
use Rattle.geoarrow_schema.specs.Infers.{InfersAs, Infers}
use Rattle.geoarrow_columns.specs.Same.{SameColumn}
use Rattle.geoarrow_fields.specs.Answer.{SameReport}
use Rattle.geoarrow_fields.proofs.Terms.{FieldTree, Text, Tree, extension_metadata, Kind, extension_of, DenotesMetadata, normal, ReadsAs, GeoArrowType, SameType, kind_of, meta_of, HasGeoArrowName, Reads, IsCanonical, rewritten, ColumnFault, Column, Faulty, Geometry, OfInferred, IsColumnOf, IsRefused, IsRefusedFor, IsReport, field_of_line, line_of_field, Command, Canon, Columns, Infer, Read, Done, Bytes, line_feed, lines_of, Answers, AnswersField, AnswersNoType, column_text, error_text, inferred_text, type_text, Answered, Means}

-- ---- a data type is inferred as one kind

abbrev One : {A : Type 0} → (A → Type 0) → Type 0
One {A} P = (x y : A) → P x → P y → x ≡ y

abbrev pub IsOneKind : Type 0
IsOneKind = (name : Text) (t : Tree) (k l : Kind) → Accepts name t k → Accepts name t l → k ≡ l

one_inferred : (t : Tree) → One (InferredAs t)
one_inferred t a b h k = grind arith

-- ---- the words of the same type, and of the same entry

same_type : (g h : GeoArrowType) → SameType g h → type_text g ≡ type_text h
same_type g h same = rw (same.0, same.1)

same_texts : (c d : Column) → SameColumn c d → (column_text c ≡ column_text d) × (inferred_text c ≡ inferred_text d)
same_texts c d same = grind (arith, same_type)

-- ---- what a field is read as, and what is inferred for it

pub reads_parts : (f : FieldTree) (g : GeoArrowType) → Reads f g → HasGeoArrowName f × DenotesMetadata (extension_metadata f) (meta_of g)
unfolding ReadsAs
reads_parts f g r = ((extension_of (kind_of g), r.0.0), r.1)

pub infers_parts : (f : FieldTree) (g : GeoArrowType) → Infers f g → ¬ HasGeoArrowName f × DenotesMetadata (extension_metadata f) (meta_of g)
unfolding InfersAs
infers_parts f g i = (i.0, i.1)

named : (f : FieldTree) (g : GeoArrowType) → Reads f g → HasGeoArrowName f
named f g r = (reads_parts f g r).0

refused : (f : FieldTree) (fault : ColumnFault) → IsRefusedFor f fault → IsRefused f
refused f fault h = grind arith

one_refusal : (f : FieldTree) → One (IsRefusedFor f)
one_refusal f e d h k = grind arith

pub no_type_read : (f : FieldTree) (a : Bytes) (g : GeoArrowType) → Reads f g → ¬ AnswersNoType f a
no_type_read f a g r none = grind (arith, reads_parts f g r, refused)

one_no_type : (f : FieldTree) → One (AnswersNoType f)
one_no_type f a b (inl x) (inl y) = x.1 ∙ sym y.1
one_no_type f a b (inl x) (inr (fault, is, text)) = absurd (x.0 (refused f fault is).0)
one_no_type f a b (inr (fault, is, text)) (inl y) = absurd (y.0 (refused f fault is).0)
one_no_type f a b (inr (e, is, x)) (inr (d, so, y)) = x ∙ ap error_text (one_refusal f e d is so) ∙ sym y

one_inference : (f : FieldTree) (g h : GeoArrowType) → Infers f g → Infers f h → SameType g h
unfolding InfersAs
one_inference f g h r s = (one_inferred f.tree (kind_of g) (kind_of h) r.2 s.2, text_denotes_one (extension_metadata f) (meta_of g) (meta_of h) r.1 s.1)

-- ---- a field has one report

module _ (one_kind : IsOneKind) where
  pub one_reading : (f : FieldTree) (g h : GeoArrowType) → Reads f g → Reads f h → SameType g h
  unfolding ReadsAs
  one_reading f g h r s =
      (one_kind _ f.tree (kind_of g) (kind_of h) (refl, r.0.1) (same_Some _ _ (sym r.0.0 ∙ s.0.0), s.0.1), text_denotes_one (extension_metadata f) (meta_of g) (meta_of h) r.1 s.1)

  -- a field has one canonical form
  one_canonical : (f : FieldTree) → One (IsCanonical f)
  one_canonical f n o (g, r, x, back) (h, s, y, also) =
      let same = one_reading f g h r s in
      x ∙ ap₂ (λ k m. rewritten f k (normal m)) same.0 same.1 ∙ sym y

  not_faulty : (f : FieldTree) (g : GeoArrowType) (fault : ColumnFault) → Infers f g → ¬ IsColumnOf f (Faulty fault)
  not_faulty f g fault i h = grind (arith, infers_parts f g i)

  pub one_column : (f : FieldTree) (c d : Column) → IsColumnOf f c → IsColumnOf f d → SameColumn c d
  one_column f (Geometry g) (Geometry h) r s = one_reading f g h r s
  one_column f (OfInferred g) (OfInferred h) r s = one_inference f g h r s
  one_column f (Faulty e) (Faulty d) r s = grind arith
  one_column f _ _ r s = grind (arith, named, infers_parts, not_faulty)

  pub one_report : (fs : List FieldTree) (cs ds : List Column) → IsReport fs cs → IsReport fs ds → SameReport cs ds
  one_report [] [] [] r s = tt
  one_report (f ∷ fs) (c ∷ cs) (d ∷ ds) r s = (one_column f c d r.0 s.0, one_report fs cs ds r.1 s.1)
  one_report _ _ _ r s = search

  -- ---- and its line one answer

  pub one_field_answer : (command : Command) (f : FieldTree) (a b : Bytes) → AnswersField command f a → AnswersField command f b → a ≡ b
  one_field_answer Read f a b (inl (g, r, x)) (inl (h, s, y)) = x ∙ same_type g h (one_reading f g h r s) ∙ sym y
  one_field_answer Read f a b (inl (g, r, x)) (inr none) = absurd (no_type_read f b g r none)
  one_field_answer Read f a b (inr none) (inl (g, r, y)) = absurd (no_type_read f a g r none)
  one_field_answer Read f a b (inr here) (inr there) = one_no_type f a b here there
  one_field_answer Infer f a b (c, r, x) (d, s, y) = x ∙ (same_texts c d (one_column f c d r s)).1 ∙ sym y
  one_field_answer Canon f a b (inl (n, r, x)) (inl (o, s, y)) = x ∙ ap line_of_field (one_canonical f n o r s) ∙ sym y
  one_field_answer Canon f a b (inl (n, (g, r, same, back), x)) (inr none) = absurd (no_type_read f b g r none)
  one_field_answer Canon f a b (inr none) (inl (n, (g, r, same, back), y)) = absurd (no_type_read f a g r none)
  one_field_answer Canon f a b (inr here) (inr there) = one_no_type f a b here there
  one_field_answer Columns f a b (c, r, x) (d, s, y) = x ∙ (same_texts c d (one_column f c d r s)).0 ∙ sym y

  pub one_answer : (command : Command) (line a b : Bytes) → Answers command line a → Answers command line b → a ≡ b
  unfolding Answers
  one_answer command line a b = by (field_of_line line)
    where
      by : (o : Option FieldTree) → MatchOption o (a ≡ codes "error field") (λ f. AnswersField command f a) → MatchOption o (b ≡ codes "error field") (λ f. AnswersField command f b) → a ≡ b
      by None x y = x ∙ sym y
      by (Some f) x y = one_field_answer command f a b x y

  one_output : (command : Command) (last : Bytes) (lines : List Bytes) (x y : Bytes) → Answered command last lines x → Answered command last lines y → x ≡ y
  unfolding Answered
  one_output command last [] x y h k = h ∙ sym k
  one_output command last (line ∷ lines) x y (a, rest, is, joined, more) (b, others, so, put, later) =
      joined ∙ ap₂ (λ (s t : Bytes). s ++ (line_feed ∷ t)) (one_answer command line a b is so) (one_output command last lines rest others more later) ∙ sym put

  pub one_done : (command : Command) (input x y : Bytes) → Means command Done input x → Means command Done input y → x ≡ y
  one_done command input x y h k = one_output command [] (lines_of input) x y h.1 k.1

-- ---- the answer to a line that denotes a field

module _ (command : Command) (line : Bytes) (f : FieldTree) (a : Bytes) (is : field_of_line line ≡ Some f) where
  pub answered : AnswersField command f a → Answers command line a
  unfolding Answers
  answered h = rw is h

  pub answer_of : Answers command line a → AnswersField command f a
  unfolding Answers
  answer_of h = rw is at h
