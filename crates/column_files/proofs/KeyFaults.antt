-- Which part of a value is at fault, where it denotes no column.
use Rattle.std.proofs.Common.{◌≡◌, List, ◌∷◌, is_some, Bool, true, false, Option, Some, None, option_map, option_and_then, refl, sym, ap, ◌∙◌, true≢false, codes}
use Rattle.std.specs.Option.{IsSome}
use Rattle.std.proofs.lemmas.Option.{none-some}
use Rattle.serde_json.specs.Data.{Data, object, Members}
use Rattle.serde_json.specs.Find.{get_member, get, as_str, as_bool, as_object}
use Rattle.serde_json.specs.View.{view, members_view}
use Rattle.serde_json.proofs.Views.{Entry}
use Rattle.arrow_values.specs.Tree.{Text, Tree, Metadata as Texts, FieldTree}
use Rattle.arrow_columns.specs.Column.{column_of}
use Rattle.field_lines.specs.FieldOfValue.{field_from, field_of_value, type_in, type_of_value, texts_in, metadata_of_value}
use Rattle.field_lines.specs.ColumnOfValue.{other_of_value, column_type, column_type_of_value, column_from, column_of_value}
use Rattle.column_files.specs.LineFaults.{HasName, HasNullable, HasMetadata, IsKeyFault, IsValueFault}
use Rattle.column_files.specs.declared.line.LineFault.{LineFault}
use Rattle.column_files.specs.declared.line.LineFault.TheVariants.{NotUtf8, NotJson, OpenObject, OpenArray, NotObject, GeoJson, Name, Nullable, Metadata, TypeUnknown}
use Rattle.column_files.proofs.LineReads.{FieldIsColumn}

pub no_object : (d : Data) → is_some (as_object d) ≡ false → as_object d ≡ None
no_object (object ms) is = absurd (true≢false is)
no_object _ is = refl

-- the key of an object that is at fault is why it denotes no column
of_members : (ms : Members) (fault : LineFault) → IsKeyFault ms fault → IsValueFault (object ms) fault
of_members ms NotObject is = absurd is
of_members ms (NotUtf8 at) is = (ms, refl, is)
of_members ms (NotJson at) is = (ms, refl, is)
of_members ms (OpenObject at) is = (ms, refl, is)
of_members ms (OpenArray at) is = (ms, refl, is)
of_members ms (GeoJson named) is = (ms, refl, is)
of_members ms Name is = (ms, refl, is)
of_members ms Nullable is = (ms, refl, is)
of_members ms Metadata is = (ms, refl, is)
of_members ms TypeUnknown is = (ms, refl, is)

pub value_fault_of : (d : Data) (fault : LineFault) → is_some (as_object d) ≡ true → ((ms : Members) → d ≡ object ms → IsKeyFault ms fault) → IsValueFault d fault
value_fault_of (object ms) fault is at = of_members ms fault (at ms refl)
value_fault_of _ fault is at = absurd (true≢false (sym is))

-- where a name, a nullability and metadata are there, and no field, there is no type, and no other type where there is no column
lacks_type : (n : Option Text) (b : Option Bool) (t : Option Tree) (m : Option Texts) → field_from n b t m ≡ None → IsSome n → IsSome b → IsSome m → IsSome t → ⊥
lacks_type (Some n) (Some b) (Some t) (Some m) is p q r h = none-some _ (sym is)
lacks_type (Some n) (Some b) (Some t) None is p q r h = true≢false (sym r)
lacks_type (Some n) (Some b) None m is p q r h = true≢false (sym h)
lacks_type (Some n) None t m is p q r h = true≢false (sym q)
lacks_type None b t m is p q r h = true≢false (sym p)

lacks_other : (n : Option Text) (b : Option Bool) (t : Option Tree) (u : Option Text) (m : Option Texts) → column_from n b (column_type t u) m ≡ None → IsSome n → IsSome b → IsSome m → u ≡ None
lacks_other n b t None m is p q r = refl
lacks_other (Some n) (Some b) (Some t) (Some u) (Some m) is p q r = absurd (none-some _ (sym is))
lacks_other (Some n) (Some b) None (Some u) (Some m) is p q r = absurd (none-some _ (sym is))
lacks_other (Some n) (Some b) t (Some u) None is p q r = absurd (true≢false (sym r))
lacks_other (Some n) None t (Some u) m is p q r = absurd (true≢false (sym q))
lacks_other None b t (Some u) m is p q r = absurd (true≢false (sym p))

lacks_other_at : (n : Option Text) (b : Option Bool) (o : Option Data) (m : Option Texts) → column_from n b (option_and_then column_type_of_value o) m ≡ None → IsSome n → IsSome b → IsSome m
    → option_and_then other_of_value o ≡ None
lacks_other_at n b None m is p q r = refl
lacks_other_at n b (Some d) m is p q r = lacks_other n b (type_of_value d) (other_of_value d) m is p q r

no_field : FieldIsColumn → (d : Data) (o : Option FieldTree) → field_of_value d ≡ o → column_of_value d ≡ None → o ≡ None
no_field law d None is none = refl
no_field law d (Some f) is none = absurd (none-some (column_of f) (sym none ∙ (law d f).0 is))

pub type_fault : FieldIsColumn → (ms : Members) → column_of_value (object ms) ≡ None → HasName ms → HasNullable ms → HasMetadata ms → IsKeyFault ms TypeUnknown
type_fault law ms none name nullable metadata = (
  name,
  nullable,
  metadata,
  lacks_type _ _ (type_in ms) _ (no_field law (object ms) _ refl none) name nullable metadata,
  lacks_other_at _ _ (get_member (codes "type") ms) _ none name nullable metadata,
)

pub type_fault_of : FieldIsColumn → (d : Data) → column_of_value d ≡ None → is_some (option_and_then as_str (get (codes "name") d)) ≡ true
    → is_some (option_and_then as_bool (get (codes "nullable") d)) ≡ true → is_some (metadata_of_value (get (codes "metadata") d)) ≡ true
    → (ms : Members) → d ≡ object ms → IsKeyFault ms TypeUnknown
type_fault_of law d none name nullable metadata ms is =
    type_fault law ms (ap column_of_value (sym is) ∙ none)
    (ap (λ d. is_some (option_and_then as_str (get (codes "name") d))) (sym is) ∙ name)
    (ap (λ d. is_some (option_and_then as_bool (get (codes "nullable") d))) (sym is) ∙ nullable)
    (ap (λ d. is_some (metadata_of_value (get (codes "metadata") d))) (sym is) ∙ metadata)

-- the texts of members, one after another
text_first : (k : Text) (o : Option Text) (rest : Option Texts) → is_some o ≡ true → is_some (option_and_then (λ text. option_map (λ texts. (k, text) ∷ texts) rest) o) ≡ is_some rest
text_first k (Some t) (Some m) is = refl
text_first k (Some t) None is = refl
text_first k None rest is = absurd (true≢false (sym is))

no_text_first : (k : Text) (o : Option Text) (rest : Option Texts) → is_some o ≡ false → is_some (option_and_then (λ text. option_map (λ texts. (k, text) ∷ texts) rest) o) ≡ false
no_text_first k (Some t) rest is = absurd (true≢false is)
no_text_first k None rest is = refl

abbrev pub hold_texts : List Entry → Bool
hold_texts es = is_some (texts_in (members_view es))

pub texts_go_on : (e : Entry) (es : List Entry) → is_some (as_str (view e.1)) ≡ true → hold_texts (e ∷ es) ≡ hold_texts es
texts_go_on e es is = text_first _ (as_str (view e.1)) (texts_in (members_view es)) is

pub texts_spoiled : (e : Entry) (es : List Entry) → is_some (as_str (view e.1)) ≡ false → hold_texts (e ∷ es) ≡ false
texts_spoiled e es is = no_text_first _ (as_str (view e.1)) (texts_in (members_view es)) is
