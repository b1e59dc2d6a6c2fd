-- The texts of a field, as contracts see them: by key.
use Rattle.std.specs.Prelude.{◌≡◌, not, [], ◌∷◌, Option, Some, None, if◌then◌else◌, codes}
use Rattle.std.specs.Option.{option_map}
use Rattle.std.specs.Ordering.{nat_cmp, match_ordering}
use Rattle.std.specs.Cmp.Lexicographic.{slice_cmp}
use Rattle.std.specs.List.{filter}
use Rattle.std.specs.Borrow.{Bor}
use Rattle.std.specs.Map.{lookup}
use Rattle.std.specs.Str.{bytes_eq}
use Rattle.arrow_values.specs.Tree.{Text, Metadata, FieldTree}

-- the key of a field's metadata under which the name of its extension type stands (Arrow, "Extension Types")
abbrev pub name_key : Text
name_key = codes "ARROW:extension:name"

-- the key under which the metadata of its extension type stands
abbrev pub metadata_key : Text
metadata_key = codes "ARROW:extension:metadata"

-- the bytes of a text that may be missing
abbrev pub text_of : Option (Bor Text) → Option Text
text_of o = option_map (λ t. t.now) o

-- the text at a key
abbrev pub text_at : Text → Metadata → Option Text
text_at key m = lookup (bytes_eq key) m

-- the name of a field's extension type
abbrev pub extension_name : FieldTree → Option Text
extension_name f = text_at name_key f.metadata

-- the metadata of a field's extension type
abbrev pub extension_metadata : FieldTree → Option Text
extension_metadata f = text_at metadata_key f.metadata

-- the texts, with `text` at the key, in the order of the keys
abbrev pub put_text : Text → Text → Metadata → Metadata
put_text key text [] = (key, text) ∷ []
put_text key text (e ∷ m) = match_ordering (slice_cmp nat_cmp key e.0) ((key, text) ∷ e ∷ m) ((e.0, text) ∷ m) (e ∷ put_text key text m)

-- the texts, without one at the key
abbrev pub remove_text : Text → Metadata → Metadata
remove_text key m = filter (λ e. not (bytes_eq key e.0)) m

-- the texts, with a name at the name key, and a text or nothing at the metadata key
abbrev pub set_extension : Text → Option Text → Metadata → Metadata
set_extension name None m = remove_text metadata_key (put_text name_key name m)
set_extension name (Some text) m = put_text metadata_key text (put_text name_key name m)

-- n has the name at the name key, the text or nothing at the metadata key, and at each other key what m has
abbrev pub SetsExtension : Text → Option Text → Metadata → Metadata → Type 0
SetsExtension name text m n =
    (key : Text) → text_at key n ≡ (if bytes_eq metadata_key key then text else (if bytes_eq name_key key then Some name else text_at key m))
