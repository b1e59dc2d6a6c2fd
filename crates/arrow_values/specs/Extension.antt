-- What contracts say of an extension type, at any implementation.
use Rattle.std.specs.Prelude.{◌≡◌, ◌⊎◌, Some, true}
use Rattle.arrow_values.specs.Tree.{FieldTree}
use Rattle.arrow_values.specs.Texts.{extension_name, extension_metadata, set_extension}
use Rattle.arrow_values.specs.Errors.{is_invalid_argument}
use Rattle.arrow_values.specs.declared.error.ArrowError.{ArrowError}
use Rattle.arrow_values.specs.declared.extension.ExtensionType.{Ghosts}

module _ {X M : Type 0} (g : Ghosts X M) where
  -- the field's extension name is that of the type
  abbrev pub IsNamed : FieldTree → Type 0
  IsNamed f = extension_name f ≡ Some g.name_text

  -- the field's name, metadata text and tree denote e
  abbrev pub Carries : FieldTree → X → Type 0
  Carries f e = IsNamed f × g.Denotes (extension_metadata f) (g.value_of (g.metadata_of e)) × g.Accepts f.tree e

  -- n is f with the two extension keys as e has them, and otherwise unchanged
  abbrev pub Writes : FieldTree → X → FieldTree → Type 0
  Writes f e n = n ≡ record f { metadata = set_extension g.name_text (g.printed (g.metadata_of e)) f.metadata }

  -- what the metadata of e prints denotes its value
  abbrev pub DenotesPrinted : X → Type 0
  DenotesPrinted e = g.Denotes (g.printed (g.metadata_of e)) (g.value_of (g.metadata_of e))

  -- the field's metadata text is refused so; or, where it denotes a value, its tree is
  abbrev pub Refuses : FieldTree → ArrowError → Type 0
  Refuses f r = g.RefusesText (extension_metadata f) r ⊎ (((v : g.Value) × g.Denotes (extension_metadata f) v) × g.RefusesTree f.tree r)

  -- the field denotes no type: under another name or none, which is an invalid argument; or under that of the type, for which it is refused so
  abbrev pub IsRefusedAs : FieldTree → ArrowError → Type 0
  IsRefusedAs f r = ((e : X) → ¬ Carries f e) × ((¬ IsNamed f × (is_invalid_argument r ≡ true)) ⊎ (IsNamed f × Refuses f r))
