-- How a field is refused that carries no extension type of a kind.
use Rattle.std.proofs.Common.{◌≡◌, ◌⊎◌, inl, inr, ⊎_elim, true}
use Rattle.arrow_values.specs.Tree.{FieldTree}
use Rattle.arrow_values.specs.Texts.{extension_metadata}
use Rattle.arrow_values.specs.Errors.{IsMemory, is_invalid_argument}
use Rattle.arrow_values.specs.declared.error.ArrowError.{ArrowError}
use Rattle.arrow_values.specs.declared.extension.ExtensionType.{Ghosts}
use Rattle.arrow_values.specs.Extension.{IsNamed, IsRefusedAs}

module _ {X M : Type 0} (g : Ghosts X M) where
  -- under another name or none, by an invalid argument
  pub unnamed_refused : (f : FieldTree) (r : ArrowError) → ¬ IsNamed g f → IsMemory r ⊎ (is_invalid_argument r ≡ true) → IsMemory r ⊎ IsRefusedAs g f r
  unnamed_refused f r unnamed = ⊎_elim inl (λ argument. inr (λ e reads. unnamed reads.0, inl (unnamed, argument)))

  -- as its metadata text is, which denotes no value
  pub text_refused : (f : FieldTree) (r : ArrowError) → IsNamed g f → IsMemory r ⊎ ((v : g.Value) → g.Denotes (extension_metadata f) v → ⊥) → IsMemory r ⊎ g.RefusesText (extension_metadata f) r
      → IsMemory r ⊎ IsRefusedAs g f r
  text_refused f r named (inl memory) = λ _. inl memory
  text_refused f r named (inr none) = ⊎_elim inl (λ refused. inr (λ e reads. none (g.value_of (g.metadata_of e)) reads.1, inr (named, inl refused)))

  -- as its tree is, which is accepted as no shape
  pub tree_refused : (f : FieldTree) (v : g.Value) (r : ArrowError) → IsNamed g f → g.Denotes (extension_metadata f) v → ((e : X) → g.Accepts f.tree e → ⊥) → IsMemory r ⊎ g.RefusesTree f.tree r
      → IsMemory r ⊎ IsRefusedAs g f r
  tree_refused f v r named stands none = ⊎_elim inl (λ refused. inr (λ e reads. none e reads.2, inr (named, inr ((v, stands), refused))))
