use Rattle.std.proofs.Common.{rules, tests, arith, ◌≡◌, ◌↔◌, ◌∙◌, ℕ, List, [], ◌∷◌, cond, length, Option, None, Some, Bor, Contains, MatchOption, refl, sym, ap}
use Rattle.std.specs.List.{AllWithin}
use Rattle.std.specs.Str.{bytes_eq}
use Rattle.std.specs.Option.{option_copied}
use Rattle.std.proofs.lemmas.Iterator.{YieldsList-from_slice, first_from_find}
use Rattle.std.proofs.lemmas.Option.{same_Some}
use Rattle.geoarrow_layout.specs.declared.dimensions.CoordType.TheVariants.{Interleaved, Separated}
use Rattle.geoarrow_layout.specs.declared.dimensions.Dimension.TheVariants.{XY, XYZ}
use Rattle.geoarrow_layout.specs.declared.native_kinds.Kind.{Kind}
use Rattle.geoarrow_layout.specs.declared.native_kinds.Kind.TheVariants.{Native, Geometry, Rect, Wkb, Wkt}
use Rattle.geoarrow_layout.specs.declared.native_kinds.NativeKind.TheVariants.{Point}
use Rattle.geoarrow_layout.specs.declared.native_kinds.TheConstants.Kind.{ALL}
use Rattle.geoarrow_layout.specs.declared.native_kinds.Width.TheVariants.{Plain}
use Rattle.column_reports.specs.Report.{kind_text}
use Rattle.geoarrow_c.proofs.made_lines.kind_of.Goals as goal

-- the first of these kinds that has such words
abbrev named : List ℕ → List Kind → Option Kind
named words [] = None
named words (k ∷ ks) = cond (bytes_eq words (kind_text k)) (Some k) (named words ks)

-- of the words of a kind that is itself
itself : (k : Kind) → named (kind_text k) ALL ≡ Some k
itself (Native Point Interleaved XY) = refl
itself (Native k Separated XY) = refl
itself (Native k Interleaved XYZ) = refl
itself (Geometry Interleaved) = refl
itself (Rect XY) = refl
itself (Wkb Plain) = refl
itself (Wkt Plain) = refl
itself k = refl

apart : (j k : Kind) → kind_text j ≡ kind_text k → j ≡ k
apart j k same = same_Some j k (sym (itself j) ∙ ap (λ t. named t ALL) same ∙ itself k)

-- the first kind with these words is the one, and where there is none, no kind has them
found : (words : List ℕ) (S : Bor Kind → Type 0) → ((k : Kind) → Contains ALL k) → ((x : Bor Kind) → S x → words ≡ kind_text x.now) → (r : Option (Bor Kind))
    → MatchOption r (AllWithin (λ k. words ≡ kind_text k → ⊥) ALL 0 (length ALL)) S → (k : Kind) → (option_copied r ≡ Some k) ↔ (words ≡ kind_text k)
found words S listed is None h k = (λ e. cc, λ same. let l = listed k in absurd (h l.0 k (omega arith) l.1 (same ∙ ap kind_text (sym l.2))))
found words S listed is (Some x) h k = (λ e. is x h ∙ ap kind_text (same_Some x.now k e), λ e. ap (λ y. Some y) (apart x.now k (sym (is x h) ∙ e)))

pub returns : goal.returns
returns c =
    let words = c.args.words.now in
    let first = first_from_find _ _ _ (λ k. words ≡ kind_text k) (λ k. words ≡ kind_text k → ⊥) c.find.ensures.ran (YieldsList-from_slice ALL cc) (λ x q h. search (rules, tests)) (λ x q h. search (rules, tests)) in
    rw c.copied.ensures (found words _ c.kind_is_listed.ensures (λ x h. h.0) c.find.result first)
