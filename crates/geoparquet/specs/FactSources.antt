-- Which of the three sources of a fact counts, and what the others say against it (docs/FORMAT.md, 5).
use Rattle.std.specs.Prelude.{Bool, true, false, not, Option, None, Some, is_some, bytes_eq, codes, if◌then◌else◌}
use Rattle.std.specs.Option.{option_or}
use Rattle.arrow_values.specs.Tree.{Text}
use Rattle.crs_identity.specs.declared.verdict.Verdict.{Verdict}
use Rattle.crs_identity.specs.declared.verdict.Verdict.TheVariants.{Agree, Contradict}
use Rattle.geoparquet.specs.declared.fact_sources.Against.{Against}
use Rattle.geoparquet.specs.declared.fact_sources.FactSource.{FactSource}
use Rattle.geoparquet.specs.declared.fact_sources.FactSource.TheVariants.{Element, Geo, Field}

-- what the element, the member of `geo` and the field have, each if it has something
pub record BySource (A : Type 0) : Type 0 where
  pub element : Option A
  pub geo : Option A
  pub field : Option A

abbrev pub of_source : {A : Type 0} → FactSource → BySource A → Option A
of_source Element xs = xs.element
of_source Geo xs = xs.geo
of_source Field xs = xs.field

-- the word of a source
abbrev pub source_word : FactSource → Text
source_word Element = codes "element"
source_word Geo = codes "geo"
source_word Field = codes "field"

-- ---- the source that counts

-- the first of the element, the member and the field
abbrev pub first_source : Bool → Bool → Bool → Option FactSource
first_source true geo field = Some Element
first_source false true field = Some Geo
first_source false false true = Some Field
first_source false false false = None

-- whether a source says something, and no default
abbrev pub is_said : Option Bool → Bool
is_said None = false
is_said (Some is_default) = not is_default

-- by whether what each says is a default: the first that says something and no default, and else the first that says something
abbrev pub source_counting : BySource Bool → Option FactSource
source_counting ds =
    option_or (first_source (is_said ds.element) (is_said ds.geo) (is_said ds.field))
    (first_source (is_some ds.element) (is_some ds.geo) (is_some ds.field))

-- ---- what the others say

-- the verdict of what a source says and what counts, if it says something
abbrev pub verdict_beside : {A : Type 0} → (A → A → Verdict) → Option A → Option A → Option Verdict
verdict_beside verdict None counts = None
verdict_beside verdict (Some said) None = None
verdict_beside verdict (Some said) (Some counts) = Some (verdict said counts)

-- of each source but the one that counts
abbrev pub against : {A : Type 0} → (A → A → Verdict) → FactSource → BySource A → Against
against verdict Element xs =
    record { element = None; geo = verdict_beside verdict xs.geo xs.element; field = verdict_beside verdict xs.field xs.element }
against verdict Geo xs =
    record { element = verdict_beside verdict xs.element xs.geo; geo = None; field = verdict_beside verdict xs.field xs.geo }
against verdict Field xs =
    record { element = verdict_beside verdict xs.element xs.field; geo = verdict_beside verdict xs.geo xs.field; field = None }

-- the verdict on two texts
abbrev pub text_verdict : Text → Text → Verdict
text_verdict said counts = if bytes_eq said counts then Agree else Contradict
