-- The CRS that counts is that of its source.
use Rattle.std.proofs.Common.{◌≡◌, Bool, true, false, Option, Some, None, option_and_then, option_map, refl, sym, ap, ◌∙◌, if◌then◌else◌}
use Rattle.crs_identity.specs.Verdicts.{Claimed}
use Rattle.geoparquet.specs.Counting.{counting}
use Rattle.geoparquet.specs.FactSources.{BySource, of_source, source_counting}
use Rattle.geoparquet.specs.Facts.{crs_defaults}
use Rattle.geoparquet.specs.FactLaws.{claim_counting}
use Rattle.geoparquet.specs.declared.fact_sources.FactSource.{FactSource}
use Rattle.geoparquet.specs.declared.fact_sources.FactSource.TheVariants.{Element, Geo, Field}

-- of two claims, each with whether it is a default
abbrev first : {A : Type 0} → Option (Bool × A) → Option (Bool × A) → Option (Bool × A)
first None q = q
first (Some p) None = Some p
first (Some p) (Some q) = if p.0 then (if q.0 then Some p else Some q) else Some p

abbrev three : {A : Type 0} → Option A → Option A → Option A → BySource A
three e g f = record { element = e; geo = g; field = f }

gen : {A : Type 0} (e g f : Option (Bool × A)) → first (first e g) f ≡ option_and_then (λ s. of_source s (three e g f)) (source_counting (three (option_map (λ p. p.0) e) (option_map (λ p. p.0) g) (option_map (λ p. p.0) f)))
gen None None None = refl
gen None None (Some (true, c)) = refl
gen None None (Some (false, c)) = refl
gen None (Some (true, b)) None = refl
gen None (Some (true, b)) (Some (true, c)) = refl
gen None (Some (true, b)) (Some (false, c)) = refl
gen None (Some (false, b)) None = refl
gen None (Some (false, b)) (Some (true, c)) = refl
gen None (Some (false, b)) (Some (false, c)) = refl
gen (Some (true, a)) None None = refl
gen (Some (true, a)) None (Some (true, c)) = refl
gen (Some (true, a)) None (Some (false, c)) = refl
gen (Some (true, a)) (Some (true, b)) None = refl
gen (Some (true, a)) (Some (true, b)) (Some (true, c)) = refl
gen (Some (true, a)) (Some (true, b)) (Some (false, c)) = refl
gen (Some (true, a)) (Some (false, b)) None = refl
gen (Some (true, a)) (Some (false, b)) (Some (true, c)) = refl
gen (Some (true, a)) (Some (false, b)) (Some (false, c)) = refl
gen (Some (false, a)) None None = refl
gen (Some (false, a)) None (Some (true, c)) = refl
gen (Some (false, a)) None (Some (false, c)) = refl
gen (Some (false, a)) (Some (true, b)) None = refl
gen (Some (false, a)) (Some (true, b)) (Some (true, c)) = refl
gen (Some (false, a)) (Some (true, b)) (Some (false, c)) = refl
gen (Some (false, a)) (Some (false, b)) None = refl
gen (Some (false, a)) (Some (false, b)) (Some (true, c)) = refl
gen (Some (false, a)) (Some (false, b)) (Some (false, c)) = refl

-- a claim with whether it is a default
abbrev with_default : Option Claimed → Option (Bool × Claimed)
with_default o = option_map (λ c. (c.is_default, c)) o

chosen : (a b : Claimed) (x y : Bool) → with_default (if x then (if y then Some a else Some b) else Some a) ≡ (if x then (if y then Some (a.is_default, a) else Some (b.is_default, b)) else Some (a.is_default, a))
chosen a b true true = refl
chosen a b true false = refl
chosen a b false y = refl

of_two : (a b : Option Claimed) → with_default (counting a b) ≡ first (with_default a) (with_default b)
of_two None b = refl
of_two (Some a) None = refl
of_two (Some a) (Some b) = chosen a b a.is_default b.is_default

back : (o : Option Claimed) → option_map (λ p. p.1) (with_default o) ≡ o
back None = refl
back (Some c) = refl

default_of : (o : Option Claimed) → option_map (λ p. p.0) (with_default o) ≡ option_map (λ c. c.is_default) o
default_of None = refl
default_of (Some c) = refl

from_source : (e g f : Option Claimed) (o : Option FactSource) → option_map (λ p. p.1) (option_and_then (λ s. of_source s (three (with_default e) (with_default g) (with_default f))) o) ≡ option_and_then (λ s. of_source s (three e g f)) o
from_source e g f None = refl
from_source e g f (Some Element) = back e
from_source e g f (Some Geo) = back g
from_source e g f (Some Field) = back f

defaults : (e g f : Option Claimed) → three (option_map (λ p. p.0) (with_default e)) (option_map (λ p. p.0) (with_default g)) (option_map (λ p. p.0) (with_default f)) ≡ crs_defaults (three e g f)
defaults e g f =
    ap (λ d. three d (option_map (λ p. p.0) (with_default g)) (option_map (λ p. p.0) (with_default f))) (default_of e)
    ∙ ap (λ d. three (option_map (λ c. c.is_default) e) d (option_map (λ p. p.0) (with_default f))) (default_of g)
    ∙ ap (λ d. three (option_map (λ c. c.is_default) e) (option_map (λ c. c.is_default) g) d) (default_of f)

pub counts : (cs : BySource Claimed) → counting (counting cs.element cs.geo) cs.field ≡ claim_counting cs
counts cs =
    let e = cs.element in
    let g = cs.geo in
    let f = cs.field in
    sym (back (counting (counting e g) f))
    ∙ ap (option_map (λ p. p.1)) (of_two (counting e g) f ∙ ap (λ o. first o (with_default f)) (of_two e g) ∙ gen (with_default e) (with_default g) (with_default f))
    ∙ ap (λ ds. option_map (λ p. p.1) (option_and_then (λ s. of_source s (three (with_default e) (with_default g) (with_default f))) (source_counting ds))) (defaults e g f)
    ∙ from_source e g f (source_counting (crs_defaults cs))
