-- The derived `==` of CRS and of metadata answers true exactly at equal values.
use Rattle.std.proofs.Common.{◌≡◌, Bool, Option, None, Some, refl, ap}
use denote.Enum.Bare.{same_true, true_same}
use Rattle.std.specs.Bool.{Decides}
use Rattle.std.specs.Option.{option_eq}
use Rattle.std.proofs.lemmas.Bool.Decides.{Decides-and, Decides-like}
use Rattle.geoarrow_meta.specs.Code.{same_decides}
use Rattle.geoarrow_meta.specs.declared.crs.Crs.{Crs}
use Rattle.geoarrow_meta.specs.declared.metadata.Metadata.{Metadata}
use Rattle.geoarrow_meta.specs.contracts.crs.crs_type.CrsType.{the_type as crs_types}
use Rattle.geoarrow_meta.specs.contracts.edges.Edges.{the_type as edges}
use Rattle.geoarrow_meta.specs.contracts.crs.CrsPartialEq.TheImpl as crss
use Rattle.geoarrow_meta.specs.contracts.metadata.MetadataPartialEq.TheImpl as metadatas

option-Decides : {A : Type 0} (E : A → A → Bool) → ((x y : A) → Decides (E x y) (x ≡ y)) → (o p : Option A) → Decides (option_eq E o p) (o ≡ p)
option-Decides E d None None = (λ h. refl, λ p. refl)
option-Decides E d (Some x) (Some y) = Decides-like _ (λ e. ap Some e) (λ p. cc) (d x y)
option-Decides E d _ _ = (λ h. cc, λ p. cc)

pub crs_decides : (a b : Crs) → Decides ((crss.eq-value).it a b) (a ≡ b)
crs_decides a b =
    Decides-like _ (λ h i. record { value = h.0 i; crs_type = h.1 i }) (λ p. (ap (λ c. c.value) p, ap (λ c. c.crs_type) p))
    (Decides-and _ _ (option-Decides _ same_decides a.value b.value) (option-Decides _ (λ s t. (same_true crs_types tt s t, true_same crs_types s t)) a.crs_type b.crs_type))

pub metadata_decides : (a b : Metadata) → Decides ((metadatas.eq-value).it a b) (a ≡ b)
metadata_decides a b =
    Decides-like _ (λ h i. record { crs = h.0 i; edges = h.1 i }) (λ p. (ap (λ m. m.crs) p, ap (λ m. m.edges) p))
    (Decides-and _ _ (crs_decides a.crs b.crs) (option-Decides _ (λ s t. (same_true edges tt s t, true_same edges s t)) a.edges b.edges))
