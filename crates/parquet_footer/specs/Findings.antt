-- What is found in a footer that is read: names, keys and values that are not UTF-8 (docs/FORMAT.md, 4.3).
use Rattle.std.specs.Prelude.{◌≡◌, ℕ, ◌||◌, Bool, List, [], ◌∷◌, ◌++◌, map, flat_map, codes, Option, Some, None, if◌then◌else◌}
use Rattle.std.specs.Str.{is_utf8, bytes_eq}
use Rattle.parquet_footer.specs.declared.code.FooterCode.{FooterCode}
use Rattle.parquet_footer.specs.declared.code.FooterCode.TheVariants.{NameNotText, KeyNotText}
use Rattle.parquet_footer.specs.declared.finding.FooterFinding.{FooterFinding}
use Rattle.parquet_footer.specs.declared.footer.Footer.{Footer}
use Rattle.parquet_footer.specs.Spelled.{Spelled, spelled}
use Rattle.parquet_footer.specs.Element.{Element}
use Rattle.parquet_footer.specs.Footer.{Pairing, contents}

pub record Finding : Type 0 where
  pub code : FooterCode
  pub text : Spelled

abbrev pub finding : FooterFinding → Finding
finding f = record { code = f.code; text = spelled f.text }

-- bytes that are not UTF-8
abbrev pub no_text : FooterCode → Spelled → List Finding
no_text code t = if is_utf8 t.bytes then [] else record { code = code; text = t } ∷ []

abbrev pub name_findings : Element → List Finding
name_findings e = no_text NameNotText e.storage.name

-- the keys that are used, whose values are looked at where they are used
abbrev pub is_used : List ℕ → Bool
is_used key = bytes_eq key (codes "geo") || bytes_eq key (codes "ARROW:schema")

abbrev pub value_findings : List ℕ → Option Spelled → List Finding
value_findings key None = []
value_findings key (Some value) = if is_used key then [] else no_text KeyNotText value

abbrev pub pair_findings : Pairing → List Finding
pair_findings p = no_text KeyNotText p.key ++ value_findings p.key.bytes p.value

-- those of the elements, and those of the pairs, in their order
abbrev pub findings_of : List Element → List Pairing → List Finding
findings_of es ps = flat_map name_findings es ++ flat_map pair_findings ps

-- a footer has the findings of its contents
abbrev pub HasFindings : Footer → Type 0
HasFindings f = map finding f.findings.items ≡ findings_of (contents f).schema (contents f).key_value_metadata
