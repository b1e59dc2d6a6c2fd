-- When two CRSs are one (docs/FORMAT.md, 5.3).
use Rattle.std.specs.Prelude.{Bool, false, if◌then◌else◌, Option, Some, None, option_and_then}
use Rattle.std.specs.List.{list_any}
use Rattle.crs_identity.specs.Identifiers.{is_paired, share_identifier, share_authority}
use Rattle.crs_identity.specs.Forms.{Said, unknown, value, srid, said, Form, number, form_of_value, identifiers, are_equal}
use Rattle.crs_identity.specs.Classes.{class_of, classes_differ}
use Rattle.crs_identity.specs.declared.class.Class.{Class}
use Rattle.crs_identity.specs.declared.verdict.Claim.{Claim}
use Rattle.crs_identity.specs.declared.verdict.Verdict.{Verdict}
use Rattle.crs_identity.specs.declared.verdict.Verdict.TheVariants.{Agree, Contradict, NotCompared}

-- what a source says of the CRS, and whether that is the format's default
pub record Claimed : Type 0 where
  pub crs : Said
  pub is_default : Bool

abbrev pub claim : Claim → Claimed
claim c = record { crs = said c.crs; is_default = c.is_default }

-- the form of a CRS that is said, if it is known
abbrev pub form_said : Said → Option Form
form_said unknown = None
form_said (value j) = Some (form_of_value j)
form_said (srid j) = Some (number j)

-- of two known CRSs, by the first row that applies
abbrev pub verdict_of : Form → Form → Verdict
verdict_of f g =
    if share_identifier (identifiers f) (identifiers g) then Agree else
    (if are_equal f g then Agree else
    (if share_authority (identifiers f) (identifiers g) then Contradict else
    (if classes_differ (class_of f) (class_of g) then Contradict else
    NotCompared)))

-- of a CRS that is not known, and one that is said or a default
abbrev pub verdict_of_unknown : Bool → Verdict
verdict_of_unknown is_default = if is_default then NotCompared else Contradict

abbrev pub verdict_by : Bool → Bool → Option Form → Option Form → Verdict
verdict_by first_default second_default None None = Agree
verdict_by first_default second_default None (Some g) = verdict_of_unknown second_default
verdict_by first_default second_default (Some f) None = verdict_of_unknown first_default
verdict_by first_default second_default (Some f) (Some g) = verdict_of f g

abbrev pub crs_verdict : Claimed → Claimed → Verdict
crs_verdict a b = verdict_by a.is_default b.is_default (form_said a.crs) (form_said b.crs)

-- the class of a CRS, if it is known and has one
abbrev pub class_said : Said → Option Class
class_said s = option_and_then class_of (form_said s)

-- whether an identifier of a form is one of the table of pairs
abbrev pub has_paired : Option Form → Bool
has_paired None = false
has_paired (Some f) = list_any is_paired (identifiers f)
