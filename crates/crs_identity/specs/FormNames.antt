-- The forms of CRSs by their names.
use Rattle.std.specs.Prelude.{◌||◌, List, ◌∷◌, Bool, false, bytes_eq, codes, if◌then◌else◌}
use Rattle.crs_identity.specs.Forms.{Form, projjson, code, wkt, number, other}
use Rattle.crs_identity.specs.Identifiers.{Text, in_small}
use Rattle.crs_identity.specs.Tokens.{Lexeme, word}
use Rattle.crs_identity.specs.declared.names.FormName.{FormName}
use Rattle.crs_identity.specs.declared.names.FormName.TheVariants.{Projjson, Code, Wkt1, Wkt, Other}

-- the words, in small letters, that WKT 1 has and WKT 2 has not
abbrev pub is_wkt1_word : Text → Bool
is_wkt1_word s =
    bytes_eq s (codes "geogcs") || (bytes_eq s (codes "projcs") || (bytes_eq s (codes "compd_cs")
    || (bytes_eq s (codes "geoccs") || (bytes_eq s (codes "vert_cs") || bytes_eq s (codes "local_cs")))))

abbrev pub is_wkt1 : List Lexeme → Bool
is_wkt1 (word s ∷ ls) = is_wkt1_word (in_small s)
is_wkt1 ls = false

abbrev pub form_name : Form → FormName
form_name (projjson j) = Projjson
form_name (code n) = Code
form_name (wkt ls) = if is_wkt1 ls then Wkt1 else Wkt
form_name (number j) = Other
form_name (other j) = Other
