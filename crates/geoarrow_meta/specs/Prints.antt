-- The tokens of a member that is a text.
use Rattle.std.specs.Prelude.{List, [], ◌∷◌, Option, None, Some}
use Rattle.json.specs.Token.{Token, key, string}
use Rattle.arrow_values.specs.Tree.{Text}

-- the tokens of a key and its text, if there is one
abbrev pub text_tokens : Text → Option Text → List Token
text_tokens k None = []
text_tokens k (Some s) = key k ∷ string s ∷ []
