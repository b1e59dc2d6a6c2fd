-- Which tokens a JSON writer was given.
use Rattle.std.specs.Prelude.{◌≡◌, List, ◌++◌, Some}
use Rattle.json.specs.Token.{Token}
use Rattle.json.specs.Tree.{json_tokens, items_tokens, members_tokens}
use Rattle.json.specs.Written.{Written}
use Rattle.serde_json.specs.Data.{Data, Items, Members, no_members}
use Rattle.serde_json.specs.Read.{of_json, of_items, of_members}
use Rattle.serde_json.specs.Written.{outline, items_outline, members_outline}

-- these tokens were added, and the bytes before the writer's first token are as they were
pub record Adds (ts : List Token) (old new : Written) : Type 0 where
  pub tokens : new.tokens ≡ old.tokens ++ ts
  pub before : new.before ≡ old.before

-- the value's tokens were added, and they are read back as the value
pub record Prints (d : Data) (old new : Written) : Type 0 where
  pub adds : Adds (json_tokens (outline d)) old new
  pub reads_back : of_json (outline d) ≡ Some d

-- the same for the items of an array and its closing bracket
pub record PrintsItems (ds : Items) (old new : Written) : Type 0 where
  pub adds : Adds (items_tokens (items_outline ds)) old new
  pub reads_back : of_items (items_outline ds) ≡ Some ds

-- the same for the members of an object and its closing bracket
pub record PrintsMembers (ms : Members) (old new : Written) : Type 0 where
  pub adds : Adds (members_tokens (members_outline ms)) old new
  pub reads_back : of_members (members_outline ms) no_members ≡ Some ms
