-- What decides about the value that is next, by the token that it begins with.
use Rattle.serde_json.specs.declared.value.Value.{the_lemmas}
use Rattle.serde_json.proofs.Views.{view-Array, view-Object}
use Rattle.value_tokens.proofs.Turns.{no_value, value-array, value-object, array_too_deep, object_too_deep}
use Rattle.value_tokens.proofs.Beginnings.{next_string, next_boolean, next_null, next_number, no_key, no_end_object, no_end_array, no_bad}

pub ruleset first_nested = (no_value, array_too_deep, object_too_deep, value-array, value-object)

pub ruleset first_tokens = (first_nested, next_string, next_boolean, next_null, next_number, no_key, no_end_object, no_end_array, no_bad)

-- with how a value of the tree is viewed
pub ruleset first_values = (first_tokens, the_lemmas, view-Array, view-Object)
