-- What reading gives: a value, or the first rule that is broken; of a record also where it begins.
use Rattle.std.specs.Prelude.{◌≡◌, ℕ, Bool, List, length, Result, Ok, Err, if◌then◌else◌, codes}
use Rattle.record_wire.specs.declared.fault.Rule.{Rule}
use Rattle.record_wire.specs.declared.fault.Rule.TheVariants as rules
use Rattle.record_wire.specs.declared.fault.Fault.{Fault}

-- one step after another, up to the first error
infixl 10 ◌>>=◌
abbrev pub ◌>>=◌ : {A B E : Type 0} → Result A E → (A → Result B E) → Result B E
(Ok x) >>= f = f x
(Err e) >>= f = Err e

-- a rule is kept, or broken
abbrev pub kept : Bool → Rule → Result (Unit {0}) Rule
kept is_kept rule = if is_kept then Ok tt else Err rule

-- a rule is broken in the record at the front of the bytes
abbrev pub broken : Rule → List ℕ → Fault
broken rule bytes = record { rule = rule; left = length bytes }

-- what is read of the record at the front of the bytes
abbrev pub within : {A : Type 0} → List ℕ → Result A Rule → Result A Fault
within bytes (Ok x) = Ok x
within bytes (Err rule) = Err (broken rule bytes)

-- a call returned, seen by view, what reading gives
abbrev pub Returns : {X Y E : Type 0} → (X → Y) → Result X E → Result Y E → Type 0
Returns view (Ok x) read = read ≡ Ok (view x)
Returns view (Err e) read = read ≡ Err e

-- what is wrong where a rule is broken
abbrev pub rule_message : Rule → List ℕ
rule_message rules.Head = codes "no number of structures"
rule_message rules.Size = codes "a record without its size"
rule_message rules.End = codes "a record that is cut off"
rule_message rules.Marks = codes "unknown marks, or marks that its texts do not have"
rule_message rules.Nul = codes "a text without its end"
rule_message rules.Utf8 = codes "a text that is not UTF-8"
rule_message rules.Count = codes "a wrong number of children"
rule_message rules.Depth = codes "a wrong level, or structures that are nested too deep"
rule_message rules.Rest = codes "more behind the last structure"
rule_message rules.Format = codes "an unknown type"
rule_message rules.Children = codes "a type with a wrong number of children"

-- what a rule asks
abbrev pub rule_wanted : Rule → List ℕ
rule_wanted rules.Head = codes "a number that is not 0, and a 0"
rule_wanted rules.Size = codes "a multiple of 8, from 32 to as many bytes as are left"
rule_wanted rules.End = codes "numbers, texts and metadata within the record"
rule_wanted rules.Marks = codes "marks below 8, and no bytes of what the structure has not"
rule_wanted rules.Nul = codes "a byte 0 behind the text, and none within"
rule_wanted rules.Utf8 = codes "UTF-8"
rule_wanted rules.Count = codes "as many children as stand before it, and all in the last"
rule_wanted rules.Depth = codes "at most 61 levels, each one more than that around it"
rule_wanted rules.Rest = codes "nothing behind the last structure"
rule_wanted rules.Format = codes "a format string of Arrow's C data interface"
rule_wanted rules.Children = codes "as many children as the type must have"
