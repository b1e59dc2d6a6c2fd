-- What reading gives: a value, or the rule that is broken first, and how many bytes are left there.
use Rattle.std.specs.Prelude.{◌≡◌, ℕ, ◌+◌, Bool, List, length, Option, Some, None, Result, Ok, Err, if◌then◌else◌}
use Rattle.parquet_footer.specs.declared.fault.FooterRule.{FooterRule}
use Rattle.parquet_footer.specs.declared.fault.Fault.{Fault}
use Rattle.parquet_footer.specs.declared.fault.Stop.{Stop}
use Rattle.parquet_footer.specs.declared.fault.Stop.TheVariants as stops
use Rattle.parquet_footer.specs.declared.fault.FooterError.{FooterError}
use Rattle.parquet_footer.specs.declared.fault.FooterError.TheVariants as errors
use Rattle.parquet_footer.specs.declared.fault.FooterRule.TheVariants.{Missing}

-- a rule is broken at the front of the bytes
abbrev pub broken : FooterRule → List ℕ → Fault
broken rule bytes = record { rule = rule; left = length bytes }

abbrev pub refused : {A : Type 0} → FooterRule → List ℕ → Result A Fault
refused rule bytes = Err (broken rule bytes)

-- the rule is kept at the front of the bytes, or broken
abbrev pub kept : Bool → FooterRule → List ℕ → Result (Unit {0}) Fault
kept is_kept rule bytes = if is_kept then Ok tt else refused rule bytes

-- one step after another, up to the first fault
infixl 10 ◌>>=◌
abbrev pub ◌>>=◌ : {A B : Type 0} → Result A Fault → (A → Result B Fault) → Result B Fault
(Ok x) >>= f = f x
(Err e) >>= f = Err e

-- what is required
abbrev pub needed : {A : Type 0} → List ℕ → Option A → Result A Fault
needed bytes None = refused Missing bytes
needed bytes (Some x) = Ok x

-- a call that allocates nothing returned, seen by view, what reading gives
abbrev pub Returns : {X Y : Type 0} → (X → Y) → Result X Fault → Result Y Fault → Type 0
Returns view (Ok x) read = read ≡ Ok (view x)
Returns view (Err e) read = read ≡ Err e

abbrev pub Stops : {Y : Type 0} → Stop → Result Y Fault → Type 0
Stops stops.Memory read = Unit {0}
Stops (stops.Fault f) read = read ≡ Err f

-- a call that allocates returned, seen by view, what reading gives, or is out of memory
abbrev pub Gives : {X Y : Type 0} → (X → Y) → Result X Stop → Result Y Fault → Type 0
Gives view (Ok x) read = read ≡ Ok (view x)
Gives view (Err e) read = Stops e read

-- the rule of an error is the first that is broken, and it is broken at that offset
abbrev pub Refuses : {Y : Type 0} → List ℕ → FooterError → Result Y Fault → Type 0
Refuses bytes errors.NotParquet read = ⊥
Refuses bytes errors.Encrypted read = ⊥
Refuses bytes (errors.Invalid rule offset) read = (left : ℕ) × (read ≡ Err (record { rule = rule; left = left })) × (offset + left ≡ length bytes)
Refuses bytes errors.Memory read = Unit {0}

-- a public call returned, seen by view, what reading these bytes gives, or is out of memory
abbrev pub Says : {X Y : Type 0} → (X → Y) → List ℕ → Result X FooterError → Result Y Fault → Type 0
Says view bytes (Ok x) read = read ≡ Ok (view x)
Says view bytes (Err e) read = Refuses bytes e read
