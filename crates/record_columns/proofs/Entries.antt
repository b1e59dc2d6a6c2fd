-- Entries of metadata one after the other, as a loop puts them.
use Rattle.std.proofs.Common.{◌≡◌, ℕ, suc, ◌+◌, ◌-◌, ◌<◌, ◌≤◌, List, [], ◌∷◌, Result, Ok, Err}
use Rattle.std.proofs.Common.{String, string_bytes, string_cmp, Ordering, refl, sym, ap, ◌∙◌, arith}
use Rattle.std.specs.declared.alloc.Global.{Global}
use Rattle.std.specs.Ordering.{match_ordering}
use Rattle.std.specs.BTreeMap.{insert_entry}
use Rattle.arrow_values.specs.Tree.{Metadata}
use Rattle.arrow_values.specs.View.{texts_of}
use Rattle.arrow_values.specs.Texts.{put_text}
use Rattle.record_wire.specs.Fault.{◌>>=◌}
use Rattle.record_wire.specs.declared.fault.Rule.{Rule}
use Rattle.record_columns.specs.Errors.{Refuses}
use Rattle.record_columns.specs.Texts.{put_entry, put_entries}
use Rattle.record_columns.specs.declared.error.Refusal.{Refusal}
use Rattle.record_columns.specs.declared.error.Refusal.TheVariants as refusals

abbrev Texts : Type 0
Texts = List (String Global × String Global)

-- the texts of a map after an insert
moved : (r : Ordering) (a b c : Texts)
    → texts_of (match_ordering r a b c) ≡ match_ordering r (texts_of a) (texts_of b) (texts_of c)
moved r a b c = grind arith

pub inserted : (es : Texts) (k v : String Global)
    → texts_of (insert_entry string_cmp es k v)
    ≡ put_text (string_bytes k) (string_bytes v) (texts_of es)
inserted [] k v = refl
inserted (e ∷ es) k v = moved (string_cmp k e.0) _ _ _ ∙ rw (inserted es k v)

pub begins : (texts : Metadata) (count : ℕ) (bytes : List ℕ)
    → put_entries (count - 0) texts bytes ≡ put_entries count texts bytes
begins texts count bytes = let k : count - 0 ≡ count = omega arith in rw k refl

-- behind i entries of count, which are the rest of all
module _ (texts : Metadata) (i count : ℕ) (bytes : List ℕ) (all : Result Metadata Rule)
    (is : put_entries (count - i) texts bytes ≡ all) where
  turn : i < count → put_entries (count - i) texts bytes
      ≡ (put_entry texts bytes >>= λ e. put_entries (count - (i + 1)) e.0 e.1)
  unfolding put_entries
  turn more = let k : count - i ≡ suc (count - (i + 1)) = omega arith in rw k refl

  pub goes_on : i < count → (ts : Metadata) (rest : List ℕ) → put_entry texts bytes ≡ Ok (ts, rest)
      → put_entries (count - (i + 1)) ts rest ≡ all
  goes_on more ts rest one = sym (sym is ∙ turn more
      ∙ ap (λ r. r >>= λ e. put_entries (count - (i + 1)) e.0 e.1) one)

  fails : i < count → (rule : Rule) → put_entry texts bytes ≡ Err rule → all ≡ Err rule
  fails more rule one = sym is ∙ turn more
      ∙ ap (λ r. r >>= λ e. put_entries (count - (i + 1)) e.0 e.1) one

  pub breaks_off : i < count → (e : Refusal) → Refuses e (put_entry texts bytes) → Refuses e all
  breaks_off more (refusals.Rule rule) f = fails more rule f
  breaks_off more refusals.OutOfMemory f = tt

  pub is_done : count ≤ i → all ≡ Ok texts
  unfolding put_entries
  is_done none = let k : count - i ≡ 0 = omega arith in sym is ∙ rw k refl

pub ruleset entry_steps = (begins, goes_on, breaks_off, is_done)
