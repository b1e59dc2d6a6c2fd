-- The text of a value without blanks, read again.
use Rattle.std.proofs.Common.{◌≡◌, ◌≢◌, ℕ, ◌≤◌, ◌==◌, Bool, true, false, true≢false, List, [], ◌∷◌, ◌++◌, Option, Some, None, IfSome, option_map, refl, sym, ap, subst, ◌∙◌, arith, append-nil}
use Rattle.std.proofs.lemmas.Bool.{eqb-true}
use Rattle.json.specs.Json.{Json, null, boolean, number, string, array, object, Members, no_members, member, value}
use Rattle.json.specs.Find.{get, get_member, later_or}
use Rattle.json.specs.Lex.{tokens}
use Rattle.json.specs.Word.{after_number}
use Rattle.json.specs.Print.{print, print_from, IsNumber}
use Rattle.json.specs.Tree.{json_tokens, depth, members_depth, HasNumbers}
use Rattle.json.proofs.Numbered.{HasNumbers-get}
use Rattle.json.proofs.Printed.Tokens.{tokens-print}
use Rattle.json.proofs.Printed.Trees.{document-print, value-json_tokens, ArePrintable-json_tokens}
use Rattle.serde_json.specs.Read.{of_json, read, max_depth}
use Rattle.value_tokens.specs.Values.{IsReadable, json_in, or_null, is_object, is_string, begins_with}
use Rattle.value_tokens.proofs.Whole.{read_so}

pub printed_tokens : (j : Json) → IsReadable j → tokens (print (json_tokens j)) ≡ json_tokens j
printed_tokens j h = tokens-print (json_tokens j) (ArePrintable-json_tokens j h.0)

pub json_in_print : (j : Json) → IsReadable j → json_in (print (json_tokens j)) ≡ j
json_in_print j h = ap or_null (document-print j h.0 (omega (arith, h.1)))

pub printed_value : (j : Json) → IsReadable j → value max_depth (tokens (print (json_tokens j))) ≡ Some (j, [])
printed_value j h = ap (value max_depth) (printed_tokens j h ∙ sym (append-nil (json_tokens j))) ∙ value-json_tokens j max_depth [] h.1

pub printed_read : (j : Json) → IsReadable j → read (print (json_tokens j)) ≡ of_json j
printed_read j h = read_so (print (json_tokens j)) [] j (printed_value j h) refl

-- ---- a member

abbrev Shallow : ℕ → Option Json → Type 0
Shallow n o = IfSome o (λ j. depth j ≤ n)

either : (n : ℕ) (k name : List ℕ) (o : Option Json) (j : Json) (b : Bool) → Shallow n o → depth j ≤ n → Shallow n (later_or o (Rattle.std.proofs.Common.cond b (Some j) None))
either n k name None j true h le = le
either n k name None j false h le = tt
either n k name (Some i) j b h le = h

members_shallow : (name : List ℕ) (ms : Members) (n : ℕ) → members_depth ms ≤ n → Shallow n (get_member name ms)
members_shallow name no_members n le = tt
members_shallow name (member k j ms) n le = either n k name (get_member name ms) j _ (members_shallow name ms n (omega (arith, le))) (omega (arith, le))

shallow : (name : List ℕ) (j : Json) (n : ℕ) → depth j ≤ n → Shallow n (get name j)
shallow name null n le = tt
shallow name (boolean b) n le = tt
shallow name (number s) n le = tt
shallow name (string s) n le = tt
shallow name (array js) n le = tt
shallow name (object ms) n le = members_shallow name ms n (omega (arith, le))

-- what is found in a value is readable as that is
pub found_readable : {V : Type 0} (f : V → Json) (o : Option V) (k : List ℕ) (j : Json) → IsReadable j → option_map f o ≡ get k j → IfSome o (λ v. IsReadable (f v))
found_readable f None k j h e = tt
found_readable f (Some v) k j h e = (HasNumbers-get k j (f v) h.0 e, subst (Shallow max_depth) (sym e) (shallow k j max_depth h.1))

-- ---- the first byte

not_first : (b : ℕ) (s rest : List ℕ) → ((r : List ℕ) → after_number (b ∷ r) ≡ None) → after_number [] ≡ None → IsNumber s → begins_with (s ++ rest) b ≡ false
not_first b [] rest never none h = grind (arith, none, h)
not_first b (x ∷ s) rest never none h = go (x == b) refl
  where
    go : (c : Bool) → x == b ≡ c → c ≡ false
    go true e = let same : after_number (b ∷ s) ≡ Some [] = subst (λ y. after_number (y ∷ s) ≡ Some []) (eqb-true x b e) h in grind (arith, same, never)
    go false e = refl

pub first_of_object : (j : Json) → HasNumbers j → begins_with (print (json_tokens j)) 123 ≡ is_object j
unfolding print_from after_number
first_of_object null h = refl
first_of_object (boolean true) h = refl
first_of_object (boolean false) h = refl
first_of_object (number s) h = not_first 123 s [] (λ r. refl) refl h
first_of_object (string s) h = refl
first_of_object (array js) h = refl
first_of_object (object ms) h = refl

pub first_of_string : (j : Json) → HasNumbers j → begins_with (print (json_tokens j)) 34 ≡ is_string j
unfolding print_from after_number
first_of_string null h = refl
first_of_string (boolean true) h = refl
first_of_string (boolean false) h = refl
first_of_string (number s) h = not_first 34 s [] (λ r. refl) refl h
first_of_string (string s) h = refl
first_of_string (array js) h = refl
first_of_string (object ms) h = refl
