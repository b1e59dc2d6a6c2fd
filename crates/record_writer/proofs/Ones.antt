-- The record of one column.
use Rattle.std.proofs.Common.{◌≡◌, ℕ, ◌+◌, ◌≤◌, Bool, true, false, ◌||◌, List}
use Rattle.std.proofs.Common.{[]}
use Rattle.std.proofs.Common.{◌∷◌, ◌++◌, length, Some, None, Ok, refl, sym, ap, ◌∙◌, arith}
use Rattle.std.proofs.Common.{inl, inr, append-nil}
use Rattle.std.specs.Option.{unwrap_or}
use Rattle.std.proofs.lemmas.Bool.{lt-ltb}
use Rattle.arrow_values.specs.Tree.{Text}
use Rattle.record_wire.specs.Write.{text_of, room_of as record_room, size_of, bytes_of, IsReadAs}
use Rattle.record_wire.specs.Trees.{RefusesRecord}
use Rattle.record_wire.specs.declared.trees.Records.{Records}
use Rattle.record_wire.specs.declared.write.WriteError as wire
use Rattle.record_wire.specs.declared.write.WriteError.TheVariants as wires
use Rattle.record_columns.specs.Texts.{texts_in}
use Rattle.record_writer.specs.Placed.{Placed}
use Rattle.record_writer.specs.Formats.{format_in}
use Rattle.record_writer.specs.Texts.{metadata_bytes}
use Rattle.record_writer.specs.Structures.{structure_of, room_of}
use Rattle.record_writer.specs.Refusals.{refusal_of}
use Rattle.record_writer.specs.Writes.{Grown, Refuses, RefusesRoom}
use Rattle.record_writer.specs.declared.error.Refusal.{Refusal}
use Rattle.record_writer.specs.declared.error.Refusal.TheVariants as refusals
use Rattle.record_writer.proofs.Nuls.{format_none}

or_false : (b : Bool) → b ≡ true → (b || false) ≡ true
or_false true is = refl
or_false false is = cc

pub formless : (p : Placed) (n : ℕ) → format_in p.column.data_type ≡ None
    → Refuses refusals.Format n (p ∷ [])
formless p n is = rw is refl

metadata_room : (p : Placed)
    → length (text_of (metadata_bytes p.column.metadata)) ≤ room_of (p ∷ [])
metadata_room p =
    let s = structure_of p in
    let r : record_room s ≤ size_of s = omega arith in
    omega (arith, r)

pub metadata_refused : (e : Refusal) (p : Placed) (n : ℕ)
    → RefusesRoom e (length (text_of (metadata_bytes p.column.metadata))) → Refuses e n (p ∷ [])
metadata_refused refusals.TooLarge p n r = let k = metadata_room p in inr (omega (arith, k, r))
metadata_refused refusals.OutOfMemory p n r = tt
metadata_refused _ p n r = absurd r

pub refuses_more : (e : Refusal) (n : ℕ) (ps : List Placed) → Refuses e 0 ps → Refuses e n ps
refuses_more refusals.Format n ps r = r
refuses_more refusals.Nul n ps r = r
refuses_more refusals.TooDeep n ps r = r
refuses_more refusals.TooLarge n ps (inl many) = inl (omega (arith, many))
refuses_more refusals.TooLarge n ps (inr large) = inr large
refuses_more refusals.OutOfMemory n ps r = tt

pub wire_refused : (e : wire.WriteError) (p : Placed) (n : ℕ)
    → RefusesRecord e (n + 1) (structure_of p) → Refuses (refusal_of e) n (p ∷ [])
wire_refused wires.Nul p n r =
    let none = format_none p.column.data_type in or_false _ (rw none at r)
wire_refused wires.TooDeep p n r = rw (lt-ltb 61 p.level r) refl
wire_refused wires.TooLarge p n (inl many) = inl (omega (arith, many))
wire_refused wires.TooLarge p n (inr large) = inr (omega (arith, large))
wire_refused wires.OutOfMemory p n r = tt

pub grown_one : (a b : Records) (p : Placed) (format : Text)
    → b.count ≡ a.count + 1 → b.bytes.items ≡ a.bytes.items ++ bytes_of (structure_of p)
    → format_in p.column.data_type ≡ Some format
    → texts_in (metadata_bytes p.column.metadata) ≡ Ok p.column.metadata → p.level ≤ 61
    → IsReadAs (bytes_of (structure_of p)) (structure_of p) → Grown a b (p ∷ [])
grown_one a b p format count bytes is texts low reads = record {
  count = count;
  bytes = bytes ∙ ap (λ l. a.bytes.items ++ l) (sym (append-nil (bytes_of (structure_of p))));
  each = (
    record {
      format = is ∙ ap (λ o. Some (unwrap_or o [])) (sym is);
      texts = texts;
      low = low;
      reads = reads;
    },
    tt,
  );
}

pub ruleset one_steps = (formless, metadata_refused, refuses_more, wire_refused, grown_one)
