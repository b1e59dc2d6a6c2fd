use Rattle.std.proofs.Common.{◌≡◌, ◌≢◌, ◌++◌, ◌∙◌, Option, codes, refl, sym, ap, subst, append-nil}
use Rattle.std.specs.Io.KnownBytes.{Appends, IsAtEnd}
use Rattle.geoarrow_fields.proofs.Terms.{Command, RunEnd, Done, InputFault, Memory, OutputFault, Bytes, Means, ReadsAndWrites, RunsTo, AppendsSome, FrontOf, IsMeant}
use Rattle.geoarrow_fields.proofs.Ways.{writes, writes_front}
use Rattle.geoarrow_fields.proofs.reading.run.Goals as goal

-- an end is the one that was meant, or a fault of the writer
module _ (command : Command) {i j o p q : Option Bytes} (meant : RunEnd) (text put : Bytes) (same : text ≡ put) (ran : IsMeant command meant text i j o p) (whole : meant ≡ Done → IsAtEnd j)
    (so : ReadsAndWrites (Means command meant) i j o q → RunsTo command meant i j o q) where
  join : (input output more : Bytes) → Means command meant input (output ++ text) → put ≡ more → Means command meant input (output ++ more)
  join input output more before is = rw (← is, ← same) before

  ends_so : (end : RunEnd) → (end ≢ OutputFault → end ≡ meant) → (end ≢ OutputFault → Appends p q put) → AppendsSome (FrontOf (λ whole. put ≡ whole)) p q
      → RunsTo command end i j o q
  ends_so OutputFault is grown part = (meant, (whole, writes_front _ (Means command meant) _ join ran part))
  ends_so end is grown part =
      let other : end ≢ OutputFault = λ fault. cc in
      subst (λ e. RunsTo command e i j o q) (sym (is other)) (so (writes _ (Means command meant) _ join ran (put, refl, grown other)))

pub returns-in-Ok : goal.returns-in-Ok
returns-in-Ok g c =
    ends_so _ Done _ _ (sym (append-nil _ ∙ c.as_bytes.ensures.value)) c.in-Ok.ensures.done (λ _. c.in-Ok.ensures.end) (λ ran. (ran, c.in-Ok.ensures.end))
    c.finish.result c.finish.ensures.end c.finish.ensures.written c.finish.ensures.part

pub returns-in-Err-Input : goal.returns-in-Err-Input
returns-in-Err-Input g c =
    let finish = c.finish-in-Err-Input in
    ends_so _ InputFault _ _ (ap (λ l. l ++ codes "error input\n") (sym c.as_bytes-in-Err-Input.ensures.value)) (rw c.in-Err-Input.field-0-is at c.in-Err-Input.ensures.err)
    (λ is. let no : ⊥ = cc in absurd no) (λ ran. ran) finish.result finish.ensures.end finish.ensures.written finish.ensures.part

pub returns-in-Err-Memory : goal.returns-in-Err-Memory
returns-in-Err-Memory g c =
    let finish = c.finish-in-Err-Memory in
    ends_so _ Memory _ _ (ap (λ l. l ++ codes "error memory\n") (sym c.as_bytes-in-Err-Memory.ensures.value)) (rw c.in-Err-Memory.field-0-is at c.in-Err-Memory.ensures.err)
    (λ is. let no : ⊥ = cc in absurd no) (λ ran. ran) finish.result finish.ensures.end finish.ensures.written finish.ensures.part
