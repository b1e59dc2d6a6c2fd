use Rattle.std.proofs.Common.{◌≡◌, ◌-◌, ◌<◌, length, ap, ◌∙◌, arith}
use Rattle.column_files.specs.ForeignFound.{looked_at}
use Rattle.column_files.specs.Endings.{message_end}
use Rattle.column_files.proofs.FirstMessage.{Given, enough, by_size, by_first, by_rest}
use Rattle.column_files.proofs.schema_bytes.read_schema_bytes.Goals.{in-ArrowStream, in-Foreign, in-ArrowFile}
use Rattle.column_files.proofs.schema_bytes.read_schema_bytes.Goals as goal

pub returns-clause-enough : goal.returns-clause-enough
returns-clause-enough g c =
    let old = g.R.Read.remaining c.args.source.now in
    let new = g.R.Read.remaining c.read_up_to.new.source in
    let form = c.args.form in
    let head = c.args.head.items in
    let bytes = c.in_ok-read_up_to.field-0 in
    let given : Given form head bytes.items old new = elim c.match-form.branch [
      | in-ArrowStream w ↦
          let size : c.match-form.rest ≡ message_end head - length head =
          w.rest-is ∙ w.left_of_message-rest.ensures ∙ ap (λ h. message_end h - length h) w.as_slice.ensures.value in
          by_size form head bytes.items old new c.match-form.rest w.in-ArrowStream.is size c.in_ok-read_up_to.ensures.ok
      | in-Foreign w ↦
          let size : c.match-form.rest ≡ looked_at w.in-Foreign.foreign - length head =
          w.rest-is ∙ w.left_of_foreign-rest.ensures ∙ ap (λ h. looked_at w.in-Foreign.foreign - length h) w.as_slice-in-Foreign.ensures.value in
          by_first form w.in-Foreign.foreign head bytes.items old new c.match-form.rest w.in-Foreign.is size c.in_ok-read_up_to.ensures.ok
      | in-ArrowFile w ↦
          let small : length bytes.items < c.match-form.rest = omega (arith, w.rest-is, bytes.ok, bytes.small) in
          by_rest form head bytes.items old new c.match-form.rest w.in-ArrowFile.is small c.in_ok-read_up_to.ensures.ok
    ] in
    enough form head bytes.items old new given
