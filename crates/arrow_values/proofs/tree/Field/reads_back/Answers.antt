use Rattle.std.proofs.Common.{sym, subst, ap, Option}
use Rattle.arrow_values.specs.Tree.{Text, FieldTree}
use Rattle.arrow_values.specs.Texts.{name_key, metadata_key}
use Rattle.arrow_values.proofs.TextLaws.{sets_extension}
use Rattle.arrow_values.proofs.tree.Field.reads_back.Goals as goal

pub returns : goal.returns
returns g c = λ accepted stands written.
    let e = g.E.ExtensionType in
    let x = c.args.extension_type.now in
    let f = c.args.self.now in
    let text : Option Text = e.printed (e.metadata_of x) in
    let P : Option Text → Type 0 = λ t. e.Denotes t (e.value_of (e.metadata_of x)) in
    let set = sets_extension e.name_text text f.metadata _ (ap (λ t. t.metadata) written) in (
      set name_key,
      subst P (sym (set metadata_key)) stands,
      subst (λ (t : FieldTree). e.Accepts t.tree x) (sym written) accepted,
    )
